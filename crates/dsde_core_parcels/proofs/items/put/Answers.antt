use Rattle.std.proofs.Common.{[], ◌∷◌, ◌++◌, sym}
use Rattle.dsde_core_parcels.proofs.Adding.{changed-on, past-changed}
use Rattle.dsde_core_parcels.proofs.items.put.Goals as goal

pub returns-in-Some : goal.returns-in-Some
returns-in-Some c =
    changed-on c.push.result c.args.ports.now c.args.item.port (λ there. there ++ c.args.item.value ∷ []) c.in-Some.values.now c.push.new.self (sym c.in-Some.ensures.value) c.push.ensures.ok

pub returns-in-None : goal.returns-in-None
returns-in-None c = sym (past-changed c.args.ports.now c.args.item.port (λ there. there ++ c.args.item.value ∷ []) (sym c.in-None.ensures.value))
