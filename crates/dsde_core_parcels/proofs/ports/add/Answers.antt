use Rattle.std.proofs.Common.{◌++◌, sym}
use Rattle.dsde_core_parcels.proofs.Adding.{changed-on, past-changed}
use Rattle.dsde_core_parcels.proofs.ports.add.Goals as goal

pub returns-in-Some : goal.returns-in-Some
returns-in-Some c =
    changed-on c.append.result c.args.ports.now c.args.get.port (λ there. there ++ c.args.get.values) c.in-Some.values.now c.append.new.values (sym c.in-Some.ensures.value) c.append.ensures

pub returns-in-None : goal.returns-in-None
returns-in-None c = sym (past-changed c.args.ports.now c.args.get.port (λ there. there ++ c.args.get.values) (sym c.in-None.ensures.value))
