use Rattle.std.proofs.Common.{List, ap, append-nil, refl, sym, ◌++◌, ◌∙◌}
use Rattle.dsde_sim_working.specs.given.system.Program.{system}
use Rattle.dsde_grove.specs.Grove.{value_of}
use Rattle.dsde_core_parcels.specs.given.core_moves.flat_Mover.{Mover}
use Rattle.dsde_core_parcels.specs.lemmas.Dues.{held-is}
use Rattle.dsde_core_parcels.specs.lemmas.CallHeld.{empty-told}
use Rattle.dsde_core_outputs.proofs.told.add_told.Goals as goal

pub returns-then-is_empty-clause-movers : goal.returns-then-is_empty-clause-movers
returns-then-is_empty-clause-movers g c =
    let a = c.args in
    sym (ap (λ (own : List Mover). a.movers.now ++ own) (empty-told (system a.program.now) a.grove.now a.time a.inbox (c.if-is_empty.ensures.0 refl)) ∙ append-nil a.movers.now)

pub ports_in-requires : goal.ports_in-requires
ports_in-requires g c =
    (c.requires.fit c.args.inbox.target c.in-Some.leaf.now (held-is (value_of c.args.grove.now c.args.inbox.target) c.in-Some.leaf.now c.in-Some.ensures.leaf)).below
