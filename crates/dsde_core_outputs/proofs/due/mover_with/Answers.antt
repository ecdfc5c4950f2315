use Rattle.dsde_sim_working.specs.given.system.Program.{system}
use Rattle.dsde_grove.specs.Grove.{value_of}
use Rattle.dsde_core_parcels.specs.lemmas.Dues.{held-is}
use Rattle.dsde_core_parcels.specs.lemmas.CallHeld.{mover-is}
use Rattle.dsde_core_outputs.proofs.due.mover_with.Goals as goal

pub ports_in-requires : goal.ports_in-requires
ports_in-requires g c =
    (c.requires.fit c.args.handle c.in-Some.leaf.now (held-is (value_of c.args.grove.now c.args.handle) c.in-Some.leaf.now c.in-Some.ensures.leaf)).below

pub returns-clause-mover : goal.returns-clause-mover
returns-clause-mover g c =
    mover-is (system c.args.program.now) c.args.grove.now c.args.handle c.in-Some.leaf.now (held-is (value_of c.args.grove.now c.args.handle) c.in-Some.leaf.now c.in-Some.ensures.leaf)
    c.ports_in.result (c.ports_in.ensures c.in-Some.leaf.now.args) c.args.gets c.in_ok-got.got c.in_ok-got.ensures c.args.path
