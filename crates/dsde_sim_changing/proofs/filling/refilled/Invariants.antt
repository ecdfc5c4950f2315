use Rattle.dsde_sim_starting.specs.given.system.Program.{system}
use Rattle.dsde_sim_starting.specs.given.system.Plans.{FitsEntry}
use Rattle.dsde_sim_starting.specs.Fitting.{FitsKid}
use Rattle.dsde_sim_tree.specs.Start.{start}
use Rattle.dsde_sim_tree.specs.Move.{left_behind}
use Rattle.dsde_sim_changing.proofs.Refilling.{Filled}
use Rattle.dsde_sim_changing.proofs.filling.refilled.Given as goal

abbrev pub invariant-loop-entry : goal.invariant-loop-entry
invariant-loop-entry l =
    Filled (FitsEntry l.program) (FitsKid l.program) (start (system l.program) (left_behind l.path)) l.fn.entries l.fn.kept l.path l.time l.fn.room l.fn.events
    l.done l.room l.events l.entry-iterator.rest.items l.survivors.items
