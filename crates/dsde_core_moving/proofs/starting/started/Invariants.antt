use Rattle.dsde_sim_starting.specs.given.system.Program.{system}
use Rattle.dsde_sim_tree.specs.Start.{start}
use Rattle.dsde_sim_starting.proofs.Going.{HaveStarted}
use Rattle.dsde_core_moving.proofs.starting.started.Given as goal

abbrev pub invariant-loop-entry : goal.invariant-loop-entry
invariant-loop-entry l =
    HaveStarted l.program (start (system l.program) l.left) l.fn.entries l.path l.time l.fn.room l.fn.events l.done l.room l.events l.entry-iterator.rest.items
