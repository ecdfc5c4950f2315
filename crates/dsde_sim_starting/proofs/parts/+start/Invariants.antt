use Rattle.std.proofs.Common.{◌*◌, ◌+◌}
use Rattle.dsde_executive.specs.given.system.Program.{system}
use Rattle.dsde_sim_tree.specs.Start.{start}
use Rattle.dsde_sim_starting.proofs.Going.{HaveStarted}
use Rattle.dsde_sim_starting.proofs.parts.+start.Given as goal

abbrev pub decreases-start : goal.decreases-start
decreases-start l = 5 * l.left

abbrev pub decreases-start_net : goal.decreases-start_net
decreases-start_net l = 5 * l.left + 4

abbrev pub decreases-with_boss : goal.decreases-with_boss
decreases-with_boss l = 5 * l.left + 3

abbrev pub decreases-starts : goal.decreases-starts
decreases-starts l = 5 * l.left + 2

abbrev pub decreases-start_kid : goal.decreases-start_kid
decreases-start_kid l = 5 * l.left + 1

abbrev pub invariant-starts-loop-entry : goal.invariant-starts-loop-entry
invariant-starts-loop-entry l =
    HaveStarted l.program (start (system l.program) l.left) l.fn.entries l.path l.time l.fn.room l.fn.events l.done l.room l.events l.entry-iterator.rest.items
