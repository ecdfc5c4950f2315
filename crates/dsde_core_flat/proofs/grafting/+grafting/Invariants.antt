use Rattle.std.proofs.Common.{◌+◌, ◌*◌, ◌≤◌, List, length}
use Rattle.dsde_sim_tree.specs.Tree.{parts, parts_of_net, parts_of_kids}
use Rattle.dsde_core_flat.proofs.Walking.{Grafts}
use Rattle.dsde_bank.specs.declared.handle.Handle.{Handle}
use Rattle.dsde_core_flat.specs.Scheduled.{IsScheduledBut}
use Rattle.dsde_core_flat.proofs.grafting.+grafting.Given as goal

abbrev pub decreases-graft : goal.decreases-graft
decreases-graft g l = 4 * parts l.sim + 2

abbrev pub decreases-graft_net : goal.decreases-graft_net
decreases-graft_net g l = 4 * parts_of_net l.net + 1

abbrev pub decreases-graft_kids : goal.decreases-graft_kids
decreases-graft_kids g l = 4 * parts_of_kids l.kids + 3

abbrev pub invariant-graft_kids-loop-kid : goal.invariant-graft_kids-loop-kid
invariant-graft_kids-loop-kid g l =
    Grafts l.fn.kids l.fn.grove l.fn.looks l.parent l.grove l.looks l.done l.kid-iterator.rest.items
    × ((waiting : List Handle) → IsScheduledBut l.fn.grove waiting l.fn.queue.pairs → IsScheduledBut l.grove waiting l.queue.pairs)
    × (length l.queue.pairs + parts_of_kids l.kid-iterator.rest.items ≤ length l.fn.queue.pairs + parts_of_kids l.fn.kids)
    × (goal.iterator-graft_kids-loop-kid g).can_next l.kid-iterator
    × (goal.iterator-graft_kids-loop-kid g).is_finite l.kid-iterator
