use Rattle.std.proofs.Common.{◌≡◌, ◌+◌, ◌*◌, ◌≤◌, length}
use Rattle.dsde_core_flat.specs.Scheduled.{IsScheduled}
use Rattle.dsde_core_flat.proofs.front.due_time.Given as goal

abbrev pub invariant-loop-time : goal.invariant-loop-time
invariant-loop-time g l = record {
  scheduled : IsScheduled l.grove l.queue.pairs;
  shorter : length l.queue.pairs ≤ length l.fn.queue.pairs;
  ticks : l.looks + 4 * length l.queue.pairs ≤ l.fn.looks + 4 * length l.fn.queue.pairs;
}

abbrev pub decreases-loop-time : goal.decreases-loop-time
decreases-loop-time g l = length l.queue.pairs
