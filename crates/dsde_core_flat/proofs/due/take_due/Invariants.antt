use Rattle.std.proofs.Common.{◌≡◌, ◌+◌, ◌*◌, ◌≤◌, ◌++◌, None, length}
use Rattle.dsde_queue.specs.Queue.{handles}
use Rattle.dsde_core_flat.specs.Due.{due_after, at_time, after_time}
use Rattle.dsde_core_flat.proofs.Taking.{IsFrom}
use Rattle.dsde_core_flat.proofs.due.take_due.Given as goal

abbrev pub invariant-loop-handle : goal.invariant-loop-handle
invariant-loop-handle g l = record {
  list : l.list.items ++ due_after l.grove l.time l.last (handles (at_time l.time l.queue.pairs)) ≡ due_after l.grove l.time None (handles (at_time l.time l.fn.queue.pairs));
  later : after_time l.time l.queue.pairs ≡ after_time l.time l.fn.queue.pairs;
  from : IsFrom l.time l.queue.pairs;
  ticks : l.looks + 4 * length l.queue.pairs ≤ l.fn.looks + 4 * length l.fn.queue.pairs + 65 * length l.list.items;
}

abbrev pub decreases-loop-handle : goal.decreases-loop-handle
decreases-loop-handle g l = length l.queue.pairs
