use Rattle.std.proofs.Common.{◌≡◌, ◌≤◌, length}
use Rattle.dsde_core_flat.specs.Due.{after_time}
use Rattle.dsde_core_flat.proofs.Taking.{IsFrom}
use Rattle.dsde_core_flat.proofs.due.pass_due.Given as goal

abbrev pub invariant-loop-handle : goal.invariant-loop-handle
invariant-loop-handle l = record {
  later : after_time l.time l.queue.pairs ≡ after_time l.time l.fn.queue.pairs;
  from : IsFrom l.time l.queue.pairs;
  shorter : length l.queue.pairs ≤ length l.fn.queue.pairs;
}

abbrev pub decreases-loop-handle : goal.decreases-loop-handle
decreases-loop-handle l = length l.queue.pairs
