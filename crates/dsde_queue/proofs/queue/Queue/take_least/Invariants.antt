use Rattle.std.proofs.Common.{length}
use Rattle.dsde_queue.proofs.Due.{IsTaking}
use Rattle.dsde_queue.proofs.queue.Queue.take_least.Given as goal

abbrev pub invariant-loop-handle : goal.invariant-loop-handle
invariant-loop-handle l = IsTaking l.time l.initial.self l.self l.initial.due l.due

abbrev pub decreases-loop-handle : goal.decreases-loop-handle
decreases-loop-handle l = length l.self.pairs
