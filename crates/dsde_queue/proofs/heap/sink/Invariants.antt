use Rattle.std.proofs.Common.{◌-◌, length}
use Rattle.std.specs.List.Sorted.{IsPermutation}
use Rattle.dsde_queue.specs.Heap.{IsHeapFrom}
use Rattle.dsde_queue.proofs.HeapSteps.{IsHeapUnder}
use Rattle.dsde_queue.proofs.heap.sink.Given as goal

abbrev pub invariant-loop-at : goal.invariant-loop-at
invariant-loop-at l = IsPermutation l.fn.pairs l.pairs × (IsHeapFrom l.fn.pairs 1 → IsHeapUnder l.pairs l.at)

abbrev pub decreases-loop-at : goal.decreases-loop-at
decreases-loop-at l = length l.pairs - l.at
