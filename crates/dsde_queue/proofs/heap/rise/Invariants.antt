use Rattle.std.proofs.Common.{◌<◌, length}
use Rattle.std.specs.List.Sorted.{IsPermutation}
use Rattle.dsde_queue.specs.Heap.{IsHeapBut}
use Rattle.dsde_queue.proofs.heap.rise.Given as goal

abbrev pub invariant-loop-at : goal.invariant-loop-at
invariant-loop-at l = (l.at < length l.pairs) × IsPermutation l.fn.pairs l.pairs × (IsHeapBut l.fn.pairs l.fn.at → IsHeapBut l.pairs l.at)

abbrev pub decreases-loop-at : goal.decreases-loop-at
decreases-loop-at l = l.at
