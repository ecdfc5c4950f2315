use Rattle.std.proofs.Common.{◌-◌, ◌/◌, arith}
use Rattle.std.proofs.lemmas.List.Sorted.{IsPermutation-trans}
use Rattle.dsde_queue.specs.Heap.{IsChild}
use Rattle.dsde_queue.proofs.HeapSteps.{rises}
use Rattle.dsde_queue.proofs.heap.rise.Goals as goal

pub loop-at-preserved : goal.loop-at-preserved
loop-at-preserved c =
    let l = c.loop-at in
    let parent = (l.at - 1) / 2 in
    let child : IsChild l.pairs parent l.at = record { above = omega arith; below = omega arith; within = l.invariant.0 } in (
      omega (arith, c.swap.ensures.len),
      IsPermutation-trans _ _ _ l.invariant.1 c.swap.ensures.permutation,
      λ start. rises l.pairs c.swap.new.self parent l.at (omega arith) l.invariant.0 c.swap.ensures.after child c.if-not-comes_before_at.ensures (l.invariant.2 start),
    )
