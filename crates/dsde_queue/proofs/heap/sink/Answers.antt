use Rattle.std.proofs.Common.{arith}
use Rattle.std.proofs.lemmas.List.Sorted.{IsPermutation-trans}
use Rattle.dsde_queue.specs.Heap.{IsChild}
use Rattle.dsde_queue.proofs.HeapSteps.{sinks, stays_above}
use Rattle.dsde_queue.proofs.heap.sink.Goals as goal

pub returns-then-not-comes_before_at-clause-heap : goal.returns-then-not-comes_before_at-clause-heap
returns-then-not-comes_before_at-clause-heap c start =
    stays_above c.loop-at.pairs c.loop-at.at _ c.first_child-child.ensures.first c.if-not-comes_before_at.ensures (c.loop-at.invariant.1 start)

pub loop-at-preserved : goal.loop-at-preserved
loop-at-preserved c =
    let l = c.loop-at in
    let bound = c.first_child-child.ensures.bound in
    let child : IsChild l.pairs l.at c.first_child-child.result = record { above = bound.0; below = bound.1; within = bound.2 } in (
      IsPermutation-trans _ _ _ l.invariant.0 c.swap.ensures.permutation,
      λ start. sinks l.pairs c.swap.new.self l.at c.first_child-child.result (omega arith) bound.2 c.swap.ensures.after child c.if-not-comes_before_at.ensures c.first_child-child.ensures.first (l.invariant.1 start),
    )
