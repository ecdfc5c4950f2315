use Rattle.std.proofs.Common.{◌∙◌, ap, subst, length}
use Rattle.std.specs.List.Sorted.{IsPermutation}
use Rattle.dsde_queue.specs.Queue.{put, in_order}
use Rattle.dsde_queue.proofs.HeapSteps.{heap_but_last}
use Rattle.dsde_queue.proofs.QueueLemmas.{whole, in_order-added}
use Rattle.dsde_queue.proofs.Sorting.{ordered_in_order}
use Rattle.dsde_queue.proofs.queue.Queue.put_reserved.Goals as goal

pub invariant_of-self : goal.invariant_of-self
invariant_of-self c =
    let was = c.self.inside.pairs in
    let items = c.deref_mut.ensures.value ∙ c.push_reserved.ensures.items in
    let all = whole c.rise.new.pairs c.push_reserved.new.self.items c.push_reserved.new.self.len (c.rise.auto.pairs ∙ ap (λ l. length l) c.deref_mut.ensures.value) c.push_reserved.new.self.ok.0 in
    rw all (c.rise.ensures.heap (rw (c.len-at.ensures, was.ok.0) (heap_but_last was.items _ _ items c.self.invariant)))

pub returns-clause-pairs : goal.returns-clause-pairs
returns-clause-pairs c =
    let items = c.deref_mut.ensures.value ∙ c.push_reserved.ensures.items in
    ap in_order (whole c.rise.new.pairs c.push_reserved.new.self.items c.push_reserved.new.self.len (c.rise.auto.pairs ∙ ap (λ l. length l) c.deref_mut.ensures.value) c.push_reserved.new.self.ok.0)
    ∙ in_order-added c.self.inside.pairs.items c.rise.new.pairs (c.args.time, c.args.handle) (subst (λ l. IsPermutation l c.rise.new.pairs) items c.rise.ensures.permutation)
    ∙ ap (λ q. put (c.args.time, c.args.handle) q.pairs) c.self.view_is

pub returns-clause-ordered : goal.returns-clause-ordered
returns-clause-ordered c =
    rw (whole c.rise.new.pairs c.push_reserved.new.self.items c.push_reserved.new.self.len (c.rise.auto.pairs ∙ ap (λ l. length l) c.deref_mut.ensures.value) c.push_reserved.new.self.ok.0)
    (ordered_in_order c.rise.new.pairs)
