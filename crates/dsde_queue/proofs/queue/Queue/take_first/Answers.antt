use Rattle.std.proofs.Common.{◌∙◌, ◌∷◌, ◌<◌, length, ap, sym, subst, arith}
use Rattle.std.specs.List.Sorted.{IsPermutation}
use Rattle.dsde_queue.specs.Queue.{in_order}
use Rattle.dsde_queue.proofs.HeapSteps.{begins_again}
use Rattle.dsde_queue.proofs.QueueLemmas.{whole, in_order-taken}
use Rattle.dsde_queue.proofs.Sorting.{ordered_in_order}
use Rattle.dsde_queue.proofs.queue.Queue.take_first.Goals as goal

pub invariant_of-self : goal.invariant_of-self
invariant_of-self c =
    let was = c.self.inside.pairs in
    let out = c.swap_remove-first in
    let some : 0 < length was.items = omega (arith, was.ok.0, out.ensures.len) in
    let items = c.deref_mut.ensures.value ∙ out.ensures.items in
    let all = whole c.sink.new.pairs out.new.self.items out.new.self.len (c.sink.auto.pairs ∙ ap (λ l. length l) c.deref_mut.ensures.value) out.new.self.ok.0 in
    rw all (c.sink.ensures.heap (begins_again was.items out.result _ some items c.self.invariant))

pub returns-clause-taken : goal.returns-clause-taken
returns-clause-taken c =
    let was = c.self.inside.pairs in
    let out = c.swap_remove-first in
    let some : 0 < length was.items = omega (arith, was.ok.0, out.ensures.len) in
    let items = c.deref_mut.ensures.value ∙ out.ensures.items in
    let all = whole c.sink.new.pairs out.new.self.items out.new.self.len (c.sink.auto.pairs ∙ ap (λ l. length l) c.deref_mut.ensures.value) out.new.self.ok.0 in
    let moved = subst (λ l. IsPermutation l c.sink.new.pairs) items c.sink.ensures.permutation in
    record {
      pairs = sym (ap (λ q. q.pairs) c.self.view_is) ∙ in_order-taken was.items c.sink.new.pairs out.result some out.ensures.value moved c.self.invariant ∙ ap (λ l. out.result ∷ in_order l) (sym all);
      spare = omega (arith, ap (λ q. q.spare) c.self.view_is, out.ensures.len, out.ensures.capacity, was.ok);
    }

pub returns-then-is_empty-clause-ordered : goal.returns-then-is_empty-clause-ordered
returns-then-is_empty-clause-ordered c = rw (← c.self.view_is) (ordered_in_order c.self.inside.pairs.items)

pub returns-then-is_empty-clause-left : goal.returns-then-is_empty-clause-left
returns-then-is_empty-clause-left c = rw (← c.self.view_is) (ordered_in_order c.self.inside.pairs.items)

pub returns-clause-ordered : goal.returns-clause-ordered
returns-clause-ordered c = rw (← c.self.view_is) (ordered_in_order c.self.inside.pairs.items)

pub returns-clause-left : goal.returns-clause-left
returns-clause-left c =
    let out = c.swap_remove-first in
    rw (whole c.sink.new.pairs out.new.self.items out.new.self.len (c.sink.auto.pairs ∙ ap (λ l. length l) c.deref_mut.ensures.value) out.new.self.ok.0)
    (ordered_in_order c.sink.new.pairs)
