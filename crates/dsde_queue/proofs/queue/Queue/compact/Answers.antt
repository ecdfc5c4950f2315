use Rattle.std.proofs.Common.{◌∙◌, ◌≢◌, length, filter, sym, ap, subst, arith, rules}
use Rattle.std.specs.List.{AllPairs, dedup}
use Rattle.std.proofs.lemmas.Fn.{filter_same}
use Rattle.std.proofs.lemmas.List.Filters.{dedup_is}
use Rattle.dsde_queue.specs.Queue.{is_same, IsOrdered}
use Rattle.dsde_queue.proofs.Order.{Pair}
use Rattle.dsde_queue.proofs.Sorting.{length-in_order, in_order-ordered, ordered_in_order}
use Rattle.dsde_queue.proofs.Compact.{ordered_from_sort, IsHeap-ordered, ordered_where_true, ordered_dedup, strict_dedup, strict_once, in_order-sorted}
use Rattle.dsde_queue.proofs.queue.Queue.compact.Goals as goal

pub invariant_of-self : goal.invariant_of-self
invariant_of-self g c =
    let sorted = ordered_from_sort c.sort_unstable.new.self.items c.sort_unstable.ensures.sorted in
    let kept : IsOrdered c.retain.new.self.items = rw c.retain.ensures.filtered.4 (ordered_where_true _ _ sorted) in
    IsHeap-ordered _ (rw (dedup_is is_same c.retain.new.self.items c.dedup.new.self.items c.dedup.ensures.filtered) (ordered_dedup _ kept))

pub returns-clause-kept : goal.returns-clause-kept
returns-clause-kept g c test admits =
    let sorted = ordered_from_sort c.sort_unstable.new.self.items c.sort_unstable.ensures.sorted in
    let ordered : IsOrdered c.retain.new.self.items = rw c.retain.ensures.filtered.4 (ordered_where_true _ _ sorted) in
    let kept = filter_same _ test _ (λ x b f' k. search (rules, admits)) _ _ c.retain.ensures.filtered in
    let once = dedup_is is_same c.retain.new.self.items c.dedup.new.self.items c.dedup.ensures.filtered in
    let was = in_order-sorted c.self.inside.pairs.items c.sort_unstable.new.self.items c.sort_unstable.ensures.permutation sorted in
    in_order-ordered _ (rw once (ordered_dedup _ ordered)) ∙ once ∙ ap (dedup is_same) kept ∙ ap (λ l. dedup is_same (filter test l)) (sym was ∙ ap (λ q. q.pairs) c.self.view_is)

pub returns-clause-room : goal.returns-clause-room
returns-clause-room g c =
    omega (arith, length-in_order c.dedup.new.self.items, length-in_order c.self.inside.pairs.items, c.dedup.ensures.capacity, c.retain.ensures.capacity, c.sort_unstable.ensures.capacity, c.dedup.new.self.ok, c.self.inside.pairs.ok, ap (λ q. q.spare) c.self.view_is, ap (λ q. length q.pairs) c.self.view_is)

pub returns-clause-ordered : goal.returns-clause-ordered
returns-clause-ordered g c = ordered_in_order c.dedup.new.self.items

pub returns-clause-once : goal.returns-clause-once
returns-clause-once g c =
    let sorted = ordered_from_sort c.sort_unstable.new.self.items c.sort_unstable.ensures.sorted in
    let ordered : IsOrdered c.retain.new.self.items = rw c.retain.ensures.filtered.4 (ordered_where_true _ _ sorted) in
    let once = dedup_is is_same c.retain.new.self.items c.dedup.new.self.items c.dedup.ensures.filtered in
    let is = in_order-ordered _ (rw once (ordered_dedup _ ordered)) ∙ once in
    subst (AllPairs (λ (pair other : Pair). pair ≢ other)) (sym is) (strict_once _ (strict_dedup _ ordered))
