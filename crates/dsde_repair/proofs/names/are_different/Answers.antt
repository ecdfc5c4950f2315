use Rattle.std.proofs.Common.{subst}
use Rattle.std.specs.List.{IsDistinct}
use Rattle.std.proofs.lemmas.List.Sorted.{IsPermutation-sym}
use Rattle.std.proofs.lemmas.Map.Keys.{IsDistinct-IsPermutation}
use Rattle.dsde_routes_wiring.specs.given.structure.Gather.{is_same_name}
use Rattle.dsde_routes_wiring.specs.given.structure.Survival.{AreInOrder}
use Rattle.dsde_repair_walks.proofs.Counting.{ordered-distinct}
use Rattle.dsde_repair_walks.proofs.Searching.{either-way}
use Rattle.dsde_repair.proofs.Fitted.{on-true}
use Rattle.dsde_repair.proofs.names.are_different.Goals as goal

pub returns : goal.returns
returns c =
    on-true c.are_in_order.result _ _
    (λ order. subst (IsDistinct is_same_name) c.into_vec-names.ensures
    (IsDistinct-IsPermutation is_same_name either-way c.sort_by.new.self.items c.into_vec-names.result.items
    (IsPermutation-sym c.into_vec-names.result.items c.sort_by.new.self.items c.in_ok-sort_by.ensures.permutation)
    (ordered-distinct c.sort_by.new.self.items (subst AreInOrder c.as_slice.ensures.value order))))
    c.are_in_order.ensures
