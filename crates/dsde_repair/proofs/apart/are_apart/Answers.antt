use Rattle.std.proofs.Common.{subst}
use Rattle.std.specs.List.{IsDistinct}
use Rattle.std.proofs.lemmas.List.Sorted.{IsPermutation-sym}
use Rattle.std.proofs.lemmas.Map.Keys.{IsDistinct-IsPermutation}
use Rattle.dsde_routes_wiring.specs.Wired.{is_same_handle}
use Rattle.dsde_repair.specs.Rising.{AreRising}
use Rattle.dsde_repair.proofs.Fitted.{on-true}
use Rattle.dsde_repair.proofs.Loops.{handles-flip, rising-distinct}
use Rattle.dsde_repair.proofs.apart.are_apart.Goals as goal

pub returns : goal.returns
returns c =
    on-true c.are_rising.result _ _
    (λ rising. subst (IsDistinct is_same_handle) c.into_vec-handles.ensures
    (IsDistinct-IsPermutation is_same_handle handles-flip c.sort.new.self.items c.into_vec-handles.result.items
    (IsPermutation-sym c.into_vec-handles.result.items c.sort.new.self.items c.in_ok-sort.ensures.permutation)
    (rising-distinct c.sort.new.self.items (subst AreRising c.as_slice.ensures.value rising))))
    c.are_rising.ensures
