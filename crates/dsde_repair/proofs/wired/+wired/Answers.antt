use Rattle.std.proofs.Common.{List, ◌++◌, map, ap, ◌∙◌, subst}
use Rattle.std.specs.List.{AllByRecursion}
use Rattle.dsde_values.specs.declared.name.Name.{Name}
use Rattle.dsde_routes_wiring.specs.given.structure.Survival.{AreInOrder}
use Rattle.dsde_routes_wiring.specs.Wired.{LeadsInside}
use Rattle.dsde_repair_walks.specs.Found.{name_of}
use Rattle.dsde_repair_walks.specs.Places.{IsBelowWired}
use Rattle.dsde_repair.proofs.Fitted.{if-ok, on-true, whole-wired}
use Rattle.dsde_repair.proofs.wired.+wired.Goals as goal

pub is_wired-returns : goal.is_wired-returns
is_wired-returns t c =
    if-ok c.are_wired_below.result _ _
    (λ wired. on-true wired _ _ (λ below. whole-wired c.args.net.now
    (subst AreInOrder (c.as_slice-2.ensures ∙ c.in_ok-add_names.ensures ∙ ap (λ (first : List Name). first ++ map name_of c.as_slice.result.now) c.new-names.ensures ∙ ap (map name_of) c.as_slice.ensures) c.if-not-are_in_order.ensures)
    (subst (AllByRecursion LeadsInside) c.as_slice-3.ensures c.if-not-lead_inside.ensures)
    (subst (AllByRecursion IsBelowWired) c.as_slice-4.ensures below)))
    c.are_wired_below.ensures
