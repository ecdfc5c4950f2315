use Rattle.std.proofs.Common.{List, map, rules, is_lt, subst, sym, ◌∙◌}
use Rattle.std.proofs.lemmas.List.Sorted.{ranks_by}
use Rattle.std.proofs.lemmas.Fn.{always_returns_same}
use Rattle.dsde_values.specs.Path.{name_cmp}
use Rattle.dsde_routes_wiring.specs.declared.wiring.WiredKid.{WiredKid}
use Rattle.dsde_repair_walks.specs.Found.{InOrder, name_of}
use Rattle.dsde_repair.proofs.Ordered.{strictly}
use Rattle.std.specs.List.{IsDistinct}
use Rattle.dsde_routes_wiring.specs.given.structure.Gather.{is_same_name}
use Rattle.dsde_repair.proofs.order.in_order.Goals as goal

pub returns-clause-order : goal.returns-clause-order
returns-clause-order c =
    let o = ranks_by c.orders_are_total.ensures.names (λ (kid : WiredKid). name_of kid) in
    let up = c.in_ok-sort_by.ensures.sorted (λ kid other. is_lt (name_cmp (name_of kid) (name_of other))) o (always_returns_same _ _ _ (λ a r f k. search rules)) in
    subst InOrder (sym c.from_vec.ensures)
    (strictly o c.into_vec-all.result.items c.sort_by.new.self.items
    (subst (λ (kids : List WiredKid). IsDistinct is_same_name (map name_of kids)) (sym (c.into_vec-all.ensures ∙ c.in_ok-all.ensures)) c.requires)
    c.in_ok-sort_by.ensures.permutation up)
