-- The law of pushing.
use Rattle.std.proofs.Common.{Less, ◌≡◌, ℕ, true, List, [], ◌∷◌, map, sym, ap, ◌∙◌, subst}
use Rattle.std.specs.FinSet as set
use Rattle.std.specs.List.{AllByRecursion, filter, flat_map}
use Rattle.std.specs.Cmp.Lexicographic.{nat_list_cmp_total}
use Rattle.dsde_bank.specs.declared.handle.Handle.{Handle}
use Rattle.dsde_routes_wiring.specs.declared.row.Row.{Row}
use Rattle.dsde_routes_wiring.specs.declared.wiring.Wiring.{Wiring}
use Rattle.dsde_routes_wiring.specs.Sets.{row_cmp, row_cmp-total, row_cmp-same}
use Rattle.dsde_routes_wiring.specs.declared.row.Way.{Way}
use Rattle.dsde_routes_wiring.specs.Wired.{HasOwnHandles}
use Rattle.dsde_routes_wiring.specs.Flatten.{rows, flatten, is_to, row_of, sites}
use Rattle.dsde_routes_pushing.specs.Carried.{Traffic, received, pushed}
use Rattle.dsde_routes_pushing.specs.Fitting.{HavePorts}
use Rattle.dsde_routes_pushing.specs.Pushed.{AreRowsTo, rank_cmp}
use Rattle.dsde_routes_pushing.specs.lemmas.Lists.{Among, among-from, contains-from, among-filter, filter-among, any-among, among-any, Ascend, ascend-from, sorted-from, one-list}
use Rattle.dsde_routes_pushing.proofs.Rising.{Rise, IsBelow}
use Rattle.dsde_routes_pushing.proofs.Picking.{picked, rows-picked, received-pushed}
use Rattle.dsde_routes_pushing.proofs.Apart.{ways-rise}

abbrev pub rank_of : Row → List ℕ
rank_of row = row.rank

below-rows : (target : Handle) (port : ℕ) (way : Way) (list : List Way) → AllByRecursion (IsBelow way) list → AllByRecursion (λ (row : Row). rank_cmp way.rank row.rank ≡ Less) (map (row_of target port) list)
below-rows target port way [] all = tt
below-rows target port way (other ∷ list) all = (all.0, below-rows target port way list all.1)

rise-rows : (target : Handle) (port : ℕ) (list : List Way) → Rise list → Ascend rank_cmp nat_list_cmp_total rank_of (map (row_of target port) list)
rise-rows target port [] rise = tt
rise-rows target port (way ∷ list) rise = (below-rows target port way list rise.0, rise-rows target port list rise.1)

module _ (net : Wiring) (own : HasOwnHandles net) (target : Handle) (port : ℕ) where
  -- the rows to the port, in order
  abbrev all_to : List Row
  all_to = filter (is_to target port) (rows net)

  pub ascend : Ascend rank_cmp nat_list_cmp_total rank_of all_to
  ascend = subst (λ (list : List Row). Ascend rank_cmp nat_list_cmp_total rank_of list) (sym (rows-picked target port net)) (rise-rows target port (flat_map (picked target port) (sites net)) (ways-rise target port net own))

  abbrev IsTo : Row → Type 0
  IsTo row = (set.contains (flatten net) row ≡ true) × (is_to target port row ≡ true)

  in_list : (row : Row) → IsTo row → Among row all_to
  in_list row is = among-filter (is_to target port) row (rows net) (any-among row_cmp row_cmp-total row_cmp-same row (rows net) (sym (set.contains-from_list row_cmp-total (rows net) row) ∙ is.0)) is.1

  in_set : (row : Row) → Among row all_to → IsTo row
  in_set row there =
      let found = filter-among (is_to target port) row (rows net) there in
      (set.contains-from_list row_cmp-total (rows net) row ∙ among-any row_cmp row_cmp-total row_cmp-same row (rows net) found.0, found.1)

  pub are_rows : AreRowsTo (flatten net) target port all_to
  are_rows = record {
    order = sorted-from rank_cmp nat_list_cmp_total rank_of all_to ascend;
    each = λ row. (λ there. in_set row (among-from all_to row there), λ is. contains-from all_to row (in_list row is));
  }

  one_list : (list : List Row) → AreRowsTo (flatten net) target port list → list ≡ all_to
  one_list list are =
      one-list rank_cmp nat_list_cmp_total rank_of list all_to (ascend-from rank_cmp nat_list_cmp_total rank_of list are.order) ascend
      (λ row there. in_list row ((are.each row).0 (contains-from list row there)))
      (λ row there. among-from list row ((are.each row).1 (in_set row there)))

  pub pushed_is_received : (traffic : Traffic) → HavePorts traffic net → (list : List Row) → AreRowsTo (flatten net) target port list → received traffic net target port ≡ flat_map (pushed traffic) list
  pushed_is_received traffic have list are = received-pushed target port traffic net have ∙ ap (flat_map (pushed traffic)) (sym (one_list list are))
