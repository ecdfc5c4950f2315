-- What parcels bring to a port.
use Rattle.std.proofs.Common.{◌≡◌, ℕ, true, ◌==◌, ◌&&◌, List, [], ◌∷◌, ◌++◌, refl, sym, ap, ◌∙◌, inl, Less, Equal, Greater, Ordering, is_eq, arith}
use Rattle.std.specs.Cmp.{tied_itself}
use Rattle.std.specs.Cmp.Lexicographic.{slice_cmp, nat_list_cmp_total}
use Rattle.std.specs.Ordering.{nat_cmp, ordering_then, ordering_reverse}
use Rattle.std.specs.List.{AllByRecursion, filter, flat_map, IsDistinct}
use Rattle.std.specs.List.Sorted.{IsPermutation}
use Rattle.std.proofs.lemmas.Bool.Decides.{nat_tests}
use Rattle.std.proofs.lemmas.List.Sorted.{Contains-permutation, IsPermutation-sym}
use Rattle.std.proofs.lemmas.Map.Keys.{IsDistinct-IsPermutation}
use Rattle.std.proofs.lemmas.Grind.{flat_map-append}
use Rattle.std.proofs.lemmas.List.{append-nil}
use Rattle.std.proofs.lemmas.Cmp.{nat_cmp_total}
use Rattle.dsde_bank.specs.declared.handle.Handle.{Handle}
use Rattle.dsde_values.specs.declared.value.Value.{Value}
use Rattle.dsde_routes_wiring.specs.declared.row.Row.{Row}
use Rattle.dsde_routes_wiring.specs.Sets.{Rows}
use Rattle.dsde_routes_wiring.specs.Wired.{is_same_handle}
use Rattle.dsde_routes_wiring.specs.Flatten.{is_to}
use Rattle.dsde_routes_pushing.specs.Carried.{Traffic, pushed}
use Rattle.dsde_routes_pushing.specs.Pushed.{AreRowsTo, rank_cmp}
use Rattle.dsde_routes_pushing.specs.lemmas.Lists.{Among, Ascend, all-from, among-filter, among-flat, among-from, ascend-from, contains-from, each-among, filter-among, flat-among, one-list}
use Rattle.dsde_routes_pushing.specs.lemmas.Ascending.{ascend-filter, ascends, one-of}
use Rattle.dsde_routes_pushing.specs.lemmas.Handles.{both-true, same-handle}
use Rattle.dsde_core_parcels.specs.declared.parcel.Outlet.{Outlet}
use Rattle.dsde_core_parcels.specs.declared.parcel.Parcel.{Parcel}
use Rattle.dsde_core_parcels.specs.Parcels.{AreOrdered, ArePushed, parcel_cmp, parcel_with}
use Rattle.dsde_core_parcels.specs.lemmas.Ordered.{parcel_cmp-ranks, parcel_cmp-total}
use Rattle.dsde_core_parcels.specs.Sent.{IsSentBy, TellTargets, is_for}
use Rattle.dsde_core_parcels.proofs.Members.{IsOf, of-parcels, parcels-of}
use Rattle.dsde_core_parcels.proofs.Apart.{TellRows, has-key, is_tied, pushed-apart}

abbrev pub parcel_of : Traffic → Row → List Parcel
parcel_of traffic row = parcel_with row (pushed traffic row)

is-first : (one other : Ordering) → one ≡ Equal → ordering_then one other ≡ other
is-first one other is = ap (λ (o : Ordering). ordering_then o other) is

nat-tied : (n m : ℕ) → n ≡ m → nat_cmp n m ≡ Equal
nat-tied n m is = ap (nat_cmp n) (sym is) ∙ tied_itself nat_cmp_total n

-- the values of the parcel of a row
values-with : (row : Row) (values : List Value) → flat_map (λ (parcel : Parcel). parcel.values) (parcel_with row values) ≡ values
values-with row [] = refl
values-with row (value ∷ values) = append-nil (value ∷ values)

pub values-of : (traffic : Traffic) (rows : List Row) → flat_map (λ (parcel : Parcel). parcel.values) (flat_map (parcel_of traffic) rows) ≡ flat_map (pushed traffic) rows
values-of traffic [] = refl
values-of traffic (row ∷ rows) =
    flat_map-append (λ (parcel : Parcel). parcel.values) (parcel_of traffic row) (flat_map (parcel_of traffic) rows)
    ∙ (λ i. values-with row (pushed traffic row) i ++ values-of traffic rows i)

flip-tied : (one other : Parcel) → is_tied one other ≡ is_tied other one
flip-tied one other = by (parcel_cmp one other) (parcel_cmp other one) (parcel_cmp-total.antisymm one other)
  where
    by : (o p : Ordering) → o ≡ ordering_reverse p → is_eq o ≡ is_eq p
    by o Less is = ap is_eq is
    by o Equal is = ap is_eq is
    by o Greater is = ap is_eq is

module _ (traffic : Traffic) (table : Rows) (outlets : List Outlet) (sent : IsSentBy traffic outlets) (tell : TellTargets table)
    (ordered : (target : Handle) (port : ℕ) → (list : List Row) × AreRowsTo table target port list) where
  -- rows to one port of one rank are one
  pub tells : TellRows table
  tells row other here there birth port rank =
      let target = tell row other here there birth in
      let all = ordered row.target row.target_port in
      one-of rank_cmp nat_list_cmp_total (λ (own : Row). own.rank) row other all.0 (ascend-from rank_cmp nat_list_cmp_total (λ (own : Row). own.rank) all.0 all.1.order)
      (among-from all.0 row ((all.1.each row).1 (here, to-itself row)))
      (among-from all.0 other ((all.1.each other).1 (there, (λ i. is_to (target i) (port i) other) ∙ to-itself other)))
      rank
    where
      to-itself : (row : Row) → is_to row.target row.target_port row ≡ true
      to-itself row = itself row.target row.target_port
        where
          itself : (handle : Handle) (port : ℕ) → (is_same_handle handle handle && port == port) ≡ true
          itself handle port = grind (arith, nat_tests)

  module _ (target : Handle) (port : ℕ) where
    for-target : (parcel : Parcel) → is_for target port parcel ≡ true → (parcel.target ≡ target) × (parcel.port ≡ port)
    for-target parcel is =
        let both = both-true (is_same_handle parcel.target target) (parcel.port == port) is in
        let same : parcel.port ≡ port = grind (arith, nat_tests, both) in
        (same-handle parcel.target target both.0, same)

    -- the parcels of the rows to the port ascend
    below-all : (row : Row) (rows : List Row) (parcel : Parcel) → is_to target port row ≡ true → Among parcel (parcel_of traffic row) → AllByRecursion (λ own. is_to target port own ≡ true) rows →
        AllByRecursion (λ own. rank_cmp row.rank own.rank ≡ Less) rows → AllByRecursion (λ own. parcel_cmp parcel own ≡ Less) (flat_map (parcel_of traffic) rows)
    below-all row rows parcel to among all up =
        all-from (λ own. parcel_cmp parcel own ≡ Less) (flat_map (parcel_of traffic) rows) (λ own there.
        let found = among-flat (parcel_of traffic) own rows there in
        below row found.0 parcel own to (each-among (λ next. is_to target port next ≡ true) rows found.0 all found.1) among found.2
        (each-among (λ next. rank_cmp row.rank next.rank ≡ Less) rows found.0 up found.1))
      where
        below : (row other : Row) (parcel own : Parcel) → is_to target port row ≡ true → is_to target port other ≡ true → Among parcel (parcel_of traffic row) → Among own (parcel_of traffic other) → rank_cmp row.rank other.rank ≡ Less → parcel_cmp parcel own ≡ Less
        below row other parcel own to there among owned less =
            let one = has-key row (pushed traffic row) parcel among in
            let two = has-key other (pushed traffic other) own owned in
            let first = row-to row to in
            let second = row-to other there in
            is-first (nat_cmp parcel.target.birth own.target.birth) (ordering_then (nat_cmp parcel.port own.port) (slice_cmp nat_cmp parcel.rank own.rank))
            (nat-tied parcel.target.birth own.target.birth (ap (λ (handle : Handle). handle.birth) (one.target ∙ first.0 ∙ sym second.0 ∙ sym two.target)))
            ∙ is-first (nat_cmp parcel.port own.port) (slice_cmp nat_cmp parcel.rank own.rank) (nat-tied parcel.port own.port (one.port ∙ first.1 ∙ sym second.1 ∙ sym two.port))
            ∙ (λ i. rank_cmp (one.rank i) (two.rank i)) ∙ less
          where
            row-to : (row : Row) → is_to target port row ≡ true → (row.target ≡ target) × (row.target_port ≡ port)
            row-to row is =
                let both = both-true (is_same_handle row.target target) (row.target_port == port) is in
                let same : row.target_port ≡ port = grind (arith, nat_tests, both) in
                (same-handle row.target target both.0, same)

    join : (row : Row) (values : List Value) (later : List Parcel) → ((parcel : Parcel) → Among parcel (parcel_with row values) → AllByRecursion (λ own. parcel_cmp parcel own ≡ Less) later) → Ascend parcel_cmp parcel_cmp-total (λ own. own) later →
        Ascend parcel_cmp parcel_cmp-total (λ own. own) (parcel_with row values ++ later)
    join row [] later below up = up
    join row (value ∷ values) later below up = (below _ (inl refl), up)

    rows-ascend : (rows : List Row) → Ascend rank_cmp nat_list_cmp_total (λ row. row.rank) rows → AllByRecursion (λ row. is_to target port row ≡ true) rows → Ascend parcel_cmp parcel_cmp-total (λ own. own) (flat_map (parcel_of traffic) rows)
    rows-ascend [] up all = tt
    rows-ascend (row ∷ rows) up all =
        join row (pushed traffic row) (flat_map (parcel_of traffic) rows) (λ parcel among. below-all row rows parcel all.0 among all.1 up.0) (rows-ascend rows up.1 all.1)

    module _ (first parcels : List Parcel) (are : ArePushed table traffic.translate outlets first) (same : IsPermutation first parcels) (order : AreOrdered parcels) where
      apart : IsDistinct is_tied parcels
      apart = IsDistinct-IsPermutation is_tied flip-tied first parcels same (pushed-apart table tells traffic.translate outlets first sent.apart are)

      into : (parcel : Parcel) → IsOf traffic table outlets sent parcel → Among parcel parcels
      into parcel of = among-from parcels parcel (Contains-permutation first parcels parcel same (contains-from first parcel (of-parcels traffic table outlets sent first parcel are of)))

      back : (parcel : Parcel) → Among parcel parcels → IsOf traffic table outlets sent parcel
      back parcel among = parcels-of traffic table outlets sent first parcel are (among-from first parcel (Contains-permutation parcels first parcel (IsPermutation-sym first parcels same) (contains-from parcels parcel among)))

      -- the parcels for a port are those of the rows to it
      pub for-port : (list : List Row) → AreRowsTo table target port list → filter (is_for target port) parcels ≡ flat_map (parcel_of traffic) list
      for-port list rows =
          one-list parcel_cmp parcel_cmp-total (λ own. own) (filter (is_for target port) parcels) (flat_map (parcel_of traffic) list)
          (ascend-filter parcel_cmp parcel_cmp-total parcel_cmp-ranks (is_for target port) parcels (ascends parcel_cmp parcel_cmp-total parcel_cmp-ranks parcels order apart))
          (rows-ascend list (ascend-from rank_cmp nat_list_cmp_total (λ (row : Row). row.rank) list rows.order) (all-from (λ row. is_to target port row ≡ true) list (λ row there. ((rows.each row).0 (contains-from list row there)).1)))
          (λ parcel there.
          let found = filter-among (is_for target port) parcel parcels there in
          let of = back parcel found.0 in
          let key = has-key of.0 (pushed traffic of.0) parcel of.2 in
          let to : is_to target port of.0 ≡ true = (λ i. is_same_handle (sym key.target i) target && sym key.port i == port) ∙ found.1 in
          flat-among (parcel_of traffic) parcel of.0 list (among-from list of.0 ((rows.each of.0).1 (of.1, to))) of.2)
          (λ parcel there.
          let found = among-flat (parcel_of traffic) parcel list there in
          let is = (rows.each found.0).0 (contains-from list found.0 found.1) in
          let key = has-key found.0 (pushed traffic found.0) parcel found.2 in
          among-filter (is_for target port) parcel parcels (into parcel (found.0, is.0, found.2)) ((λ i. is_same_handle (key.target i) target && key.port i == port) ∙ is.1))

      pub are-received : (list : List Row) → AreRowsTo table target port list → flat_map (pushed traffic) list ≡ flat_map (λ (parcel : Parcel). parcel.values) (filter (is_for target port) parcels)
      are-received list rows = sym (values-of traffic list) ∙ ap (flat_map (λ (parcel : Parcel). parcel.values)) (sym (for-port list rows))

-- parcels of one birth are for one target
pub one-target : (traffic : Traffic) (table : Rows) (outlets : List Outlet) → IsSentBy traffic outlets → TellTargets table → (first parcels : List Parcel) → ArePushed table traffic.translate outlets first → IsPermutation first parcels →
    (one other : Parcel) → Among one parcels → Among other parcels → one.target.birth ≡ other.target.birth → one.target ≡ other.target
one-target traffic table outlets sent tell first parcels are same one other here there birth =
    let back : (parcel : Parcel) → Among parcel parcels → IsOf traffic table outlets sent parcel
    = λ parcel among. parcels-of traffic table outlets sent first parcel are (among-from first parcel (Contains-permutation parcels first parcel (IsPermutation-sym first parcels same) (contains-from parcels parcel among))) in
    let row = back one here in
    let own = back other there in
    let key = has-key row.0 (pushed traffic row.0) one row.2 in
    let next = has-key own.0 (pushed traffic own.0) other own.2 in
    key.target
    ∙ tell row.0 own.0 row.1 own.1 (sym (ap (λ (handle : Handle). handle.birth) key.target) ∙ birth ∙ ap (λ (handle : Handle). handle.birth) next.target)
    ∙ sym next.target
