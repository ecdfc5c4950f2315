-- The rows that a look-up gives.
use Rattle.std.proofs.Common.{◌≡◌, ◌↔◌, ℕ, Bool, true, false, ◌||◌, ◌&&◌, List, [], ◌∷◌, refl, sym, ap, ◌∙◌, Option, Some, None, Less, Equal, Greater, Ordering, arith}
use Rattle.std.specs.Prelude.{Contains}
use Rattle.std.specs.FinSet as set
use Rattle.std.specs.FinSet.{nat_cmp-IsAntisymmetric}
use Rattle.std.specs.List.{list_all}
use Rattle.std.specs.Ordering.{ordering_then, nat_cmp, is_eq}
use Rattle.std.specs.Cmp.{eq_by_cmp_equiv}
use Rattle.std.specs.Map.{lookup}
use Rattle.std.specs.BTreeMap.{BTreeMap, get_by, is_at}
use Rattle.std.proofs.lemmas.Map.Views.{Contains-from_any, list_any-from_Contains}
use Rattle.dsde_routes_wiring.specs.given.bank.handle_Handle.{Handle}
use Rattle.dsde_routes_wiring.specs.declared.row.Row.{Row}
use Rattle.dsde_routes_wiring.specs.Sets.{row_cmp-total}
use Rattle.dsde_routes_wiring.specs.Flatten.{is_from}
use Rattle.dsde_routes_table.specs.declared.source.Source.{Source}
use Rattle.dsde_routes_table.specs.Source.{source_cmp, source_of, source_at}
use Rattle.dsde_routes_wiring.specs.Rows.{is_same_row, among}
use Rattle.dsde_routes_table.specs.Table.{rows_of, is_of, IsSound}
use Rattle.dsde_routes_table.proofs.Ordered.{same-is}
use Rattle.dsde_routes_table.proofs.Tables.{contains-has, found-has, found-come, had}

both-tied : (one other : Ordering) → ordering_then one other ≡ Equal → (one ≡ Equal) × (other ≡ Equal)
both-tied Less other is = absurd (cc)
both-tied Equal other is = (refl, is)
both-tied Greater other is = absurd (cc)

source-is : (one other : Source) → source_cmp one other ≡ Equal → one ≡ other
source-is one other tied =
    let first = both-tied (nat_cmp one.birth other.birth) (ordering_then (nat_cmp one.slot other.slot) (nat_cmp one.port other.port)) tied in
    let second = both-tied (nat_cmp one.slot other.slot) (nat_cmp one.port other.port) first.1 in
    λ i. record {
      birth = nat_cmp-IsAntisymmetric one.birth other.birth first.0 i;
      slot = nat_cmp-IsAntisymmetric one.slot other.slot second.0 i;
      port = nat_cmp-IsAntisymmetric one.port other.port second.1 i;
    }

tied-from : (o : Ordering) → is_eq o ≡ true → o ≡ Equal
tied-from Less is = absurd (cc)
tied-from Equal is = refl
tied-from Greater is = absurd (cc)

from-is : (handle : Handle) (port : ℕ) (row : Row) → is_from handle port row ≡ true → source_of row ≡ source_at handle port
from-is handle port row is =
    let birth : row.source.birth ≡ handle.birth = grind arith in
    let slot : row.source.slot ≡ handle.slot = grind arith in
    let number : row.source_port ≡ port = grind arith in
    λ i. record { birth = birth i; slot = slot i; port = number i }

is-from : (handle : Handle) (port : ℕ) (row : Row) → source_of row ≡ source_at handle port → is_from handle port row ≡ true
is-from handle port row is =
    let birth : row.source.birth ≡ handle.birth = ap (λ (s : Source). s.birth) is in
    let slot : row.source.slot ≡ handle.slot = ap (λ (s : Source). s.slot) is in
    let number : row.source_port ≡ port = ap (λ (s : Source). s.port) is in
    grind arith

all-has : (P : Row → Bool) (rows : List Row) (row : Row) → list_all P rows ≡ true → among rows row ≡ true → P row ≡ true
all-has P [] row all is = absurd (cc)
all-has P (x ∷ rows) row all is = by (is_same_row row x) refl is (P x) refl all (all-has P rows row)
  where
    by : (b : Bool) → is_same_row row x ≡ b → (b || among rows row) ≡ true → (p : Bool) → P x ≡ p → (p && list_all P rows) ≡ true → (list_all P rows ≡ true → among rows row ≡ true → P row ≡ true) → P row ≡ true
    by true same is true one all later = ap P (same-is row x same) ∙ one
    by true same is false one all later = absurd (cc)
    by false same is true one all later = later all is
    by false same is false one all later = absurd (cc)

module _ (m : BTreeMap Source (List Row)) (sound : IsSound m) (handle : Handle) (port : ℕ) where
  abbrev IsThere : Row → Type 0
  IsThere row = (set.contains (rows_of m.entries) row ≡ true) × (is_from handle port row ≡ true)

  contains-from : (found : Option (List Row)) → get_by (source_cmp (source_at handle port)) m ≡ found → (row : Row) → source_of row ≡ source_at handle port → set.contains (rows_of m.entries) row ≡ had found row
  contains-from found is row from =
      contains-has m.entries row ∙ found-has m.entries sound.0 sound.1 row
      ∙ ap (λ (key : Source). had (lookup (is_at (source_cmp key)) m.entries) row) from ∙ ap (λ (o : Option (List Row)). had o row) is

  to_there : (rows : List Row) → get_by (source_cmp (source_at handle port)) m ≡ Some rows → (row : Row) → among rows row ≡ true → IsThere row
  to_there rows found row is =
      let key = found-come (is_at (source_cmp (source_at handle port))) m.entries rows sound.1 found in
      let of : is_of key.0 row ≡ true = all-has (is_of key.0) rows row key.2 is in
      let from : source_of row ≡ source_at handle port =
      source-is (source_of row) key.0 (tied-from (source_cmp (source_of row) key.0) of)
      ∙ sym (source-is (source_at handle port) key.0 (tied-from (source_cmp (source_at handle port) key.0) key.1)) in
      (contains-from (Some rows) found row from ∙ is, is-from handle port row from)

  pub each-found : (rows : List Row) → get_by (source_cmp (source_at handle port)) m ≡ Some rows → (row : Row) → Contains rows row ↔ IsThere row
  each-found rows found row = (
    λ there. to_there rows found row (list_any-from_Contains (eq_by_cmp_equiv row_cmp-total) row rows there),
    λ is. Contains-from_any same-is row rows (sym (contains-from (Some rows) found row (from-is handle port row is.1)) ∙ is.0),
  )

  pub none-found : get_by (source_cmp (source_at handle port)) m ≡ None → (row : Row) → Contains [] row ↔ IsThere row
  none-found none row = (
    λ there. absurd (omega (arith, there.1)),
    λ is. absurd (let wrong : false ≡ true = sym (contains-from None none row (from-is handle port row is.1)) ∙ is.0 in cc),
  )
