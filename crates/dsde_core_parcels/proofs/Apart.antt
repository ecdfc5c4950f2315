-- No two parcels have one place in their order.
use Rattle.std.proofs.Common.{◌≡◌, Bool, true, false, List, [], ◌∷◌, refl, sym, ap, ◌∙◌, subst, inl, inr, Less, Equal, Greater, Ordering, is_eq}
use Rattle.std.specs.FinSet as set
use Rattle.std.specs.FinSet.{nat_cmp-IsAntisymmetric, slice_cmp-IsAntisymmetric}
use Rattle.std.specs.Cmp.Lexicographic.{slice_cmp}
use Rattle.std.specs.List.{AllByRecursion, IsDistinct}
use Rattle.std.specs.Ordering.{eq_by_cmp, nat_cmp, ordering_then}
use Rattle.std.proofs.lemmas.Map.Keys.{IsDistinct-head, IsDistinct-tail, IsDistinct-cons}
use Rattle.dsde_bank.specs.declared.handle.Handle.{Handle}
use Rattle.dsde_values.specs.declared.value.Value.{Value}
use Rattle.dsde_routes_wiring.specs.given.structure.Gather.{Translation}
use Rattle.dsde_routes_wiring.specs.declared.row.Row.{Row}
use Rattle.dsde_routes_wiring.specs.Sets.{Rows, row_cmp, row_cmp-total, row_cmp-same}
use Rattle.dsde_routes_wiring.specs.Flatten.{is_from}
use Rattle.dsde_routes_pushing.specs.lemmas.Lists.{Among, all-from, among-any, among-flat, contains-from, distinct-append, distinct-nil, each-among, wrong}
use Rattle.dsde_core_moves.specs.given.routes_table.Order.{AreOnce}
use Rattle.dsde_core_parcels.specs.declared.parcel.Outlet.{Outlet}
use Rattle.dsde_core_parcels.specs.declared.parcel.Parcel.{Parcel}
use Rattle.dsde_core_parcels.specs.Parcels.{ArePushed, made_along, parcel_cmp, parcel_with, parcels_of}
use Rattle.dsde_core_parcels.specs.Sent.{is_at, is_same_port}
use Rattle.dsde_core_parcels.specs.lemmas.Sending.{at-port, at-source}
use Rattle.dsde_core_parcels.proofs.Members.{from-pushed}

-- what one parcel at most has
then-equal : (one other : Ordering) → ordering_then one other ≡ Equal → (one ≡ Equal) × (other ≡ Equal)
then-equal Less other is = absurd (cc)
then-equal Equal other is = (refl, is)
then-equal Greater other is = absurd (cc)

is-equal : (o : Ordering) → is_eq o ≡ true → o ≡ Equal
is-equal Less is = wrong is
is-equal Equal is = refl
is-equal Greater is = wrong is

abbrev pub is_tied : Parcel → Parcel → Bool
is_tied = eq_by_cmp parcel_cmp

pub record HaveOneKey (one other : Parcel) : Type 0 where
  pub birth : one.target.birth ≡ other.target.birth
  pub port : one.port ≡ other.port
  pub rank : one.rank ≡ other.rank

pub one-key : (one other : Parcel) → is_tied one other ≡ true → HaveOneKey one other
one-key one other is =
    let first = then-equal (nat_cmp one.target.birth other.target.birth) (ordering_then (nat_cmp one.port other.port) (slice_cmp nat_cmp one.rank other.rank)) (is-equal (parcel_cmp one other) is) in
    let second = then-equal (nat_cmp one.port other.port) (slice_cmp nat_cmp one.rank other.rank) first.1 in
    record { birth = nat_cmp-IsAntisymmetric _ _ first.0; port = nat_cmp-IsAntisymmetric _ _ second.0; rank = slice_cmp-IsAntisymmetric nat_cmp-IsAntisymmetric _ _ second.1 }

pub not-true : (b : Bool) → (b ≡ true → ⊥) → b ≡ false
not-true true so = absurd (so refl)
not-true false so = refl

-- the parcel of a row has its key
pub record HasKey (row : Row) (all : List Value) (parcel : Parcel) : Type 0 where
  pub target : parcel.target ≡ row.target
  pub port : parcel.port ≡ row.target_port
  pub rank : parcel.rank ≡ row.rank
  pub values : parcel.values ≡ all

pub has-key : (row : Row) (values : List Value) (parcel : Parcel) → Among parcel (parcel_with row values) → HasKey row values parcel
has-key row [] parcel among = absurd among
has-key row (value ∷ values) parcel (inl is) = record { target = ap (λ (own : Parcel). own.target) is; port = ap (λ (own : Parcel). own.port) is; rank = ap (λ (own : Parcel). own.rank) is; values = ap (λ (own : Parcel). own.values) is }
has-key row (value ∷ values) parcel (inr among) = absurd among

-- rows to one port of one rank are one
abbrev pub TellRows : Rows → Type 0
TellRows table = (row other : Row) → set.contains table row ≡ true → set.contains table other ≡ true → row.target.birth ≡ other.target.birth → row.target_port ≡ other.target_port → row.rank ≡ other.rank → row ≡ other

module _ (table : Rows) (tell : TellRows table) (gives : Translation) where
  one-row : (row other : Row) (values others : List Value) (parcel own : Parcel) → set.contains table row ≡ true → set.contains table other ≡ true → Among parcel (parcel_with row values) → Among own (parcel_with other others) →
      is_tied parcel own ≡ true → row ≡ other
  one-row row other values others parcel own there here among owned tied =
      let key = one-key parcel own tied in
      let first = has-key row values parcel among in
      let second = has-key other others own owned in
      tell row other there here
      (sym (ap (λ (handle : Handle). handle.birth) first.target) ∙ key.birth ∙ ap (λ (handle : Handle). handle.birth) second.target)
      (sym first.port ∙ key.port ∙ second.port)
      (sym first.rank ∙ key.rank ∙ second.rank)

  single : (row : Row) (values : List Value) → IsDistinct is_tied (parcel_with row values)
  single row [] = distinct-nil is_tied
  single row (value ∷ values) = IsDistinct-cons is_tied _ [] tt (distinct-nil is_tied)

  rows-apart : (values : List Value) (rows : List Row) → AllByRecursion (λ row. set.contains table row ≡ true) rows → AreOnce rows → IsDistinct is_tied (parcels_of gives values rows)
  rows-apart values [] all once = distinct-nil is_tied
  rows-apart values (row ∷ rows) all once =
      distinct-append is_tied (parcel_with row (made_along gives values row)) (parcels_of gives values rows) (single row (made_along gives values row)) (rows-apart values rows all.1 once.1)
      (λ parcel own here there.
      let found = among-flat (λ next. parcel_with next (made_along gives values next)) own rows there in
      not-true (is_tied parcel own) (λ tied.
      let same = one-row row found.0 (made_along gives values row) (made_along gives values found.0) parcel own all.0 (each-among (λ (next : Row). set.contains table next ≡ true) rows found.0 all.1 found.1) here found.2 tied in
      wrong (sym once.0 ∙ among-any row_cmp row_cmp-total row_cmp-same row rows (subst (λ (next : Row). Among next rows) (sym same) found.1))))

  pub pushed-apart : (outlets : List Outlet) (parcels : List Parcel) → IsDistinct is_same_port outlets → ArePushed table gives outlets parcels → IsDistinct is_tied parcels
  pushed-apart [] parcels apart are = subst (IsDistinct is_tied) (sym are) (distinct-nil is_tied)
  pushed-apart (first ∷ outlets) parcels apart are =
      let in-table = all-from (λ (row : Row). set.contains table row ≡ true) are.0 (λ row there. ((are.2.each row).0 (contains-from are.0 row there)).0) in
      subst (IsDistinct is_tied) (sym are.3)
      (distinct-append is_tied (parcels_of gives first.values are.0) are.1 (rows-apart first.values are.0 in-table are.2.once)
      (pushed-apart outlets are.1 (IsDistinct-tail is_same_port first outlets apart) are.4)
      (λ parcel own here there.
      let found = among-flat (λ next. parcel_with next (made_along gives first.values next)) parcel are.0 here in
      let other = from-pushed table gives outlets are.1 own are.4 there in
      let from = (are.2.each found.0).0 (contains-from are.0 found.0 found.1) in
      not-true (is_tied parcel own) (λ tied.
      let same = one-row found.0 other.1 (made_along gives first.values found.0) (made_along gives other.0.values other.1) parcel own from.0 other.3.0 found.2 other.3.2 tied in
      wrong (sym (each-among (λ next. is_same_port first next ≡ false) outlets other.0 (IsDistinct-head is_same_port first outlets apart) other.2)
      ∙ same-port first other.0 found.0 from.1 (subst (λ (row : Row). is_from other.0.source other.0.port row ≡ true) (sym same) other.3.1)))))
    where
      same-port : (one other : Outlet) (row : Row) → is_from one.source one.port row ≡ true → is_from other.source other.port row ≡ true → is_same_port one other ≡ true
      same-port one other row here there =
          (λ i. is_at (sym (at-source row.source row.source_port one here) i) (sym (at-port row.source row.source_port one here) i) other) ∙ there
