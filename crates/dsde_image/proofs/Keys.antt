-- An object in the order of its keys that has each of some members, and as many of them, has just these.
use Rattle.std.proofs.Common.{◌≡◌, ℕ, suc, ◌<◌, ◌≤◌, ◌&&◌, Bool, true, false, List, [], ◌∷◌, length, cond, Option, Some, None, String, Global, Ordering, Less, Equal, Greater, is_eq, string_cmp, string_bytes, refl, sym, ap, subst, ◌∙◌, arith}
use Rattle.std.proofs.lemmas.Cmp.{nat_list_cmp_total}
use Rattle.std.proofs.lemmas.Map.Text.{is_eq-slice_cmp}
use Rattle.std.proofs.lemmas.Slice.Eq.{bytes_eq-Decides}
use Rattle.std.specs.Cmp.Lexicographic.{slice_cmp}
use Rattle.std.specs.List.{AllByRecursion}
use Rattle.std.specs.List.Sorted.{IsStrictlySortedBy}
use Rattle.std.specs.Map.{keys_of}
use Rattle.std.specs.Ordering.{nat_cmp, is_lt, match_ordering, ordering_reverse}
use Rattle.serde_json.specs.Data.{Data, null, boolean, number, string, array, object, Members, no_members, member}
use Rattle.serde_json.specs.Find.{as_object, get, get_member}
use Rattle.serde_json.specs.View.{members_view}
use Rattle.serde_json.specs.declared.value.Value.{Value}
use Rattle.dsde_image.specs.Form.{count, are_above, are_ordered, count_ordered, count_in}

some-is : {A : Type 0} (x y : A) → (let one : Option A = Some x in one ≡ Some y) → x ≡ y
some-is x y is = cc

both : (a b : Bool) → (a && b) ≡ true → (a ≡ true) × (b ≡ true)
both true true is = (refl, refl)
both true false is = absurd (cc is)
both false b is = absurd (cc is)

less-is : (order : Ordering) → is_lt order ≡ true → order ≡ Less
less-is Less is = refl
less-is Equal is = absurd (cc is)
less-is Greater is = absurd (cc is)

-- ---- what a map counts

above-them : (key : String Global) (entries : List (String Global × Value)) → AllByRecursion (λ own. string_cmp key own ≡ Less) (keys_of entries) → are_above (string_bytes key) (members_view entries) ≡ true
above-them key [] all = refl
above-them key (entry ∷ entries) all = rw (all.0) (above-them key entries all.1)

ordered-them : (entries : List (String Global × Value)) → IsStrictlySortedBy string_cmp (keys_of entries) → are_ordered (members_view entries) ≡ true
unfolding IsStrictlySortedBy
ordered-them [] sorted = refl
ordered-them (entry ∷ entries) sorted = rw (above-them entry.0 entries sorted.0) (ordered-them entries sorted.1)

count-them : (entries : List (String Global × Value)) → count (members_view entries) ≡ length entries
count-them [] = refl
count-them (entry ∷ entries) = ap suc (count-them entries)

pub counted : (seen : Data) (entries : List (String Global × Value)) → (let found : Option Members = Some (members_view entries) in found ≡ as_object seen) → IsStrictlySortedBy string_cmp (keys_of entries) → length entries ≡ count_in seen
unfolding count_in
counted seen entries is sorted =
    sym (count-them entries) ∙ ap (λ (ordered : Bool). cond ordered (count (members_view entries)) 0) (sym (ordered-them entries sorted)) ∙ ap count_ordered is

pub counted-none : (seen : Data) → (let none : Option Members = None in none ≡ as_object seen) → 0 ≡ count_in seen
unfolding count_in
counted-none seen is = ap count_ordered is

-- ---- members that are listed

abbrev pub listed : List (List ℕ × Data) → Members
listed [] = no_members
listed (entry ∷ entries) = member entry.0 entry.1 (listed entries)

abbrev Has : Members → List (List ℕ × Data) → Type 0
Has members = AllByRecursion (λ entry. get_member entry.0 members ≡ Some entry.1)

count-listed : (entries : List (List ℕ × Data)) → count (listed entries) ≡ length entries
count-listed [] = refl
count-listed (entry ∷ entries) = ap suc (count-listed entries)

-- a key is none of those above it
none-above : (key own : List ℕ) (members : Members) → slice_cmp nat_cmp key own ≡ Less → are_above own members ≡ true → get_member key members ≡ None
none-above key own no_members less above = refl
none-above key own (member next seen members) less above =
    let split = both (is_lt (slice_cmp nat_cmp own next)) (are_above own members) above in
    ap (λ order. match_ordering order (get_member key members) (Some seen) (get_member key members)) (nat_list_cmp_total.trans key own next less (less-is _ split.0))
    ∙ none-above key own members less split.1

still-above : (key own : List ℕ) (members : Members) → slice_cmp nat_cmp key own ≡ Less → are_above own members ≡ true → are_above key members ≡ true
still-above key own no_members less above = refl
still-above key own (member next seen members) less above =
    let split = both (is_lt (slice_cmp nat_cmp own next)) (are_above own members) above in
    rw (nat_list_cmp_total.trans key own next less (less-is _ split.0)) (still-above key own members less split.1)

-- those above the first key are behind it
behind-it : (key : List ℕ) (seen : Data) (members : Members) (entries : List (List ℕ × Data)) → are_above key (listed entries) ≡ true → Has (member key seen members) entries → Has members entries
behind-it key seen inner [] above has = tt
behind-it key seen inner (entry ∷ entries) above has =
    let split = both (is_lt (slice_cmp nat_cmp key entry.0)) (are_above key (listed entries)) above in
    let later : slice_cmp nat_cmp entry.0 key ≡ Greater = nat_list_cmp_total.antisymm entry.0 key ∙ ap ordering_reverse (less-is _ split.0) in
    (sym (ap (λ order. match_ordering order (get_member entry.0 inner) (Some seen) (get_member entry.0 inner)) later) ∙ has.0, behind-it key seen inner entries split.1 has.1)

abbrev Exact : Members → Type 0
Exact members = (entries : List (List ℕ × Data)) → are_ordered members ≡ true → are_ordered (listed entries) ≡ true → Has members entries → count members ≤ length entries → members ≡ listed entries

-- where the first of them is at, above or below the first member
module _ (key : List ℕ) (seen : Data) (members : Members) (entry : List ℕ × Data) (entries : List (List ℕ × Data)) (ordered : are_ordered (member key seen members) ≡ true) (own : are_ordered (listed (entry ∷ entries)) ≡ true)
    (has : Has (member key seen members) (entry ∷ entries)) (few : count (member key seen members) ≤ length (entry ∷ entries)) (later : Exact members) where
  above : are_above key members ≡ true
  above = (both (are_above key members) (are_ordered members) ordered).0

  rest : are_ordered members ≡ true
  rest = (both (are_above key members) (are_ordered members) ordered).1

  own_above : are_above entry.0 (listed entries) ≡ true
  own_above = (both (are_above entry.0 (listed entries)) (are_ordered (listed entries)) own).0

  own_rest : are_ordered (listed entries) ≡ true
  own_rest = (both (are_above entry.0 (listed entries)) (are_ordered (listed entries)) own).1

  here : (order : Ordering) → slice_cmp nat_cmp entry.0 key ≡ order → match_ordering order (get_member entry.0 members) (Some seen) (get_member entry.0 members) ≡ Some entry.1
  here order is = sym (ap (λ order. match_ordering order (get_member entry.0 members) (Some seen) (get_member entry.0 members)) is) ∙ has.0

  by-order : (order : Ordering) → slice_cmp nat_cmp entry.0 key ≡ order → member key seen members ≡ listed (entry ∷ entries)
  by-order Less is =
      let none = none-above entry.0 key members is above in
      let some = here Less is in
      absurd (cc (sym none ∙ some))
  by-order Equal is =
      let same : entry.0 ≡ key = (bytes_eq-Decides entry.0 key).0 (sym (is_eq-slice_cmp entry.0 key) ∙ ap is_eq is) in
      let is_value = some-is seen entry.1 (here Equal is) in
      let few_rest : count members ≤ length entries = omega (arith, few) in
      let behind = later entries rest own_rest (behind-it key seen members entries (subst (λ own. are_above own (listed entries) ≡ true) same own_above) has.1) few_rest in
      ap (λ own. member own seen members) (sym same) ∙ ap (λ own. member entry.0 own members) is_value ∙ ap (member entry.0 entry.1) behind
  by-order Greater is =
      let below : slice_cmp nat_cmp key entry.0 ≡ Less = nat_list_cmp_total.antisymm key entry.0 ∙ ap ordering_reverse is in
      let over : are_above key (listed (entry ∷ entries)) ≡ true = rw below (still-above key entry.0 (listed entries) below own_above) in
      let few_rest : count members ≤ length (entry ∷ entries) = omega (arith, few) in
      let all = later (entry ∷ entries) rest own (behind-it key seen members (entry ∷ entries) over has) few_rest in
      let as_many : count members ≡ length (entry ∷ entries) = ap count all ∙ count-listed (entry ∷ entries) in
      absurd (omega (arith, few, as_many))

exact : (members : Members) → Exact members
exact no_members [] ordered own has few = refl
exact no_members (entry ∷ entries) ordered own has few = absurd (cc has.0)
exact (member key seen inner) [] ordered own has few = absurd (omega (arith, few))
exact (member key seen inner) (entry ∷ entries) ordered own has few = by-order key seen inner entry entries ordered own has few (exact inner) (slice_cmp nat_cmp entry.0 key) refl

-- ---- the same of a value

abbrev pub HasAll : Data → List (List ℕ × Data) → Type 0
HasAll seen = AllByRecursion (λ entry. get entry.0 seen ≡ Some entry.1)

object-exact : (members : Members) (entries : List (List ℕ × Data)) (ordered : Bool) → are_ordered members ≡ ordered → are_ordered (listed entries) ≡ true → Has members entries → 0 < length entries →
    cond ordered (count members) 0 ≡ length entries → object members ≡ object (listed entries)
object-exact inner entries true is own has some many = ap object (exact inner entries is own has (omega (arith, many)))
object-exact inner entries false is own has some many = absurd (omega (arith, some, many))

pub just-these : (seen : Data) (entries : List (List ℕ × Data)) → are_ordered (listed entries) ≡ true → HasAll seen entries → 0 < length entries → count_in seen ≡ length entries → seen ≡ object (listed entries)
unfolding count_in
just-these (object inner) entries own has some many = object-exact inner entries (are_ordered inner) refl own has some many
just-these null entries own has some many = absurd (omega (arith, some, many))
just-these (boolean b) entries own has some many = absurd (omega (arith, some, many))
just-these (number n) entries own has some many = absurd (omega (arith, some, many))
just-these (string s) entries own has some many = absurd (omega (arith, some, many))
just-these (array ds) entries own has some many = absurd (omega (arith, some, many))
