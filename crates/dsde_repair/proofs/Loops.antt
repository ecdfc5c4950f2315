-- What holds of each item of a list, found item by item.
use Rattle.std.proofs.Common.{◌≡◌, ◌==◌, ◌&&◌, ℕ, ◌+◌, ◌-◌, ◌<◌, ◌≤◌, Bool, true, false, List, [], ◌∷◌, drop, take, get_or, length, refl, sym, ap, ◌∙◌, subst, arith, rules, Less, eqb-true, eq-eqb}
use Rattle.std.proofs.lemmas.List.{drop_more, drop_all, length-drop, take_all}
use Rattle.std.specs.Cmp.{IsTotalOrder}
use Rattle.std.specs.Cmp.Rules.{comparing}
use Rattle.std.specs.List.{AllByRecursion, IsDistinct}
use Rattle.std.specs.List.Sorted.{IsStrictlySortedBy}
use Rattle.std.proofs.lemmas.Map.Keys.{IsDistinct-cons}
use Rattle.dsde_bank.specs.declared.handle.Handle.{Handle}
use Rattle.dsde_values.specs.declared.name.Name.{Name}
use Rattle.dsde_values.specs.Path.{name_cmp}
use Rattle.dsde_routes_wiring.specs.given.structure.Survival.{AreInOrder}
use Rattle.dsde_routes_wiring.specs.Wired.{is_same_handle}
use Rattle.dsde_repair.specs.Rising.{AreRising, IsBefore, IsOlder}

pub next : {X : Type 0} (xs : List X) (i : ℕ) (x : X) → i < length xs → x ≡ get_or xs i x → drop i xs ≡ x ∷ drop (i + 1) xs
next xs i x lt is = drop_more xs i x lt ∙ ap (λ own. own ∷ drop (i + 1) xs) (sym is)

module _ {X : Type 0} (P : X → Type 0) (xs : List X) (i : ℕ) where
  pub all-next : (x : X) → i < length xs → x ≡ get_or xs i x → P x → (AllByRecursion P (drop i xs) → AllByRecursion P xs) → AllByRecursion P (drop (i + 1) xs) → AllByRecursion P xs
  all-next x lt is holds so_far rest = so_far (subst (AllByRecursion P) (sym (next xs i x lt is)) (holds, rest))

  pub all-last : length xs ≤ i → (AllByRecursion P (drop i xs) → AllByRecursion P xs) → AllByRecursion P xs
  all-last le so_far = so_far (subst (AllByRecursion P) (sym (drop_all i xs le)) tt)

-- what a slice from an index on is
pub whole-tail : {X : Type 0} (xs : List X) (n : ℕ) → take (length xs - n) (drop n xs) ≡ drop n xs
whole-tail xs n = take_all (length xs - n) (drop n xs) (subst (λ len. len ≤ length xs - n) (sym (length-drop n xs)) (omega arith))

total : IsTotalOrder name_cmp
total = search (comparing, rules)

before-all : (name next : Name) → name_cmp name next ≡ Less → (names : List Name) → AllByRecursion (λ other. name_cmp next other ≡ Less) names → AllByRecursion (λ other. name_cmp name other ≡ Less) names
before-all name next less [] each = tt
before-all name next less (other ∷ names) each = (total.trans name next other less each.0, before-all name next less names each.1)

-- a name before those that are in order
in-order-cons : (name : Name) (names : List Name) → IsBefore name names → AreInOrder names → AreInOrder (name ∷ names)
unfolding IsStrictlySortedBy
in-order-cons name [] before order = (tt, tt)
in-order-cons name (next ∷ names) before order = ((before, before-all name next before names order.0), order)

none-in-order : AreInOrder []
unfolding IsStrictlySortedBy
none-in-order = tt

module _ (names : List Name) (i : ℕ) where
  pub order-next : (name : Name) → i < length names → name ≡ get_or names i name → IsBefore name (drop (i + 1) names) → (AreInOrder (drop i names) → AreInOrder names) → AreInOrder (drop (i + 1) names) → AreInOrder names
  order-next name lt is before so_far rest = so_far (subst AreInOrder (sym (next names i name lt is)) (in-order-cons name (drop (i + 1) names) before rest))

  pub order-last : length names ≤ i → (AreInOrder (drop i names) → AreInOrder names) → AreInOrder names
  order-last le so_far = so_far (subst AreInOrder (sym (drop_all i names le)) none-in-order)

older-all : (birth next : ℕ) → birth < next → (handles : List Handle) → AllByRecursion (λ other. next < other.birth) handles → AllByRecursion (λ other. birth < other.birth) handles
older-all birth next less [] each = tt
older-all birth next less (other ∷ handles) each = (let later = each.0 in omega arith, older-all birth next less handles each.1)

rising-cons : (handle : Handle) (handles : List Handle) → IsOlder handle handles → AreRising handles → AreRising (handle ∷ handles)
rising-cons handle [] older rising = (tt, tt)
rising-cons handle (next ∷ handles) older rising = ((older, older-all handle.birth next.birth older handles rising.0), rising)

module _ (handles : List Handle) (i : ℕ) where
  pub rising-next : (none : Handle) → i < length handles → IsOlder (get_or handles i none) (drop (i + 1) handles) → (AreRising (drop i handles) → AreRising handles) → AreRising (drop (i + 1) handles) → AreRising handles
  rising-next none lt older so_far rest = so_far (subst AreRising (sym (drop_more handles i none lt)) (rising-cons (get_or handles i none) (drop (i + 1) handles) older rest))

  pub rising-last : length handles ≤ i → (AreRising (drop i handles) → AreRising handles) → AreRising handles
  rising-last le so_far = so_far (subst AreRising (sym (drop_all i handles le)) tt)

apart-births : (one other : Handle) → one.birth < other.birth → is_same_handle one other ≡ false
apart-births one other less = by (one.birth == other.birth) refl where
  by : (b : Bool) → (one.birth == other.birth) ≡ b → (b && (one.slot == other.slot)) ≡ false
  by true is = let same = eqb-true one.birth other.birth is in absurd (omega arith)
  by false is = refl

apart-all : (handle : Handle) (handles : List Handle) → AllByRecursion (λ other. handle.birth < other.birth) handles → AllByRecursion (λ other. is_same_handle handle other ≡ false) handles
apart-all handle [] each = tt
apart-all handle (other ∷ handles) each = (apart-births handle other each.0, apart-all handle handles each.1)

none-distinct : IsDistinct is_same_handle []
unfolding IsDistinct
none-distinct = tt

-- handles that rise differ
pub rising-distinct : (handles : List Handle) → AreRising handles → IsDistinct is_same_handle handles
rising-distinct [] rising = none-distinct
rising-distinct (handle ∷ handles) rising = IsDistinct-cons is_same_handle handle handles (apart-all handle handles rising.0) (rising-distinct handles rising.1)

equal-flip : (a b : ℕ) → (a == b) ≡ (b == a)
equal-flip a b = by (a == b) (b == a) refl refl where
  by : (x y : Bool) → (a == b) ≡ x → (b == a) ≡ y → x ≡ y
  by true true p q = refl
  by false false p q = refl
  by true false p q = absurd (let wrong : false ≡ true = sym q ∙ eq-eqb b a (sym (eqb-true a b p)) in cc)
  by false true p q = absurd (let wrong : false ≡ true = sym p ∙ eq-eqb a b (sym (eqb-true b a q)) in cc)

pub handles-flip : (one other : Handle) → is_same_handle one other ≡ is_same_handle other one
handles-flip one other = λ i. equal-flip one.birth other.birth i && equal-flip one.slot other.slot i
