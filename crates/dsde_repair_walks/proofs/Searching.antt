-- What a binary search finds among names in their order.
use Rattle.std.proofs.Common.{◌≡◌, ℕ, zero, suc, ◌<◌, Bool, true, false, ◌||◌, inl, inr, add-one, List, [], ◌∷◌, ◌++◌, map, length, get_or, Result, Err, refl, sym, ◌∙◌, ap, subst, arith, rules}
use Rattle.std.specs.declared.cmp.Ordering.{Ordering}
use Rattle.std.specs.declared.cmp.Ordering.TheVariants.{Less, Equal, Greater}
use Rattle.std.specs.Cmp.{IsTotalOrder}
use Rattle.std.specs.Cmp.Rules.{comparing}
use Rattle.std.specs.List.{AllByRecursion, list_any}
use Rattle.std.specs.List.Sorted.{IsBinarySearchResult, IsSortedBy, IsStrictlySortedBy}
use Rattle.std.specs.Ordering.{is_eq, is_lt, ordering_reverse}
use Rattle.std.proofs.lemmas.Bool.{cases_lt}
use Rattle.std.proofs.lemmas.Cmp.{tied_itself}
use Rattle.std.proofs.lemmas.List.Sorted.{searchable_from_sorted}
use Rattle.std.proofs.lemmas.Map.Keys.{sorted_head, sorted_tail}
use Rattle.dsde_values.specs.declared.name.Name.{Name}
use Rattle.dsde_values.specs.Path.{name_cmp}
use Rattle.dsde_routes_wiring.specs.given.structure.Gather.{is_same_name}

pub total : IsTotalOrder name_cmp
total = search (comparing, rules)

pub one-order : (name other : Name) → name ≡ other → name_cmp name other ≡ Equal
one-order name other same = subst (λ (own : Name). name_cmp name own ≡ Equal) same (tied_itself total name)

pub or-same : {X : Type 0} (xs : List X) (k : ℕ) (d e : X) → k < length xs → get_or xs k d ≡ get_or xs k e
or-same [] k d e below = absurd (omega arith)
or-same (x ∷ xs) zero d e below = refl
or-same (x ∷ xs) (suc k) d e below = or-same xs k d e (omega arith)

turned : (r : Ordering) → is_eq (ordering_reverse r) ≡ is_eq r
turned Less = refl
turned Equal = refl
turned Greater = refl

pub either-way : (name other : Name) → is_same_name name other ≡ is_same_name other name
either-way name other = ap is_eq (total.antisymm name other) ∙ turned (name_cmp other name)

differ : (r : Ordering) → (r ≡ Equal → ⊥) → is_eq r ≡ false
differ Less never = refl
differ Equal never = absurd (never refl)
differ Greater never = refl

less-differs : (r : Ordering) → r ≡ Less → r ≡ Equal → ⊥
less-differs r less equal = let e : Less ≡ Equal = sym less ∙ equal in cc

greater-differs : (r : Ordering) → r ≡ Greater → r ≡ Equal → ⊥
greater-differs r greater equal = let e : Greater ≡ Equal = sym greater ∙ equal in cc

module _ {X : Type 0} (key : X → Name) where
  at-index : (P : Name → Type 0) (xs : List X) → AllByRecursion P (map key xs) → (k : ℕ) (d : X) → k < length xs → P (key (get_or xs k d))
  at-index P [] all k d below = absurd (omega arith)
  at-index P (x ∷ xs) all zero d below = all.0
  at-index P (x ∷ xs) all (suc k) d below = at-index P xs all.1 k d (omega arith)

  back : (r : Ordering) → r ≡ Less → is_lt (ordering_reverse r) ≡ false
  back r less = rw less refl

  rises : (xs : List X) → IsStrictlySortedBy name_cmp (map key xs) → (k : ℕ) (d : X) → suc k < length xs → is_lt (name_cmp (key (get_or xs (suc k) d)) (key (get_or xs k d))) ≡ false
  rises [] sorted k d below = absurd (omega arith)
  rises (x ∷ xs) sorted zero d below =
      ap is_lt (total.antisymm (key (get_or xs 0 d)) (key x))
      ∙ back (name_cmp (key x) (key (get_or xs 0 d))) (at-index (λ y. name_cmp (key x) y ≡ Less) xs (sorted_head name_cmp (key x) (map key xs) sorted) 0 d (omega arith))
  rises (x ∷ xs) sorted (suc k) d below = rises xs (sorted_tail name_cmp (key x) (map key xs) sorted) k d (omega arith)

  in-order : (xs : List X) → IsStrictlySortedBy name_cmp (map key xs) → IsSortedBy (λ a b. is_lt (name_cmp (key a) (key b))) xs
  in-order xs sorted k d low below = rw add-one (rises xs sorted k d (omega (arith, below)))

  -- no item of the name
  none-there : (name : Name) (xs : List X) → ((k : ℕ) (d : X) → k < length xs → name_cmp (key (get_or xs k d)) name ≡ Equal → ⊥) → AllByRecursion (λ x. is_same_name (key x) name ≡ false) xs
  none-there name [] never = tt
  none-there name (x ∷ xs) never = (differ (name_cmp (key x) name) (never 0 x (omega arith)), none-there name xs (λ k d below same. never (suc k) d (omega arith) same))

  pub none-found : (name : Name) (xs : List X) → IsStrictlySortedBy name_cmp (map key xs) → (index : ℕ) → IsBinarySearchResult (λ x. name_cmp (key x) name) xs (let r : Result ℕ ℕ = Err index in r) → AllByRecursion (λ x. is_same_name (key x) name ≡ false) xs
  none-found name xs sorted index is =
      let parted = is (searchable_from_sorted total key xs name (in-order xs sorted)) in
      none-there name xs (λ k d below. elim (cases_lt k index) [
        | inl before ↦ less-differs (name_cmp (key (get_or xs k d)) name) (parted.0 k d (omega arith) before)
        | inr behind ↦ greater-differs (name_cmp (key (get_or xs k d)) name) (parted.1 k d behind below)
      ])

  pub none-any : (name : Name) (xs : List X) → AllByRecursion (λ x. is_same_name (key x) name ≡ false) xs → list_any (λ x. is_same_name name (key x)) xs ≡ false
  none-any name [] none = refl
  none-any name (x ∷ xs) none = ap (λ (b : Bool). b || list_any (λ own. is_same_name name (key own)) xs) (either-way name (key x) ∙ none.0) ∙ none-any name xs none.1

  -- an item of the name, and none before and behind it
  pub record Found (name : Name) (xs : List X) (index : ℕ) : Type 0 where
    pub before : List X
    pub item : X
    pub after : List X
    pub is : xs ≡ before ++ item ∷ after
    pub place : length before ≡ index
    pub named : is_same_name (key item) name ≡ true
    pub none_before : AllByRecursion (λ x. is_same_name (key x) name ≡ false) before
    pub none_after : AllByRecursion (λ x. is_same_name (key x) name ≡ false) after

  middle : (P : Name → Type 0) (before : List X) (x : X) (after : List X) → AllByRecursion P (map key (before ++ x ∷ after)) → P (key x)
  middle P [] x after all = all.0
  middle P (own ∷ before) x after all = middle P before x after all.1

  module _ (one : (name other : Name) → name_cmp name other ≡ Equal → name ≡ other) where
    behind : (name own : Name) → own ≡ name → (xs : List X) → AllByRecursion (λ other. name_cmp own other ≡ Less) (map key xs) → AllByRecursion (λ x. is_same_name (key x) name ≡ false) xs
    behind name own is [] all = tt
    behind name own is (x ∷ xs) all =
        (either-way (key x) name ∙ ap (λ (other : Name). is_same_name other (key x)) (sym is) ∙ ap is_eq all.0, behind name own is xs all.1)

    equal-is : (r : Ordering) → is_eq r ≡ true → r ≡ Equal
    equal-is Less is = absurd (cc)
    equal-is Equal is = refl
    equal-is Greater is = absurd (cc)

    pub one-found : (name : Name) (xs : List X) → IsStrictlySortedBy name_cmp (map key xs) → (k : ℕ) → k < length xs → ((d : X) → name_cmp (key (get_or xs k d)) name ≡ Equal) → Found name xs k
    one-found name [] sorted k below same = absurd (omega arith)
    one-found name (x ∷ xs) sorted zero below same = record {
      before = [];
      item = x;
      after = xs;
      is = refl;
      place = refl;
      named = ap is_eq (same x);
      none_before = tt;
      none_after = behind name (key x) (one (key x) name (same x)) xs (sorted_head name_cmp (key x) (map key xs) sorted);
    }
    one-found name (x ∷ xs) sorted (suc k) below same =
        let later : Found name xs k = one-found name xs (sorted_tail name_cmp (key x) (map key xs) sorted) k (omega arith) same in
        let less : name_cmp (key x) (key later.item) ≡ Less =
        middle (λ y. name_cmp (key x) y ≡ Less) later.before later.item later.after
        (subst (λ (ys : List X). AllByRecursion (λ y. name_cmp (key x) y ≡ Less) (map key ys)) later.is (sorted_head name_cmp (key x) (map key xs) sorted)) in
        record {
          before = x ∷ later.before;
          item = later.item;
          after = later.after;
          is = ap (λ (ys : List X). x ∷ ys) later.is;
          place = ap suc later.place;
          named = later.named;
          none_before = (ap is_eq (subst (λ (other : Name). name_cmp (key x) other ≡ Less) (one (key later.item) name (equal-is (name_cmp (key later.item) name) later.named)) less), later.none_before);
          none_after = later.none_after;
        }

    any-middle : (name : Name) (before : List X) (x : X) (after : List X) → is_same_name (key x) name ≡ true → list_any (λ own. is_same_name name (key own)) (before ++ x ∷ after) ≡ true
    any-middle name [] x after is = ap (λ (b : Bool). b || list_any (λ own. is_same_name name (key own)) after) (either-way name (key x) ∙ is)
    any-middle name (own ∷ before) x after is = ap (λ (b : Bool). is_same_name name (key own) || b) (any-middle name before x after is) ∙ or-true (is_same_name name (key own))
      where
        or-true : (b : Bool) → (b || true) ≡ true
        or-true true = refl
        or-true false = refl

    pub some-any : (name : Name) (xs : List X) (index : ℕ) → Found name xs index → list_any (λ own. is_same_name name (key own)) xs ≡ true
    some-any name xs index found = ap (list_any (λ own. is_same_name name (key own))) found.is ∙ any-middle name found.before found.item found.after found.named

pub names-themselves : (names : List Name) → map (λ (name : Name). name) names ≡ names
names-themselves [] = refl
names-themselves (name ∷ names) = ap (λ others. name ∷ others) (names-themselves names)
