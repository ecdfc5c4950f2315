-- Where a name stands in a list in the order of names.
use Rattle.std.proofs.Common.{◌≡◌, ℕ, zero, suc, ◌<◌, Bool, true, false, cond, inl, inr, add-one, List, [], ◌∷◌, map, length, get_or, Option, Some, None, option_map, Result, Ok, Err, slice_get, refl, sym, ◌∙◌, ap, subst, arith, rules}
use Rattle.std.specs.declared.cmp.Ordering.{Ordering}
use Rattle.std.specs.declared.cmp.Ordering.TheVariants.{Less, Equal, Greater}
use Rattle.std.specs.Cmp.{IsTotalOrder, Equal-is}
use Rattle.std.specs.Cmp.Rules.{comparing}
use Rattle.std.specs.List.{AllByRecursion}
use Rattle.std.specs.List.Sorted.{IsSearchInRange, IsBinarySearchResult, IsSortedBy, IsStrictlySortedBy}
use Rattle.std.specs.Ordering.{is_eq, is_lt, ordering_reverse}
use Rattle.std.proofs.lemmas.Bool.{cases_lt}
use Rattle.std.proofs.lemmas.List.Sorted.{searchable_from_sorted}
use Rattle.std.proofs.lemmas.Map.Keys.{sorted_head, sorted_tail}
use Rattle.dsde_values.specs.declared.name.Name.{Name}
use Rattle.dsde_values.specs.Path.{name_cmp}
use Rattle.dsde_sim_tree.specs.given.structure.Gather.{is_same_name, Ports, sent_by}
use Rattle.dsde_sim_tree.specs.given.structure.sources_Given.{Given}
use Rattle.dsde_sim_gathering.specs.Boxes.{changed_at, place_of}

total : IsTotalOrder name_cmp
total = search (comparing, rules)

turned : (r : Ordering) → is_eq (ordering_reverse r) ≡ is_eq r
turned Less = refl
turned Equal = refl
turned Greater = refl

either-way : (name other : Name) → is_same_name name other ≡ is_same_name other name
either-way name other = ap is_eq (total.antisymm name other) ∙ turned (name_cmp other name)

-- what an order answers, as a test of being the same
differ : (r : Ordering) → (r ≡ Equal → ⊥) → is_eq r ≡ false
differ Less never = refl
differ Equal never = absurd (never refl)
differ Greater never = refl

less-differs : (r : Ordering) → r ≡ Less → r ≡ Equal → ⊥
less-differs r less equal = let e : Less ≡ Equal = sym less ∙ equal in cc

greater-differs : (r : Ordering) → r ≡ Greater → r ≡ Equal → ⊥
greater-differs r greater equal = let e : Greater ≡ Equal = sym greater ∙ equal in cc

below-step : (b : Bool) (rest : Option ℕ) (index many : ℕ) → cond b (Some 0) (option_map suc rest) ≡ Some index → ((at : ℕ) → rest ≡ Some at → at < many) → index < suc many
below-step true rest index many is below =
    let same : 0 ≡ index = (let e : (let r : Option ℕ = Some 0 in r) ≡ Some index = is in cc) in
    omega (arith, same)
below-step false (Some at) index many is below =
    let same : suc at ≡ index = (let e : (let r : Option ℕ = Some (suc at) in r) ≡ Some index = is in cc) in
    omega (arith, same, below at refl)
below-step false None index many is below = absurd (let e : (let r : Option ℕ = None in r) ≡ Some index = is in cc)

module _ {X : Type 0} (key : X → Name) where
  at-index : (P : Name → Type 0) (xs : List X) → AllByRecursion P (map key xs) → (k : ℕ) (d : X) → k < length xs → P (key (get_or xs k d))
  at-index P [] all k d below = absurd (omega arith)
  at-index P (x ∷ xs) all zero d below = all.0
  at-index P (x ∷ xs) all (suc k) d below = at-index P xs all.1 k d (omega arith)

  back : (r : Ordering) → r ≡ Less → is_lt (ordering_reverse r) ≡ false
  back r less = rw less refl

  rises : (xs : List X) → IsStrictlySortedBy name_cmp (map key xs) → (k : ℕ) (d : X) → suc k < length xs → is_lt (name_cmp (key (get_or xs (suc k) d)) (key (get_or xs k d))) ≡ false
  rises [] sorted k d below = absurd (omega arith)
  rises (x ∷ xs) sorted zero d below =
      ap is_lt (total.antisymm (key (get_or xs 0 d)) (key x))
      ∙ back (name_cmp (key x) (key (get_or xs 0 d))) (at-index (λ y. name_cmp (key x) y ≡ Less) xs (sorted_head name_cmp (key x) (map key xs) sorted) 0 d (omega arith))
  rises (x ∷ xs) sorted (suc k) d below = rises xs (sorted_tail name_cmp (key x) (map key xs) sorted) k d (omega arith)

  in-order : (xs : List X) → IsStrictlySortedBy name_cmp (map key xs) → IsSortedBy (λ a b. is_lt (name_cmp (key a) (key b))) xs
  in-order xs sorted k d low below = rw add-one (rises xs sorted k d (omega (arith, below)))

  -- No item of this name.
  none-there : (name : Name) (xs : List X) → ((k : ℕ) (d : X) → k < length xs → name_cmp (key (get_or xs k d)) name ≡ Equal → ⊥) → place_of name (map key xs) ≡ None
  none-there name [] never = refl
  none-there name (x ∷ xs) never = rw (differ (name_cmp (key x) name) (never 0 x (omega arith)), none-there name xs (λ k d below same. never (suc k) d (omega arith) same)) refl

  pub place-below : (name : Name) (xs : List X) (index : ℕ) → place_of name (map key xs) ≡ Some index → index < length xs
  place-below name [] index is = absurd (let e : (let r : Option ℕ = None in r) ≡ Some index = is in cc)
  place-below name (x ∷ xs) index is = below-step (is_same_name (key x) name) (place_of name (map key xs)) index (length xs) is (λ at e. place-below name xs at e)

  module _ (one : (name other : Name) → name_cmp name other ≡ Equal → name ≡ other) where
    -- An item of this name stands at an index.
    found-there : (name : Name) (xs : List X) → IsStrictlySortedBy name_cmp (map key xs) → (k : ℕ) → k < length xs → ((d : X) → name_cmp (key (get_or xs k d)) name ≡ Equal) → place_of name (map key xs) ≡ Some k
    found-there name [] sorted k below same = absurd (omega arith)
    found-there name (x ∷ xs) sorted zero below same = rw (ap is_eq (same x)) refl
    found-there name (x ∷ xs) sorted (suc k) below same =
        let less : name_cmp (key x) (key (get_or xs k x)) ≡ Less =
        at-index (λ y. name_cmp (key x) y ≡ Less) xs (sorted_head name_cmp (key x) (map key xs) sorted) k x (omega arith) in
        let here : name_cmp (key x) name ≡ Less = subst (λ (other : Name). name_cmp (key x) other ≡ Less) (one (key (get_or xs k x)) name (same x)) less in
        rw (ap is_eq here, found-there name xs (sorted_tail name_cmp (key x) (map key xs) sorted) k (omega arith) same) refl

    -- A binary search ends at the place of the name.
    pub searched : (name : Name) (xs : List X) → IsStrictlySortedBy name_cmp (map key xs) → (r : Result ℕ ℕ) → IsSearchInRange r (length xs) → IsBinarySearchResult (λ x. name_cmp (key x) name) xs r
        → place_of name (map key xs) ≡ elim r [ Ok index ↦ Some index | Err index ↦ None ]
    searched name xs sorted (Ok index) within is = found-there name xs sorted index within is
    searched name xs sorted (Err index) within is =
        let parted = is (searchable_from_sorted total key xs name (in-order xs sorted)) in
        none-there name xs (λ k d below. elim (cases_lt k index) [
          | inl before ↦ less-differs (name_cmp (key (get_or xs k d)) name) (parted.0 k d (omega arith) before)
          | inr behind ↦ greater-differs (name_cmp (key (get_or xs k d)) name) (parted.1 k d behind below)
        ])

    none-changes : {B : Type 0} (old new : X → B) (change : B → B) (name : Name) → ((x : X) → new x ≡ cond (is_same_name name (key x)) (change (old x)) (old x)) →
        (xs : List X) → AllByRecursion (λ y. name_cmp name y ≡ Less) (map key xs) → map new xs ≡ map old xs
    none-changes old new change name steps [] before = refl
    none-changes {B = B} old new change name steps (x ∷ xs) before =
        let here : new x ≡ old x = steps x ∙ ap (λ (r : Ordering). cond (is_eq r) (change (old x)) (old x)) before.0 in
        ap (λ (y : B). y ∷ map new xs) here ∙ ap (λ (ys : List B). old x ∷ ys) (none-changes old new change name steps xs before.1)

    later-changed : {B : Type 0} (place : Option ℕ) (change : B → B) (x : B) (xs : List B) → changed_at (option_map suc place) change (x ∷ xs) ≡ x ∷ changed_at place change xs
    later-changed (Some index) change x xs = refl
    later-changed None change x xs = refl

    first-changes : {B : Type 0} (old new : X → B) (change : B → B) (name : Name) → ((x : X) → new x ≡ cond (is_same_name name (key x)) (change (old x)) (old x)) →
        (x : X) (xs : List X) (b : Bool) → is_same_name (key x) name ≡ b → AllByRecursion (λ y. name_cmp (key x) y ≡ Less) (map key xs)
        → map new xs ≡ changed_at (place_of name (map key xs)) change (map old xs)
        → map new (x ∷ xs) ≡ changed_at (place_of name (map key (x ∷ xs))) change (map old (x ∷ xs))
    first-changes {B = B} old new change name steps x xs true is before later =
        let same : key x ≡ name = one (key x) name ((Equal-is (name_cmp (key x) name)).0 is) in
        let here : new x ≡ change (old x) = steps x ∙ ap (λ (b : Bool). cond b (change (old x)) (old x)) (either-way name (key x) ∙ is) in
        let rest : map new xs ≡ map old xs = none-changes old new change name steps xs (subst (λ (n : Name). AllByRecursion (λ y. name_cmp n y ≡ Less) (map key xs)) same before) in
        ap (λ (y : B). y ∷ map new xs) here ∙ ap (λ (ys : List B). change (old x) ∷ ys) rest
        ∙ ap (λ (b : Bool). changed_at (cond b (Some 0) (option_map suc (place_of name (map key xs)))) change (map old (x ∷ xs))) (sym is)
    first-changes {B = B} old new change name steps x xs false is before later =
        let here : new x ≡ old x = steps x ∙ ap (λ (b : Bool). cond b (change (old x)) (old x)) (either-way name (key x) ∙ is) in
        ap (λ (y : B). y ∷ map new xs) here ∙ ap (λ (ys : List B). old x ∷ ys) later
        ∙ sym (later-changed (place_of name (map key xs)) change (old x) (map old xs))
        ∙ ap (λ (b : Bool). changed_at (cond b (Some 0) (option_map suc (place_of name (map key xs)))) change (map old (x ∷ xs))) (sym is)

    -- Where names are in order, only the item of a name changes.
    pub one-changes : {B : Type 0} (old new : X → B) (change : B → B) (name : Name) → ((x : X) → new x ≡ cond (is_same_name name (key x)) (change (old x)) (old x)) →
        (xs : List X) → IsStrictlySortedBy name_cmp (map key xs) → map new xs ≡ changed_at (place_of name (map key xs)) change (map old xs)
    one-changes old new change name steps [] sorted = refl
    one-changes old new change name steps (x ∷ xs) sorted =
        first-changes old new change name steps x xs (is_same_name (key x) name) refl
        (sorted_head name_cmp (key x) (map key xs) sorted) (one-changes old new change name steps xs (sorted_tail name_cmp (key x) (map key xs) sorted))

abbrev name_of : Given → Name
name_of given = given.name

step-found : (b : Bool) (rest : Option ℕ) (index : ℕ) (first : Given) (others : List Given) (given : Given) (later : Ports) →
    cond b (Some 0) (option_map suc rest) ≡ Some index → slice_get (first ∷ others) index ≡ Some given →
    ((at : ℕ) → rest ≡ Some at → slice_get others at ≡ Some given → later ≡ given.ports) →
    cond b first.ports later ≡ given.ports
step-found true rest zero first others given later is found below = let e : (let r : Option Given = Some first in r) ≡ Some given = found in ap (λ (g : Given). g.ports) (let s : first ≡ given = cc in s)
step-found true rest (suc index) first others given later is found below = absurd (let e : (let r : Option ℕ = Some 0 in r) ≡ Some (suc index) = is in let f : 0 ≡ suc index = cc in omega (arith, f))
step-found false None index first others given later is found below = absurd (let e : (let r : Option ℕ = None in r) ≡ Some index = is in cc)
step-found false (Some at) zero first others given later is found below = absurd (let e : (let r : Option ℕ = Some (suc at) in r) ≡ Some zero = is in let f : suc at ≡ zero = cc in omega (arith, f))
step-found false (Some at) (suc index) first others given later is found below =
    let same : suc at ≡ suc index = (let e : (let r : Option ℕ = Some (suc at) in r) ≡ Some (suc index) = is in cc) in
    let here : at ≡ index = omega (arith, same) in
    below at refl (subst (λ (n : ℕ). slice_get others n ≡ Some given) (sym here) found)

-- What the component of a name sends stands at the place of the name.
pub sent-there : (givens : List Given) (name : Name) (index : ℕ) (given : Given) → place_of name (map name_of givens) ≡ Some index → slice_get givens index ≡ Some given → sent_by givens name ≡ given.ports
sent-there [] name index given is found = absurd (let e : (let r : Option ℕ = None in r) ≡ Some index = is in cc)
sent-there (first ∷ others) name index given is found =
    step-found (is_same_name first.name name) (place_of name (map name_of others)) index first others given (sent_by others name) is found
    (λ at is_at found_at. sent-there others name at given is_at found_at)

step-none : (b : Bool) (rest : Option ℕ) (first later : Ports) → cond b (Some 0) (option_map suc rest) ≡ None → (rest ≡ None → later ≡ []) → cond b first later ≡ []
step-none true rest first later is below = absurd (let e : (let r : Option ℕ = Some 0 in r) ≡ None = is in cc)
step-none false (Some at) first later is below = absurd (let e : (let r : Option ℕ = Some (suc at) in r) ≡ None = is in cc)
step-none false None first later is below = below refl

pub sent-nowhere : (givens : List Given) (name : Name) → place_of name (map name_of givens) ≡ None → sent_by givens name ≡ []
sent-nowhere [] name is = refl
sent-nowhere (first ∷ others) name is = step-none (is_same_name first.name name) (place_of name (map name_of others)) first.ports (sent_by others name) is (λ e. sent-nowhere others name e)
