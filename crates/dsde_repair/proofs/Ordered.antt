-- A change whose components are put in another order.
use Rattle.std.proofs.Common.{◌≡◌, ℕ, suc, ◌+◌, ◌<◌, ◌≤◌, Bool, true, false, if◌then◌else◌, List, [], ◌∷◌, ◌++◌, map, length, get_or, Less, Equal, Greater, Ordering, refl, sym, ap, ◌∙◌, subst, arith, sum_by}
use Rattle.std.specs.Prelude.{IsPermutation}
use Rattle.std.specs.List.{AllByRecursion, IsDistinct}
use Rattle.std.proofs.lemmas.List.Sums.{sum_by-cons}
use Rattle.std.specs.List.Sorted.{IsSortedBy, IsStrictlySortedBy}
use Rattle.std.specs.Ordering.{is_eq, is_lt, ordering_reverse}
use Rattle.std.specs.Cmp.{IsStrictWeakOrder}
use Rattle.std.proofs.lemmas.List.Sorted.{sum_by-IsPermutation, All-permutation, sorted_far}
use Rattle.std.proofs.lemmas.List.Elements.{All-from_recursion, recursion_from_All}
use Rattle.dsde_values.specs.declared.name.Name.{Name}
use Rattle.dsde_values.specs.Path.{name_cmp}
use Rattle.dsde_routes_wiring.specs.given.structure.Gather.{is_same_name}
use Rattle.dsde_routes_wiring.specs.declared.wiring.WiredKid.{WiredKid}
use Rattle.dsde_repair_walks.specs.Weights.{weight, weight-append}
use Rattle.dsde_repair_walks.specs.Bounds.{count}
use Rattle.dsde_repair_walks.proofs.Counting.{total, same-names, one-each}
use Rattle.dsde_repair_walks.specs.Found.{InOrder, name_of, is_named}

weight-sum : {X : Type 0} (g : X → ℕ) (xs : List X) → weight g xs ≡ sum_by g xs
weight-sum g [] = refl
weight-sum g (x ∷ xs) = ap (λ n. g x + n) (weight-sum g xs) ∙ sym (sum_by-cons g x xs)

pub weight-permutation : {X : Type 0} (g : X → ℕ) (xs ys : List X) → IsPermutation xs ys → weight g ys ≡ weight g xs
weight-permutation g xs ys same = weight-sum g ys ∙ sum_by-IsPermutation g xs ys same ∙ sym (weight-sum g xs)

flip : (a b c : ℕ) → a ≡ b + c → a ≡ c + b
flip a b c p = omega arith

-- what the laws of repair want of the components after
pub both-ordered : (stay fresh kids : List WiredKid) → IsPermutation (stay ++ fresh) kids → (h : WiredKid → ℕ) → weight h kids ≡ weight h fresh + weight h stay
both-ordered stay fresh kids same h = weight-permutation h (stay ++ fresh) kids same ∙ flip _ _ _ (weight-append h stay fresh)

pub each-ordered : (P : WiredKid → Type 0) (xs kids : List WiredKid) → IsPermutation xs kids → AllByRecursion P xs → AllByRecursion P kids
each-ordered P xs kids same each = recursion_from_All P kids (All-permutation P xs kids same (All-from_recursion P xs each))

-- no item of a key stands behind one of it, where none stands twice
module _ (o : IsStrictWeakOrder (λ (kid other : WiredKid). is_lt (name_cmp (name_of kid) (name_of other)))) where
  abbrev before : WiredKid → WiredKid → Bool
  before kid other = is_lt (name_cmp (name_of kid) (name_of other))

  -- no kid stands before an earlier one
  abbrev Rising : List WiredKid → Type 0
  Rising kids = (i j : ℕ) (d : WiredKid) → i ≤ j → j < length kids → before (get_or kids j d) (get_or kids i d) ≡ false

  abbrev Few : List WiredKid → Type 0
  Few kids = (name : Name) → weight (λ kid. if is_named name kid then 1 else 0) kids ≤ 1

  all-of : (P : WiredKid → Type 0) (kids : List WiredKid) → ((j : ℕ) (d : WiredKid) → j < length kids → P (get_or kids j d)) → AllByRecursion P kids
  all-of P [] all = tt
  all-of P (kid ∷ kids) all = (all 0 kid (omega arith), all-of P kids (λ j d lt. all (suc j) d (omega arith)))

  none-of : (name : Name) (kids : List WiredKid) → weight (λ kid. if is_named name kid then 1 else 0) kids ≡ 0 → AllByRecursion (λ kid. is_named name kid ≡ false) kids
  none-of name [] none = tt
  none-of name (kid ∷ kids) none = (by (is_named name kid) refl none, none-of name kids (rest (is_named name kid) none)) where
    by : (b : Bool) → is_named name kid ≡ b → (if b then 1 else 0) + weight (λ kid. if is_named name kid then 1 else 0) kids ≡ 0 → is_named name kid ≡ false
    by true is sum = absurd (omega arith)
    by false is sum = is

    rest : (b : Bool) → (if b then 1 else 0) + weight (λ kid. if is_named name kid then 1 else 0) kids ≡ 0 → weight (λ kid. if is_named name kid then 1 else 0) kids ≡ 0
    rest true sum = absurd (omega arith)
    rest false sum = omega arith

  turned : (r : Ordering) → is_lt r ≡ false → is_eq r ≡ false → ordering_reverse r ≡ Less
  turned Less p q = absurd (let wrong : true ≡ false = p in cc)
  turned Equal p q = absurd (let wrong : true ≡ false = q in cc)
  turned Greater p q = refl

  behind-all : (kid : WiredKid) (kids : List WiredKid) → AllByRecursion (λ other. before other kid ≡ false) kids → AllByRecursion (λ other. is_named (name_of kid) other ≡ false) kids →
      AllByRecursion (λ name. name_cmp (name_of kid) name ≡ Less) (map name_of kids)
  behind-all kid [] up apart = tt
  behind-all kid (other ∷ kids) up apart =
      (total.antisymm (name_of kid) (name_of other) ∙ turned (name_cmp (name_of other) (name_of kid)) up.0 apart.0, behind-all kid kids up.1 apart.1)

  own-name : (kid : WiredKid) → ◌≡◌ {A = ℕ} (if is_named (name_of kid) kid then 1 else 0) 1
  own-name kid = let picked : Bool → ℕ = λ b. if b then 1 else 0 in ap picked (same-names.refl (name_of kid))

  few-head : (kid : WiredKid) (kids : List WiredKid) → Few (kid ∷ kids) → weight (λ other. if is_named (name_of kid) other then 1 else 0) kids ≡ 0
  few-head kid kids few =
      let most : (if is_named (name_of kid) kid then 1 else 0) + weight (λ other. if is_named (name_of kid) other then 1 else 0) kids ≤ 1 = few (name_of kid) in
      let one = own-name kid in
      omega arith

  few-tail : (kid : WiredKid) (kids : List WiredKid) → Few (kid ∷ kids) → Few kids
  few-tail kid kids few name = let most = few name in omega arith

  rising-strictly : (kids : List WiredKid) → Rising kids → Few kids → IsStrictlySortedBy name_cmp (map name_of kids)
  unfolding IsStrictlySortedBy
  rising-strictly [] up few = tt
  rising-strictly (kid ∷ kids) up few = (
    behind-all kid kids (all-of (λ other. before other kid ≡ false) kids (λ j d lt. up 0 (suc j) d (omega arith) (omega arith))) (none-of (name_of kid) kids (few-head kid kids few)),
    rising-strictly kids (λ i j d le lt. up (suc i) (suc j) d (omega arith) (omega arith)) (few-tail kid kids few),
  )

  count-names : (name : Name) (kids : List WiredKid) → count (λ own. is_same_name own name) (map name_of kids) ≡ weight (λ kid. if is_named name kid then 1 else 0) kids
  count-names name [] = refl
  count-names name (kid ∷ kids) = ap (λ n. (if is_named name kid then 1 else 0) + n) (count-names name kids)

  -- a sorted list of the same components is in order
  pub strictly : (xs kids : List WiredKid) → IsDistinct is_same_name (map name_of xs) → IsPermutation xs kids → IsSortedBy (λ kid other. is_lt (name_cmp (name_of kid) (name_of other))) kids → InOrder kids
  strictly xs kids distinct same up =
      rising-strictly kids (λ i j d le lt. sorted_far (λ kid other. is_lt (name_cmp (name_of kid) (name_of other))) o kids up i j d le lt)
      (λ name. subst (λ n. n ≤ 1) (count-names name xs ∙ sym (weight-permutation (λ kid. if is_named name kid then 1 else 0) xs kids same)) (one-each (map name_of xs) distinct name))
