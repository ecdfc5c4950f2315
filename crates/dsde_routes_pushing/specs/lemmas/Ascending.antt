-- Lists whose items stand each before the later ones.
use Rattle.std.proofs.Common.{◌≡◌, ℕ, suc, ◌+◌, Bool, true, false, cond, List, [], ◌∷◌, refl, sym, ap, ◌∙◌, inl, inr, Less, Equal, Greater, Ordering, is_eq, is_lt, arith}
use Rattle.std.specs.Prelude.{slice_index_or}
use Rattle.std.specs.Cmp.{IsTotalOrder, IsStrictWeakOrder, tied_itself}
use Rattle.std.specs.List.{AllByRecursion, filter, IsDistinct}
use Rattle.std.specs.List.Sorted.{IsSortedBy}
use Rattle.std.specs.Ordering.{eq_by_cmp, ordering_reverse}
use Rattle.std.proofs.lemmas.Map.Keys.{IsDistinct-head, IsDistinct-tail}
use Rattle.dsde_routes_pushing.specs.lemmas.Lists.{Among, Ascend, wrong}

-- a list in an order of which no two are tied ascends
module _ {X : Type 0} (R : X → X → Ordering) (total : IsTotalOrder R) (ranks : IsStrictWeakOrder (λ (one other : X). is_lt (R one other))) where
  abbrev lt : X → X → Bool
  lt one other = is_lt (R one other)

  next-item : (x : X) (xs : List X) (k n : ℕ) (d : X) → n ≡ suc k → slice_index_or (x ∷ xs) n d ≡ slice_index_or xs k d
  next-item x xs k n d is = ap (λ (m : ℕ). slice_index_or (x ∷ xs) m d) is

  pub later-sorted : (x : X) (xs : List X) → IsSortedBy lt (x ∷ xs) → IsSortedBy lt xs
  later-sorted x xs up k d low high =
      (λ i. lt (sym (next-item x xs (k + 1) (k + 1 + 1) d (omega arith)) i) (sym (next-item x xs k (k + 1) d (omega arith)) i)) ∙ up (k + 1) d (omega arith) (omega (arith, high))

  pub none-before : (x : X) (xs : List X) → IsSortedBy lt (x ∷ xs) → AllByRecursion (λ y. lt y x ≡ false) xs
  none-before x [] up = tt
  none-before x (y ∷ ys) up =
      let next : lt y x ≡ false = up 0 x (omega arith) (omega arith) in
      (next, weaker ys (none-before y ys (later-sorted x (y ∷ ys) up)) next)
    where
      weaker : (zs : List X) → AllByRecursion (λ z. lt z y ≡ false) zs → lt y x ≡ false → AllByRecursion (λ z. lt z x ≡ false) zs
      weaker [] all next = tt
      weaker (z ∷ zs) all next = (ranks.chain z y x all.0 next, weaker zs all.1 next)

  not-less : (one other : Ordering) → other ≡ ordering_reverse one → is_lt other ≡ false → is_eq one ≡ false → one ≡ Less
  not-less Less other flip less tied = refl
  not-less Equal other flip less tied = wrong (sym tied)
  not-less Greater other flip less tied = wrong (sym less ∙ ap is_lt flip)

  all-less : (x : X) (xs : List X) → AllByRecursion (λ y. lt y x ≡ false) xs → AllByRecursion (λ y. eq_by_cmp R x y ≡ false) xs → AllByRecursion (λ y. R x y ≡ Less) xs
  all-less x [] before apart = tt
  all-less x (y ∷ ys) before apart = (not-less (R x y) (R y x) (total.antisymm y x) before.0 apart.0, all-less x ys before.1 apart.1)

  pub ascends : (xs : List X) → IsSortedBy lt xs → IsDistinct (eq_by_cmp R) xs → Ascend R total (λ x. x) xs
  ascends [] up apart = tt
  ascends (x ∷ xs) up apart =
      (all-less x xs (none-before x xs up) (IsDistinct-head (eq_by_cmp R) x xs apart), ascends xs (later-sorted x xs up) (IsDistinct-tail (eq_by_cmp R) x xs apart))

  all-filter : (P : X → Type 0) (test : X → Bool) (xs : List X) → AllByRecursion P xs → AllByRecursion P (filter test xs)
  all-filter P test [] all = tt
  all-filter P test (x ∷ xs) all =
      let rest = all-filter P test xs all.1 in
      elim (test x) as (λ b. AllByRecursion P (cond b (x ∷ filter test xs) (filter test xs))) [ true ↦ (all.0, rest) | false ↦ rest ]

  pub ascend-filter : (test : X → Bool) (xs : List X) → Ascend R total (λ x. x) xs → Ascend R total (λ x. x) (filter test xs)
  ascend-filter test [] up = tt
  ascend-filter test (x ∷ xs) up =
      let rest = ascend-filter test xs up.1 in
      let first = all-filter (λ y. R x y ≡ Less) test xs up.0 in
      elim (test x) as (λ b. Ascend R total (λ y. y) (cond b (x ∷ filter test xs) (filter test xs))) [ true ↦ (first, rest) | false ↦ rest ]

-- of an ascending list two items with tied keys are one
module _ {X K : Type 0} (R : K → K → Ordering) (total : IsTotalOrder R) (key : X → K) where
  less-each : (x y : X) (xs : List X) → AllByRecursion (λ z. R (key x) (key z) ≡ Less) xs → Among y xs → R (key x) (key y) ≡ Less
  less-each x y [] all among = absurd among
  less-each x y (z ∷ xs) all (inl is) = ap (λ (w : X). R (key x) (key w)) is ∙ all.0
  less-each x y (z ∷ xs) all (inr among) = less-each x y xs all.1 among

  pub one-of : (x y : X) (xs : List X) → Ascend R total key xs → Among x xs → Among y xs → key x ≡ key y → x ≡ y
  one-of x y [] up here there is = absurd here
  one-of x y (z ∷ xs) up (inl here) (inl there) is = here ∙ sym there
  one-of x y (z ∷ xs) up (inl here) (inr there) is =
      absurd (never (R (key z) (key y)) (less-each z y xs up.0 there) (ap (λ (k : K). R k (key y)) (sym (ap key here) ∙ is) ∙ tied_itself total (key y)))
    where
      never : (o : Ordering) → o ≡ Less → o ≡ Equal → ⊥
      never o less equal = absurd (cc)
  one-of x y (z ∷ xs) up (inr here) (inl there) is =
      absurd (never (R (key z) (key x)) (less-each z x xs up.0 here) (ap (λ (k : K). R k (key x)) (sym (ap key there) ∙ sym is) ∙ tied_itself total (key x)))
    where
      never : (o : Ordering) → o ≡ Less → o ≡ Equal → ⊥
      never o less equal = absurd (cc)
  one-of x y (z ∷ xs) up (inr here) (inr there) is = one-of x y xs up.1 here there is
