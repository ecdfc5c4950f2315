-- Facts of lists.
use Rattle.std.proofs.Common.{◌≡◌, ℕ, zero, suc, ◌<◌, Bool, true, false, cond, length, get_or, arith, List, [], ◌∷◌, ◌++◌, map, refl, sym, ap, ◌∙◌, subst, inl, inr, ◌⊎◌, ◌||◌, is_eq, Less, Equal, Greater, Ordering}
use Rattle.std.specs.List.{AllByRecursion, Contains, filter, flat_map, list_any, IsDistinct}
use Rattle.std.specs.List.Sorted.{IsStrictlySortedBy}
use Rattle.std.specs.Ordering.{eq_by_cmp}
use Rattle.std.specs.Cmp.{IsTotalOrder, tied_itself}
use Rattle.std.specs.FinSet.{IsAntisymmetric}
use Rattle.std.proofs.lemmas.Map.Keys.{IsDistinct-head, IsDistinct-tail, IsDistinct-cons}

-- an item is in a list
abbrev pub Among : {X : Type 0} → X → List X → Type 0
Among x [] = ⊥
Among x (y ∷ ys) = (x ≡ y) ⊎ Among x ys

among-at : {X : Type 0} (xs : List X) (x : X) (k : ℕ) → k < length xs → get_or xs k x ≡ x → Among x xs
among-at [] x k within is = absurd (omega arith)
among-at (y ∷ xs) x zero within is = inl (sym is)
among-at (y ∷ xs) x (suc k) within is = inr (among-at xs x k (omega arith) is)

pub among-from : {X : Type 0} (xs : List X) (x : X) → Contains xs x → Among x xs
among-from xs x there = among-at xs x there.0 there.1 there.2

pub contains-from : {X : Type 0} (xs : List X) (x : X) → Among x xs → Contains xs x
contains-from [] x among = absurd among
contains-from (y ∷ xs) x (inl same) = (0, omega arith, sym same)
contains-from (y ∷ xs) x (inr among) = let there = contains-from xs x among in (suc there.0, omega (arith, there.1), there.2)

pub each-among : {X : Type 0} (P : X → Type 0) (xs : List X) (x : X) → AllByRecursion P xs → Among x xs → P x
each-among P [] x each among = absurd among
each-among P (y ∷ xs) x each (inl same) = subst P (sym same) each.0
each-among P (y ∷ xs) x each (inr among) = each-among P xs x each.1 among

-- what holds of each that is in a list
pub all-from : {X : Type 0} (P : X → Type 0) (xs : List X) → ((x : X) → Among x xs → P x) → AllByRecursion P xs
all-from P [] so = tt
all-from P (x ∷ xs) so = (so x (inl refl), all-from P xs (λ y there. so y (inr there)))

pub wrong : {X : Type 0} → false ≡ true → X
wrong is = absurd (cc)

-- in two lists, and in one list for each item
pub among-append : {X : Type 0} (x : X) (xs ys : List X) → Among x (xs ++ ys) → Among x xs ⊎ Among x ys
among-append x [] ys among = inr among
among-append x (y ∷ xs) ys (inl is) = inl (inl is)
among-append x (y ∷ xs) ys (inr among) = elim (among-append x xs ys among) [ inl there ↦ inl (inr there) | inr there ↦ inr there ]

pub among-front : {X : Type 0} (x : X) (xs ys : List X) → Among x xs → Among x (xs ++ ys)
among-front x [] ys among = absurd among
among-front x (y ∷ xs) ys (inl is) = inl is
among-front x (y ∷ xs) ys (inr among) = inr (among-front x xs ys among)

pub among-behind : {X : Type 0} (x : X) (xs ys : List X) → Among x ys → Among x (xs ++ ys)
among-behind x [] ys among = among
among-behind x (y ∷ xs) ys among = inr (among-behind x xs ys among)

pub among-flat : {X Y : Type 0} (f : X → List Y) (y : Y) (xs : List X) → Among y (flat_map f xs) → (x : X) × Among x xs × Among y (f x)
among-flat f y [] among = absurd among
among-flat f y (x ∷ xs) among = elim (among-append y (f x) (flat_map f xs) among) [
  | inl here ↦ (x, inl refl, here)
  | inr there ↦ (let found = among-flat f y xs there in (found.0, inr found.1, found.2))
]

pub flat-among : {X Y : Type 0} (f : X → List Y) (y : Y) (x : X) (xs : List X) → Among x xs → Among y (f x) → Among y (flat_map f xs)
flat-among f y x [] among there = absurd among
flat-among f y x (z ∷ xs) (inl is) there = among-front y (f z) (flat_map f xs) (subst (λ own. Among y (f own)) is there)
flat-among f y x (z ∷ xs) (inr among) there = among-behind y (f z) (flat_map f xs) (flat-among f y x xs among there)

-- what passes a test
pub among-filter : {X : Type 0} (test : X → Bool) (x : X) (xs : List X) → Among x xs → test x ≡ true → Among x (filter test xs)
among-filter test x [] among is = absurd among
among-filter test x (y ∷ xs) (inl same) is = subst (λ b. Among x (cond b (y ∷ filter test xs) (filter test xs))) (sym (ap test (sym same) ∙ is)) (inl same)
among-filter test x (y ∷ xs) (inr among) is =
    let rest = among-filter test x xs among is in
    elim (test y) as (λ b. Among x (cond b (y ∷ filter test xs) (filter test xs))) [ true ↦ inr rest | false ↦ rest ]

pub filter-among : {X : Type 0} (test : X → Bool) (x : X) (xs : List X) → Among x (filter test xs) → Among x xs × (test x ≡ true)
filter-among test x [] among = absurd among
filter-among {X} test x (y ∷ xs) among = by (test y) refl among (filter-among test x xs)
  where
    by : (b : Bool) → test y ≡ b → Among x (cond b (y ∷ filter test xs) (filter test xs)) → (Among x (filter test xs) → Among x xs × (test x ≡ true)) → Among x (y ∷ xs) × (test x ≡ true)
    by true is (inl same) rest = (inl same, ap test same ∙ is)
    by true is (inr among) rest = let later = rest among in (inr later.0, later.1)
    by false is among rest = let later = rest among in (inr later.0, later.1)

-- what a search by an order finds
module _ {K : Type 0} (R : K → K → Ordering) (total : IsTotalOrder R) (same : IsAntisymmetric R) where
  one_or : (k x : K) (rest : Bool) → (R k x ≡ Equal) ⊎ (rest ≡ true) → ((eq_by_cmp R k x || rest) ≡ true)
  one_or k x rest (inl tied) = ap (λ o. is_eq o || rest) tied
  one_or k x rest (inr is) = elim (eq_by_cmp R k x) as (λ b. (b || rest) ≡ true) [ true ↦ refl | false ↦ is ]

  tied_from : (k x : K) → eq_by_cmp R k x ≡ true → k ≡ x
  tied_from k x is = same k x (by (R k x) is)
    where
      by : (o : Ordering) → is_eq o ≡ true → o ≡ Equal
      by Less is = wrong is
      by Equal is = refl
      by Greater is = wrong is

  pub any-among : (k : K) (ks : List K) → list_any (eq_by_cmp R k) ks ≡ true → Among k ks
  any-among k [] is = wrong is
  any-among k (x ∷ ks) is = by (eq_by_cmp R k x) refl is (any-among k ks)
    where
      by : (b : Bool) → eq_by_cmp R k x ≡ b → (b || list_any (eq_by_cmp R k) ks) ≡ true → (list_any (eq_by_cmp R k) ks ≡ true → Among k ks) → (k ≡ x) ⊎ Among k ks
      by true tied is rest = inl (tied_from k x tied)
      by false tied is rest = inr (rest is)

  pub among-any : (k : K) (ks : List K) → Among k ks → list_any (eq_by_cmp R k) ks ≡ true
  among-any k [] among = absurd among
  among-any k (x ∷ ks) (inl is) = one_or k x (list_any (eq_by_cmp R k) ks) (inl (ap (R k) (sym is) ∙ tied_itself total k))
  among-any k (x ∷ ks) (inr among) = one_or k x (list_any (eq_by_cmp R k) ks) (inr (among-any k ks among))

-- items each of whose keys stands before the later ones
module _ {X K : Type 0} (R : K → K → Ordering) (total : IsTotalOrder R) (key : X → K) where
  abbrev pub Ascend : List X → Type 0
  Ascend [] = Unit {0}
  Ascend (x ∷ xs) = AllByRecursion (λ y. R (key x) (key y) ≡ Less) xs × Ascend xs

  keys-below : (k : K) (xs : List X) → AllByRecursion (λ y. R k y ≡ Less) (map key xs) → AllByRecursion (λ y. R k (key y) ≡ Less) xs
  keys-below k [] all = tt
  keys-below k (x ∷ xs) all = (all.0, keys-below k xs all.1)

  below-keys : (k : K) (xs : List X) → AllByRecursion (λ y. R k (key y) ≡ Less) xs → AllByRecursion (λ y. R k y ≡ Less) (map key xs)
  below-keys k [] all = tt
  below-keys k (x ∷ xs) all = (all.0, below-keys k xs all.1)

  pub ascend-from : (xs : List X) → IsStrictlySortedBy R (map key xs) → Ascend xs
  unfolding IsStrictlySortedBy
  ascend-from [] up = tt
  ascend-from (x ∷ xs) up = (keys-below (key x) xs up.0, ascend-from xs up.1)

  pub sorted-from : (xs : List X) → Ascend xs → IsStrictlySortedBy R (map key xs)
  unfolding IsStrictlySortedBy
  sorted-from [] up = tt
  sorted-from (x ∷ xs) up = (below-keys (key x) xs up.0, sorted-from xs up.1)

  not-below-itself : (x : X) → R (key x) (key x) ≡ Less → ⊥
  not-below-itself x less = let tied = tied_itself total (key x) in absurd (cc)

  not-both : (x y : X) → R (key x) (key y) ≡ Less → R (key y) (key x) ≡ Less → ⊥
  not-both x y one other = not-below-itself x (total.trans (key x) (key y) (key x) one other)

  same-heads : (x y : X) (xs ys : List X) → Ascend (x ∷ xs) → Ascend (y ∷ ys) → Among x (y ∷ ys) → Among y (x ∷ xs) → x ≡ y
  same-heads x y xs ys up rise (inl is) there = is
  same-heads x y xs ys up rise (inr here) (inl is) = sym is
  same-heads x y xs ys up rise (inr here) (inr there) =
      absurd (not-both x y (each-among (λ z. R (key x) (key z) ≡ Less) xs y up.0 there) (each-among (λ z. R (key y) (key z) ≡ Less) ys x rise.0 here))

  later-of : (x y : X) (xs ys : List X) → x ≡ y → AllByRecursion (λ z. R (key x) (key z) ≡ Less) xs → (z : X) → Among z xs → Among z (y ∷ ys) → Among z ys
  later-of x y xs ys is below z there (inl same) =
      absurd (not-below-itself x (ap (λ (w : X). R (key x) (key w)) (is ∙ sym same) ∙ each-among (λ z. R (key x) (key z) ≡ Less) xs z below there))
  later-of x y xs ys is below z there (inr here) = here

  -- two such lists of the same items are one
  pub one-list : (xs ys : List X) → Ascend xs → Ascend ys → ((x : X) → Among x xs → Among x ys) → ((x : X) → Among x ys → Among x xs) → xs ≡ ys
  one-list [] [] up rise to back = refl
  one-list [] (y ∷ ys) up rise to back = absurd (back y (inl refl))
  one-list (x ∷ xs) [] up rise to back = absurd (to x (inl refl))
  one-list (x ∷ xs) (y ∷ ys) up rise to back =
      let is = same-heads x y xs ys up rise (to x (inl refl)) (back y (inl refl)) in
      λ i. is i ∷ one-list xs ys up.1 rise.1
      (λ z there. later-of x y xs ys is up.0 z there (to z (inr there)))
      (λ z there. later-of y x ys xs (sym is) rise.0 z there (back z (inr there))) i

-- a list is another with some items left out
abbrev pub Within : {X : Type 0} → List X → List X → Type 0
Within [] ys = Unit {0}
Within (x ∷ xs) [] = ⊥
Within (x ∷ xs) (y ∷ ys) = ((x ≡ y) × Within xs ys) ⊎ Within (x ∷ xs) ys

pub within-behind : {X : Type 0} (xs front ys : List X) → Within xs ys → Within xs (front ++ ys)
within-behind [] front ys within = tt
within-behind (x ∷ xs) [] ys within = within
within-behind (x ∷ xs) (y ∷ front) ys within = inr (within-behind (x ∷ xs) front ys within)

pub within-append : {X : Type 0} (xs ys us vs : List X) → Within xs ys → Within us vs → Within (xs ++ us) (ys ++ vs)
within-append [] ys us vs first later = within-behind us ys vs later
within-append (x ∷ xs) [] us vs first later = absurd first
within-append (x ∷ xs) (y ∷ ys) us vs (inl first) later = inl (first.0, within-append xs ys us vs first.1 later)
within-append (x ∷ xs) (y ∷ ys) us vs (inr first) later = inr (within-append (x ∷ xs) ys us vs first later)

all-within : {X : Type 0} (P : X → Type 0) (xs ys : List X) → Within xs ys → AllByRecursion P ys → AllByRecursion P xs
all-within P [] ys within all = tt
all-within P (x ∷ xs) [] within all = absurd within
all-within P (x ∷ xs) (y ∷ ys) (inl within) all = (subst P (sym within.0) all.0, all-within P xs ys within.1 all.1)
all-within P (x ∷ xs) (y ∷ ys) (inr within) all = all-within P (x ∷ xs) ys within all.1

pub distinct-nil : {X : Type 0} (same : X → X → Bool) → IsDistinct same []
unfolding IsDistinct
distinct-nil same = tt

all-append : {X : Type 0} (P : X → Type 0) (xs ys : List X) → AllByRecursion P xs → AllByRecursion P ys → AllByRecursion P (xs ++ ys)
all-append P [] ys first later = later
all-append P (x ∷ xs) ys first later = (first.0, all-append P xs ys first.1 later)

pub distinct-append : {X : Type 0} (same : X → X → Bool) (xs ys : List X) → IsDistinct same xs → IsDistinct same ys → ((x y : X) → Among x xs → Among y ys → same x y ≡ false) → IsDistinct same (xs ++ ys)
distinct-append same [] ys first later apart = later
distinct-append same (x ∷ xs) ys first later apart =
    IsDistinct-cons same x (xs ++ ys)
    (all-append (λ y. same x y ≡ false) xs ys (IsDistinct-head same x xs first) (all-from (λ y. same x y ≡ false) ys (λ y there. apart x y (inl refl) there)))
    (distinct-append same xs ys (IsDistinct-tail same x xs first) later (λ z y here there. apart z y (inr here) there))

pub distinct-within : {X : Type 0} (same : X → X → Bool) (xs ys : List X) → Within xs ys → IsDistinct same ys → IsDistinct same xs
distinct-within same [] ys within apart = distinct-nil same
distinct-within same (x ∷ xs) [] within apart = absurd within
distinct-within same (x ∷ xs) (y ∷ ys) (inl within) apart =
    IsDistinct-cons same x xs
    (all-within (λ z. same x z ≡ false) xs ys within.1 (subst (λ w. AllByRecursion (λ z. same w z ≡ false) ys) (sym within.0) (IsDistinct-head same y ys apart)))
    (distinct-within same xs ys within.1 (IsDistinct-tail same y ys apart))
distinct-within same (x ∷ xs) (y ∷ ys) (inr within) apart = distinct-within same (x ∷ xs) ys within (IsDistinct-tail same y ys apart)
