-- What a comparison keeps, drops and starts is a split of both lists.
use Rattle.std.proofs.Common.{◌≡◌, ℕ, zero, suc, ◌<◌, Bool, true, false, ◌||◌, not, cond, length, get_or, List, [], ◌∷◌, map, refl, sym, ◌∙◌, ap, subst, inl, inr, ◌⊎◌, arith}
use Rattle.std.specs.declared.cmp.Ordering.{Ordering}
use Rattle.std.specs.declared.cmp.Ordering.TheVariants.{Less, Equal}
use Rattle.std.specs.Cmp.{IsTotalOrder}
use Rattle.std.proofs.lemmas.Cmp.{tied_itself}
use Rattle.std.specs.List.{filter, list_any, AllByRecursion, Contains}
use Rattle.std.specs.List.Sorted.{IsStrictlySortedBy}
use Rattle.std.proofs.lemmas.Map.Keys.{sorted_head, sorted_tail}

-- an item is in a list
abbrev pub Among : {X : Type 0} → X → List X → Type 0
Among x [] = ⊥
Among x (y ∷ ys) = (x ≡ y) ⊎ Among x ys

among-at : {X : Type 0} (xs : List X) (x : X) (k : ℕ) → k < length xs → get_or xs k x ≡ x → Among x xs
among-at [] x k within is = absurd (omega arith)
among-at (y ∷ xs) x zero within is = inl (sym is)
among-at (y ∷ xs) x (suc k) within is = inr (among-at xs x k (omega arith) is)

pub among-from : {X : Type 0} (xs : List X) (x : X) → Contains xs x → Among x xs
among-from xs x there = among-at xs x there.0 there.1 there.2

pub contains-from : {X : Type 0} (xs : List X) (x : X) → Among x xs → Contains xs x
contains-from [] x among = absurd among
contains-from (y ∷ xs) x (inl same) = (0, omega arith, sym same)
contains-from (y ∷ xs) x (inr among) = let there = contains-from xs x among in (suc there.0, omega (arith, there.1), there.2)

among-map : {X Y : Type 0} (f : X → Y) (x : X) (xs : List X) → Among x xs → Among (f x) (map f xs)
among-map f x [] among = among
among-map f x (y ∷ xs) (inl same) = inl (ap f same)
among-map f x (y ∷ xs) (inr among) = inr (among-map f x xs among)

map-among : {X Y : Type 0} (f : X → Y) (y : Y) (xs : List X) → Among y (map f xs) → (x : X) × Among x xs × (y ≡ f x)
map-among f y [] among = absurd among
map-among f y (x ∷ xs) (inl same) = (x, inl refl, same)
map-among f y (x ∷ xs) (inr among) = let found = map-among f y xs among in (found.0, inr found.1, found.2)

among-cond : {X : Type 0} (b : Bool) (x y : X) (xs : List X) → Among x xs → Among x (cond b (y ∷ xs) xs)
among-cond true x y xs among = inr among
among-cond false x y xs among = among

among-filter : {X : Type 0} (test : X → Bool) (x : X) (xs : List X) → Among x xs → test x ≡ true → Among x (filter test xs)
among-filter test x [] among passes = among
among-filter test x (y ∷ xs) (inl same) passes = rw (ap test (sym same) ∙ passes) (inl same)
among-filter test x (y ∷ xs) (inr among) passes = among-cond (test y) x y (filter test xs) (among-filter test x xs among passes)

cond-among : {X : Type 0} (b : Bool) (x y : X) (xs : List X) → Among x (cond b (y ∷ xs) xs) → ((x ≡ y) × (b ≡ true)) ⊎ Among x xs
cond-among true x y xs (inl same) = inl (same, refl)
cond-among true x y xs (inr among) = inr among
cond-among false x y xs among = inr among

filter-among : {X : Type 0} (test : X → Bool) (x : X) (xs : List X) → Among x (filter test xs) → Among x xs × (test x ≡ true)
filter-among test x [] among = absurd among
filter-among test x (y ∷ xs) among = elim (cond-among (test y) x y (filter test xs) among) [
  | inl here ↦ (inl here.0, ap test here.0 ∙ here.1)
  | inr behind ↦ let rest = filter-among test x xs behind in (inr rest.0, rest.1)
]

any-or : {X : Type 0} (test : X → Bool) (b : Bool) (x : X) (xs : List X) → test x ≡ b → (b || list_any test xs) ≡ true → (test x ≡ true) ⊎ (list_any test xs ≡ true)
any-or test true x xs is any = inl is
any-or test false x xs is any = inr any

pub any-among : {X : Type 0} (test : X → Bool) (xs : List X) → list_any test xs ≡ true → (x : X) × Among x xs × (test x ≡ true)
any-among test [] any = absurd (let e : false ≡ true = any in cc)
any-among test (x ∷ xs) any = elim (any-or test (test x) x xs refl any) [
  | inl passes ↦ (x, inl refl, passes)
  | inr later ↦ let found = any-among test xs later in (found.0, inr found.1, found.2)
]

or-true : (b : Bool) → (b || true) ≡ true
or-true true = refl
or-true false = refl

pub among-any : {X : Type 0} (test : X → Bool) (x : X) (xs : List X) → Among x xs → test x ≡ true → list_any test xs ≡ true
among-any test x [] among passes = absurd among
among-any test x (y ∷ xs) (inl same) passes = rw (ap test (sym same) ∙ passes) refl
among-any test x (y ∷ xs) (inr among) passes = rw (among-any test x xs among passes) (or-true (test y))

either : (b : Bool) → (b ≡ true) ⊎ (not b ≡ true)
either true = inl refl
either false = inr refl

not-both : (b : Bool) → b ≡ true → not b ≡ true → ⊥
not-both true is not_is = let e : false ≡ true = not_is in cc
not-both false is not_is = let e : false ≡ true = is in cc

each-among : {X : Type 0} (P : X → Type 0) (xs : List X) (x : X) → AllByRecursion P xs → Among x xs → P x
each-among P [] x each among = absurd among
each-among P (y ∷ xs) x each (inl same) = subst P (sym same) each.0
each-among P (y ∷ xs) x each (inr among) = each-among P xs x each.1 among

module _ {E K : Type 0} (key : E → K) (R : K → K → Ordering) (o : IsTotalOrder R) where
  differs : (k : K) (es : List E) (e : E) → AllByRecursion (λ y. R k y ≡ Less) (map key es) → Among e es → k ≡ key e → ⊥
  differs k es e less among same =
      let is_less = each-among (λ y. R k y ≡ Less) (map key es) (key e) less (among-map key e es among) in
      let is_equal : R k (key e) ≡ Equal = subst (λ (j : K). R k j ≡ Equal) same (tied_itself o k) in
      let wrong : Less ≡ Equal = sym is_less ∙ is_equal in cc

  -- entries of distinct keys are told by them
  unique : (es : List E) → IsStrictlySortedBy R (map key es) → (a b : E) → Among a es → Among b es → key a ≡ key b → a ≡ b
  unique [] sorted a b in_a in_b same = absurd in_a
  unique (e ∷ es) sorted a b (inl is_a) (inl is_b) same = is_a ∙ sym is_b
  unique (e ∷ es) sorted a b (inl is_a) (inr in_b) same = absurd (differs (key e) es b (sorted_head R (key e) (map key es) sorted) in_b (ap key (sym is_a) ∙ same))
  unique (e ∷ es) sorted a b (inr in_a) (inl is_b) same = absurd (differs (key e) es a (sorted_head R (key e) (map key es) sorted) in_a (ap key (sym is_b) ∙ sym same))
  unique (e ∷ es) sorted a b (inr in_a) (inr in_b) same = unique es (sorted_tail R (key e) (map key es) sorted) a b in_a in_b same

  each-cond : (P : K → Type 0) (b : Bool) (e : E) (es : List E) → P (key e) → AllByRecursion P (map key es) → AllByRecursion P (map key (cond b (e ∷ es) es))
  each-cond P true e es first later = (first, later)
  each-cond P false e es first later = later

  each-filter : (P : K → Type 0) (test : E → Bool) (es : List E) → AllByRecursion P (map key es) → AllByRecursion P (map key (filter test es))
  each-filter P test [] each = tt
  each-filter P test (e ∷ es) each = each-cond P (test e) e (filter test es) each.0 (each-filter P test es each.1)

  sorted-cond : (b : Bool) (e : E) (es : List E) → AllByRecursion (λ y. R (key e) y ≡ Less) (map key es) → IsStrictlySortedBy R (map key es) → IsStrictlySortedBy R (map key (cond b (e ∷ es) es))
  unfolding IsStrictlySortedBy
  sorted-cond true e es less sorted = (less, sorted)
  sorted-cond false e es less sorted = sorted

  pub sorted-filter : (test : E → Bool) (es : List E) → IsStrictlySortedBy R (map key es) → IsStrictlySortedBy R (map key (filter test es))
  sorted-filter test [] sorted = sorted
  sorted-filter test (e ∷ es) sorted =
      sorted-cond (test e) e (filter test es) (each-filter (λ y. R (key e) y ≡ Less) test es (sorted_head R (key e) (map key es) sorted)) (sorted-filter test es (sorted_tail R (key e) (map key es) sorted))

  -- what passes a test and what does not: all, and never both
  module _ (test : E → Bool) (es : List E) where
    pub split-all : (k : K) → Contains (map key es) k → Contains (map key (filter (λ e. not (test e)) es)) k ⊎ Contains (map key (filter test es)) k
    split-all k there =
        let found = map-among key k es (among-from (map key es) k there) in
        elim (either (test found.0)) [
          | inl passes ↦ inr (contains-from _ k (subst (λ (j : K). Among j (map key (filter test es))) (sym found.2) (among-map key found.0 (filter test es) (among-filter test found.0 es found.1 passes))))
          | inr not_so ↦ inl (contains-from _ k (subst (λ (j : K). Among j (map key (filter (λ e. not (test e)) es))) (sym found.2) (among-map key found.0 (filter (λ e. not (test e)) es) (among-filter (λ e. not (test e)) found.0 es found.1 not_so))))
        ]

    pub filter-within : (k : K) → Contains (map key (filter test es)) k → Contains (map key es) k
    filter-within k there =
        let found = map-among key k (filter test es) (among-from (map key (filter test es)) k there) in
        contains-from (map key es) k (subst (λ (j : K). Among j (map key es)) (sym found.2) (among-map key found.0 es (filter-among test found.0 es found.1).0))

    pub split-never_both : IsStrictlySortedBy R (map key es) → (k : K) → Contains (map key (filter (λ e. not (test e)) es)) k → Contains (map key (filter test es)) k → ⊥
    split-never_both sorted k in_gone in_kept =
        let one = map-among key k (filter (λ e. not (test e)) es) (among-from _ k in_gone) in
        let other = map-among key k (filter test es) (among-from _ k in_kept) in
        let one_is = filter-among (λ e. not (test e)) one.0 es one.1 in
        let other_is = filter-among test other.0 es other.1 in
        let same : other.0 ≡ one.0 = unique es sorted other.0 one.0 other_is.0 one_is.0 (sym other.2 ∙ one.2) in
        not-both (test one.0) (ap test (sym same) ∙ other_is.1) one_is.1

  -- old and new entries, of which some survive as others of their key
  module _ (S : E → E → Bool) (same_key : (x y : E) → S x y ≡ true → key x ≡ key y) (olds news : List E) where
    abbrev survives_now : E → Bool
    survives_now x = list_any (S x) news

    abbrev is_new : E → Bool
    is_new y = not (list_any (λ x. S x y) olds)

    pub new-all : (k : K) → Contains (map key news) k → Contains (map key (filter is_new news)) k ⊎ Contains (map key (filter survives_now olds)) k
    new-all k there =
        let found = map-among key k news (among-from (map key news) k there) in
        elim (either (list_any (λ x. S x found.0) olds)) [
          | inl some ↦
              let old = any-among (λ x. S x found.0) olds some in
              let lives : survives_now old.0 ≡ true = among-any (S old.0) found.0 news found.1 old.2 in
              inr (contains-from _ k (subst (λ (j : K). Among j (map key (filter survives_now olds))) (same_key old.0 found.0 old.2 ∙ sym found.2)
              (among-map key old.0 (filter survives_now olds) (among-filter survives_now old.0 olds old.1 lives))))
          | inr none ↦ inl (contains-from _ k (subst (λ (j : K). Among j (map key (filter is_new news))) (sym found.2)
              (among-map key found.0 (filter is_new news) (among-filter is_new found.0 news found.1 none))))
        ]

    pub kept-within : (k : K) → Contains (map key (filter survives_now olds)) k → Contains (map key news) k
    kept-within k there =
        let old = map-among key k (filter survives_now olds) (among-from _ k there) in
        let new = any-among (S old.0) news (filter-among survives_now old.0 olds old.1).1 in
        contains-from (map key news) k (subst (λ (j : K). Among j (map key news)) (sym (same_key old.0 new.0 new.2) ∙ sym old.2) (among-map key new.0 news new.1))

    pub fresh-never_kept : IsStrictlySortedBy R (map key news) → (k : K) → Contains (map key (filter is_new news)) k → Contains (map key (filter survives_now olds)) k → ⊥
    fresh-never_kept sorted k in_fresh in_kept =
        let one = map-among key k (filter is_new news) (among-from _ k in_fresh) in
        let one_is = filter-among is_new one.0 news one.1 in
        let old = map-among key k (filter survives_now olds) (among-from _ k in_kept) in
        let old_is = filter-among survives_now old.0 olds old.1 in
        let new = any-among (S old.0) news old_is.1 in
        let same : new.0 ≡ one.0 = unique news sorted new.0 one.0 new.1 one_is.0 (sym (same_key old.0 new.0 new.2) ∙ sym old.2 ∙ one.2) in
        not-both (list_any (λ x. S x one.0) olds) (among-any (λ x. S x one.0) old.0 olds old_is.0 (subst (λ (y : E). S old.0 y ≡ true) same new.2)) one_is.1
