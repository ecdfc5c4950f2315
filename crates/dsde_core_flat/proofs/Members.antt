-- Who is among what is filtered, mapped, sorted and left once.
use Rattle.std.proofs.Common.{◌≡◌, inl, inr, Bool, true, false, cond, List, [], ◌∷◌, map, filter, refl, sym, ap, ◌∙◌}
use Rattle.std.specs.List.{AllByRecursion, dedup, dedup_from}
use Rattle.dsde_sim_movers.specs.lemmas.Events.{Among}

pub among-map : {X Y : Type 0} (f : X → Y) (x : X) (xs : List X) → Among x xs → Among (f x) (map f xs)
among-map f x [] there = absurd there
among-map f x (y ∷ xs) (inl same) = inl (ap f same)
among-map f x (y ∷ xs) (inr there) = inr (among-map f x xs there)

module _ {X : Type 0} (test : X → Bool) where
  filters-by : (x y : X) (xs : List X) (here : Bool) → test y ≡ here → test x ≡ true → (Among x xs → Among x (filter test xs)) → Among x (y ∷ xs) → Among x (cond here (y ∷ filter test xs) (filter test xs))
  filters-by x y xs true is passes later (inl same) = inl same
  filters-by x y xs true is passes later (inr there) = inr (later there)
  filters-by x y xs false is passes later (inl same) = absurd (let e : true ≡ false = sym passes ∙ ap test same ∙ is in cc)
  filters-by x y xs false is passes later (inr there) = later there

  pub among-filter : (x : X) (xs : List X) → test x ≡ true → Among x xs → Among x (filter test xs)
  among-filter x [] passes there = absurd there
  among-filter x (y ∷ xs) passes there = filters-by x y xs (test y) refl passes (among-filter x xs passes) there

  pub all-pass : (xs : List X) → AllByRecursion (λ x. test x ≡ true) (filter test xs)
  all-pass [] = tt
  all-pass (x ∷ xs) = by-test (test x) refl (all-pass xs)
    where
      by-test : (b : Bool) → test x ≡ b → AllByRecursion (λ y. test y ≡ true) (filter test xs) → AllByRecursion (λ y. test y ≡ true) (cond b (x ∷ filter test xs) (filter test xs))
      by-test true is later = (is, later)
      by-test false is later = later

-- where equal items are one, each item is left
module _ {X : Type 0} (same : X → X → Bool) (P : X → Type 0) (exact : (x y : X) → P x → P y → same x y ≡ true → x ≡ y) where
  left-by : (k x : X) (xs : List X) (b : Bool) → same x k ≡ b → P k → P x → ((j z : X) → P j → Among z (j ∷ xs) → Among z (dedup_from same j xs)) → (z : X) → Among z (k ∷ x ∷ xs) →
      Among z (cond b (dedup_from same k xs) (k ∷ dedup_from same x xs))
  left-by k x xs true is pk px rest z (inl here) = rest k z pk (inl here)
  left-by k x xs true is pk px rest z (inr (inl here)) = rest k z pk (inl (here ∙ exact x k px pk is))
  left-by k x xs true is pk px rest z (inr (inr later)) = rest k z pk (inr later)
  left-by k x xs false is pk px rest z (inl here) = inl here
  left-by k x xs false is pk px rest z (inr there) = inr (rest x z px there)

  left-from : (xs : List X) → AllByRecursion P xs → (k z : X) → P k → Among z (k ∷ xs) → Among z (dedup_from same k xs)
  left-from [] all k z pk there = there
  left-from (x ∷ xs) all k z pk there = left-by k x xs (same x k) refl pk all.0 (left-from xs all.1) z there

  pub left-once : (xs : List X) → AllByRecursion P xs → (z : X) → Among z xs → Among z (dedup same xs)
  left-once [] all z there = there
  left-once (x ∷ xs) all z there = left-from xs all.1 x z all.0 there

module _ {X : Type 0} (same : X → X → Bool) (P : X → Type 0) where
  once-by : (k x : X) (xs : List X) (b : Bool) → P k → P x → ((j : X) → P j → AllByRecursion P (dedup_from same j xs)) → AllByRecursion P (cond b (dedup_from same k xs) (k ∷ dedup_from same x xs))
  once-by k x xs true pk px rest = rest k pk
  once-by k x xs false pk px rest = (pk, rest x px)

  once-from : (xs : List X) → AllByRecursion P xs → (k : X) → P k → AllByRecursion P (dedup_from same k xs)
  once-from [] all k pk = (pk, tt)
  once-from (x ∷ xs) all k pk = once-by k x xs (same x k) pk all.0 (once-from xs all.1)

  pub all-once : (xs : List X) → AllByRecursion P xs → AllByRecursion P (dedup same xs)
  all-once [] all = tt
  all-once (x ∷ xs) all = once-from xs all.1 x all.0
