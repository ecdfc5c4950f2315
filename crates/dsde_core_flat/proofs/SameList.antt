-- Lists in one strict order.
use Rattle.std.proofs.Common.{◌≡◌, List, [], ◌∷◌, Ordering, Less, Greater, refl, sym, ◌∙◌, ap, subst, inl, inr}
use Rattle.std.proofs.lemmas.Map.Keys.{sorted_head, sorted_tail}
use Rattle.std.specs.Cmp.{IsTotalOrder}
use Rattle.std.specs.List.{AllByRecursion}
use Rattle.std.specs.List.Sorted.{IsStrictlySortedBy}
use Rattle.std.specs.Ordering.{ordering_reverse}
use Rattle.dsde_sim_movers.specs.lemmas.Events.{Among, each-among}

module _ {X : Type 0} (c : X → X → Ordering) (total : IsTotalOrder c) where
  never-both : (x y : X) → c x y ≡ Less → c y x ≡ Less → ⊥
  never-both x y one other =
      let turned : c x y ≡ ordering_reverse Less = total.antisymm x y ∙ ap ordering_reverse other in
      let e : Less ≡ Greater = sym one ∙ turned in cc

  never-itself : (x : X) → c x x ≡ Less → ⊥
  never-itself x one = never-both x x one one

  heads-same : (x y : X) (xs ys : List X) → IsStrictlySortedBy c (x ∷ xs) → IsStrictlySortedBy c (y ∷ ys) → Among x (y ∷ ys) → Among y (x ∷ xs) → x ≡ y
  heads-same x y xs ys sorted other (inl same) there = same
  heads-same x y xs ys sorted other (inr later) (inl same) = sym same
  heads-same x y xs ys sorted other (inr later) (inr there) =
      absurd (never-both x y (each-among (λ z. c x z ≡ Less) xs y (sorted_head c x xs sorted) there) (each-among (λ z. c y z ≡ Less) ys x (sorted_head c y ys other) later))

  rest-among : (x y : X) (xs ys : List X) → IsStrictlySortedBy c (x ∷ xs) → x ≡ y → (z : X) → Among z xs → Among z (y ∷ ys) → Among z ys
  rest-among x y xs ys sorted same z there (inr later) = later
  rest-among x y xs ys sorted same z there (inl here) =
      absurd (never-itself x (subst (λ (w : X). c x w ≡ Less) (here ∙ sym same) (each-among (λ w. c x w ≡ Less) xs z (sorted_head c x xs sorted) there)))

  -- lists in strict order that have the same members are the same
  pub same-list : (xs ys : List X) → IsStrictlySortedBy c xs → IsStrictlySortedBy c ys → ((x : X) → Among x xs → Among x ys) → ((x : X) → Among x ys → Among x xs) → xs ≡ ys
  same-list [] [] sorted other into back = refl
  same-list [] (y ∷ ys) sorted other into back = absurd (back y (inl refl))
  same-list (x ∷ xs) [] sorted other into back = absurd (into x (inl refl))
  same-list (x ∷ xs) (y ∷ ys) sorted other into back =
      let same = heads-same x y xs ys sorted other (into x (inl refl)) (back y (inl refl)) in
      λ i. same i ∷ same-list xs ys (sorted_tail c x xs sorted) (sorted_tail c y ys other)
      (λ z there. rest-among x y xs ys sorted same z there (into z (inr there)))
      (λ z there. rest-among y x ys xs other (sym same) z there (back z (inr there))) i
