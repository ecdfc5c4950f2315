use Rattle.std.proofs.Common.{◌≡◌, true, false, List, [], ◌∷◌, refl}
use Rattle.std.specs.List.{AllByRecursion}
use Rattle.dsde_drawing.specs.Drawing.{IsOrderly, IsPassed}
use Rattle.dsde_test_calls.proofs.orders.drawn.Goals as goal

none : {A : Type 0} (list : List A) → AllByRecursion (λ other. false ≡ false) list
none [] = tt
none (own ∷ list) = (refl, none list)

never : {A : Type 0} (list : List A) → AllByRecursion (λ other. false ≡ true → false ≡ true) list
never [] = tt
never (own ∷ list) = (λ is. is, never list)

passed : {A : Type 0} (one : A) (list : List A) → IsPassed (λ own other. false) one list
passed one [] = tt
passed one (next ∷ list) = (never list, passed one list)

orderly : {A : Type 0} (list : List A) → IsOrderly (λ own other. false) list
orderly [] = tt
orderly (own ∷ list) = (none list, passed own list, orderly list)

pub draw-requires : goal.draw-requires
draw-requires c = orderly _
