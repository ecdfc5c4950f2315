-- What holds of all rows holds of the first of the last.
use Rattle.std.proofs.Common.{◌≡◌, List, [], ◌∷◌, ◌++◌, subst}
use Rattle.std.specs.List.{AllByRecursion}

behind : {A : Type 0} (P : A → Type 0) (xs ys : List A) → AllByRecursion P (xs ++ ys) → AllByRecursion P ys
behind P [] ys all = all
behind P (x ∷ xs) ys all = behind P xs ys all.1

pub first-of-last : {A : Type 0} (P : A → Type 0) (all taken rest others : List A) (one : A) → all ≡ taken ++ rest → rest ≡ one ∷ others → AllByRecursion P all → P one
first-of-last P all taken rest others one is first each = (subst (AllByRecursion P) first (behind P taken rest (subst (AllByRecursion P) is each))).0
