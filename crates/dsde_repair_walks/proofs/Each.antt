-- Facts of each item of lists.
use Rattle.std.proofs.Common.{◌≡◌, Bool, true, false, cond, ◌||◌, if◌then◌else◌, List, [], ◌∷◌, ◌++◌, map, filter, refl, ap, ◌∙◌}
use Rattle.std.specs.List.{flat_map, AllByRecursion, list_any}

pub each-append : {X : Type 0} (P : X → Type 0) (xs ys : List X) → AllByRecursion P xs → AllByRecursion P ys → AllByRecursion P (xs ++ ys)
each-append P [] ys first later = later
each-append P (x ∷ xs) ys first later = (first.0, each-append P xs ys first.1 later)

pub each-flat : {X Y : Type 0} (P : Y → Type 0) (f : X → List Y) (xs : List X) → AllByRecursion (λ x. AllByRecursion P (f x)) xs → AllByRecursion P (flat_map f xs)
each-flat P f [] each = tt
each-flat P f (x ∷ xs) each = each-append P (f x) (flat_map f xs) each.0 (each-flat P f xs each.1)

pub each-of : {X : Type 0} (P : X → Type 0) → ((x : X) → P x) → (xs : List X) → AllByRecursion P xs
each-of P all [] = tt
each-of P all (x ∷ xs) = (all x, each-of P all xs)

pub each-weaker : {X : Type 0} (P Q : X → Type 0) → ((x : X) → P x → Q x) → (xs : List X) → AllByRecursion P xs → AllByRecursion Q xs
each-weaker P Q gives [] each = tt
each-weaker P Q gives (x ∷ xs) each = (gives x each.0, each-weaker P Q gives xs each.1)

pub each-map : {X Y : Type 0} (Q : Y → Type 0) (f : X → Y) (xs : List X) → AllByRecursion (λ x. Q (f x)) xs → AllByRecursion Q (map f xs)
each-map Q f [] each = tt
each-map Q f (x ∷ xs) each = (each.0, each-map Q f xs each.1)

pub each-if : {X : Type 0} (P : X → Type 0) (test : Bool) (xs : List X) → AllByRecursion P xs → AllByRecursion P (if test then xs else [])
each-if P true xs each = each
each-if P false xs each = tt

pub each-front : {X : Type 0} (P : X → Type 0) (xs ys : List X) → AllByRecursion P (xs ++ ys) → AllByRecursion P xs
each-front P [] ys each = tt
each-front P (x ∷ xs) ys each = (each.0, each-front P xs ys each.1)

pub each-back : {X : Type 0} (P : X → Type 0) (xs ys : List X) → AllByRecursion P (xs ++ ys) → AllByRecursion P ys
each-back P [] ys each = each
each-back P (x ∷ xs) ys each = each-back P xs ys each.1

pub each-pieces : {X Y : Type 0} (P : Y → Type 0) (f : X → List Y) (xs : List X) → AllByRecursion P (flat_map f xs) → AllByRecursion (λ x. AllByRecursion P (f x)) xs
each-pieces P f [] each = tt
each-pieces P f (x ∷ xs) each = (each-front P (f x) (flat_map f xs) each, each-pieces P f xs (each-back P (f x) (flat_map f xs) each))

pub each-filter : {X : Type 0} (P : X → Type 0) (test : X → Bool) (xs : List X) → AllByRecursion P xs → AllByRecursion P (filter test xs)
each-filter P test [] each = tt
each-filter P test (x ∷ xs) each = by (test x) (each-filter P test xs each.1) where
  by : (b : Bool) → AllByRecursion P (filter test xs) → AllByRecursion P (cond b (x ∷ filter test xs) (filter test xs))
  by true others = (each.0, others)
  by false others = others

-- whether any of two lists passes
pub any-left : {X : Type 0} (test : X → Bool) (xs ys : List X) → list_any test xs ≡ true → list_any test (xs ++ ys) ≡ true
any-left test [] ys is = cc
any-left test (x ∷ xs) ys is = by (test x) is (any-left test xs ys) where
  by : (b : Bool) → b || list_any test xs ≡ true → (list_any test xs ≡ true → list_any test (xs ++ ys) ≡ true) → b || list_any test (xs ++ ys) ≡ true
  by true h others = refl
  by false h others = others h

pub any-right : {X : Type 0} (test : X → Bool) (xs ys : List X) → list_any test ys ≡ true → list_any test (xs ++ ys) ≡ true
any-right test [] ys is = is
any-right test (x ∷ xs) ys is = by (test x) (any-right test xs ys is) where
  by : (b : Bool) → list_any test (xs ++ ys) ≡ true → b || list_any test (xs ++ ys) ≡ true
  by true others = refl
  by false others = others

pub any-head : {X : Type 0} (test : X → Bool) (x : X) (xs : List X) → test x ≡ true → list_any test (x ∷ xs) ≡ true
any-head test x xs is = by (test x) is where
  by : (b : Bool) → b ≡ true → b || list_any test xs ≡ true
  by true h = refl
  by false h = cc

pub any-tail : {X : Type 0} (test : X → Bool) (x : X) (xs : List X) → list_any test xs ≡ true → list_any test (x ∷ xs) ≡ true
any-tail test x xs is = any-right test (x ∷ []) xs is

pub none-head : {X : Type 0} (test : X → Bool) (x : X) (xs : List X) → test x ≡ false → list_any test xs ≡ false → list_any test (x ∷ xs) ≡ false
none-head test x xs is none = ap (λ (b : Bool). b || list_any test xs) is ∙ none

pub none-append : {X : Type 0} (test : X → Bool) (xs ys : List X) → list_any test xs ≡ false → list_any test ys ≡ false → list_any test (xs ++ ys) ≡ false
none-append test [] ys first later = later
none-append test (x ∷ xs) ys first later = by (test x) first (none-append test xs ys) where
  by : (b : Bool) → b || list_any test xs ≡ false → (list_any test xs ≡ false → list_any test ys ≡ false → list_any test (xs ++ ys) ≡ false) → b || list_any test (xs ++ ys) ≡ false
  by true h others = h
  by false h others = others h later
