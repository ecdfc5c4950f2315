-- Whole numbers of 64 signed bits, and lists that keep their items' type.
use Rattle.std.proofs.Common.{◌≡◌, ℕ, zero, suc, ◌-◌, ◌^◌, ◌≤◌, ◌<◌, min, ℤ, pos, negsuc, ◌+ℤ◌, ◌-ℤ◌, ◌≤ℤ◌, Bool, true, false, List, [], ◌∷◌, length, take, drop, if◌then◌else◌, refl, arith, slice_set}
use Rattle.std.specs.Prelude.{int_rem, unsigned_abs}
use Rattle.std.proofs.lemmas.Int.{ints, rem_below}
use borrow.Author.Tests.{ltb-true, lt-ltb}
use Rattle.dsde_language.specs.given.values.types_Ty.{Ty}
use Rattle.dsde_language.specs.given.values.types_Ty_TheVariants as ty
use Rattle.dsde_language.specs.given.values.types_Types.{Types}
use Rattle.dsde_language.specs.given.values.value_Value.{Value}
use Rattle.dsde_language.specs.given.values.value_Value_TheVariants as value
use Rattle.dsde_language.specs.given.values.Value.{fits_int}
use Rattle.dsde_language.specs.MeaningOperators.{nearest, is_zero, count_of, numbers_from}
use Rattle.dsde_language.specs.Typed.{Typed}
use Rattle.dsde_sound_expressions.specs.lemmas.Values.{typed-int, AllHave, all-cons, cons-all}

pub nearest-fits : (z : ℤ) → fits_int (nearest z) ≡ true
nearest-fits (pos n) = lt-ltb (min n (2 ^ 63 - 1)) (2 ^ 63) (omega arith)
nearest-fits (negsuc n) = lt-ltb (min n (2 ^ 63 - 1)) (2 ^ 63) (omega arith)

abs-fits : (z : ℤ) → unsigned_abs z < 2 ^ 63 → fits_int z ≡ true
abs-fits (pos n) h = lt-ltb n (2 ^ 63) h
abs-fits (negsuc n) h = lt-ltb n (2 ^ 63) (omega (arith, h))

fits-abs : (z : ℤ) → fits_int z ≡ true → unsigned_abs z ≤ 2 ^ 63
fits-abs (pos n) h = let e = ltb-true n (2 ^ 63) h in omega (arith, e)
fits-abs (negsuc n) h = let e = ltb-true n (2 ^ 63) h in omega (arith, e)

not-zero : (z : ℤ) → is_zero z ≡ false → 0 < unsigned_abs z
not-zero (pos zero) h = cc
not-zero (pos (suc n)) h = omega arith
not-zero (negsuc n) h = omega arith

pub rem-fits : (a b : ℤ) → fits_int b ≡ true → is_zero b ≡ false → fits_int (int_rem a b) ≡ true
rem-fits a b fits apart =
    let below : unsigned_abs (int_rem a b) < unsigned_abs b = rem_below a b (not-zero b apart) in
    let high : unsigned_abs b ≤ 2 ^ 63 = fits-abs b fits in
    abs-fits (int_rem a b) (omega (arith, below, high))

pub fits-if : (b : Bool) (x y : ℤ) → fits_int x ≡ true → fits_int y ≡ true → fits_int (if b then x else y) ≡ true
fits-if true x y h k = h
fits-if false x y h k = k

-- what lies between two numbers of 64 bits
between : (a z c : ℤ) → fits_int a ≡ true → fits_int c ≡ true → a ≤ℤ z → z ≤ℤ c → fits_int z ≡ true
between a (pos n) (pos c) h k p q = let e = ltb-true c (2 ^ 63) k in lt-ltb n (2 ^ 63) (omega (arith, ints, e, q))
between a (pos n) (negsuc c) h k p q = absurd (omega (arith, ints, q))
between (pos a) (negsuc n) c h k p q = absurd (omega (arith, ints, p))
between (negsuc a) (negsuc n) c h k p q = let e = ltb-true a (2 ^ 63) h in lt-ltb n (2 ^ 63) (omega (arith, ints, e, p))

from-count : (first end : ℤ) → (count : ℕ) → count_of (end -ℤ first) ≡ suc count → first +ℤ pos (suc count) ≡ end
from-count first end count h = by_case (end -ℤ first) refl h
  where
    by_case : (z : ℤ) → end -ℤ first ≡ z → count_of z ≡ suc count → first +ℤ pos (suc count) ≡ end
    by_case (pos n) e h = omega (arith, ints, e, h)
    by_case (negsuc n) e h = cc

module _ (types : Types) where
  numbers-fit : (count : ℕ) (first end : ℤ) → fits_int first ≡ true → fits_int end ≡ true → (first +ℤ pos count) ≤ℤ end → AllHave types ty.Int (numbers_from first count)
  numbers-fit zero first end h k p = refl
  numbers-fit (suc count) first end h k p =
      cons-all types ty.Int (value.Int first) (numbers_from (first +ℤ pos 1) count) (typed-int types first h)
      (numbers-fit count (first +ℤ pos 1) end (between first (first +ℤ pos 1) end h k (omega (arith, ints)) (omega (arith, ints, p))) k (omega (arith, ints, p)))

  pub range-fits : (count : ℕ) (first end : ℤ) → fits_int first ≡ true → fits_int end ≡ true → count_of (end -ℤ first) ≡ count → AllHave types ty.Int (numbers_from first count)
  range-fits zero first end h k e = refl
  range-fits (suc count) first end h k e = let is = from-count first end count e in numbers-fit (suc count) first end h k (omega (arith, ints, is))

  pub range-long : (count : ℕ) (first : ℤ) → length (numbers_from first count) ≡ count
  range-long zero first = refl
  range-long (suc count) first = let e = range-long count (first +ℤ pos 1) in omega (arith, e)

  pub all-take : (t : Ty) (n : ℕ) (xs : List Value) → AllHave types t xs → AllHave types t (take n xs)
  all-take t zero xs h = refl
  all-take t (suc n) [] h = refl
  all-take t (suc n) (x ∷ xs) h = let both = all-cons types t x xs h in cons-all types t x (take n xs) both.0 (all-take t n xs both.1)

  pub all-drop : (t : Ty) (n : ℕ) (xs : List Value) → AllHave types t xs → AllHave types t (drop n xs)
  all-drop t zero xs h = h
  all-drop t (suc n) [] h = refl
  all-drop t (suc n) (x ∷ xs) h = let both = all-cons types t x xs h in all-drop t n xs both.1

  pub all-set : (t : Ty) (n : ℕ) (xs : List Value) (v : Value) → AllHave types t xs → Typed types t v → AllHave types t (slice_set xs n v)
  all-set t zero [] v h k = refl
  all-set t (suc n) [] v h k = refl
  all-set t zero (x ∷ xs) v h k = let both = all-cons types t x xs h in cons-all types t v xs k both.1
  all-set t (suc n) (x ∷ xs) v h k = let both = all-cons types t x xs h in cons-all types t x (slice_set xs n v) both.0 (all-set t n xs v both.1 k)
