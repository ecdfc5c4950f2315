-- Whole numbers from one on, before another, one after the other.
use Rattle.std.proofs.Common.{◌≡◌, ℕ, zero, suc, ◌-◌, ℤ, pos, negsuc, ◌+ℤ◌, ◌-ℤ◌, ◌<ℤ◌, List, [], ◌∷◌, ◌++◌, sym, ◌∙◌, ap, subst, arith, append_assoc}
use Rattle.std.specs.Prelude.{true, int_lt, FitsSigned}
use Rattle.std.specs.Int.{w64}
use Rattle.std.proofs.Math.Dec.{T}
use Rattle.std.proofs.lemmas.Bool.{false≢true}
use Rattle.std.proofs.lemmas.Int.{ints}
use borrow.Author.Tests.{ltb-true}
use borrow.Author.Differences.{up, down}
use Rattle.dsde_values.specs.declared.value.Value.{Value}
use Rattle.dsde_values.specs.declared.value.Value.TheVariants as value
use Rattle.dsde_language.specs.MeaningOperators.{count_of, numbers_from}

count-is : (z : ℤ) → count_of z ≡ up z - down z
count-is (pos n) = omega arith
count-is (negsuc n) = omega arith

count-more : (a b : ℤ) → a <ℤ b → count_of (b -ℤ a) ≡ suc (count_of (b -ℤ (a +ℤ pos 1)))
count-more a b before = omega (arith, ints, before, count-is (b -ℤ a), count-is (b -ℤ (a +ℤ pos 1)))

-- one number more
numbers-more : (done : List Value) (a b : ℤ) → a <ℤ b → (done ++ value.Int a ∷ []) ++ numbers_from (a +ℤ pos 1) (count_of (b -ℤ (a +ℤ pos 1))) ≡ done ++ numbers_from a (count_of (b -ℤ a))
numbers-more done a b before =
    append_assoc done (value.Int a ∷ []) (numbers_from (a +ℤ pos 1) (count_of (b -ℤ (a +ℤ pos 1))))
    ∙ ap (λ (count : ℕ). done ++ numbers_from a count) (sym (count-more a b before))

-- The number behind one that stands before another has 64 signed bits too.
pub next-fits : (a b : ℤ) → int_lt a b ≡ true → FitsSigned w64 a → FitsSigned w64 b → FitsSigned w64 (a +ℤ pos 1)
next-fits (pos n) (pos m) before own other = record { sfits = omega (arith, other.sfits, ltb-true n m before) }
next-fits (pos n) (negsuc m) before own other = absurd (false≢true before)
next-fits (negsuc zero) b before own other = record { sfits = omega (arith, own.sfits) }
next-fits (negsuc (suc n)) b before own other =
    let next : negsuc n ≡ negsuc (suc n) +ℤ pos 1 = omega (arith, ints) in
    subst (FitsSigned w64) next (record { sfits = omega (arith, own.sfits) })

is_before : (a b : ℤ) → int_lt a b ≡ true → a <ℤ b
is_before a b before = record { lt = subst T (sym before) tt }

-- The list goes on with the next number.
pub numbers-step : (a b next : ℤ) (done now all : List Value) → int_lt a b ≡ true → next ≡ a +ℤ pos 1 → now ≡ done ++ value.Int a ∷ []
    → done ++ numbers_from a (count_of (b -ℤ a)) ≡ all → now ++ numbers_from next (count_of (b -ℤ next)) ≡ all
numbers-step a b next done now all before is grown goes =
    ap (λ (list : List Value). list ++ numbers_from next (count_of (b -ℤ next))) grown
    ∙ ap (λ (number : ℤ). (done ++ value.Int a ∷ []) ++ numbers_from number (count_of (b -ℤ number))) is
    ∙ numbers-more done a b (is_before a b before) ∙ goes
