-- A state, and when it is left.
use Rattle.std.proofs.Common.{◌≡◌, ◌≢◌, ℕ, List, refl, sym, ◌∙◌, subst, arith, codes, decimal}
use Rattle.std.specs.Prelude.{Some, None}
use Rattle.std.specs.Str.Parse.{AllDigits}
use Rattle.std.proofs.lemmas.Fmt.{decimal_is_IsNumeral}
use Rattle.std.proofs.lemmas.Str.Parse.{digit_from_value}
use Rattle.dsde_values.specs.declared.when.When.{When}
use Rattle.dsde_values.specs.declared.when.When.TheVariants.{At, Never}
use Rattle.dsde_trace_words.specs.Words.{Inverts, IsCount, IsWhen, when_text}

-- a number is no word
not_never : (number : ℕ) → IsCount number → codes "never" ≢ decimal number
not_never number fits same =
    let all : AllDigits 10 (codes "never") = subst (AllDigits 10) (sym same) (decimal_is_IsNumeral number fits).0.1 in
    let first = digit_from_value 110 all.0 in
    omega arith

pub when-never : (text : List ℕ) → text ≡ codes "never" → Inverts IsWhen when_text text (Some Never)
when-never text is = record { is = (tt, is); only = only }
  where
    only : (one : When) → IsWhen one → text ≡ when_text one → Some Never ≡ Some one
    only (At time) fits same = absurd (not_never time fits (sym is ∙ same))
    only Never fits same = refl

pub when-none : (text : List ℕ) → text ≢ codes "never" → Inverts IsCount decimal text None → Inverts IsWhen when_text text None
when-none text other inverts = record { is = tt; only = only }
  where
    only : (one : When) → IsWhen one → text ≡ when_text one → None ≡ Some one
    only (At time) fits same = let two = inverts.only time fits same in absurd (cc two)
    only Never fits same = absurd (other same)
