use Rattle.std.proofs.Common.{◌≡◌, ◌≢◌, ℕ, ◌<◌, ◌^◌, Bool, true, false, List, [], ◌∷◌, ◌++◌, leb, refl, ◌∙◌, ap, rules, arith}
use Rattle.std.specs.Prelude.{Option, Some, IfNone, decimal}
use Rattle.std.specs.Bool.{then_some}
use Rattle.std.proofs.lemmas.Bool.Decides.{nat_tests}
use Rattle.dsde_values.specs.Path.{index_text, is_index}
use Rattle.dsde_values.proofs.Names.{no_index}
use Rattle.dsde_values.proofs.path.read_index.Goals as goal

too_large : (first last number : ℕ) (digits text : List ℕ) → text ≡ first ∷ digits ++ last ∷ [] → number < 2 ^ 64 → digits ≡ decimal number →
    (small : Bool) → small ≡ leb number 9223372036854775807 →
    IfNone (then_some small (Some number)) ((index : Option ℕ) → is_index index ≡ true → index_text index ≢ text)
too_large first last number digits text cut fits is true small = tt
too_large first last number digits text cut fits is false small =
    no_index first last number digits text cut fits (grind (arith, nat_tests)) is

pub returns-clause-none : goal.returns-clause-none
returns-clause-none c =
    rw c.then_some.ensures
    (too_large c.in-Some.open.now c.in_ok-close.close.now c.in_ok-index.index c.in_ok-close.digits.now c.args.text.now
    (c.in-Some.ensures.cases.0 ∙ ap (λ (rest : List ℕ). c.in-Some.open.now ∷ rest) c.in_ok-close.ensures.cases.0) (search rules) c.in_ok-index.ensures.some _ refl)
