use Rattle.std.proofs.Common.{◌≡◌, ◌∙◌, ℕ, List, [], Option, ap, subst, position, unwrap_or, IfOk}
use Rattle.std.specs.Str.{bytes_eq}
use Rattle.dsde_language.specs.Judge.{variants_at}
use Rattle.dsde_program_slots.proofs.numbers.variant_number.Goals as goal

-- the names that were looked at are those of the enum's variants
pub returns-in-Some : goal.returns-in-Some
returns-in-Some c =
    subst (λ (names : List (List ℕ)). IfOk c.word_number.result (λ number. number ≡ unwrap_or (position (λ own. bytes_eq own c.args.name.now) names) 0))
    (ap (λ (found : Option (List (List ℕ))). unwrap_or found []) (c.in-Some.ensures ∙ ap (variants_at c.args.known.now) c.in_ok-number.ensures))
    c.word_number.ensures
