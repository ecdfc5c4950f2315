-- The names of a new record that are not as many as its fields are not all of them in their order.
use Rattle.std.proofs.Common.{◌≡◌, ◌≢◌, ℕ, not, Err, false, List, [], ◌∷◌, length, map, refl, ap, arith}
use Rattle.dsde_syntax.specs.declared.expr.FieldSet.{FieldSet}
use Rattle.dsde_values.specs.declared.types.Field.{Field}
use Rattle.dsde_language.specs.declared.known.Around.{Around}
use Rattle.dsde_language.specs.declared.wrong.WrongKind.TheVariants.{WrongType}
use Rattle.dsde_language.specs.Steps.{unless}
use Rattle.dsde_language.specs.Judge.{in_order}
use Rattle.dsde_check_expressions.specs.Parts.{judge_set}

pub unlike : (around : Around) (fields : List Field) (sets : List FieldSet) → length fields ≢ length sets → in_order fields (map (judge_set around) sets) ≡ false
unlike around [] [] differ = grind arith
unlike around [] (set ∷ sets) differ = refl
unlike around (field ∷ fields) [] differ = refl
unlike around (field ∷ fields) (set ∷ sets) differ = grind (arith, unlike around fields sets)

pub refused : (around : Around) (fields : List Field) (sets : List FieldSet) (at : ℕ) → length fields ≢ length sets → unless (not (in_order fields (map (judge_set around) sets))) WrongType at ≡ Err (record { kind = WrongType; at = at })
refused around fields sets at differ = ap (λ ordered. unless (not ordered) WrongType at) (unlike around fields sets differ)
