-- The type of what comes of a translation.
use Rattle.std.specs.Prelude.{◌≡◌, ℕ, List, Option, is_some, IfSome}
use Rattle.dsde_language.specs.given.syntax.expr_Expr.{Expr}
use Rattle.dsde_language.specs.given.syntax.decl_Model.{Model}
use Rattle.dsde_values.specs.declared.types.Field.{Field}
use Rattle.dsde_values.specs.declared.types.Ty.{Ty}
use Rattle.dsde_values.specs.declared.value.Value.{Value}
use Rattle.dsde_language.specs.DeclaredModels.{types_of}
use Rattle.dsde_language.specs.Meaning.{Vars}
use Rattle.dsde_language.specs.Typed.{Typed, Fits, values_in}
use Rattle.dsde_sound_expressions.specs.Conditions.{IsVia, via_values}

-- What comes of any translation with this number, if something comes, has the type of the target's
-- port, which is that of what the option holds that its body gives.
abbrev pub HasTargetType : Model → ℕ → Option Value → Value → Option Value → Type 0
HasTargetType model number key own held =
    (slots : List Field) (body : Expr) (target : Ty) (vars : Vars)
    → IsVia model number (is_some key) slots body target → Fits (types_of model) vars slots → values_in vars ≡ via_values key own
    → IfSome held (λ value. Typed (types_of model) target value)
