-- What may be evaluated, run and translated, and what comes of it.
use Rattle.std.specs.Prelude.{◌≡◌, ◌≢◌, ℕ, Bool, true, List, [], ◌∷◌, ◌++◌, Option, Some, None, is_some, Result, Ok, Err, slice_get}
use Rattle.dsde_language.specs.given.syntax.expr_Expr.{Expr}
use Rattle.dsde_language.specs.given.syntax.stmt_Stmt.{Stmt}
use Rattle.dsde_language.specs.given.syntax.decl_Model.{Model}
use Rattle.dsde_language.specs.given.values.arrival_Item.{Item}
use Rattle.dsde_language.specs.given.values.types_Field.{Field}
use Rattle.dsde_language.specs.given.values.types_Ty.{Ty}
use Rattle.dsde_language.specs.given.values.types_Ty_TheVariants as ty
use Rattle.dsde_language.specs.given.values.value_Value.{Value}
use Rattle.dsde_language.specs.given.values.value_Value_TheVariants as value
use Rattle.dsde_language.specs.given.faults.end_EvalEnd.{EvalEnd}
use Rattle.dsde_language.specs.declared.code.ViaCode.{ViaCode}
use Rattle.dsde_language.specs.DeclaredModels.{types_of}
use Rattle.dsde_language.specs.NodeModels.{resolved}
use Rattle.dsde_language.specs.Outcome.{Stuck, Gives, option_of}
use Rattle.dsde_language.specs.Meaning.{Vars, scene}
use Rattle.dsde_language.specs.Functions.{mean_of, block_of}
use Rattle.dsde_language.specs.MeaningTables.{Flows}
use Rattle.dsde_language.specs.Typed.{Typed, Sound, Fits, AllSent, Lands, values_in, seen}
use Rattle.dsde_sound_expressions.specs.Places.{IsExpr, IsBlock, piece_of}

-- Some expression has this number, and these are values of what it sees.
pub record CanEval (model : Model) (number : ℕ) (values : List Value) : Type 0 where
  pub total : Bool
  pub slots : List Field
  pub expr : Expr
  pub ty : Ty
  pub vars : Vars
  pub is : IsExpr model total slots number expr ty
  pub fits : Fits (types_of model) vars slots
  pub are : values_in vars ≡ values

-- What any expression with this number means, over any variables that it sees whose values these are: a
-- value of its type, or where it need not be total a fault.
pub record Came (model : Model) (number : ℕ) (values : List Value) (result : Result Value EvalEnd) : Type 0 where
  pub gives : (total : Bool) (slots : List Field) (expr : Expr) (ty : Ty) (vars : Vars)
      → IsExpr model total slots number expr ty → Fits (types_of model) vars slots → values_in vars ≡ values
      → Gives (mean_of model expr vars) result
  pub sound : (total : Bool) (slots : List Field) (expr : Expr) (ty : Ty) (vars : Vars)
      → IsExpr model total slots number expr ty → Fits (types_of model) vars slots → values_in vars ≡ values
      → Sound total (Typed (types_of model) ty) (mean_of model expr vars)

-- Some block has this number, these are values of what it sees, and what was sent fits its ports.
pub record CanRun (model : Model) (number : ℕ) (values : List Value) (sends : List Item) : Type 0 where
  pub slots : List Field
  pub outs : List Field
  pub stmts : List Stmt
  pub vars : Vars
  pub is : IsBlock model slots outs number stmts
  pub fits : Fits (types_of model) vars slots
  pub are : values_in vars ≡ values
  pub sent : AllSent (types_of model) outs sends

-- Slots that begin with these.
pub record Grown (slots scope : List Field) : Type 0 where
  pub more : List Field
  pub is : scope ≡ slots ++ more

-- What the statements of any block with this number do, over any variables that it sees whose values
-- these are: they leave variables that begin with those that there were, of their types, and what is
-- sent fits its ports.
pub record Ran (model : Model) (number : ℕ) (values : List Value) (sends : List Item) (result : Result (Unit {0}) EvalEnd) (after : List Value) (sent : List Item) : Type 0 where
  pub flows : (slots outs : List Field) (stmts : List Stmt) (vars : Vars)
      → IsBlock model slots outs number stmts → Fits (types_of model) vars slots → values_in vars ≡ values
      → AllSent (types_of model) outs sends → Flows (seen (block_of model outs stmts (scene vars sends))) result after sent
  pub lands : (slots outs : List Field) (stmts : List Stmt) (vars : Vars)
      → (is : IsBlock model slots outs number stmts) → Fits (types_of model) vars slots → values_in vars ≡ values
      → AllSent (types_of model) outs sends
      → Lands (types_of model) outs (piece_of model slots outs stmts is.next).scope (block_of model outs stmts (scene vars sends))
  pub grows : (slots outs : List Field) (stmts : List Stmt)
      → (is : IsBlock model slots outs number stmts) → Grown slots (piece_of model slots outs stmts is.next).scope

-- what a translation sees: its value, and its key if it has one
abbrev pub via_values : Option Value → Value → List Value
via_values None own = own ∷ []
via_values (Some key) own = own ∷ key ∷ []

-- A translation with this number, with a key or without, whose body this is: it always has a value,
-- which is an option.
pub record IsVia (model : Model) (number : ℕ) (key : Bool) (slots : List Field) (body : Expr) (inner : Ty) : Type 0 where
  pub code : ViaCode
  pub coded : slice_get (resolved model).vias number ≡ Some code
  pub keyed : code.key ≡ key
  pub is : IsExpr model true slots code.body.0 body (ty.Opt inner)

pub record CanTranslate (model : Model) (number : ℕ) (key : Option Value) (own : Value) : Type 0 where
  pub slots : List Field
  pub body : Expr
  pub ty : Ty
  pub vars : Vars
  pub is : IsVia model number (is_some key) slots body ty
  pub fits : Fits (types_of model) vars slots
  pub are : values_in vars ≡ via_values key own

-- an option as it is held
abbrev pub option_value : Option Value → Value
option_value None = value.Nothing
option_value (Some inner) = value.Some inner

-- What any translation with this number comes to.
abbrev pub Translated : Model → ℕ → Option Value → Value → Option Value → Type 0
Translated model number key own held =
    (slots : List Field) (body : Expr) (ty : Ty) (vars : Vars)
    → IsVia model number (is_some key) slots body ty → Fits (types_of model) vars slots → values_in vars ≡ via_values key own
    → mean_of model body vars ≡ Ok (option_value held)

-- A value is an option.
abbrev pub IsOption : Value → Type 0
IsOption own = option_of own ≢ Err Stuck
