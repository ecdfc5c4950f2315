-- Where the functions of a model stand: the statements of each over its parameters, and its value over
-- what they leave.
use Rattle.std.specs.Prelude.{◌≡◌, ℕ, ◌<◌, false, List, [], ◌∷◌, ◌++◌, length, Some, slice_get}
use Rattle.dsde_language.specs.given.syntax.type_name_TypeName.{TypeName}
use Rattle.dsde_language.specs.given.syntax.expr_Expr.{Expr}
use Rattle.dsde_language.specs.given.syntax.stmt_Stmt.{Stmt}
use Rattle.dsde_language.specs.given.syntax.decl_Decl.{Decl}
use Rattle.dsde_language.specs.given.syntax.decl_Decl_TheVariants as decl
use Rattle.dsde_language.specs.given.syntax.decl_Model.{Model}
use Rattle.dsde_language.specs.given.syntax.decl_Typed.{Typed}
use Rattle.dsde_language.specs.given.values.types_Field.{Field}
use Rattle.dsde_language.specs.RuleTables.{by_text}
use Rattle.dsde_language.specs.Right.{IsRight}
use Rattle.dsde_language.specs.declared.code.FnCode.{FnCode}
use Rattle.dsde_language.specs.Names.{with_slots}
use Rattle.dsde_language.specs.DeclaredModels.{typed_fields, whole_of}
use Rattle.dsde_language.specs.NodeModels.{resolved}
use Rattle.dsde_sound_expressions.specs.Places.{IsBlock, IsExpr, piece_of}

-- a function as it is written
pub record FuncText : Type 0 where
  pub params : List Typed
  pub result : TypeName
  pub stmts : List Stmt
  pub value : Expr

abbrev pub func_in : Decl → List FuncText
func_in (decl.Func name params result stmts value) = record { params = params; result = result; stmts = stmts; value = value } ∷ []
func_in _ = []

-- the functions of a file, in text order: each has its index here as its number
abbrev pub funcs_of : List Decl → List FuncText
funcs_of [] = []
funcs_of (own ∷ decls) = func_in own ++ funcs_of decls

-- the slots of a function's parameters
abbrev pub func_slots : Model → FuncText → List Field
func_slots model text = with_slots [] (typed_fields (whole_of model) text.params)

-- The statements of a function stand as a block over its parameters, and its value, of the type of its
-- result, over the names behind them.
pub record FuncStands (model : Model) (text : FuncText) (code : FnCode) : Type 0 where
  pub block : IsBlock model (func_slots model text) [] code.block.0 text.stmts
  pub value : IsExpr model false (piece_of model (func_slots model text) [] text.stmts block.next).scope code.value.0 text.value (by_text (whole_of model).words text.result)

-- the function with a number
pub record HasFunc (model : Model) (number : ℕ) : Type 0 where
  pub text : FuncText
  pub found : slice_get (funcs_of model.decls) number ≡ Some text
  pub code : FnCode
  pub coded : slice_get (resolved model).own.functions number ≡ Some code
  pub stands : FuncStands model text code

abbrev pub FunctionsStand : Type 0
FunctionsStand = (model : Model) (number : ℕ) → IsRight model → number < length (resolved model).own.functions → HasFunc model number
