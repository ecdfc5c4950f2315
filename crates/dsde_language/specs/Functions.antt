-- The functions of a model.
use Rattle.std.specs.Prelude.{◌==◌, if◌then◌else◌, List, [], ◌∷◌, ◌++◌, length, Err}
use Rattle.dsde_syntax.specs.declared.expr.Expr.{Expr}
use Rattle.dsde_syntax.specs.declared.stmt.Stmt.{Stmt}
use Rattle.dsde_syntax.specs.declared.decl.Decl.{Decl}
use Rattle.dsde_syntax.specs.declared.decl.Decl.TheVariants as decl
use Rattle.dsde_syntax.specs.declared.decl.Model.{Model}
use Rattle.dsde_syntax.specs.declared.decl.Typed.{Typed}
use Rattle.dsde_values.specs.declared.types.Field.{Field}
use Rattle.dsde_values.specs.declared.value.Value.{Value}
use Rattle.dsde_language.specs.declared.known.Known.{Known}
use Rattle.dsde_language.specs.DeclaredModels.{whole_of}
use Rattle.dsde_language.specs.Outcome.{Outcome, Stuck, ◌>>=◌}
use Rattle.dsde_language.specs.Flow.{lifted}
use Rattle.dsde_language.specs.Meaning.{Vars, Function, Mean, Walk, mean, block, scene}

-- parameters with their values
abbrev pub bound_params : List Typed → List Value → Vars
bound_params (param ∷ params) (own ∷ values) = record { name = param.name.name; value = own } ∷ bound_params params values
bound_params _ _ = []

-- A function's body runs with its parameters bound; its value is that of `return`.
abbrev pub body_of : Known → List Function → List Stmt → Expr → Vars → Outcome Value
body_of known before stmts value vars =
    lifted (block known before [] stmts (scene vars [])) >>= (λ after. mean known before value after.vars)

abbrev pub run_func : Known → List Function → List Typed → List Stmt → Expr → List Value → Outcome Value
run_func known before params stmts value values =
    if length values == length params then body_of known before stmts value (bound_params params values) else Err Stuck

-- a declaration, behind the functions before it
abbrev pub with_function : Known → List Function → Decl → List Function
with_function known before (decl.Func name params result stmts value) =
    before ++ record { name = name.name; run = run_func known before params stmts value } ∷ []
with_function known before _ = before

abbrev pub functions_from : Known → List Function → List Decl → List Function
functions_from known before [] = before
functions_from known before (own ∷ decls) = functions_from known (with_function known before own) decls

-- the functions of a model, in text order; each may call those before it
abbrev pub functions_of : Model → List Function
functions_of model = functions_from (whole_of model) [] model.decls

-- what an expression of a model means, and what the statements of a block of it do
abbrev pub mean_of : Model → Expr → Mean
mean_of model expr = mean (whole_of model) (functions_of model) expr

abbrev pub block_of : Model → List Field → List Stmt → Walk
block_of model outs stmts = block (whole_of model) (functions_of model) outs stmts
