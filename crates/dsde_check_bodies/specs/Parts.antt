-- Parts of the rules of statements and functions that have a function of their own.
use Rattle.std.specs.Prelude.{ℕ, List, map, Result, Ok}
use Rattle.dsde_syntax.specs.declared.id.Id.{Id}
use Rattle.dsde_syntax.specs.declared.type_name.TypeName.{TypeName}
use Rattle.dsde_syntax.specs.declared.expr.Expr.{Expr}
use Rattle.dsde_syntax.specs.declared.stmt.Stmt.{Stmt}
use Rattle.dsde_values.specs.declared.types.Ty.{Ty}
use Rattle.dsde_language.specs.declared.known.Around.{Around}
use Rattle.dsde_language.specs.declared.seen.Binding.{Binding}
use Rattle.dsde_language.specs.declared.signatures.Func.{Func}
use Rattle.dsde_language.specs.declared.wrong.Wrong.{Wrong}
use Rattle.dsde_language.specs.Steps.{◌>>=◌, above, within}
use Rattle.dsde_language.specs.Types.{wanted}
use Rattle.dsde_language.specs.Judge.{Scope, Judge, type_of}
use Rattle.dsde_language.specs.Blocks.{Walk, walked, func_height}

-- a value of this type, which a statement takes
abbrev pub taken : Ty → Judge → Walk
taken own value scope = value scope >>= (λ seen. wanted own seen >>= (λ _. walked scope seen.height))

-- the types of names that are seen
abbrev pub types_of : Scope → List Ty
types_of = map (λ (bound : Binding). bound.ty)

-- the function, with parameters and a result of these types, whose statements have this height
abbrev pub func_made : Id → List Ty → Ty → ℕ → Result Func Wrong
func_made name params own height =
    within name.at height >>= (λ _. Ok (record { name = name.name; params = params; result = own; height = above height }))

-- the function over its parameters, with a result of this type
abbrev pub func_giving : Around → Id → Ty → List Stmt → Expr → Scope → Result Func Wrong
func_giving around name own stmts value scope =
    func_height around stmts value own scope >>= (λ height. func_made name (types_of scope) own height)

-- the function over its parameters
abbrev pub func_over : Around → Id → TypeName → List Stmt → Expr → Scope → Result Func Wrong
func_over around name result stmts value scope =
    type_of around.known result >>= (λ own. func_giving around name own.ty stmts value scope)
