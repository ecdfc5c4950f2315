-- How the arms of `if`, and what stands in a body, are laid behind tables: the parts of what
-- statements and bodies lay.
use Rattle.std.specs.Prelude.{ℕ, List, map}
use Rattle.dsde_syntax.specs.declared.expr.Expr.{Expr}
use Rattle.dsde_syntax.specs.declared.id.Id.{Id}
use Rattle.dsde_syntax.specs.declared.decl.Body.{Body}
use Rattle.dsde_syntax.specs.declared.stmt.Stmt.{Stmt}
use Rattle.dsde_syntax.specs.declared.stmt.StmtArm.{StmtArm}
use Rattle.dsde_syntax.specs.declared.stmt.Stmt.TheFolds.{fold-StmtArm}
use Rattle.dsde_values.specs.declared.types.Field.{Field}
use Rattle.dsde_language.specs.declared.known.Known.{Known}
use Rattle.dsde_language.specs.declared.act.Act.{Act}
use Rattle.dsde_language.specs.declared.act.Act.TheVariants as act
use Rattle.dsde_language.specs.declared.act.ActArm.{ActArm}
use Rattle.dsde_language.specs.declared.code.Code.{Code}
use Rattle.dsde_language.specs.declared.node_ids.ExprId.{ExprId}
use Rattle.dsde_language.specs.DeclaredModels.{state_fields}
use Rattle.dsde_language.specs.Statements.{phase_at}
use Rattle.dsde_language.specs.Names.{Scope, with_slots}
use Rattle.dsde_language.specs.Typing.{item_in}
use Rattle.dsde_program_expressions.specs.given.program_layout.Lay.{lay}
use Rattle.dsde_program_expressions.specs.given.program_layout.LayPieces.{Step, ◌>>=◌, all, binding, braced, expr, give, over}
use Rattle.dsde_program_expressions.specs.given.program_layout.LayStatements.{stmt_step, arm_step, lay_blocks, lay_states, lay_stmts}

-- a condition, and the block behind it
abbrev pub lay_arm : Known → List Field → StmtArm → Step ActArm
lay_arm known outs = fold-StmtArm (Step Act) (Step ActArm) (stmt_step known outs) (arm_step known)

-- the same by its parts
abbrev pub lay_arm_by : Known → List Field → StmtArm → Step ActArm
lay_arm_by known outs arm =
    expr (lay known arm.cond) (λ cond ty. braced (lay_stmts known outs arm.body) >>= (λ block. give (record { cond = cond; then = block })))

-- arms, one after another
abbrev pub lay_arms : Known → List Field → List StmtArm → Step (List ActArm)
lay_arms known outs arms = all (map (lay_arm known outs) arms)

-- `for`, whose name is seen in its braces
abbrev pub lay_for : Known → List Field → Id → Expr → List Stmt → Step Act
lay_for known outs name list body =
    expr (lay known list) (λ own ty.
    braced (binding name.name (item_in ty) (lay_stmts known outs body)) >>= (λ block. give (act.For own block)))

-- what stands in a body behind its state variables, over these names
abbrev pub lay_moves : Known → Scope → ℕ → Body → List ExprId → Step Code
lay_moves known scope at body inits =
    over scope (expr (lay known body.advance) (λ own ty. give own)) >>= (λ advance.
    lay_blocks known scope body >>= (λ blocks.
    give (record {
      start_at = at;
      advance_at = body.advance_at;
      external_at = phase_at body.external;
      confluent_at = phase_at body.confluent;
      inits = inits;
      advance = advance;
      output = blocks.output;
      internal = blocks.internal;
      external = blocks.external;
      confluent = blocks.confluent;
    })))

-- a body at this place, over the names of its parameters
abbrev pub lay_code : Known → Scope → ℕ → Body → Step Code
lay_code known scope at body =
    over scope (lay_states known body.states) >>= (λ inits.
    lay_moves known (with_slots scope (state_fields known body.states)) at body inits)
