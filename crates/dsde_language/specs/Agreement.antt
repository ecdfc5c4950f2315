-- That an expression in which nothing is wrong has its type, and means in tables what it means over names.
use Rattle.std.specs.Prelude.{◌≡◌, ℕ, ◌≤◌, ◌++◌, Bool, true, List, map, Ok}
use Rattle.std.specs.List.{list_all}
use Rattle.dsde_syntax.specs.declared.expr.Expr.{Expr}
use Rattle.dsde_syntax.specs.declared.stmt.Stmt.{Stmt}
use Rattle.dsde_values.specs.declared.types.Field.{Field}
use Rattle.dsde_values.specs.declared.types.Types.{Types}
use Rattle.dsde_language.specs.declared.known.Around.{Around}
use Rattle.dsde_language.specs.declared.known.Known.{Known}
use Rattle.dsde_language.specs.declared.seen.Seen.{Seen}
use Rattle.dsde_language.specs.declared.signatures.Port.{Port}
use Rattle.dsde_language.specs.Judge.{Judge, judge}
use Rattle.dsde_language.specs.Judge as rules
use Rattle.dsde_language.specs.Blocks.{Passed, walk_all}
use Rattle.dsde_language.specs.Blocks as rule_blocks
use Rattle.dsde_language.specs.Expressions.{Resolved, resolve, expr_id}
use Rattle.dsde_language.specs.Pieces.{Block, Next, Piece}
use Rattle.dsde_language.specs.Statements.{resolve_stmts}
use Rattle.dsde_language.specs.Meaning.{Vars, Mean, Function, Scene, Walk, mean, block}
use Rattle.dsde_language.specs.MeaningTables.{Coded, means_in, acts_flow}
use Rattle.dsde_language.specs.Proper.{is_proper, is_proper_stmt}
use Rattle.dsde_language.specs.Typed.{Typed, Sound, Fits, AllSent, Lands, values_in, shown, seen}
use Rattle.dsde_language.specs.Scopes.{Stands, Sees, AreOuts, Within, Serve, Calls}

-- An expression by what is judged of it, what it is resolved to, and what it means.
pub record Agrees (types : Types) (coded : Coded) (has_elapsed total : Bool) (judged : Judge) (resolved : Resolved) (meant : Mean) : Type 0 where
  pub ty : (scope : rules.Scope) (slots : List Field) (found : Seen)
      → judged scope ≡ Ok found → Sees has_elapsed scope slots → resolved.ty slots ≡ found.ty
  pub sound : (scope : rules.Scope) (slots : List Field) (found : Seen) (vars : Vars)
      → judged scope ≡ Ok found → Sees has_elapsed scope slots → Fits types vars slots → Sound total (Typed types found.ty) (meant vars)
  pub reads : (scope : rules.Scope) (slots : List Field) (found : Seen) (vars : Vars) (start depth : ℕ)
      → judged scope ≡ Ok found → Sees has_elapsed scope slots → Fits types vars slots
      → Stands coded.nodes start (resolved.nodes slots start) → found.height ≤ 512 → found.height ≤ depth
      → (means_in coded depth).part (expr_id start) (values_in vars) ≡ meant vars

abbrev pub ExpressionsAgree : Type 0
ExpressionsAgree =
    (types : Types) (coded : Coded) (whole : Known) (functions : List Function) (around : Around) (expr : Expr)
    → Within types around.known whole → Serve types around.known functions → Calls types coded around.known whole functions
    → is_proper expr ≡ true
    → Agrees types coded around.has_elapsed around.is_total (judge around expr) (resolve whole expr) (mean whole functions expr)

-- The statements of a block by what is judged of them, what they are resolved to, and what they do.
pub record BlockAgrees (types : Types) (coded : Coded) (has_elapsed : Bool) (outs : List Field) (passed : Passed) (slots : List Field) (next : Next) (piece : Piece Block) (does : Walk) : Type 0 where
  pub more : List Field
  pub grows : piece.scope ≡ slots ++ more
  pub sees : Sees has_elapsed passed.scope piece.scope
  pub lands : (before : Scene) → Fits types before.vars slots → AllSent types outs before.sends → Lands types outs piece.scope (does before)
  pub runs : (before : Scene) (depth : ℕ) → Fits types before.vars slots → AllSent types outs before.sends
      → Stands coded.nodes next.node piece.nodes → Stands coded.blocks next.block piece.blocks → passed.height ≤ 512 → passed.height ≤ depth
      → acts_flow (means_in coded depth) piece.own (shown before) ≡ seen (does before)

abbrev pub BlocksAgree : Type 0
BlocksAgree =
    (types : Types) (coded : Coded) (whole : Known) (functions : List Function) (around : Around)
    (ports : List Port) (outs : List Field) (stmts : List Stmt) (scope : rules.Scope) (passed : Passed) (slots : List Field) (next : Next)
    → Within types around.known whole → Serve types around.known functions → Calls types coded around.known whole functions
    → AreOuts ports outs → list_all is_proper_stmt stmts ≡ true
    → walk_all (map (rule_blocks.walk around ports) stmts) 0 scope ≡ Ok passed → Sees around.has_elapsed scope slots
    → BlockAgrees types coded around.has_elapsed outs passed slots next (resolve_stmts whole outs stmts slots next) (block whole functions outs stmts)
