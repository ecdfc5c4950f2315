-- Where expressions and blocks of a model stand: in its file and in its tables.
use Rattle.std.specs.Prelude.{◌≡◌, ℕ, ◌+◌, ◌≤◌, Bool, true, List, [], ◌∷◌, ◌++◌, map, Result, Ok}
use Rattle.std.specs.List.{list_all}
use Rattle.dsde_language.specs.given.syntax.expr_Expr.{Expr}
use Rattle.dsde_language.specs.given.syntax.stmt_Stmt.{Stmt}
use Rattle.dsde_language.specs.given.syntax.decl_Decl.{Decl}
use Rattle.dsde_language.specs.given.syntax.decl_Model.{Model}
use Rattle.dsde_language.specs.given.values.types_Field.{Field}
use Rattle.dsde_language.specs.given.values.types_Ty.{Ty}
use Rattle.dsde_language.specs.declared.known.Around.{Around}
use Rattle.dsde_language.specs.declared.known.Known.{Known}
use Rattle.dsde_language.specs.declared.seen.Seen.{Seen}
use Rattle.dsde_language.specs.declared.signatures.Port.{Port}
use Rattle.dsde_language.specs.declared.wrong.Wrong.{Wrong}
use Rattle.dsde_language.specs.Steps.{◌>>=◌}
use Rattle.dsde_language.specs.RuleTables.{known_of}
use Rattle.dsde_language.specs.Judge.{judge}
use Rattle.dsde_language.specs.Judge as rules
use Rattle.dsde_language.specs.Blocks.{Passed, walk, walk_all}
use Rattle.dsde_language.specs.Rules.{decl_rule}
use Rattle.dsde_language.specs.Expressions.{resolve}
use Rattle.dsde_language.specs.Pieces.{Block, Next, Piece}
use Rattle.dsde_language.specs.Statements.{resolve_stmts}
use Rattle.dsde_language.specs.DeclaredModels.{whole_of}
use Rattle.dsde_language.specs.NodeModels.{resolved}
use Rattle.dsde_language.specs.Proper.{is_proper, is_proper_stmt}
use Rattle.dsde_language.specs.Scopes.{Stands, Sees, AreOuts}

-- what is known behind declarations
abbrev pub known_behind : Known → List Decl → Result Known Wrong
known_behind known [] = Ok known
known_behind known (own ∷ decls) = decl_rule known own >>= (λ more. known_behind more decls)

-- What is known at a place of a model's file: behind some of its declarations.
pub record KnownAt (model : Model) (known : Known) : Type 0 where
  pub before : List Decl
  pub rest : List Decl
  pub split : model.decls ≡ before ++ rest
  pub is : known_behind (known_of model.decls) before ≡ Ok known

-- An expression of a model in which nothing is wrong, over these slots: it has this type, and stands at
-- this number. Where it is total it always has a value.
pub record IsExpr (model : Model) (total : Bool) (slots : List Field) (number : ℕ) (expr : Expr) (ty : Ty) : Type 0 where
  pub around : Around
  pub scope : rules.Scope
  pub found : Seen
  pub known : KnownAt model around.known
  pub is_total : around.is_total ≡ total
  pub proper : is_proper expr ≡ true
  pub judged : judge around expr scope ≡ Ok found
  pub of : found.ty ≡ ty
  pub low : found.height ≤ 512
  pub sees : Sees around.has_elapsed scope slots
  pub stands : Stands (resolved model).nodes number ((resolve (whole_of model) expr).nodes slots number)

-- the statements of a block, from these numbers on
abbrev pub piece_of : Model → List Field → List Field → List Stmt → Next → Piece Block
piece_of model slots outs stmts next = resolve_stmts (whole_of model) outs stmts slots next

-- A block of a model in which nothing is wrong, over these slots and out ports, that stands at this number.
pub record IsBlock (model : Model) (slots outs : List Field) (number : ℕ) (stmts : List Stmt) : Type 0 where
  pub around : Around
  pub ports : List Port
  pub scope : rules.Scope
  pub passed : Passed
  pub next : Next
  pub known : KnownAt model around.known
  pub proper : list_all is_proper_stmt stmts ≡ true
  pub judged : walk_all (map (walk around ports) stmts) 0 scope ≡ Ok passed
  pub low : passed.height ≤ 512
  pub sees : Sees around.has_elapsed scope slots
  pub sends : AreOuts ports outs
  pub behind : next.block ≡ number + 1
  pub nodes : Stands (resolved model).nodes next.node (piece_of model slots outs stmts next).nodes
  pub blocks : Stands (resolved model).blocks number ((piece_of model slots outs stmts next).own ∷ (piece_of model slots outs stmts next).blocks)
