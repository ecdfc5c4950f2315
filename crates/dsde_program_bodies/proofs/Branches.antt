-- What is laid for a choice and for an arm of it: what the code puts together is what the definitions do.
use Rattle.std.proofs.Common.{◌≡◌, List, length, Some, None, sym, ap, ◌∙◌}
use Rattle.dsde_syntax.specs.declared.stmt.Stmt.{Stmt}
use Rattle.dsde_syntax.specs.declared.stmt.Stmt.TheVariants as stmt
use Rattle.dsde_syntax.specs.declared.stmt.Stmt.TheOpen.{Stmt-F}
use Rattle.dsde_syntax.specs.declared.stmt.Stmt.TheFolds.{fold-roll-Stmt}
use Rattle.dsde_syntax.specs.declared.stmt.StmtArm.{StmtArm}
use Rattle.dsde_values.specs.declared.types.Field.{Field}
use Rattle.dsde_language.specs.declared.known.Known.{Known}
use Rattle.dsde_language.specs.declared.node_ids.BlockId.{BlockId}
use Rattle.dsde_language.specs.declared.node_ids.ExprId.{ExprId}
use Rattle.dsde_language.specs.declared.act.Act.{Act}
use Rattle.dsde_language.specs.declared.act.Act.TheVariants as act
use Rattle.dsde_language.specs.declared.act.ActArm.{ActArm}
use Rattle.dsde_language.specs.declared.tables.Tables.{Tables}
use Rattle.dsde_language.specs.Names.{Scope}
use Rattle.dsde_program_expressions.specs.given.program_layout.LayPieces.{LaidPiece, Step, ◌>>=◌, give, braced}
use Rattle.dsde_program_expressions.specs.given.program_layout.LayStatements.{arm_step, stmt_step, lay_stmt, lay_stmts}
use Rattle.dsde_program_expressions.specs.given.program_layout.Lay.{lay}
use Rattle.dsde_language.specs.Expressions.{expr_id}
use Rattle.dsde_program_bodies.specs.Parts.{lay_arm, lay_arms}
use Rattle.dsde_program_bodies.proofs.Opened.{arm_opened}

-- the arms of a choice are laid, and then what stands behind `else`
module _ (known : Known) (outs : List Field) (own : Stmt) (arms : List StmtArm) (scope mid : Scope) (tables between : Tables) (found : List ActArm)
    (is-found : found ≡ (lay_arms known outs arms scope tables).own) (is-mid : mid ≡ (lay_arms known outs arms scope tables).scope) (is-between : between ≡ (lay_arms known outs arms scope tables).tables) where
  abbrev one : LaidPiece (List ActArm)
  one = lay_arms known outs arms scope tables

  module _ (body : List Stmt) (is : own ≡ stmt.If arms (Some body)) where
    if_some : lay_stmt known outs own scope tables ≡ (lay_arms known outs arms >>= (λ found. braced (lay_stmts known outs body) >>= (λ last. give (act.If found (Some last))))) scope tables
    if_some =
        ap (λ (i : Stmt). lay_stmt known outs i scope tables) (is ∙ sym (stmt.rolls-If arms (Some body)))
        ∙ ap (λ (step : Step Act). step scope tables) (fold-roll-Stmt (Step Act) (Step ActArm) (stmt_step known outs) (arm_step known) (Stmt-F.If arms (Some body)))

    last_is : braced (lay_stmts known outs body) mid between ≡ braced (lay_stmts known outs body) one.scope one.tables
    last_is = ap (λ (s : Scope). braced (lay_stmts known outs body) s between) is-mid ∙ ap (λ (t : Tables). braced (lay_stmts known outs body) one.scope t) is-between

    pub some_own : (last : BlockId) → last ≡ (braced (lay_stmts known outs body) mid between).own → act.If found (Some last) ≡ (lay_stmt known outs own scope tables).own
    some_own last is-last =
        ap (λ (f : List ActArm). act.If f (Some last)) is-found
        ∙ ap (λ (l : BlockId). act.If one.own (Some l)) (is-last ∙ ap (λ (l : LaidPiece BlockId). l.own) last_is)
        ∙ sym (ap (λ (l : LaidPiece Act). l.own) if_some)

    pub some_tables : (final : Tables) → final ≡ (braced (lay_stmts known outs body) mid between).tables → final ≡ (lay_stmt known outs own scope tables).tables
    some_tables final is-final = is-final ∙ ap (λ (l : LaidPiece BlockId). l.tables) last_is ∙ sym (ap (λ (l : LaidPiece Act). l.tables) if_some)

    pub some_seen : (after : Scope) → after ≡ mid → after ≡ (lay_stmt known outs own scope tables).scope
    some_seen after is-after = is-after ∙ is-mid ∙ sym (ap (λ (l : LaidPiece Act). l.scope) if_some)

  module _ (is : own ≡ stmt.If arms None) where
    if_none : lay_stmt known outs own scope tables ≡ (lay_arms known outs arms >>= (λ found. give (act.If found None))) scope tables
    if_none =
        ap (λ (i : Stmt). lay_stmt known outs i scope tables) (is ∙ sym (stmt.rolls-If arms None))
        ∙ ap (λ (step : Step Act). step scope tables) (fold-roll-Stmt (Step Act) (Step ActArm) (stmt_step known outs) (arm_step known) (Stmt-F.If arms None))

    pub none_own : act.If found None ≡ (lay_stmt known outs own scope tables).own
    none_own = ap (λ (f : List ActArm). act.If f None) is-found ∙ sym (ap (λ (l : LaidPiece Act). l.own) if_none)

    pub none_tables : between ≡ (lay_stmt known outs own scope tables).tables
    none_tables = is-between ∙ sym (ap (λ (l : LaidPiece Act). l.tables) if_none)

    pub none_seen : mid ≡ (lay_stmt known outs own scope tables).scope
    none_seen = is-mid ∙ sym (ap (λ (l : LaidPiece Act). l.scope) if_none)

-- a condition is laid, and then the block behind it
module _ (known : Known) (outs : List Field) (arm : StmtArm) (body : List Stmt) (scope mid : Scope) (tables between : Tables)
    (is-body : body ≡ arm.body) (is-mid : mid ≡ scope) (is-between : between ≡ record tables { nodes = (lay known arm.cond scope tables.nodes).table }) where
  abbrev behind : Tables
  behind = record tables { nodes = (lay known arm.cond scope tables.nodes).table }

  there_is : braced (lay_stmts known outs body) mid between ≡ braced (lay_stmts known outs arm.body) scope behind
  there_is =
      ap (λ (b : List Stmt). braced (lay_stmts known outs b) mid between) is-body
      ∙ ap (λ (s : Scope). braced (lay_stmts known outs arm.body) s between) is-mid
      ∙ ap (λ (t : Tables). braced (lay_stmts known outs arm.body) scope t) is-between

  abbrev the_arm : ExprId → BlockId → ActArm
  the_arm cond then = record { cond = cond; then = then }

  pub arm_own : (cond : ExprId) (then : BlockId) → cond ≡ expr_id (length tables.nodes) → then ≡ (braced (lay_stmts known outs body) mid between).own → the_arm cond then ≡ (lay_arm known outs arm scope tables).own
  arm_own cond then is-cond is-then =
      ap (λ (e : ExprId). the_arm e then) is-cond
      ∙ ap (the_arm (expr_id (length tables.nodes))) (is-then ∙ ap (λ (l : LaidPiece BlockId). l.own) there_is)
      ∙ sym (ap (λ (l : LaidPiece ActArm). l.own) (arm_opened known outs arm scope tables))

  pub arm_tables : (final : Tables) → final ≡ (braced (lay_stmts known outs body) mid between).tables → final ≡ (lay_arm known outs arm scope tables).tables
  arm_tables final is-final =
      is-final ∙ ap (λ (l : LaidPiece BlockId). l.tables) there_is ∙ sym (ap (λ (l : LaidPiece ActArm). l.tables) (arm_opened known outs arm scope tables))

  pub arm_seen : (after : Scope) → after ≡ mid → after ≡ (lay_arm known outs arm scope tables).scope
  arm_seen after is-after = is-after ∙ is-mid ∙ sym (ap (λ (l : LaidPiece ActArm). l.scope) (arm_opened known outs arm scope tables))
