-- What is laid for a statement or for an arm of `if`, by its parts.
use Rattle.std.proofs.Common.{◌≡◌, Bool, List, sym, ap, ◌∙◌, rules}
use Rattle.dsde_syntax.specs.declared.expr.Expr.{Expr}
use Rattle.dsde_syntax.specs.declared.id.Id.{Id}
use Rattle.dsde_syntax.specs.declared.stmt.Stmt.{Stmt}
use Rattle.dsde_syntax.specs.declared.stmt.Stmt.TheVariants as stmt
use Rattle.dsde_syntax.specs.declared.stmt.Stmt.TheOpen.{Stmt-F}
use Rattle.dsde_syntax.specs.declared.stmt.Stmt.TheFolds.{fold-roll-Stmt, the_lemmas}
use Rattle.dsde_syntax.specs.declared.stmt.StmtArm.{StmtArm}
use Rattle.dsde_values.specs.declared.types.Field.{Field}
use Rattle.dsde_language.specs.declared.known.Known.{Known}
use Rattle.dsde_language.specs.declared.act.Act.{Act}
use Rattle.dsde_language.specs.declared.act.ActArm.{ActArm}
use Rattle.dsde_language.specs.declared.tables.Tables.{Tables}
use Rattle.dsde_language.specs.Names.{Scope}
use Rattle.dsde_program_expressions.specs.given.program_layout.LayPieces.{Step}
use Rattle.dsde_program_expressions.specs.given.program_layout.LayStatements.{arm_step, lay_stmt, stmt_step}
use Rattle.dsde_program_bodies.specs.Parts.{lay_arm, lay_arm_by, lay_for}

pub stmt_let : (known : Known) (outs : List Field) (mutable : Bool) (name : Id) (value : Expr)
    → lay_stmt known outs (stmt.Let mutable name value) ≡ stmt_step known outs (Stmt-F.Let mutable name value)
stmt_let known outs mutable name value =
    ap (lay_stmt known outs) (sym (stmt.rolls-Let mutable name value))
    ∙ fold-roll-Stmt (Step Act) (Step ActArm) (stmt_step known outs) (arm_step known) (Stmt-F.Let mutable name value)

pub stmt_set : (known : Known) (outs : List Field) (name : Id) (value : Expr)
    → lay_stmt known outs (stmt.Set name value) ≡ stmt_step known outs (Stmt-F.Set name value)
stmt_set known outs name value =
    ap (lay_stmt known outs) (sym (stmt.rolls-Set name value))
    ∙ fold-roll-Stmt (Step Act) (Step ActArm) (stmt_step known outs) (arm_step known) (Stmt-F.Set name value)

pub stmt_send : (known : Known) (outs : List Field) (port : Id) (value : Expr)
    → lay_stmt known outs (stmt.Send port value) ≡ stmt_step known outs (Stmt-F.Send port value)
stmt_send known outs port value =
    ap (lay_stmt known outs) (sym (stmt.rolls-Send port value))
    ∙ fold-roll-Stmt (Step Act) (Step ActArm) (stmt_step known outs) (arm_step known) (Stmt-F.Send port value)

pub stmt_for : (known : Known) (outs : List Field) (name : Id) (list : Expr) (body : List Stmt) → lay_stmt known outs (stmt.For name list body) ≡ lay_for known outs name list body
stmt_for known outs name list body =
    ap (lay_stmt known outs) (sym (stmt.rolls-For name list body))
    ∙ fold-roll-Stmt (Step Act) (Step ActArm) (stmt_step known outs) (arm_step known) (Stmt-F.For name list body)

pub arm_opened : (known : Known) (outs : List Field) (arm : StmtArm) (scope : Scope) (tables : Tables)
    → lay_arm known outs arm scope tables ≡ lay_arm_by known outs arm scope tables
arm_opened known outs arm scope tables = search (rules, the_lemmas)
