-- How many conditions nest in the parts of a model: the most that are open at one place, if none is
-- open before it.
use Rattle.std.proofs.Common.{ℕ, ◌+◌, List, [], ◌∷◌, map, Option, Some, None}
use Rattle.std.specs.Prelude.{max}
use Rattle.dsde_syntax.specs.declared.expr.Expr.{Expr}
use Rattle.dsde_syntax.specs.declared.stmt.Stmt.{Stmt}
use Rattle.dsde_syntax.specs.declared.stmt.StmtArm.{StmtArm}
use Rattle.dsde_syntax.specs.declared.stmt.Stmt.TheOpen.{Stmt-F, StmtArm-F}
use Rattle.dsde_syntax.specs.declared.stmt.Stmt.TheFolds.{fold-Stmt, fold-StmtArm}
use Rattle.dsde_syntax.specs.declared.item.Item.{Item}
use Rattle.dsde_syntax.specs.declared.item.ItemArm.{ItemArm}
use Rattle.dsde_syntax.specs.declared.item.Item.TheOpen.{Item-F, ItemArm-F}
use Rattle.dsde_syntax.specs.declared.item.Item.TheFolds.{fold-Item, fold-ItemArm}
use Rattle.dsde_syntax.specs.declared.item.Bracket.{Bracket}
use Rattle.dsde_syntax.specs.declared.item.EndPart.{EndPart}
use Rattle.dsde_syntax.specs.declared.item.EndPart.TheVariants as end_part
use Rattle.dsde_syntax.specs.declared.item.ViaKey.{ViaKey}
use Rattle.dsde_syntax.specs.declared.item.ViaPart.{ViaPart}
use Rattle.dsde_syntax.specs.declared.decl.Body.{Body}
use Rattle.dsde_syntax.specs.declared.decl.Decl.{Decl}
use Rattle.dsde_syntax.specs.declared.decl.Decl.TheVariants as decl
use Rattle.dsde_syntax.specs.declared.decl.Phase.{Phase}
use Rattle.dsde_syntax.specs.declared.decl.StateDecl.{StateDecl}
use Rattle.dsde_syntax.specs.declared.expr.Suffix.{Suffix}
use Rattle.dsde_syntax.specs.declared.expr.ExprArm.{ExprArm}
use Rattle.dsde_syntax.specs.declared.expr.FieldSet.{FieldSet}
use Rattle.dsde_syntax.specs.declared.expr.SignTail.{SignTail}
use Rattle.dsde_syntax.specs.declared.expr.Tail.{Tail}
use Rattle.dsde_syntax.specs.declared.expr.Expr.TheOpen.{Expr-F, Suffix-F, ExprArm-F, FieldSet-F, SignTail-F, Tail-F}
use Rattle.dsde_syntax.specs.declared.expr.Expr.TheFolds.{fold-Expr, fold-Suffix, fold-ExprArm, fold-FieldSet, fold-SignTail, fold-Tail}

-- the greatest number
abbrev pub most : List ℕ → ℕ
most [] = 0
most (n ∷ more) = max n (most more)

-- the condition of a comprehension, which may be left out
abbrev pub test_nest : Option ℕ → ℕ
test_nest None = 0
test_nest (Some cond) = cond + 1

abbrev pub nest_step : Expr-F ℕ ℕ ℕ ℕ ℕ ℕ → ℕ
nest_step (Expr-F.OrElse at left right) = max left right
nest_step (Expr-F.Or first rest) = max first (most rest)
nest_step (Expr-F.And first rest) = max first (most rest)
nest_step (Expr-F.Not at part) = part
nest_step (Expr-F.Compare which at left right) = max left right
nest_step (Expr-F.Sum first rest) = max first (most rest)
nest_step (Expr-F.Mul first rest) = max first (most rest)
nest_step (Expr-F.Neg at part) = part
nest_step (Expr-F.Post first suffixes) = max first (most suffixes)
nest_step (Expr-F.Number at value) = 0
nest_step (Expr-F.Truth at value) = 0
nest_step (Expr-F.Elapsed at) = 0
nest_step (Expr-F.Name id) = 0
nest_step (Expr-F.Call name args) = most args
nest_step (Expr-F.Variant owner variant) = 0
nest_step (Expr-F.New at owner fields) = most fields
nest_step (Expr-F.NoneOf at ty) = 0
nest_step (Expr-F.EmptyOf at ty) = 0
nest_step (Expr-F.Builtin which at args) = most args
nest_step (Expr-F.Paren at inner) = inner
nest_step (Expr-F.List at items) = most items
nest_step (Expr-F.Each at name list cond value) = max list (max (test_nest cond) value)
nest_step (Expr-F.If at arms other) = max (most arms) other

abbrev pub suffix_nest_step : Suffix-F ℕ ℕ ℕ ℕ ℕ ℕ → ℕ
suffix_nest_step (Suffix-F.Field at name) = 0
suffix_nest_step (Suffix-F.Index at value) = value
suffix_nest_step (Suffix-F.Unwrap at) = 0

abbrev pub arm_nest_step : ExprArm-F ℕ ℕ ℕ ℕ ℕ ℕ → ℕ
arm_nest_step arm = max (arm.cond + 1) arm.value

abbrev pub set_nest_step : FieldSet-F ℕ ℕ ℕ ℕ ℕ ℕ → ℕ
set_nest_step set = set.value

abbrev pub sign_tail_nest_step : SignTail-F ℕ ℕ ℕ ℕ ℕ ℕ → ℕ
sign_tail_nest_step tail = tail.value

abbrev pub tail_nest_step : Tail-F ℕ ℕ ℕ ℕ ℕ ℕ → ℕ
tail_nest_step tail = tail.value

abbrev pub nest : Expr → ℕ
nest = fold-Expr ℕ ℕ ℕ ℕ ℕ ℕ nest_step suffix_nest_step arm_nest_step set_nest_step sign_tail_nest_step tail_nest_step

abbrev pub suffix_nest : Suffix → ℕ
suffix_nest = fold-Suffix ℕ ℕ ℕ ℕ ℕ ℕ nest_step suffix_nest_step arm_nest_step set_nest_step sign_tail_nest_step tail_nest_step

abbrev pub arm_nest : ExprArm → ℕ
arm_nest = fold-ExprArm ℕ ℕ ℕ ℕ ℕ ℕ nest_step suffix_nest_step arm_nest_step set_nest_step sign_tail_nest_step tail_nest_step

abbrev pub set_nest : FieldSet → ℕ
set_nest = fold-FieldSet ℕ ℕ ℕ ℕ ℕ ℕ nest_step suffix_nest_step arm_nest_step set_nest_step sign_tail_nest_step tail_nest_step

abbrev pub sign_tail_nest : SignTail → ℕ
sign_tail_nest = fold-SignTail ℕ ℕ ℕ ℕ ℕ ℕ nest_step suffix_nest_step arm_nest_step set_nest_step sign_tail_nest_step tail_nest_step

abbrev pub tail_nest : Tail → ℕ
tail_nest = fold-Tail ℕ ℕ ℕ ℕ ℕ ℕ nest_step suffix_nest_step arm_nest_step set_nest_step sign_tail_nest_step tail_nest_step

-- the block of `else`, which may be left out
abbrev pub else_nest : Option (List ℕ) → ℕ
else_nest None = 0
else_nest (Some body) = most body

abbrev pub stmt_nest_step : Stmt-F ℕ ℕ → ℕ
stmt_nest_step (Stmt-F.Let mutable name value) = nest value
stmt_nest_step (Stmt-F.Set name value) = nest value
stmt_nest_step (Stmt-F.Send port value) = nest value
stmt_nest_step (Stmt-F.If arms other) = max (most arms) (else_nest other)
stmt_nest_step (Stmt-F.For name list body) = max (nest list) (most body)

abbrev pub stmt_arm_nest_step : StmtArm-F ℕ ℕ → ℕ
stmt_arm_nest_step arm = max (nest arm.cond + 1) (most arm.body)

abbrev pub stmt_nest : Stmt → ℕ
stmt_nest = fold-Stmt ℕ ℕ stmt_nest_step stmt_arm_nest_step

abbrev pub stmt_arm_nest : StmtArm → ℕ
stmt_arm_nest = fold-StmtArm ℕ ℕ stmt_nest_step stmt_arm_nest_step

abbrev pub index_nest : Option Bracket → ℕ
index_nest None = 0
index_nest (Some index) = nest index.value

abbrev pub end_part_nest : EndPart → ℕ
end_part_nest end_part.Net = 0
end_part_nest end_part.Exec = 0
end_part_nest (end_part.Kid name index) = index_nest index

abbrev pub key_nest : Option ViaKey → ℕ
key_nest None = 0
key_nest (Some key) = nest key.value

abbrev pub via_nest : Option ViaPart → ℕ
via_nest None = 0
via_nest (Some via) = max (key_nest via.key) (nest via.body)

abbrev pub item_nest_step : Item-F ℕ ℕ → ℕ
item_nest_step (Item-F.Comp at name index soft model args) = max (index_nest index) (most (map nest args))
item_nest_step (Item-F.Link at source target via) = max (end_part_nest source.part) (max (end_part_nest target.part) (via_nest via))
item_nest_step (Item-F.Let name value) = nest value
item_nest_step (Item-F.If arms other) = max (most arms) (else_nest other)
item_nest_step (Item-F.For name list body) = max (nest list) (most body)

abbrev pub item_arm_nest_step : ItemArm-F ℕ ℕ → ℕ
item_arm_nest_step arm = max (nest arm.cond + 1) (most arm.body)

abbrev pub item_nest : Item → ℕ
item_nest = fold-Item ℕ ℕ item_nest_step item_arm_nest_step

abbrev pub item_arm_nest : ItemArm → ℕ
item_arm_nest = fold-ItemArm ℕ ℕ item_nest_step item_arm_nest_step

abbrev pub state_nest : StateDecl → ℕ
state_nest state = nest state.value

abbrev pub phase_nest : Option Phase → ℕ
phase_nest None = 0
phase_nest (Some phase) = most (map stmt_nest phase.stmts)

abbrev pub body_nest : Body → ℕ
body_nest body =
    max (most (map state_nest body.states)) (max (nest body.advance) (max (phase_nest body.output) (max (phase_nest body.internal) (max (phase_nest body.external) (phase_nest body.confluent)))))

abbrev pub decl_nest : Decl → ℕ
decl_nest (decl.Enum name variants) = 0
decl_nest (decl.Rec name fields) = 0
decl_nest (decl.Func name params ty stmts value) = max (most (map stmt_nest stmts)) (nest value)
decl_nest (decl.Atomic at name params body) = body_nest body
decl_nest (decl.Network at name params ports exec_at body items) = max (body_nest body) (most (map item_nest items))
decl_nest (decl.Top at name args) = most (map nest args)
