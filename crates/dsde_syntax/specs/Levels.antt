-- The levels of the grammar: which nodes may stand where. The number of a level is above those of
-- the levels that it may consist of, so a node may stand at its own level and at each higher one.
use Rattle.std.specs.Prelude.{ℕ, nat_le, Bool, true, false, ◌&&◌, List, [], ◌∷◌, Option}
use Rattle.std.specs.List.{list_all}
use Rattle.std.specs.Option.{option_map_or}
use Rattle.dsde_words.specs.declared.key.Key.{Key}
use Rattle.dsde_words.specs.declared.key.Key.TheVariants as key
use Rattle.dsde_syntax.specs.declared.token.Sign.{Sign}
use Rattle.dsde_syntax.specs.declared.token.Sign.TheVariants as sign
use Rattle.dsde_syntax.specs.declared.expr.Expr.{Expr}
use Rattle.dsde_syntax.specs.declared.expr.Suffix.{Suffix}
use Rattle.dsde_syntax.specs.declared.expr.ExprArm.{ExprArm}
use Rattle.dsde_syntax.specs.declared.expr.FieldSet.{FieldSet}
use Rattle.dsde_syntax.specs.declared.expr.SignTail.{SignTail}
use Rattle.dsde_syntax.specs.declared.expr.Tail.{Tail}
use Rattle.dsde_syntax.specs.declared.expr.Expr.TheOpen.{Expr-F, Suffix-F, ExprArm-F, FieldSet-F, SignTail-F, Tail-F}
use Rattle.dsde_syntax.specs.declared.expr.Expr.TheFolds.{fold-Expr, fold-Suffix, fold-ExprArm, fold-FieldSet, fold-SignTail, fold-Tail}
use Rattle.dsde_syntax.specs.declared.stmt.Stmt.{Stmt}
use Rattle.dsde_syntax.specs.declared.stmt.StmtArm.{StmtArm}
use Rattle.dsde_syntax.specs.declared.stmt.Stmt.TheOpen.{Stmt-F, StmtArm-F}
use Rattle.dsde_syntax.specs.declared.stmt.Stmt.TheFolds.{fold-Stmt, fold-StmtArm}
use Rattle.dsde_syntax.specs.declared.item.Item.{Item}
use Rattle.dsde_syntax.specs.declared.item.ItemArm.{ItemArm}
use Rattle.dsde_syntax.specs.declared.item.Item.TheOpen.{Item-F, ItemArm-F}
use Rattle.dsde_syntax.specs.declared.item.Item.TheFolds.{fold-Item, fold-ItemArm}
use Rattle.dsde_syntax.specs.declared.item.Bracket.{Bracket}
use Rattle.dsde_syntax.specs.declared.item.End.{End}
use Rattle.dsde_syntax.specs.declared.item.EndPart.TheVariants as end_part
use Rattle.dsde_syntax.specs.declared.item.ViaPart.{ViaPart}
use Rattle.dsde_syntax.specs.declared.item.ViaKey.{ViaKey}
use Rattle.dsde_syntax.specs.declared.decl.Model.{Model}
use Rattle.dsde_syntax.specs.declared.decl.Decl.{Decl}
use Rattle.dsde_syntax.specs.declared.decl.Decl.TheVariants as decl
use Rattle.dsde_syntax.specs.declared.decl.StateDecl.{StateDecl}
use Rattle.dsde_syntax.specs.declared.decl.Body.{Body}
use Rattle.dsde_syntax.specs.declared.decl.Phase.{Phase}

abbrev pub prim_level : ℕ
prim_level = 0

abbrev pub post_level : ℕ
post_level = 1

abbrev pub neg_level : ℕ
neg_level = 2

abbrev pub mul_level : ℕ
mul_level = 3

abbrev pub sum_level : ℕ
sum_level = 4

abbrev pub cmp_level : ℕ
cmp_level = 5

abbrev pub not_level : ℕ
not_level = 6

abbrev pub and_level : ℕ
and_level = 7

abbrev pub or_level : ℕ
or_level = 8

abbrev pub expr_level : ℕ
expr_level = 9

-- the number of a node that stands nowhere
abbrev pub no_level : ℕ
no_level = 10

-- a level, for a node whose parts stand where they may
abbrev pub level_if : Bool → ℕ → ℕ
level_if true level = level
level_if false level = no_level

-- whether a node of a level may stand at another
abbrev pub stands_at : ℕ → ℕ → Bool
stands_at place level = nat_le level place

-- whether a list has a first item
abbrev pub has_first : {A : Type 0} → List A → Bool
has_first [] = false
has_first (first ∷ rest) = true

-- whether each of some tests held
abbrev pub all_hold : List Bool → Bool
all_hold = list_all (λ holds. holds)

-- whether what may be left out passes a test where it is written
abbrev pub if_written : {A : Type 0} → (A → Bool) → Option A → Bool
if_written passes written = option_map_or passes written true

-- "==" | "!=" | "<" | "<=" | ">" | ">="
abbrev pub is_comparison : Sign → Bool
is_comparison sign.EqualEqual = true
is_comparison sign.NotEqual = true
is_comparison sign.Less = true
is_comparison sign.LessEqual = true
is_comparison sign.Greater = true
is_comparison sign.GreaterEqual = true
is_comparison _ = false

-- "+" | "-" | "+|" | "-|" | "++"
abbrev pub is_sum_sign : Sign → Bool
is_sum_sign sign.Plus = true
is_sum_sign sign.Minus = true
is_sum_sign sign.PlusBar = true
is_sum_sign sign.MinusBar = true
is_sum_sign sign.PlusPlus = true
is_sum_sign _ = false

-- "*" | "/" | "%" | "*|"
abbrev pub is_mul_sign : Sign → Bool
is_mul_sign sign.Star = true
is_mul_sign sign.Slash = true
is_mul_sign sign.Percent = true
is_mul_sign sign.StarBar = true
is_mul_sign _ = false

-- "some" | "len" | "range" | "push" | "put" | "take" | "skip" | "min" | "max" | "is_some"
abbrev pub is_builtin : Key → Bool
is_builtin key.SomeOf = true
is_builtin key.Len = true
is_builtin key.Range = true
is_builtin key.Push = true
is_builtin key.Put = true
is_builtin key.Take = true
is_builtin key.Skip = true
is_builtin key.Min = true
is_builtin key.Max = true
is_builtin key.IsSome = true
is_builtin _ = false

-- whether a sign and the level of what stands behind it may follow in a chain
abbrev pub may_follow : (Sign → Bool) → ℕ → Sign × ℕ → Bool
may_follow is_operator place (which, level) = is_operator which && stands_at place level

-- the level of an expression: in the place of each part stands its level
abbrev pub level_step : Expr-F ℕ Bool Bool Bool (Sign × ℕ) ℕ → ℕ
-- expr = or ["??" or]
level_step (Expr-F.OrElse at left right) = level_if (stands_at or_level left && stands_at or_level right) expr_level
-- or = and {"or" and}
level_step (Expr-F.Or first rest) =
    level_if (stands_at and_level first && has_first rest && list_all (stands_at and_level) rest) or_level
-- and = not {"and" not}
level_step (Expr-F.And first rest) =
    level_if (stands_at not_level first && has_first rest && list_all (stands_at not_level) rest) and_level
-- not = ["not"] cmp
level_step (Expr-F.Not at part) = level_if (stands_at cmp_level part) not_level
-- cmp = sum [("==" | "!=" | "<" | "<=" | ">" | ">=") sum]
level_step (Expr-F.Compare which at left right) =
    level_if (is_comparison which && stands_at sum_level left && stands_at sum_level right) cmp_level
-- sum = mul {("+" | "-" | "+|" | "-|" | "++") mul}
level_step (Expr-F.Sum first rest) =
    level_if (stands_at mul_level first && has_first rest && list_all (may_follow is_sum_sign mul_level) rest) sum_level
-- mul = neg {("*" | "/" | "%" | "*|") neg}
level_step (Expr-F.Mul first rest) =
    level_if (stands_at neg_level first && has_first rest && list_all (may_follow is_mul_sign neg_level) rest) mul_level
-- neg = ["-"] post
level_step (Expr-F.Neg at part) = level_if (stands_at post_level part) neg_level
-- post = prim {"." id | "[" expr "]" | "!"}
level_step (Expr-F.Post first suffixes) =
    level_if (stands_at prim_level first && has_first suffixes && all_hold suffixes) post_level
level_step (Expr-F.Number at value) = prim_level
level_step (Expr-F.Truth at value) = prim_level
level_step (Expr-F.Elapsed at) = prim_level
level_step (Expr-F.Name id) = prim_level
level_step (Expr-F.Call name args) = level_if (list_all (stands_at expr_level) args) prim_level
level_step (Expr-F.Variant owner variant) = prim_level
level_step (Expr-F.New at owner fields) = level_if (has_first fields && all_hold fields) prim_level
level_step (Expr-F.NoneOf at ty) = prim_level
level_step (Expr-F.EmptyOf at ty) = prim_level
level_step (Expr-F.Builtin which at args) = level_if (is_builtin which && list_all (stands_at expr_level) args) prim_level
level_step (Expr-F.Paren at inner) = level_if (stands_at expr_level inner) prim_level
level_step (Expr-F.List at items) = level_if (has_first items && list_all (stands_at expr_level) items) prim_level
level_step (Expr-F.Each at name list cond value) =
    level_if (stands_at expr_level list && if_written (stands_at expr_level) cond && stands_at expr_level value) prim_level
level_step (Expr-F.If at arms other) = level_if (has_first arms && all_hold arms && stands_at expr_level other) prim_level

-- whether what a suffix, an arm or a field holds are expressions
abbrev pub suffix_level_step : Suffix-F ℕ Bool Bool Bool (Sign × ℕ) ℕ → Bool
suffix_level_step (Suffix-F.Field at name) = true
suffix_level_step (Suffix-F.Index at value) = stands_at expr_level value
suffix_level_step (Suffix-F.Unwrap at) = true

abbrev pub expr_arm_level_step : ExprArm-F ℕ Bool Bool Bool (Sign × ℕ) ℕ → Bool
expr_arm_level_step arm = stands_at expr_level arm.cond && stands_at expr_level arm.value

abbrev pub field_set_level_step : FieldSet-F ℕ Bool Bool Bool (Sign × ℕ) ℕ → Bool
field_set_level_step field = stands_at expr_level field.value

-- what follows in a chain has its sign and its level, or its level alone
abbrev pub sign_tail_level_step : SignTail-F ℕ Bool Bool Bool (Sign × ℕ) ℕ → Sign × ℕ
sign_tail_level_step tail = (tail.sign, tail.value)

abbrev pub tail_level_step : Tail-F ℕ Bool Bool Bool (Sign × ℕ) ℕ → ℕ
tail_level_step tail = tail.value

abbrev pub level_of : Expr → ℕ
level_of =
    fold-Expr ℕ Bool Bool Bool (Sign × ℕ) ℕ level_step suffix_level_step expr_arm_level_step field_set_level_step sign_tail_level_step tail_level_step

abbrev pub is_expr : Expr → Bool
is_expr expr = stands_at expr_level (level_of expr)

-- whether what a suffix, an arm or a field holds are expressions
abbrev pub is_suffix : Suffix → Bool
is_suffix =
    fold-Suffix ℕ Bool Bool Bool (Sign × ℕ) ℕ level_step suffix_level_step expr_arm_level_step field_set_level_step sign_tail_level_step tail_level_step

abbrev pub is_expr_arm : ExprArm → Bool
is_expr_arm =
    fold-ExprArm ℕ Bool Bool Bool (Sign × ℕ) ℕ level_step suffix_level_step expr_arm_level_step field_set_level_step sign_tail_level_step tail_level_step

abbrev pub is_field_set : FieldSet → Bool
is_field_set =
    fold-FieldSet ℕ Bool Bool Bool (Sign × ℕ) ℕ level_step suffix_level_step expr_arm_level_step field_set_level_step sign_tail_level_step tail_level_step

-- the sign and the level of what follows in a chain, or its level alone
abbrev pub sign_tail_level : SignTail → Sign × ℕ
sign_tail_level =
    fold-SignTail ℕ Bool Bool Bool (Sign × ℕ) ℕ level_step suffix_level_step expr_arm_level_step field_set_level_step sign_tail_level_step tail_level_step

abbrev pub tail_level : Tail → ℕ
tail_level =
    fold-Tail ℕ Bool Bool Bool (Sign × ℕ) ℕ level_step suffix_level_step expr_arm_level_step field_set_level_step sign_tail_level_step tail_level_step

-- whether a statement's parts are of the grammar
abbrev pub is_stmt_step : Stmt-F Bool Bool → Bool
is_stmt_step (Stmt-F.Let mutable name value) = is_expr value
is_stmt_step (Stmt-F.Set name value) = is_expr value
is_stmt_step (Stmt-F.Send port value) = is_expr value
is_stmt_step (Stmt-F.If arms other) = has_first arms && all_hold arms && if_written all_hold other
is_stmt_step (Stmt-F.For name list body) = is_expr list && all_hold body

abbrev pub is_stmt_arm_step : StmtArm-F Bool Bool → Bool
is_stmt_arm_step arm = is_expr arm.cond && all_hold arm.body

abbrev pub is_stmt : Stmt → Bool
is_stmt = fold-Stmt Bool Bool is_stmt_step is_stmt_arm_step

abbrev pub is_stmt_arm : StmtArm → Bool
is_stmt_arm = fold-StmtArm Bool Bool is_stmt_step is_stmt_arm_step

abbrev pub is_index : Option Bracket → Bool
is_index = if_written (λ (bracket : Bracket). is_expr bracket.value)

abbrev pub is_end : End → Bool
is_end end = elim end.part [ end_part.Net ↦ true | end_part.Exec ↦ true | end_part.Kid name index ↦ is_index index ]

abbrev pub is_via : ViaPart → Bool
is_via via = if_written (λ (own : ViaKey). is_expr own.value) via.key && is_expr via.body

-- whether an item's parts are of the grammar
abbrev pub is_item_step : Item-F Bool Bool → Bool
is_item_step (Item-F.Comp at name index soft model args) = is_index index && list_all is_expr args
is_item_step (Item-F.Link at source target via) = is_end source && is_end target && if_written is_via via
is_item_step (Item-F.Let name value) = is_expr value
is_item_step (Item-F.If arms other) = has_first arms && all_hold arms && if_written all_hold other
is_item_step (Item-F.For name list body) = is_expr list && all_hold body

abbrev pub is_item_arm_step : ItemArm-F Bool Bool → Bool
is_item_arm_step arm = is_expr arm.cond && all_hold arm.body

abbrev pub is_item : Item → Bool
is_item = fold-Item Bool Bool is_item_step is_item_arm_step

abbrev pub is_item_arm : ItemArm → Bool
is_item_arm = fold-ItemArm Bool Bool is_item_step is_item_arm_step

abbrev pub is_phase : Option Phase → Bool
is_phase = if_written (λ (phase : Phase). list_all is_stmt phase.stmts)

abbrev pub is_state : StateDecl → Bool
is_state state = is_expr state.value

abbrev pub is_body : Body → Bool
is_body body =
    list_all is_state body.states && is_expr body.advance
    && is_phase body.output && is_phase body.internal && is_phase body.external && is_phase body.confluent

-- whether a declaration's parts are of the grammar
abbrev pub is_decl : Decl → Bool
is_decl (decl.Enum name variants) = has_first variants
is_decl (decl.Rec name fields) = has_first fields
is_decl (decl.Func name params ty stmts value) = list_all is_stmt stmts && is_expr value
is_decl (decl.Atomic at name params body) = is_body body
is_decl (decl.Network at name params ports exec_at body items) = is_body body && list_all is_item items
is_decl (decl.Top at name args) = list_all is_expr args

-- whether the nodes of a model stand in the levels of the grammar
abbrev pub has_levels : Model → Bool
has_levels model = list_all is_decl model.decls
