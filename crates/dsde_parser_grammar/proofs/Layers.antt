-- The tokens and the levels of a node, by those of its parts.
use Rattle.std.proofs.Common.{◌≡◌, ℕ, Bool}
use Rattle.dsde_syntax.specs.declared.token.Sign.{Sign}
use Rattle.dsde_syntax.specs.declared.type_name.TypeName.{TypeName}
use Rattle.dsde_syntax.specs.declared.type_name.TypeName.TheOpen.{TypeName-F}
use Rattle.dsde_syntax.specs.declared.type_name.TypeName.TheViews.{roll-TypeName}
use Rattle.dsde_syntax.specs.declared.type_name.TypeName.TheFolds.{map-TypeName, fold-roll-TypeName}
use Rattle.dsde_syntax.specs.declared.expr.Expr.{Expr}
use Rattle.dsde_syntax.specs.declared.expr.Suffix.{Suffix}
use Rattle.dsde_syntax.specs.declared.expr.ExprArm.{ExprArm}
use Rattle.dsde_syntax.specs.declared.expr.FieldSet.{FieldSet}
use Rattle.dsde_syntax.specs.declared.expr.SignTail.{SignTail}
use Rattle.dsde_syntax.specs.declared.expr.Tail.{Tail}
use Rattle.dsde_syntax.specs.declared.expr.Expr.TheOpen.{Expr-F, Suffix-F, ExprArm-F, FieldSet-F, SignTail-F, Tail-F}
use Rattle.dsde_syntax.specs.declared.expr.Expr.TheViews.{roll-Expr, roll-Suffix, roll-ExprArm, roll-FieldSet, roll-SignTail, roll-Tail}
use Rattle.dsde_syntax.specs.declared.expr.Expr.TheFolds.{map-Expr, map-Suffix, map-ExprArm, map-FieldSet, map-SignTail, map-Tail, fold-roll-Expr, fold-roll-Suffix, fold-roll-ExprArm, fold-roll-FieldSet, fold-roll-SignTail, fold-roll-Tail}
use Rattle.dsde_syntax.specs.declared.stmt.Stmt.{Stmt}
use Rattle.dsde_syntax.specs.declared.stmt.StmtArm.{StmtArm}
use Rattle.dsde_syntax.specs.declared.stmt.Stmt.TheOpen.{Stmt-F, StmtArm-F}
use Rattle.dsde_syntax.specs.declared.stmt.Stmt.TheViews.{roll-Stmt, roll-StmtArm}
use Rattle.dsde_syntax.specs.declared.stmt.Stmt.TheFolds.{map-Stmt, map-StmtArm, fold-roll-Stmt, fold-roll-StmtArm}
use Rattle.dsde_syntax.specs.declared.item.Item.{Item}
use Rattle.dsde_syntax.specs.declared.item.ItemArm.{ItemArm}
use Rattle.dsde_syntax.specs.declared.item.Item.TheOpen.{Item-F, ItemArm-F}
use Rattle.dsde_syntax.specs.declared.item.Item.TheViews.{roll-Item, roll-ItemArm}
use Rattle.dsde_syntax.specs.declared.item.Item.TheFolds.{map-Item, map-ItemArm, fold-roll-Item, fold-roll-ItemArm}
use Rattle.dsde_syntax.specs.Grammar.{Tokens, type_step, type_tokens, expr_step, suffix_step, expr_arm_step, field_set_step, sign_tail_step, tail_step, expr_tokens, suffix_tokens, expr_arm_tokens, field_set_tokens, sign_tail_tokens, tail_tokens, stmt_step, stmt_arm_step, stmt_tokens, stmt_arm_tokens, item_step, item_arm_step, item_tokens, item_arm_tokens}
use Rattle.dsde_syntax.specs.Levels.{level_step, suffix_level_step, expr_arm_level_step, field_set_level_step, sign_tail_level_step, tail_level_step, level_of, is_stmt_step, is_stmt_arm_step, is_stmt, is_item_step, is_item_arm_step, is_item, is_expr_arm, is_field_set, is_item_arm, is_stmt_arm, is_suffix, sign_tail_level, tail_level}

-- whether a suffix, an arm or a field is one; the sign and the level of what follows in a chain
pub type-tokens : (x : TypeName-F TypeName) → type_tokens (roll-TypeName x) ≡ type_step (map-TypeName TypeName Tokens type_tokens x)
type-tokens x = fold-roll-TypeName Tokens type_step x

pub expr-tokens : (x : Expr-F Expr Suffix ExprArm FieldSet SignTail Tail) → expr_tokens (roll-Expr x) ≡ expr_step (map-Expr Expr Suffix ExprArm FieldSet SignTail Tail Tokens Tokens Tokens Tokens Tokens Tokens expr_tokens suffix_tokens expr_arm_tokens field_set_tokens sign_tail_tokens tail_tokens x)
expr-tokens x = fold-roll-Expr Tokens Tokens Tokens Tokens Tokens Tokens expr_step suffix_step expr_arm_step field_set_step sign_tail_step tail_step x

pub expr-level : (x : Expr-F Expr Suffix ExprArm FieldSet SignTail Tail) → level_of (roll-Expr x) ≡ level_step (map-Expr Expr Suffix ExprArm FieldSet SignTail Tail ℕ Bool Bool Bool (Sign × ℕ) ℕ level_of is_suffix is_expr_arm is_field_set sign_tail_level tail_level x)
expr-level x = fold-roll-Expr ℕ Bool Bool Bool (Sign × ℕ) ℕ level_step suffix_level_step expr_arm_level_step field_set_level_step sign_tail_level_step tail_level_step x

pub suffix-tokens : (x : Suffix-F Expr Suffix ExprArm FieldSet SignTail Tail) → suffix_tokens (roll-Suffix x) ≡ suffix_step (map-Suffix Expr Suffix ExprArm FieldSet SignTail Tail Tokens Tokens Tokens Tokens Tokens Tokens expr_tokens suffix_tokens expr_arm_tokens field_set_tokens sign_tail_tokens tail_tokens x)
suffix-tokens x = fold-roll-Suffix Tokens Tokens Tokens Tokens Tokens Tokens expr_step suffix_step expr_arm_step field_set_step sign_tail_step tail_step x

pub suffix-level : (x : Suffix-F Expr Suffix ExprArm FieldSet SignTail Tail) → is_suffix (roll-Suffix x) ≡ suffix_level_step (map-Suffix Expr Suffix ExprArm FieldSet SignTail Tail ℕ Bool Bool Bool (Sign × ℕ) ℕ level_of is_suffix is_expr_arm is_field_set sign_tail_level tail_level x)
suffix-level x = fold-roll-Suffix ℕ Bool Bool Bool (Sign × ℕ) ℕ level_step suffix_level_step expr_arm_level_step field_set_level_step sign_tail_level_step tail_level_step x

pub expr_arm-tokens : (x : ExprArm-F Expr Suffix ExprArm FieldSet SignTail Tail) → expr_arm_tokens (roll-ExprArm x) ≡ expr_arm_step (map-ExprArm Expr Suffix ExprArm FieldSet SignTail Tail Tokens Tokens Tokens Tokens Tokens Tokens expr_tokens suffix_tokens expr_arm_tokens field_set_tokens sign_tail_tokens tail_tokens x)
expr_arm-tokens x = fold-roll-ExprArm Tokens Tokens Tokens Tokens Tokens Tokens expr_step suffix_step expr_arm_step field_set_step sign_tail_step tail_step x

pub expr_arm-level : (x : ExprArm-F Expr Suffix ExprArm FieldSet SignTail Tail) → is_expr_arm (roll-ExprArm x) ≡ expr_arm_level_step (map-ExprArm Expr Suffix ExprArm FieldSet SignTail Tail ℕ Bool Bool Bool (Sign × ℕ) ℕ level_of is_suffix is_expr_arm is_field_set sign_tail_level tail_level x)
expr_arm-level x = fold-roll-ExprArm ℕ Bool Bool Bool (Sign × ℕ) ℕ level_step suffix_level_step expr_arm_level_step field_set_level_step sign_tail_level_step tail_level_step x

pub field_set-tokens : (x : FieldSet-F Expr Suffix ExprArm FieldSet SignTail Tail) → field_set_tokens (roll-FieldSet x) ≡ field_set_step (map-FieldSet Expr Suffix ExprArm FieldSet SignTail Tail Tokens Tokens Tokens Tokens Tokens Tokens expr_tokens suffix_tokens expr_arm_tokens field_set_tokens sign_tail_tokens tail_tokens x)
field_set-tokens x = fold-roll-FieldSet Tokens Tokens Tokens Tokens Tokens Tokens expr_step suffix_step expr_arm_step field_set_step sign_tail_step tail_step x

pub field_set-level : (x : FieldSet-F Expr Suffix ExprArm FieldSet SignTail Tail) → is_field_set (roll-FieldSet x) ≡ field_set_level_step (map-FieldSet Expr Suffix ExprArm FieldSet SignTail Tail ℕ Bool Bool Bool (Sign × ℕ) ℕ level_of is_suffix is_expr_arm is_field_set sign_tail_level tail_level x)
field_set-level x = fold-roll-FieldSet ℕ Bool Bool Bool (Sign × ℕ) ℕ level_step suffix_level_step expr_arm_level_step field_set_level_step sign_tail_level_step tail_level_step x

pub sign_tail-tokens : (x : SignTail-F Expr Suffix ExprArm FieldSet SignTail Tail) → sign_tail_tokens (roll-SignTail x) ≡ sign_tail_step (map-SignTail Expr Suffix ExprArm FieldSet SignTail Tail Tokens Tokens Tokens Tokens Tokens Tokens expr_tokens suffix_tokens expr_arm_tokens field_set_tokens sign_tail_tokens tail_tokens x)
sign_tail-tokens x = fold-roll-SignTail Tokens Tokens Tokens Tokens Tokens Tokens expr_step suffix_step expr_arm_step field_set_step sign_tail_step tail_step x

pub sign_tail-level : (x : SignTail-F Expr Suffix ExprArm FieldSet SignTail Tail) → sign_tail_level (roll-SignTail x) ≡ sign_tail_level_step (map-SignTail Expr Suffix ExprArm FieldSet SignTail Tail ℕ Bool Bool Bool (Sign × ℕ) ℕ level_of is_suffix is_expr_arm is_field_set sign_tail_level tail_level x)
sign_tail-level x = fold-roll-SignTail ℕ Bool Bool Bool (Sign × ℕ) ℕ level_step suffix_level_step expr_arm_level_step field_set_level_step sign_tail_level_step tail_level_step x

pub tail-tokens : (x : Tail-F Expr Suffix ExprArm FieldSet SignTail Tail) → tail_tokens (roll-Tail x) ≡ tail_step (map-Tail Expr Suffix ExprArm FieldSet SignTail Tail Tokens Tokens Tokens Tokens Tokens Tokens expr_tokens suffix_tokens expr_arm_tokens field_set_tokens sign_tail_tokens tail_tokens x)
tail-tokens x = fold-roll-Tail Tokens Tokens Tokens Tokens Tokens Tokens expr_step suffix_step expr_arm_step field_set_step sign_tail_step tail_step x

pub tail-level : (x : Tail-F Expr Suffix ExprArm FieldSet SignTail Tail) → tail_level (roll-Tail x) ≡ tail_level_step (map-Tail Expr Suffix ExprArm FieldSet SignTail Tail ℕ Bool Bool Bool (Sign × ℕ) ℕ level_of is_suffix is_expr_arm is_field_set sign_tail_level tail_level x)
tail-level x = fold-roll-Tail ℕ Bool Bool Bool (Sign × ℕ) ℕ level_step suffix_level_step expr_arm_level_step field_set_level_step sign_tail_level_step tail_level_step x

pub stmt-tokens : (x : Stmt-F Stmt StmtArm) → stmt_tokens (roll-Stmt x) ≡ stmt_step (map-Stmt Stmt StmtArm Tokens Tokens stmt_tokens stmt_arm_tokens x)
stmt-tokens x = fold-roll-Stmt Tokens Tokens stmt_step stmt_arm_step x

pub stmt-level : (x : Stmt-F Stmt StmtArm) → is_stmt (roll-Stmt x) ≡ is_stmt_step (map-Stmt Stmt StmtArm Bool Bool is_stmt is_stmt_arm x)
stmt-level x = fold-roll-Stmt Bool Bool is_stmt_step is_stmt_arm_step x

pub stmt_arm-tokens : (x : StmtArm-F Stmt StmtArm) → stmt_arm_tokens (roll-StmtArm x) ≡ stmt_arm_step (map-StmtArm Stmt StmtArm Tokens Tokens stmt_tokens stmt_arm_tokens x)
stmt_arm-tokens x = fold-roll-StmtArm Tokens Tokens stmt_step stmt_arm_step x

pub stmt_arm-level : (x : StmtArm-F Stmt StmtArm) → is_stmt_arm (roll-StmtArm x) ≡ is_stmt_arm_step (map-StmtArm Stmt StmtArm Bool Bool is_stmt is_stmt_arm x)
stmt_arm-level x = fold-roll-StmtArm Bool Bool is_stmt_step is_stmt_arm_step x

pub item-tokens : (x : Item-F Item ItemArm) → item_tokens (roll-Item x) ≡ item_step (map-Item Item ItemArm Tokens Tokens item_tokens item_arm_tokens x)
item-tokens x = fold-roll-Item Tokens Tokens item_step item_arm_step x

pub item-level : (x : Item-F Item ItemArm) → is_item (roll-Item x) ≡ is_item_step (map-Item Item ItemArm Bool Bool is_item is_item_arm x)
item-level x = fold-roll-Item Bool Bool is_item_step is_item_arm_step x

pub item_arm-tokens : (x : ItemArm-F Item ItemArm) → item_arm_tokens (roll-ItemArm x) ≡ item_arm_step (map-ItemArm Item ItemArm Tokens Tokens item_tokens item_arm_tokens x)
item_arm-tokens x = fold-roll-ItemArm Tokens Tokens item_step item_arm_step x

pub item_arm-level : (x : ItemArm-F Item ItemArm) → is_item_arm (roll-ItemArm x) ≡ is_item_arm_step (map-ItemArm Item ItemArm Bool Bool is_item is_item_arm x)
item_arm-level x = fold-roll-ItemArm Bool Bool is_item_step is_item_arm_step x
