-- Each expression passes.
use Rattle.std.proofs.Common.{◌≡◌, ℕ, Bool, true, map, Some, None, sym, subst}
use Rattle.dsde_syntax.specs.declared.token.Sign.{Sign}
use Rattle.dsde_syntax.specs.declared.expr.Expr.{Expr}
use Rattle.dsde_syntax.specs.declared.expr.Suffix.{Suffix}
use Rattle.dsde_syntax.specs.declared.expr.ExprArm.{ExprArm}
use Rattle.dsde_syntax.specs.declared.expr.FieldSet.{FieldSet}
use Rattle.dsde_syntax.specs.declared.expr.SignTail.{SignTail}
use Rattle.dsde_syntax.specs.declared.expr.Tail.{Tail}
use Rattle.dsde_syntax.specs.declared.expr.Expr.TheOpen.{Expr-F, Suffix-F, ExprArm-F, FieldSet-F, SignTail-F, Tail-F}
use Rattle.dsde_syntax.specs.declared.expr.Expr.TheViews.{roll-Expr, roll-Suffix, roll-ExprArm, roll-FieldSet, roll-SignTail, roll-Tail}
use Rattle.dsde_syntax.specs.declared.expr.Expr.TheFolds.{map-Expr, map-Suffix, map-ExprArm, map-FieldSet, map-SignTail, map-Tail, fold-roll-Expr, fold-roll-Suffix, fold-roll-ExprArm, fold-roll-FieldSet, fold-roll-SignTail, fold-roll-Tail, ind-Expr}
use Rattle.dsde_syntax.specs.Grammar.{Tokens, expr_step, suffix_step, expr_arm_step, field_set_step, sign_tail_step, tail_step, expr_tokens, suffix_tokens, expr_arm_tokens, field_set_tokens, sign_tail_tokens, tail_tokens}
use Rattle.dsde_syntax.specs.Levels.{level_step, suffix_level_step, expr_arm_level_step, field_set_level_step, sign_tail_level_step, tail_level_step, level_of, is_expr, is_expr_arm, is_field_set, is_suffix, sign_tail_level, tail_level}
use Rattle.dsde_parser_grammar.proofs.LevelPasses.{ExprPasses, WholeExpr, whole}
use Rattle.dsde_parser_grammar.proofs.OperatorPasses.{SuffixPasses, SignTailPasses, TailPasses, SuffixClaim, SignTailClaim, TailClaim, or_else-passes, or-passes, and-passes, not-passes, compare-passes, sum-passes, mul-passes, neg-passes, post-passes, sign_tail-passes, tail-passes}
use Rattle.dsde_parser_grammar.proofs.PrimPasses.{ArmPasses, FieldPasses, ExprClaim, ArmClaim, FieldClaim, field_suffix, index_suffix, unwrap_suffix, field_set-passes, expr_arm-passes, number-passes, truth-passes, elapsed-passes, name-passes, call-passes, variant-passes, new-passes, none-passes, empty-passes, builtin-passes, paren-passes, row-passes, each-passes, choice-passes}

-- a claim of a value made of its layer, by what the steps give there
pub roll-claim : {A B : Type 0} (P : A → B → Type 0) (a a' : A) (b b' : B) → a ≡ a' → b ≡ b' → P a' b' → P a b
roll-claim P a a' b b' ha hb own = subst (λ own. P own b) (sym ha) (subst (λ own. P a' own) (sym hb) own)

expr-roll : (x : Expr-F Expr Suffix ExprArm FieldSet SignTail Tail) → ExprPasses (expr_step (map-Expr Expr Suffix ExprArm FieldSet SignTail Tail Tokens Tokens Tokens Tokens Tokens Tokens expr_tokens suffix_tokens expr_arm_tokens field_set_tokens sign_tail_tokens tail_tokens x)) (level_step (map-Expr Expr Suffix ExprArm FieldSet SignTail Tail ℕ Bool Bool Bool (Sign × ℕ) ℕ level_of is_suffix is_expr_arm is_field_set sign_tail_level tail_level x)) → ExprClaim (roll-Expr x)
expr-roll x own = roll-claim ExprPasses _ _ _ _
    (fold-roll-Expr Tokens Tokens Tokens Tokens Tokens Tokens expr_step suffix_step expr_arm_step field_set_step sign_tail_step tail_step x)
    (fold-roll-Expr ℕ Bool Bool Bool (Sign × ℕ) ℕ level_step suffix_level_step expr_arm_level_step field_set_level_step sign_tail_level_step tail_level_step x) own

suffix-roll : (x : Suffix-F Expr Suffix ExprArm FieldSet SignTail Tail) → SuffixPasses (suffix_step (map-Suffix Expr Suffix ExprArm FieldSet SignTail Tail Tokens Tokens Tokens Tokens Tokens Tokens expr_tokens suffix_tokens expr_arm_tokens field_set_tokens sign_tail_tokens tail_tokens x)) (suffix_level_step (map-Suffix Expr Suffix ExprArm FieldSet SignTail Tail ℕ Bool Bool Bool (Sign × ℕ) ℕ level_of is_suffix is_expr_arm is_field_set sign_tail_level tail_level x)) → SuffixClaim (roll-Suffix x)
suffix-roll x own = roll-claim SuffixPasses _ _ _ _
    (fold-roll-Suffix Tokens Tokens Tokens Tokens Tokens Tokens expr_step suffix_step expr_arm_step field_set_step sign_tail_step tail_step x)
    (fold-roll-Suffix ℕ Bool Bool Bool (Sign × ℕ) ℕ level_step suffix_level_step expr_arm_level_step field_set_level_step sign_tail_level_step tail_level_step x) own

expr_arm-roll : (x : ExprArm-F Expr Suffix ExprArm FieldSet SignTail Tail) → ArmPasses (expr_arm_step (map-ExprArm Expr Suffix ExprArm FieldSet SignTail Tail Tokens Tokens Tokens Tokens Tokens Tokens expr_tokens suffix_tokens expr_arm_tokens field_set_tokens sign_tail_tokens tail_tokens x)) (expr_arm_level_step (map-ExprArm Expr Suffix ExprArm FieldSet SignTail Tail ℕ Bool Bool Bool (Sign × ℕ) ℕ level_of is_suffix is_expr_arm is_field_set sign_tail_level tail_level x)) → ArmClaim (roll-ExprArm x)
expr_arm-roll x own = roll-claim ArmPasses _ _ _ _
    (fold-roll-ExprArm Tokens Tokens Tokens Tokens Tokens Tokens expr_step suffix_step expr_arm_step field_set_step sign_tail_step tail_step x)
    (fold-roll-ExprArm ℕ Bool Bool Bool (Sign × ℕ) ℕ level_step suffix_level_step expr_arm_level_step field_set_level_step sign_tail_level_step tail_level_step x) own

field_set-roll : (x : FieldSet-F Expr Suffix ExprArm FieldSet SignTail Tail) → FieldPasses (field_set_step (map-FieldSet Expr Suffix ExprArm FieldSet SignTail Tail Tokens Tokens Tokens Tokens Tokens Tokens expr_tokens suffix_tokens expr_arm_tokens field_set_tokens sign_tail_tokens tail_tokens x)) (field_set_level_step (map-FieldSet Expr Suffix ExprArm FieldSet SignTail Tail ℕ Bool Bool Bool (Sign × ℕ) ℕ level_of is_suffix is_expr_arm is_field_set sign_tail_level tail_level x)) → FieldClaim (roll-FieldSet x)
field_set-roll x own = roll-claim FieldPasses _ _ _ _
    (fold-roll-FieldSet Tokens Tokens Tokens Tokens Tokens Tokens expr_step suffix_step expr_arm_step field_set_step sign_tail_step tail_step x)
    (fold-roll-FieldSet ℕ Bool Bool Bool (Sign × ℕ) ℕ level_step suffix_level_step expr_arm_level_step field_set_level_step sign_tail_level_step tail_level_step x) own

sign_tail-roll : (x : SignTail-F Expr Suffix ExprArm FieldSet SignTail Tail) → SignTailPasses (sign_tail_step (map-SignTail Expr Suffix ExprArm FieldSet SignTail Tail Tokens Tokens Tokens Tokens Tokens Tokens expr_tokens suffix_tokens expr_arm_tokens field_set_tokens sign_tail_tokens tail_tokens x)) (sign_tail_level_step (map-SignTail Expr Suffix ExprArm FieldSet SignTail Tail ℕ Bool Bool Bool (Sign × ℕ) ℕ level_of is_suffix is_expr_arm is_field_set sign_tail_level tail_level x)) → SignTailClaim (roll-SignTail x)
sign_tail-roll x own = roll-claim SignTailPasses _ _ _ _
    (fold-roll-SignTail Tokens Tokens Tokens Tokens Tokens Tokens expr_step suffix_step expr_arm_step field_set_step sign_tail_step tail_step x)
    (fold-roll-SignTail ℕ Bool Bool Bool (Sign × ℕ) ℕ level_step suffix_level_step expr_arm_level_step field_set_level_step sign_tail_level_step tail_level_step x) own

tail-roll : (x : Tail-F Expr Suffix ExprArm FieldSet SignTail Tail) → TailPasses (tail_step (map-Tail Expr Suffix ExprArm FieldSet SignTail Tail Tokens Tokens Tokens Tokens Tokens Tokens expr_tokens suffix_tokens expr_arm_tokens field_set_tokens sign_tail_tokens tail_tokens x)) (tail_level_step (map-Tail Expr Suffix ExprArm FieldSet SignTail Tail ℕ Bool Bool Bool (Sign × ℕ) ℕ level_of is_suffix is_expr_arm is_field_set sign_tail_level tail_level x)) → TailClaim (roll-Tail x)
tail-roll x own = roll-claim TailPasses _ _ _ _
    (fold-roll-Tail Tokens Tokens Tokens Tokens Tokens Tokens expr_step suffix_step expr_arm_step field_set_step sign_tail_step tail_step x)
    (fold-roll-Tail ℕ Bool Bool Bool (Sign × ℕ) ℕ level_step suffix_level_step expr_arm_level_step field_set_level_step sign_tail_level_step tail_level_step x) own

-- a part of an expression beside its claim
abbrev E : Type 0
E = (e : Expr) × ExprClaim e

abbrev S : Type 0
S = (v : Suffix) × SuffixClaim v

abbrev A : Type 0
A = (v : ExprArm) × ArmClaim v

abbrev F : Type 0
F = (v : FieldSet) × FieldClaim v

abbrev G : Type 0
G = (v : SignTail) × SignTailClaim v

abbrev T : Type 0
T = (v : Tail) × TailClaim v

expr-case : (y : Expr-F E S A F G T) → ExprClaim (roll-Expr (map-Expr E S A F G T Expr Suffix ExprArm FieldSet SignTail Tail (λ e. e.0) (λ e. e.0) (λ e. e.0) (λ e. e.0) (λ e. e.0) (λ e. e.0) y))
expr-case (Expr-F.OrElse at (l, left) (r, right)) = expr-roll (Expr-F.OrElse at l r) (or_else-passes left right)
expr-case (Expr-F.Or (e, first) rest) = expr-roll (Expr-F.Or e (map (λ e. e.0) rest)) (or-passes first rest)
expr-case (Expr-F.And (e, first) rest) = expr-roll (Expr-F.And e (map (λ e. e.0) rest)) (and-passes first rest)
expr-case (Expr-F.Not at (e, part)) = expr-roll (Expr-F.Not at e) (not-passes part)
expr-case (Expr-F.Compare which at (l, left) (r, right)) = expr-roll (Expr-F.Compare which at l r) (compare-passes which left right)
expr-case (Expr-F.Sum (e, first) rest) = expr-roll (Expr-F.Sum e (map (λ e. e.0) rest)) (sum-passes first rest)
expr-case (Expr-F.Mul (e, first) rest) = expr-roll (Expr-F.Mul e (map (λ e. e.0) rest)) (mul-passes first rest)
expr-case (Expr-F.Neg at (e, part)) = expr-roll (Expr-F.Neg at e) (neg-passes part)
expr-case (Expr-F.Post (e, first) rest) = expr-roll (Expr-F.Post e (map (λ e. e.0) rest)) (post-passes first rest)
expr-case (Expr-F.Number at value) = expr-roll (Expr-F.Number at value) (number-passes value)
expr-case (Expr-F.Truth at value) = expr-roll (Expr-F.Truth at value) (truth-passes value)
expr-case (Expr-F.Elapsed at) = expr-roll (Expr-F.Elapsed at) elapsed-passes
expr-case (Expr-F.Name id) = expr-roll (Expr-F.Name id) (name-passes id)
expr-case (Expr-F.Call name args) = expr-roll (Expr-F.Call name (map (λ e. e.0) args)) (call-passes name args)
expr-case (Expr-F.Variant owner variant) = expr-roll (Expr-F.Variant owner variant) (variant-passes owner variant)
expr-case (Expr-F.New at owner fields) = expr-roll (Expr-F.New at owner (map (λ e. e.0) fields)) (new-passes owner fields)
expr-case (Expr-F.NoneOf at ty) = expr-roll (Expr-F.NoneOf at ty) (none-passes ty)
expr-case (Expr-F.EmptyOf at ty) = expr-roll (Expr-F.EmptyOf at ty) (empty-passes ty)
expr-case (Expr-F.Builtin which at args) = expr-roll (Expr-F.Builtin which at (map (λ e. e.0) args)) (builtin-passes which args)
expr-case (Expr-F.Paren at (e, inner)) = expr-roll (Expr-F.Paren at e) (paren-passes inner)
expr-case (Expr-F.List at items) = expr-roll (Expr-F.List at (map (λ e. e.0) items)) (row-passes items)
expr-case (Expr-F.Each at name (l, list) None (v, value)) = expr-roll (Expr-F.Each at name l None v) (each-passes name list None value)
expr-case (Expr-F.Each at name (l, list) (Some cond) (v, value)) = expr-roll (Expr-F.Each at name l (Some cond.0) v) (each-passes name list (Some cond) value)
expr-case (Expr-F.If at arms (e, other)) = expr-roll (Expr-F.If at (map (λ e. e.0) arms) e) (choice-passes arms other)

suffix-case : (y : Suffix-F E S A F G T) → SuffixClaim (roll-Suffix (map-Suffix E S A F G T Expr Suffix ExprArm FieldSet SignTail Tail (λ e. e.0) (λ e. e.0) (λ e. e.0) (λ e. e.0) (λ e. e.0) (λ e. e.0) y))
suffix-case (Suffix-F.Field at name) = suffix-roll (Suffix-F.Field at name) (field_suffix name)
suffix-case (Suffix-F.Index at (e, value)) = suffix-roll (Suffix-F.Index at e) (index_suffix value)
suffix-case (Suffix-F.Unwrap at) = suffix-roll (Suffix-F.Unwrap at) unwrap_suffix

arm-case : (y : ExprArm-F E S A F G T) → ArmClaim (roll-ExprArm (map-ExprArm E S A F G T Expr Suffix ExprArm FieldSet SignTail Tail (λ e. e.0) (λ e. e.0) (λ e. e.0) (λ e. e.0) (λ e. e.0) (λ e. e.0) y))
arm-case y = expr_arm-roll (record { cond = y.cond.0; value = y.value.0 }) (expr_arm-passes y.cond.1 y.value.1)

field-case : (y : FieldSet-F E S A F G T) → FieldClaim (roll-FieldSet (map-FieldSet E S A F G T Expr Suffix ExprArm FieldSet SignTail Tail (λ e. e.0) (λ e. e.0) (λ e. e.0) (λ e. e.0) (λ e. e.0) (λ e. e.0) y))
field-case y = field_set-roll (record { name = y.name; value = y.value.0 }) (field_set-passes y.name y.value.1)

sign_tail-case : (y : SignTail-F E S A F G T) → SignTailClaim (roll-SignTail (map-SignTail E S A F G T Expr Suffix ExprArm FieldSet SignTail Tail (λ e. e.0) (λ e. e.0) (λ e. e.0) (λ e. e.0) (λ e. e.0) (λ e. e.0) y))
sign_tail-case y = sign_tail-roll (record { sign = y.sign; at = y.at; value = y.value.0 }) (sign_tail-passes y.sign y.value.1)

tail-case : (y : Tail-F E S A F G T) → TailClaim (roll-Tail (map-Tail E S A F G T Expr Suffix ExprArm FieldSet SignTail Tail (λ e. e.0) (λ e. e.0) (λ e. e.0) (λ e. e.0) (λ e. e.0) (λ e. e.0) y))
tail-case y = tail-roll (record { at = y.at; value = y.value.0 }) (tail-passes y.value.1)

pub expr-passes : (e : Expr) → ExprPasses (expr_tokens e) (level_of e)
expr-passes = ind-Expr ExprClaim SuffixClaim ArmClaim FieldClaim SignTailClaim TailClaim
    (λ x y is. subst (λ (z : Expr-F Expr Suffix ExprArm FieldSet SignTail Tail). ExprClaim (roll-Expr z)) is (expr-case y))
    (λ x y is. subst (λ (z : Suffix-F Expr Suffix ExprArm FieldSet SignTail Tail). SuffixClaim (roll-Suffix z)) is (suffix-case y))
    (λ x y is. subst (λ (z : ExprArm-F Expr Suffix ExprArm FieldSet SignTail Tail). ArmClaim (roll-ExprArm z)) is (arm-case y))
    (λ x y is. subst (λ (z : FieldSet-F Expr Suffix ExprArm FieldSet SignTail Tail). FieldClaim (roll-FieldSet z)) is (field-case y))
    (λ x y is. subst (λ (z : SignTail-F Expr Suffix ExprArm FieldSet SignTail Tail). SignTailClaim (roll-SignTail z)) is (sign_tail-case y))
    (λ x y is. subst (λ (z : Tail-F Expr Suffix ExprArm FieldSet SignTail Tail). TailClaim (roll-Tail z)) is (tail-case y))

-- an expression of the grammar passes
pub whole_expr : (e : Expr) → is_expr e ≡ true → WholeExpr (expr_tokens e)
whole_expr e h = whole (expr-passes e) h
