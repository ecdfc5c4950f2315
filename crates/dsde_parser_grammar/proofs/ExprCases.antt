-- Each expression is read.
use Rattle.std.proofs.Common.{◌≡◌, ℕ, Bool, map, Some, None, sym, subst}
use Rattle.dsde_syntax.specs.declared.token.Sign.{Sign}
use Rattle.dsde_syntax.specs.declared.expr.Expr.{Expr}
use Rattle.dsde_syntax.specs.declared.expr.Suffix.{Suffix}
use Rattle.dsde_syntax.specs.declared.expr.ExprArm.{ExprArm}
use Rattle.dsde_syntax.specs.declared.expr.FieldSet.{FieldSet}
use Rattle.dsde_syntax.specs.declared.expr.SignTail.{SignTail}
use Rattle.dsde_syntax.specs.declared.expr.Tail.{Tail}
use Rattle.dsde_syntax.specs.declared.expr.Expr.TheOpen.{Expr-F, Suffix-F, ExprArm-F, FieldSet-F, SignTail-F, Tail-F}
use Rattle.dsde_syntax.specs.declared.expr.Expr.TheViews.{roll-Expr, roll-Suffix, roll-ExprArm, roll-FieldSet, roll-SignTail, roll-Tail}
use Rattle.dsde_syntax.specs.declared.expr.Expr.TheFolds.{map-Expr, map-Suffix, map-ExprArm, map-FieldSet, map-SignTail, map-Tail, fold-roll-Expr, fold-roll-Suffix, fold-roll-ExprArm, fold-roll-FieldSet, fold-roll-SignTail, fold-roll-Tail, ind-Expr}
use Rattle.dsde_syntax.specs.Grammar.{Tokens, expr_step, suffix_step, expr_arm_step, field_set_step, sign_tail_step, tail_step, expr_tokens, suffix_tokens, expr_arm_tokens, field_set_tokens, sign_tail_tokens, tail_tokens}
use Rattle.dsde_syntax.specs.Levels.{level_step, suffix_level_step, expr_arm_level_step, field_set_level_step, sign_tail_level_step, tail_level_step, level_of, is_expr_arm, is_field_set, is_suffix, sign_tail_level, tail_level}
use Rattle.dsde_syntax.specs.Places.{Span, span_step, suffix_span_step, expr_arm_span_step, field_set_span_step, sign_tail_span_step, tail_span_step, expr_span, expr_arm_span, field_set_span, sign_tail_span, suffix_span, tail_span}
use Rattle.dsde_parser_grammar.proofs.LevelReads.{ExprReads}
use Rattle.dsde_parser_grammar.proofs.OperatorReads.{SuffixReads, SignTailReads, TailReads, SuffixClaim, SignTailClaim, TailClaim, or_else-reads, or-reads, and-reads, not-reads, compare-reads, sum-reads, mul-reads, neg-reads, post-reads, sign_tail-reads, tail-reads}
use Rattle.dsde_parser_grammar.proofs.PrimReads.{ArmReads, FieldReads, ExprClaim, ArmClaim, FieldClaim, field_suffix, index_suffix, unwrap_suffix, field_set-reads, expr_arm-reads, number-reads, truth-reads, elapsed-reads, name-reads, call-reads, variant-reads, new-reads, none-reads, empty-reads, builtin-reads, paren-reads, row-reads, each-reads, choice-reads}

-- a claim of a value made of its layer, by what the steps give there
pub roll-claim : {X A B C : Type 0} (P : X → A → B → C → Type 0) (x : X) (a a' : A) (b b' : B) (c c' : C) → a ≡ a' → b ≡ b' → c ≡ c' → P x a' b' c' → P x a b c
roll-claim P x a a' b b' c c' ha hb hc own =
    subst (λ own. P x own b c) (sym ha) (subst (λ own. P x a' own c) (sym hb) (subst (λ own. P x a' b' own) (sym hc) own))

expr-roll : (x : Expr-F Expr Suffix ExprArm FieldSet SignTail Tail) → ExprReads (roll-Expr x) (expr_step (map-Expr Expr Suffix ExprArm FieldSet SignTail Tail Tokens Tokens Tokens Tokens Tokens Tokens expr_tokens suffix_tokens expr_arm_tokens field_set_tokens sign_tail_tokens tail_tokens x)) (level_step (map-Expr Expr Suffix ExprArm FieldSet SignTail Tail ℕ Bool Bool Bool (Sign × ℕ) ℕ level_of is_suffix is_expr_arm is_field_set sign_tail_level tail_level x)) (span_step (map-Expr Expr Suffix ExprArm FieldSet SignTail Tail Span Span Span Span Span Span expr_span suffix_span expr_arm_span field_set_span sign_tail_span tail_span x)) → ExprClaim (roll-Expr x)
expr-roll x own = roll-claim ExprReads (roll-Expr x) _ _ _ _ _ _
    (fold-roll-Expr Tokens Tokens Tokens Tokens Tokens Tokens expr_step suffix_step expr_arm_step field_set_step sign_tail_step tail_step x)
    (fold-roll-Expr ℕ Bool Bool Bool (Sign × ℕ) ℕ level_step suffix_level_step expr_arm_level_step field_set_level_step sign_tail_level_step tail_level_step x)
    (fold-roll-Expr Span Span Span Span Span Span span_step suffix_span_step expr_arm_span_step field_set_span_step sign_tail_span_step tail_span_step x) own

suffix-roll : (x : Suffix-F Expr Suffix ExprArm FieldSet SignTail Tail) → SuffixReads (roll-Suffix x) (suffix_step (map-Suffix Expr Suffix ExprArm FieldSet SignTail Tail Tokens Tokens Tokens Tokens Tokens Tokens expr_tokens suffix_tokens expr_arm_tokens field_set_tokens sign_tail_tokens tail_tokens x)) (suffix_level_step (map-Suffix Expr Suffix ExprArm FieldSet SignTail Tail ℕ Bool Bool Bool (Sign × ℕ) ℕ level_of is_suffix is_expr_arm is_field_set sign_tail_level tail_level x)) (suffix_span_step (map-Suffix Expr Suffix ExprArm FieldSet SignTail Tail Span Span Span Span Span Span expr_span suffix_span expr_arm_span field_set_span sign_tail_span tail_span x)) → SuffixClaim (roll-Suffix x)
suffix-roll x own = roll-claim SuffixReads (roll-Suffix x) _ _ _ _ _ _
    (fold-roll-Suffix Tokens Tokens Tokens Tokens Tokens Tokens expr_step suffix_step expr_arm_step field_set_step sign_tail_step tail_step x)
    (fold-roll-Suffix ℕ Bool Bool Bool (Sign × ℕ) ℕ level_step suffix_level_step expr_arm_level_step field_set_level_step sign_tail_level_step tail_level_step x)
    (fold-roll-Suffix Span Span Span Span Span Span span_step suffix_span_step expr_arm_span_step field_set_span_step sign_tail_span_step tail_span_step x) own

expr_arm-roll : (x : ExprArm-F Expr Suffix ExprArm FieldSet SignTail Tail) → ArmReads (roll-ExprArm x) (expr_arm_step (map-ExprArm Expr Suffix ExprArm FieldSet SignTail Tail Tokens Tokens Tokens Tokens Tokens Tokens expr_tokens suffix_tokens expr_arm_tokens field_set_tokens sign_tail_tokens tail_tokens x)) (expr_arm_level_step (map-ExprArm Expr Suffix ExprArm FieldSet SignTail Tail ℕ Bool Bool Bool (Sign × ℕ) ℕ level_of is_suffix is_expr_arm is_field_set sign_tail_level tail_level x)) (expr_arm_span_step (map-ExprArm Expr Suffix ExprArm FieldSet SignTail Tail Span Span Span Span Span Span expr_span suffix_span expr_arm_span field_set_span sign_tail_span tail_span x)) → ArmClaim (roll-ExprArm x)
expr_arm-roll x own = roll-claim ArmReads (roll-ExprArm x) _ _ _ _ _ _
    (fold-roll-ExprArm Tokens Tokens Tokens Tokens Tokens Tokens expr_step suffix_step expr_arm_step field_set_step sign_tail_step tail_step x)
    (fold-roll-ExprArm ℕ Bool Bool Bool (Sign × ℕ) ℕ level_step suffix_level_step expr_arm_level_step field_set_level_step sign_tail_level_step tail_level_step x)
    (fold-roll-ExprArm Span Span Span Span Span Span span_step suffix_span_step expr_arm_span_step field_set_span_step sign_tail_span_step tail_span_step x) own

field_set-roll : (x : FieldSet-F Expr Suffix ExprArm FieldSet SignTail Tail) → FieldReads (roll-FieldSet x) (field_set_step (map-FieldSet Expr Suffix ExprArm FieldSet SignTail Tail Tokens Tokens Tokens Tokens Tokens Tokens expr_tokens suffix_tokens expr_arm_tokens field_set_tokens sign_tail_tokens tail_tokens x)) (field_set_level_step (map-FieldSet Expr Suffix ExprArm FieldSet SignTail Tail ℕ Bool Bool Bool (Sign × ℕ) ℕ level_of is_suffix is_expr_arm is_field_set sign_tail_level tail_level x)) (field_set_span_step (map-FieldSet Expr Suffix ExprArm FieldSet SignTail Tail Span Span Span Span Span Span expr_span suffix_span expr_arm_span field_set_span sign_tail_span tail_span x)) → FieldClaim (roll-FieldSet x)
field_set-roll x own = roll-claim FieldReads (roll-FieldSet x) _ _ _ _ _ _
    (fold-roll-FieldSet Tokens Tokens Tokens Tokens Tokens Tokens expr_step suffix_step expr_arm_step field_set_step sign_tail_step tail_step x)
    (fold-roll-FieldSet ℕ Bool Bool Bool (Sign × ℕ) ℕ level_step suffix_level_step expr_arm_level_step field_set_level_step sign_tail_level_step tail_level_step x)
    (fold-roll-FieldSet Span Span Span Span Span Span span_step suffix_span_step expr_arm_span_step field_set_span_step sign_tail_span_step tail_span_step x) own

sign_tail-roll : (x : SignTail-F Expr Suffix ExprArm FieldSet SignTail Tail) → SignTailReads (roll-SignTail x) (sign_tail_step (map-SignTail Expr Suffix ExprArm FieldSet SignTail Tail Tokens Tokens Tokens Tokens Tokens Tokens expr_tokens suffix_tokens expr_arm_tokens field_set_tokens sign_tail_tokens tail_tokens x)) (sign_tail_level_step (map-SignTail Expr Suffix ExprArm FieldSet SignTail Tail ℕ Bool Bool Bool (Sign × ℕ) ℕ level_of is_suffix is_expr_arm is_field_set sign_tail_level tail_level x)) (sign_tail_span_step (map-SignTail Expr Suffix ExprArm FieldSet SignTail Tail Span Span Span Span Span Span expr_span suffix_span expr_arm_span field_set_span sign_tail_span tail_span x)) → SignTailClaim (roll-SignTail x)
sign_tail-roll x own = roll-claim SignTailReads (roll-SignTail x) _ _ _ _ _ _
    (fold-roll-SignTail Tokens Tokens Tokens Tokens Tokens Tokens expr_step suffix_step expr_arm_step field_set_step sign_tail_step tail_step x)
    (fold-roll-SignTail ℕ Bool Bool Bool (Sign × ℕ) ℕ level_step suffix_level_step expr_arm_level_step field_set_level_step sign_tail_level_step tail_level_step x)
    (fold-roll-SignTail Span Span Span Span Span Span span_step suffix_span_step expr_arm_span_step field_set_span_step sign_tail_span_step tail_span_step x) own

tail-roll : (x : Tail-F Expr Suffix ExprArm FieldSet SignTail Tail) → TailReads (roll-Tail x) (tail_step (map-Tail Expr Suffix ExprArm FieldSet SignTail Tail Tokens Tokens Tokens Tokens Tokens Tokens expr_tokens suffix_tokens expr_arm_tokens field_set_tokens sign_tail_tokens tail_tokens x)) (tail_level_step (map-Tail Expr Suffix ExprArm FieldSet SignTail Tail ℕ Bool Bool Bool (Sign × ℕ) ℕ level_of is_suffix is_expr_arm is_field_set sign_tail_level tail_level x)) (tail_span_step (map-Tail Expr Suffix ExprArm FieldSet SignTail Tail Span Span Span Span Span Span expr_span suffix_span expr_arm_span field_set_span sign_tail_span tail_span x)) → TailClaim (roll-Tail x)
tail-roll x own = roll-claim TailReads (roll-Tail x) _ _ _ _ _ _
    (fold-roll-Tail Tokens Tokens Tokens Tokens Tokens Tokens expr_step suffix_step expr_arm_step field_set_step sign_tail_step tail_step x)
    (fold-roll-Tail ℕ Bool Bool Bool (Sign × ℕ) ℕ level_step suffix_level_step expr_arm_level_step field_set_level_step sign_tail_level_step tail_level_step x)
    (fold-roll-Tail Span Span Span Span Span Span span_step suffix_span_step expr_arm_span_step field_set_span_step sign_tail_span_step tail_span_step x) own

-- a part of an expression beside its claim
abbrev E : Type 0
E = (e : Expr) × ExprClaim e

abbrev S : Type 0
S = (v : Suffix) × SuffixClaim v

abbrev A : Type 0
A = (v : ExprArm) × ArmClaim v

abbrev F : Type 0
F = (v : FieldSet) × FieldClaim v

abbrev G : Type 0
G = (v : SignTail) × SignTailClaim v

abbrev T : Type 0
T = (v : Tail) × TailClaim v

expr-case : (y : Expr-F E S A F G T) → ExprClaim (roll-Expr (map-Expr E S A F G T Expr Suffix ExprArm FieldSet SignTail Tail (λ e. e.0) (λ e. e.0) (λ e. e.0) (λ e. e.0) (λ e. e.0) (λ e. e.0) y))
expr-case (Expr-F.OrElse at (l, left) (r, right)) = expr-roll (Expr-F.OrElse at l r) (or_else-reads at left right)
expr-case (Expr-F.Or (e, first) rest) = expr-roll (Expr-F.Or e (map (λ e. e.0) rest)) (or-reads first rest)
expr-case (Expr-F.And (e, first) rest) = expr-roll (Expr-F.And e (map (λ e. e.0) rest)) (and-reads first rest)
expr-case (Expr-F.Not at (e, part)) = expr-roll (Expr-F.Not at e) (not-reads at part)
expr-case (Expr-F.Compare which at (l, left) (r, right)) = expr-roll (Expr-F.Compare which at l r) (compare-reads which at left right)
expr-case (Expr-F.Sum (e, first) rest) = expr-roll (Expr-F.Sum e (map (λ e. e.0) rest)) (sum-reads first rest)
expr-case (Expr-F.Mul (e, first) rest) = expr-roll (Expr-F.Mul e (map (λ e. e.0) rest)) (mul-reads first rest)
expr-case (Expr-F.Neg at (e, part)) = expr-roll (Expr-F.Neg at e) (neg-reads at part)
expr-case (Expr-F.Post (e, first) rest) = expr-roll (Expr-F.Post e (map (λ e. e.0) rest)) (post-reads first rest)
expr-case (Expr-F.Number at value) = expr-roll (Expr-F.Number at value) (number-reads at value)
expr-case (Expr-F.Truth at value) = expr-roll (Expr-F.Truth at value) (truth-reads at value)
expr-case (Expr-F.Elapsed at) = expr-roll (Expr-F.Elapsed at) (elapsed-reads at)
expr-case (Expr-F.Name id) = expr-roll (Expr-F.Name id) (name-reads id)
expr-case (Expr-F.Call name args) = expr-roll (Expr-F.Call name (map (λ e. e.0) args)) (call-reads name args)
expr-case (Expr-F.Variant owner variant) = expr-roll (Expr-F.Variant owner variant) (variant-reads owner variant)
expr-case (Expr-F.New at owner fields) = expr-roll (Expr-F.New at owner (map (λ e. e.0) fields)) (new-reads at owner fields)
expr-case (Expr-F.NoneOf at ty) = expr-roll (Expr-F.NoneOf at ty) (none-reads at ty)
expr-case (Expr-F.EmptyOf at ty) = expr-roll (Expr-F.EmptyOf at ty) (empty-reads at ty)
expr-case (Expr-F.Builtin which at args) = expr-roll (Expr-F.Builtin which at (map (λ e. e.0) args)) (builtin-reads which at args)
expr-case (Expr-F.Paren at (e, inner)) = expr-roll (Expr-F.Paren at e) (paren-reads at inner)
expr-case (Expr-F.List at items) = expr-roll (Expr-F.List at (map (λ e. e.0) items)) (row-reads at items)
expr-case (Expr-F.Each at name (l, list) None (v, value)) = expr-roll (Expr-F.Each at name l None v) (each-reads at name list None value)
expr-case (Expr-F.Each at name (l, list) (Some cond) (v, value)) = expr-roll (Expr-F.Each at name l (Some cond.0) v) (each-reads at name list (Some cond) value)
expr-case (Expr-F.If at arms (e, other)) = expr-roll (Expr-F.If at (map (λ e. e.0) arms) e) (choice-reads at arms other)

suffix-case : (y : Suffix-F E S A F G T) → SuffixClaim (roll-Suffix (map-Suffix E S A F G T Expr Suffix ExprArm FieldSet SignTail Tail (λ e. e.0) (λ e. e.0) (λ e. e.0) (λ e. e.0) (λ e. e.0) (λ e. e.0) y))
suffix-case (Suffix-F.Field at name) = suffix-roll (Suffix-F.Field at name) (field_suffix at name)
suffix-case (Suffix-F.Index at (e, value)) = suffix-roll (Suffix-F.Index at e) (index_suffix at value)
suffix-case (Suffix-F.Unwrap at) = suffix-roll (Suffix-F.Unwrap at) (unwrap_suffix at)

arm-case : (y : ExprArm-F E S A F G T) → ArmClaim (roll-ExprArm (map-ExprArm E S A F G T Expr Suffix ExprArm FieldSet SignTail Tail (λ e. e.0) (λ e. e.0) (λ e. e.0) (λ e. e.0) (λ e. e.0) (λ e. e.0) y))
arm-case y = expr_arm-roll (record { cond = y.cond.0; value = y.value.0 }) (expr_arm-reads y.cond.1 y.value.1)

field-case : (y : FieldSet-F E S A F G T) → FieldClaim (roll-FieldSet (map-FieldSet E S A F G T Expr Suffix ExprArm FieldSet SignTail Tail (λ e. e.0) (λ e. e.0) (λ e. e.0) (λ e. e.0) (λ e. e.0) (λ e. e.0) y))
field-case y = field_set-roll (record { name = y.name; value = y.value.0 }) (field_set-reads y.name y.value.1)

sign_tail-case : (y : SignTail-F E S A F G T) → SignTailClaim (roll-SignTail (map-SignTail E S A F G T Expr Suffix ExprArm FieldSet SignTail Tail (λ e. e.0) (λ e. e.0) (λ e. e.0) (λ e. e.0) (λ e. e.0) (λ e. e.0) y))
sign_tail-case y = sign_tail-roll (record { sign = y.sign; at = y.at; value = y.value.0 }) (sign_tail-reads y.sign y.at y.value.1)

tail-case : (y : Tail-F E S A F G T) → TailClaim (roll-Tail (map-Tail E S A F G T Expr Suffix ExprArm FieldSet SignTail Tail (λ e. e.0) (λ e. e.0) (λ e. e.0) (λ e. e.0) (λ e. e.0) (λ e. e.0) y))
tail-case y = tail-roll (record { at = y.at; value = y.value.0 }) (tail-reads y.at y.value.1)

pub expr-reads : (e : Expr) → ExprReads e (expr_tokens e) (level_of e) (expr_span e)
expr-reads = ind-Expr ExprClaim SuffixClaim ArmClaim FieldClaim SignTailClaim TailClaim
    (λ x y is. subst (λ (z : Expr-F Expr Suffix ExprArm FieldSet SignTail Tail). ExprClaim (roll-Expr z)) is (expr-case y))
    (λ x y is. subst (λ (z : Suffix-F Expr Suffix ExprArm FieldSet SignTail Tail). SuffixClaim (roll-Suffix z)) is (suffix-case y))
    (λ x y is. subst (λ (z : ExprArm-F Expr Suffix ExprArm FieldSet SignTail Tail). ArmClaim (roll-ExprArm z)) is (arm-case y))
    (λ x y is. subst (λ (z : FieldSet-F Expr Suffix ExprArm FieldSet SignTail Tail). FieldClaim (roll-FieldSet z)) is (field-case y))
    (λ x y is. subst (λ (z : SignTail-F Expr Suffix ExprArm FieldSet SignTail Tail). SignTailClaim (roll-SignTail z)) is (sign_tail-case y))
    (λ x y is. subst (λ (z : Tail-F Expr Suffix ExprArm FieldSet SignTail Tail). TailClaim (roll-Tail z)) is (tail-case y))
