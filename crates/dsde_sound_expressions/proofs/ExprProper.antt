-- Each expression of the grammar with plain tokens is proper.
use Rattle.std.proofs.Common.{◌≡◌, ℕ, Bool, true, List, [], ◌∷◌, map, Some, None, refl, sym, subst, arith}
use Rattle.std.specs.Prelude.{◌≤◌}
use Rattle.dsde_language.specs.given.syntax.token_Sign.{Sign}
use Rattle.dsde_language.specs.given.syntax.expr_Expr.{Expr}
use Rattle.dsde_language.specs.given.syntax.expr_Suffix.{Suffix}
use Rattle.dsde_language.specs.given.syntax.expr_ExprArm.{ExprArm}
use Rattle.dsde_language.specs.given.syntax.expr_FieldSet.{FieldSet}
use Rattle.dsde_language.specs.given.syntax.expr_SignTail.{SignTail}
use Rattle.dsde_language.specs.given.syntax.expr_Tail.{Tail}
use Rattle.dsde_language.specs.given.syntax.expr_Expr_TheOpen.{Expr-F, Suffix-F, ExprArm-F, FieldSet-F, SignTail-F, Tail-F}
use Rattle.dsde_language.specs.given.syntax.expr_Expr_TheViews.{roll-Expr, roll-Suffix, roll-ExprArm, roll-FieldSet, roll-SignTail, roll-Tail}
use Rattle.dsde_language.specs.given.syntax.expr_Expr_TheFolds.{fold-Suffix, fold-ExprArm, fold-FieldSet, fold-SignTail, fold-Tail, map-Expr, map-Suffix, map-ExprArm, map-FieldSet, map-SignTail, map-Tail, fold-roll-Expr, fold-roll-Suffix, fold-roll-ExprArm, fold-roll-FieldSet, fold-roll-SignTail, fold-roll-Tail, ind-Expr}
use Rattle.dsde_language.specs.given.syntax.Grammar.{Tokens, expr_step, suffix_step, expr_arm_step, field_set_step, sign_tail_step, tail_step, expr_tokens, suffix_tokens, expr_arm_tokens, field_set_tokens, sign_tail_tokens, tail_tokens}
use Rattle.dsde_language.specs.given.syntax.Levels.{has_first, stands_at, may_follow, is_sum_sign, is_mul_sign, level_step, suffix_level_step, expr_arm_level_step, field_set_level_step, sign_tail_level_step, tail_level_step, level_of, is_expr_arm, is_field_set, is_suffix, sign_tail_level, tail_level}
use Rattle.dsde_language.specs.Proper as proper
use Rattle.dsde_language.specs.Proper.{Signed, is_proper, proper_step}
use Rattle.dsde_sound_expressions.proofs.Plain.{Holds, AllHold, all-hold, stands}
use Rattle.dsde_sound_expressions.proofs.ExprParts.{Good, GoodSigned, or_else-good, or-good, and-good, not-good, compare-good, sum-good, mul-good, neg-good, post-good, number-good, call-good, new-good, builtin-good, paren-good, list-good, each-good, if-good, index-good, field_set-good, sign_tail-good, expr_arm-good}

-- whether the parts of an expression are proper
abbrev proper_suffix : Suffix → Bool
proper_suffix = fold-Suffix Bool Bool Bool Bool Signed Bool proper_step proper.suffix_step proper.arm_step proper.set_step proper.sign_tail_step proper.tail_step

abbrev proper_arm : ExprArm → Bool
proper_arm = fold-ExprArm Bool Bool Bool Bool Signed Bool proper_step proper.suffix_step proper.arm_step proper.set_step proper.sign_tail_step proper.tail_step

abbrev proper_set : FieldSet → Bool
proper_set = fold-FieldSet Bool Bool Bool Bool Signed Bool proper_step proper.suffix_step proper.arm_step proper.set_step proper.sign_tail_step proper.tail_step

abbrev proper_sign_tail : SignTail → Signed
proper_sign_tail = fold-SignTail Bool Bool Bool Bool Signed Bool proper_step proper.suffix_step proper.arm_step proper.set_step proper.sign_tail_step proper.tail_step

abbrev proper_tail : Tail → Bool
proper_tail = fold-Tail Bool Bool Bool Bool Signed Bool proper_step proper.suffix_step proper.arm_step proper.set_step proper.sign_tail_step proper.tail_step

abbrev pub ExprClaim : Expr → Type 0
ExprClaim e = Good (level_of e) (expr_tokens e) (is_proper e)

abbrev SuffixClaim : Suffix → Type 0
SuffixClaim v = Holds (is_suffix v) (suffix_tokens v) (proper_suffix v)

abbrev ArmClaim : ExprArm → Type 0
ArmClaim v = Holds (is_expr_arm v) (expr_arm_tokens v) (proper_arm v)

abbrev FieldClaim : FieldSet → Type 0
FieldClaim v = Holds (is_field_set v) (field_set_tokens v) (proper_set v)

abbrev SignTailClaim : SignTail → Type 0
SignTailClaim v = GoodSigned (sign_tail_level v) (sign_tail_tokens v) (proper_sign_tail v)

abbrev TailClaim : Tail → Type 0
TailClaim v = Good (tail_level v) (tail_tokens v) (proper_tail v)

-- a claim of a value made of its layer, by what the steps give there
pub roll-claim : {A B C : Type 0} (P : A → B → C → Type 0) (a a' : A) (b b' : B) (c c' : C) → a ≡ a' → b ≡ b' → c ≡ c' → P a' b' c' → P a b c
roll-claim P a a' b b' c c' ha hb hc own =
    subst (λ own. P own b c) (sym ha) (subst (λ own. P a' own c) (sym hb) (subst (λ own. P a' b' own) (sym hc) own))

expr-roll : (x : Expr-F Expr Suffix ExprArm FieldSet SignTail Tail) → Good (level_step (map-Expr Expr Suffix ExprArm FieldSet SignTail Tail ℕ Bool Bool Bool (Sign × ℕ) ℕ level_of is_suffix is_expr_arm is_field_set sign_tail_level tail_level x)) (expr_step (map-Expr Expr Suffix ExprArm FieldSet SignTail Tail Tokens Tokens Tokens Tokens Tokens Tokens expr_tokens suffix_tokens expr_arm_tokens field_set_tokens sign_tail_tokens tail_tokens x)) (proper_step (map-Expr Expr Suffix ExprArm FieldSet SignTail Tail Bool Bool Bool Bool Signed Bool is_proper proper_suffix proper_arm proper_set proper_sign_tail proper_tail x)) → ExprClaim (roll-Expr x)
expr-roll x own = roll-claim Good _ _ _ _ _ _
    (fold-roll-Expr ℕ Bool Bool Bool (Sign × ℕ) ℕ level_step suffix_level_step expr_arm_level_step field_set_level_step sign_tail_level_step tail_level_step x)
    (fold-roll-Expr Tokens Tokens Tokens Tokens Tokens Tokens expr_step suffix_step expr_arm_step field_set_step sign_tail_step tail_step x)
    (fold-roll-Expr Bool Bool Bool Bool Signed Bool proper_step proper.suffix_step proper.arm_step proper.set_step proper.sign_tail_step proper.tail_step x) own

suffix-roll : (x : Suffix-F Expr Suffix ExprArm FieldSet SignTail Tail) → Holds (suffix_level_step (map-Suffix Expr Suffix ExprArm FieldSet SignTail Tail ℕ Bool Bool Bool (Sign × ℕ) ℕ level_of is_suffix is_expr_arm is_field_set sign_tail_level tail_level x)) (suffix_step (map-Suffix Expr Suffix ExprArm FieldSet SignTail Tail Tokens Tokens Tokens Tokens Tokens Tokens expr_tokens suffix_tokens expr_arm_tokens field_set_tokens sign_tail_tokens tail_tokens x)) (proper.suffix_step (map-Suffix Expr Suffix ExprArm FieldSet SignTail Tail Bool Bool Bool Bool Signed Bool is_proper proper_suffix proper_arm proper_set proper_sign_tail proper_tail x)) → SuffixClaim (roll-Suffix x)
suffix-roll x own = roll-claim Holds _ _ _ _ _ _
    (fold-roll-Suffix ℕ Bool Bool Bool (Sign × ℕ) ℕ level_step suffix_level_step expr_arm_level_step field_set_level_step sign_tail_level_step tail_level_step x)
    (fold-roll-Suffix Tokens Tokens Tokens Tokens Tokens Tokens expr_step suffix_step expr_arm_step field_set_step sign_tail_step tail_step x)
    (fold-roll-Suffix Bool Bool Bool Bool Signed Bool proper_step proper.suffix_step proper.arm_step proper.set_step proper.sign_tail_step proper.tail_step x) own

arm-roll : (x : ExprArm-F Expr Suffix ExprArm FieldSet SignTail Tail) → Holds (expr_arm_level_step (map-ExprArm Expr Suffix ExprArm FieldSet SignTail Tail ℕ Bool Bool Bool (Sign × ℕ) ℕ level_of is_suffix is_expr_arm is_field_set sign_tail_level tail_level x)) (expr_arm_step (map-ExprArm Expr Suffix ExprArm FieldSet SignTail Tail Tokens Tokens Tokens Tokens Tokens Tokens expr_tokens suffix_tokens expr_arm_tokens field_set_tokens sign_tail_tokens tail_tokens x)) (proper.arm_step (map-ExprArm Expr Suffix ExprArm FieldSet SignTail Tail Bool Bool Bool Bool Signed Bool is_proper proper_suffix proper_arm proper_set proper_sign_tail proper_tail x)) → ArmClaim (roll-ExprArm x)
arm-roll x own = roll-claim Holds _ _ _ _ _ _
    (fold-roll-ExprArm ℕ Bool Bool Bool (Sign × ℕ) ℕ level_step suffix_level_step expr_arm_level_step field_set_level_step sign_tail_level_step tail_level_step x)
    (fold-roll-ExprArm Tokens Tokens Tokens Tokens Tokens Tokens expr_step suffix_step expr_arm_step field_set_step sign_tail_step tail_step x)
    (fold-roll-ExprArm Bool Bool Bool Bool Signed Bool proper_step proper.suffix_step proper.arm_step proper.set_step proper.sign_tail_step proper.tail_step x) own

field-roll : (x : FieldSet-F Expr Suffix ExprArm FieldSet SignTail Tail) → Holds (field_set_level_step (map-FieldSet Expr Suffix ExprArm FieldSet SignTail Tail ℕ Bool Bool Bool (Sign × ℕ) ℕ level_of is_suffix is_expr_arm is_field_set sign_tail_level tail_level x)) (field_set_step (map-FieldSet Expr Suffix ExprArm FieldSet SignTail Tail Tokens Tokens Tokens Tokens Tokens Tokens expr_tokens suffix_tokens expr_arm_tokens field_set_tokens sign_tail_tokens tail_tokens x)) (proper.set_step (map-FieldSet Expr Suffix ExprArm FieldSet SignTail Tail Bool Bool Bool Bool Signed Bool is_proper proper_suffix proper_arm proper_set proper_sign_tail proper_tail x)) → FieldClaim (roll-FieldSet x)
field-roll x own = roll-claim Holds _ _ _ _ _ _
    (fold-roll-FieldSet ℕ Bool Bool Bool (Sign × ℕ) ℕ level_step suffix_level_step expr_arm_level_step field_set_level_step sign_tail_level_step tail_level_step x)
    (fold-roll-FieldSet Tokens Tokens Tokens Tokens Tokens Tokens expr_step suffix_step expr_arm_step field_set_step sign_tail_step tail_step x)
    (fold-roll-FieldSet Bool Bool Bool Bool Signed Bool proper_step proper.suffix_step proper.arm_step proper.set_step proper.sign_tail_step proper.tail_step x) own

sign_tail-roll : (x : SignTail-F Expr Suffix ExprArm FieldSet SignTail Tail) → GoodSigned (sign_tail_level_step (map-SignTail Expr Suffix ExprArm FieldSet SignTail Tail ℕ Bool Bool Bool (Sign × ℕ) ℕ level_of is_suffix is_expr_arm is_field_set sign_tail_level tail_level x)) (sign_tail_step (map-SignTail Expr Suffix ExprArm FieldSet SignTail Tail Tokens Tokens Tokens Tokens Tokens Tokens expr_tokens suffix_tokens expr_arm_tokens field_set_tokens sign_tail_tokens tail_tokens x)) (proper.sign_tail_step (map-SignTail Expr Suffix ExprArm FieldSet SignTail Tail Bool Bool Bool Bool Signed Bool is_proper proper_suffix proper_arm proper_set proper_sign_tail proper_tail x)) → SignTailClaim (roll-SignTail x)
sign_tail-roll x own = roll-claim GoodSigned _ _ _ _ _ _
    (fold-roll-SignTail ℕ Bool Bool Bool (Sign × ℕ) ℕ level_step suffix_level_step expr_arm_level_step field_set_level_step sign_tail_level_step tail_level_step x)
    (fold-roll-SignTail Tokens Tokens Tokens Tokens Tokens Tokens expr_step suffix_step expr_arm_step field_set_step sign_tail_step tail_step x)
    (fold-roll-SignTail Bool Bool Bool Bool Signed Bool proper_step proper.suffix_step proper.arm_step proper.set_step proper.sign_tail_step proper.tail_step x) own

tail-roll : (x : Tail-F Expr Suffix ExprArm FieldSet SignTail Tail) → Good (tail_level_step (map-Tail Expr Suffix ExprArm FieldSet SignTail Tail ℕ Bool Bool Bool (Sign × ℕ) ℕ level_of is_suffix is_expr_arm is_field_set sign_tail_level tail_level x)) (tail_step (map-Tail Expr Suffix ExprArm FieldSet SignTail Tail Tokens Tokens Tokens Tokens Tokens Tokens expr_tokens suffix_tokens expr_arm_tokens field_set_tokens sign_tail_tokens tail_tokens x)) (proper.tail_step (map-Tail Expr Suffix ExprArm FieldSet SignTail Tail Bool Bool Bool Bool Signed Bool is_proper proper_suffix proper_arm proper_set proper_sign_tail proper_tail x)) → TailClaim (roll-Tail x)
tail-roll x own = roll-claim Good _ _ _ _ _ _
    (fold-roll-Tail ℕ Bool Bool Bool (Sign × ℕ) ℕ level_step suffix_level_step expr_arm_level_step field_set_level_step sign_tail_level_step tail_level_step x)
    (fold-roll-Tail Tokens Tokens Tokens Tokens Tokens Tokens expr_step suffix_step expr_arm_step field_set_step sign_tail_step tail_step x)
    (fold-roll-Tail Bool Bool Bool Bool Signed Bool proper_step proper.suffix_step proper.arm_step proper.set_step proper.sign_tail_step proper.tail_step x) own

-- a part of an expression beside its claim
abbrev E : Type 0
E = (v : Expr) × ExprClaim v

abbrev S : Type 0
S = (v : Suffix) × SuffixClaim v

abbrev A : Type 0
A = (v : ExprArm) × ArmClaim v

abbrev F : Type 0
F = (v : FieldSet) × FieldClaim v

abbrev G : Type 0
G = (v : SignTail) × SignTailClaim v

abbrev T : Type 0
T = (v : Tail) × TailClaim v

-- parts in lists
exprs-hold : (es : List E) → AllHold (stands_at 9) (λ own. own) (map level_of (map (λ e. e.0) es)) (map expr_tokens (map (λ e. e.0) es)) (map is_proper (map (λ e. e.0) es))
exprs-hold es = all-hold (λ (e : E). e.0) expr_tokens level_of is_proper (stands_at 9) (λ own. own) (λ e. record { holds = e.1.holds }) es

suffixes-hold : (es : List S) → AllHold (λ holds. holds) (λ own. own) (map is_suffix (map (λ e. e.0) es)) (map suffix_tokens (map (λ e. e.0) es)) (map proper_suffix (map (λ e. e.0) es))
suffixes-hold es = all-hold (λ (e : S). e.0) suffix_tokens is_suffix proper_suffix (λ holds. holds) (λ own. own) (λ e. e.1) es

arms-hold : (es : List A) → AllHold (λ holds. holds) (λ own. own) (map is_expr_arm (map (λ e. e.0) es)) (map expr_arm_tokens (map (λ e. e.0) es)) (map proper_arm (map (λ e. e.0) es))
arms-hold es = all-hold (λ (e : A). e.0) expr_arm_tokens is_expr_arm proper_arm (λ holds. holds) (λ own. own) (λ e. e.1) es

-- what has a first arm has one of each kind
arms-first : (es : List A) → has_first (map is_expr_arm (map (λ e. e.0) es)) ≡ true → has_first (map proper_arm (map (λ e. e.0) es)) ≡ true
arms-first [] none = none
arms-first (e ∷ es) some = refl

sets-hold : (es : List F) → AllHold (λ holds. holds) (λ own. own) (map is_field_set (map (λ e. e.0) es)) (map field_set_tokens (map (λ e. e.0) es)) (map proper_set (map (λ e. e.0) es))
sets-hold es = all-hold (λ (e : F). e.0) field_set_tokens is_field_set proper_set (λ holds. holds) (λ own. own) (λ e. e.1) es

signed-hold : (is_operator : Sign → Bool) (place : ℕ) → place ≤ 9 → (es : List G) → AllHold (may_follow is_operator place) (λ (tail : Signed). tail is_operator) (map sign_tail_level (map (λ e. e.0) es)) (map sign_tail_tokens (map (λ e. e.0) es)) (map proper_sign_tail (map (λ e. e.0) es))
signed-hold is_operator place less es =
    all-hold (λ (e : G). e.0) sign_tail_tokens sign_tail_level proper_sign_tail (may_follow is_operator place) (λ (tail : Signed). tail is_operator) (λ e. record { holds = e.1.signed is_operator place less }) es

tails-hold : (place : ℕ) → place ≤ 9 → (es : List T) → AllHold (stands_at place) (λ own. own) (map tail_level (map (λ e. e.0) es)) (map tail_tokens (map (λ e. e.0) es)) (map proper_tail (map (λ e. e.0) es))
tails-hold place less es =
    all-hold (λ (e : T). e.0) tail_tokens tail_level proper_tail (stands_at place) (λ own. own) (λ e. record { holds = λ level. e.1.holds (stands place less (tail_level e.0) level) }) es

expr-case : (y : Expr-F E S A F G T) → ExprClaim (roll-Expr (map-Expr E S A F G T Expr Suffix ExprArm FieldSet SignTail Tail (λ e. e.0) (λ e. e.0) (λ e. e.0) (λ e. e.0) (λ e. e.0) (λ e. e.0) y))
expr-case (Expr-F.OrElse at (l, left) (r, right)) = expr-roll (Expr-F.OrElse at l r) (or_else-good _ _ _ _ _ _ left right at)
expr-case (Expr-F.Or (e, first) rest) = expr-roll (Expr-F.Or e (map (λ e. e.0) rest)) (or-good _ _ _ first _ _ _ (tails-hold 7 (omega arith) rest))
expr-case (Expr-F.And (e, first) rest) = expr-roll (Expr-F.And e (map (λ e. e.0) rest)) (and-good _ _ _ first _ _ _ (tails-hold 6 (omega arith) rest))
expr-case (Expr-F.Not at (e, part)) = expr-roll (Expr-F.Not at e) (not-good _ _ _ part at)
expr-case (Expr-F.Compare which at (l, left) (r, right)) = expr-roll (Expr-F.Compare which at l r) (compare-good _ _ _ _ _ _ left right which at)
expr-case (Expr-F.Sum (e, first) rest) = expr-roll (Expr-F.Sum e (map (λ e. e.0) rest)) (sum-good _ _ _ first _ _ _ (signed-hold is_sum_sign 3 (omega arith) rest))
expr-case (Expr-F.Mul (e, first) rest) = expr-roll (Expr-F.Mul e (map (λ e. e.0) rest)) (mul-good _ _ _ first _ _ _ (signed-hold is_mul_sign 2 (omega arith) rest))
expr-case (Expr-F.Neg at (e, part)) = expr-roll (Expr-F.Neg at e) (neg-good _ _ _ part at)
expr-case (Expr-F.Post (e, first) rest) = expr-roll (Expr-F.Post e (map (λ e. e.0) rest)) (post-good _ _ _ first _ _ _ (suffixes-hold rest))
expr-case (Expr-F.Number at value) = expr-roll (Expr-F.Number at value) (number-good at value)
expr-case (Expr-F.Truth at value) = expr-roll (Expr-F.Truth at value) (record { holds = λ level tokens. refl })
expr-case (Expr-F.Elapsed at) = expr-roll (Expr-F.Elapsed at) (record { holds = λ level tokens. refl })
expr-case (Expr-F.Name id) = expr-roll (Expr-F.Name id) (record { holds = λ level tokens. refl })
expr-case (Expr-F.Call name args) = expr-roll (Expr-F.Call name (map (λ e. e.0) args)) (call-good _ _ _ (exprs-hold args) name)
expr-case (Expr-F.Variant owner variant) = expr-roll (Expr-F.Variant owner variant) (record { holds = λ level tokens. refl })
expr-case (Expr-F.New at owner fields) = expr-roll (Expr-F.New at owner (map (λ e. e.0) fields)) (new-good at owner _ _ _ (sets-hold fields))
expr-case (Expr-F.NoneOf at ty) = expr-roll (Expr-F.NoneOf at ty) (record { holds = λ level tokens. refl })
expr-case (Expr-F.EmptyOf at ty) = expr-roll (Expr-F.EmptyOf at ty) (record { holds = λ level tokens. refl })
expr-case (Expr-F.Builtin which at args) = expr-roll (Expr-F.Builtin which at (map (λ e. e.0) args)) (builtin-good _ _ _ (exprs-hold args) which at)
expr-case (Expr-F.Paren at (e, inner)) = expr-roll (Expr-F.Paren at e) (paren-good _ _ _ inner at)
expr-case (Expr-F.List at items) = expr-roll (Expr-F.List at (map (λ e. e.0) items)) (list-good _ _ _ (exprs-hold items) at)
expr-case (Expr-F.Each at name (l, list) None (v, value)) = expr-roll (Expr-F.Each at name l None v)
    (each-good at name _ _ _ _ _ _ None None None list (record { holds = λ level tokens. refl }) value)
expr-case (Expr-F.Each at name (l, list) (Some (c, cond)) (v, value)) = expr-roll (Expr-F.Each at name l (Some c) v)
    (each-good at name _ _ _ _ _ _ (Some (level_of c)) (Some (expr_tokens c)) (Some (is_proper c)) list (record { holds = cond.holds }) value)
expr-case (Expr-F.If at arms (e, other)) = expr-roll (Expr-F.If at (map (λ e. e.0) arms) e) (if-good _ _ _ other at _ _ _ (arms-hold arms) (arms-first arms))

suffix-case : (y : Suffix-F E S A F G T) → SuffixClaim (roll-Suffix (map-Suffix E S A F G T Expr Suffix ExprArm FieldSet SignTail Tail (λ e. e.0) (λ e. e.0) (λ e. e.0) (λ e. e.0) (λ e. e.0) (λ e. e.0) y))
suffix-case (Suffix-F.Field at name) = suffix-roll (Suffix-F.Field at name) (record { holds = λ level tokens. refl })
suffix-case (Suffix-F.Index at (e, value)) = suffix-roll (Suffix-F.Index at e) (index-good _ _ _ value at)
suffix-case (Suffix-F.Unwrap at) = suffix-roll (Suffix-F.Unwrap at) (record { holds = λ level tokens. refl })

arm-case : (y : ExprArm-F E S A F G T) → ArmClaim (roll-ExprArm (map-ExprArm E S A F G T Expr Suffix ExprArm FieldSet SignTail Tail (λ e. e.0) (λ e. e.0) (λ e. e.0) (λ e. e.0) (λ e. e.0) (λ e. e.0) y))
arm-case y = arm-roll (record { cond = y.cond.0; value = y.value.0 }) (expr_arm-good _ _ _ _ _ _ y.cond.1 y.value.1)

field-case : (y : FieldSet-F E S A F G T) → FieldClaim (roll-FieldSet (map-FieldSet E S A F G T Expr Suffix ExprArm FieldSet SignTail Tail (λ e. e.0) (λ e. e.0) (λ e. e.0) (λ e. e.0) (λ e. e.0) (λ e. e.0) y))
field-case y = field-roll (record { name = y.name; value = y.value.0 }) (field_set-good _ _ _ y.value.1 y.name)

sign_tail-case : (y : SignTail-F E S A F G T) → SignTailClaim (roll-SignTail (map-SignTail E S A F G T Expr Suffix ExprArm FieldSet SignTail Tail (λ e. e.0) (λ e. e.0) (λ e. e.0) (λ e. e.0) (λ e. e.0) (λ e. e.0) y))
sign_tail-case y = sign_tail-roll (record { sign = y.sign; at = y.at; value = y.value.0 }) (sign_tail-good _ _ _ y.value.1 y.sign y.at)

tail-case : (y : Tail-F E S A F G T) → TailClaim (roll-Tail (map-Tail E S A F G T Expr Suffix ExprArm FieldSet SignTail Tail (λ e. e.0) (λ e. e.0) (λ e. e.0) (λ e. e.0) (λ e. e.0) (λ e. e.0) y))
tail-case y = tail-roll (record { at = y.at; value = y.value.0 }) y.value.1

pub expr-proper : (e : Expr) → ExprClaim e
expr-proper = ind-Expr ExprClaim SuffixClaim ArmClaim FieldClaim SignTailClaim TailClaim
    (λ x y is. subst (λ (z : Expr-F Expr Suffix ExprArm FieldSet SignTail Tail). ExprClaim (roll-Expr z)) is (expr-case y))
    (λ x y is. subst (λ (z : Suffix-F Expr Suffix ExprArm FieldSet SignTail Tail). SuffixClaim (roll-Suffix z)) is (suffix-case y))
    (λ x y is. subst (λ (z : ExprArm-F Expr Suffix ExprArm FieldSet SignTail Tail). ArmClaim (roll-ExprArm z)) is (arm-case y))
    (λ x y is. subst (λ (z : FieldSet-F Expr Suffix ExprArm FieldSet SignTail Tail). FieldClaim (roll-FieldSet z)) is (field-case y))
    (λ x y is. subst (λ (z : SignTail-F Expr Suffix ExprArm FieldSet SignTail Tail). SignTailClaim (roll-SignTail z)) is (sign_tail-case y))
    (λ x y is. subst (λ (z : Tail-F Expr Suffix ExprArm FieldSet SignTail Tail). TailClaim (roll-Tail z)) is (tail-case y))
