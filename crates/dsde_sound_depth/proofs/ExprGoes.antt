-- Each expression of the grammar leaves what is open as it is, and within it no more conditions are
-- open than nest in it.
use Rattle.std.proofs.Common.{◌≡◌, ℕ, Bool, true, List, [], ◌∷◌, ◌++◌, map, Some, None, refl, sym, subst, arith}
use Rattle.std.specs.Prelude.{◌≤◌}
use Rattle.std.specs.List.{list_all}
use Rattle.dsde_words.specs.declared.key.Key.{Key}
use Rattle.dsde_words.specs.declared.key.Key.TheVariants as key
use Rattle.dsde_syntax.specs.declared.token.Sign.{Sign}
use Rattle.dsde_syntax.specs.declared.expr.Expr.{Expr}
use Rattle.dsde_syntax.specs.declared.expr.Suffix.{Suffix}
use Rattle.dsde_syntax.specs.declared.expr.ExprArm.{ExprArm}
use Rattle.dsde_syntax.specs.declared.expr.FieldSet.{FieldSet}
use Rattle.dsde_syntax.specs.declared.expr.SignTail.{SignTail}
use Rattle.dsde_syntax.specs.declared.expr.Tail.{Tail}
use Rattle.dsde_syntax.specs.declared.expr.Expr.TheOpen.{Expr-F, Suffix-F, ExprArm-F, FieldSet-F, SignTail-F, Tail-F}
use Rattle.dsde_syntax.specs.declared.expr.Expr.TheViews.{roll-Expr, roll-Suffix, roll-ExprArm, roll-FieldSet, roll-SignTail, roll-Tail}
use Rattle.dsde_syntax.specs.declared.expr.Expr.TheFolds.{map-Expr, map-Suffix, map-ExprArm, map-FieldSet, map-SignTail, map-Tail, fold-roll-Expr, fold-roll-Suffix, fold-roll-ExprArm, fold-roll-FieldSet, fold-roll-SignTail, fold-roll-Tail, ind-Expr}
use Rattle.dsde_syntax.specs.Grammar.{Tokens, word, expr_step, suffix_step, expr_arm_step, field_set_step, sign_tail_step, tail_step, expr_tokens, suffix_tokens, expr_arm_tokens, field_set_tokens, sign_tail_tokens, tail_tokens}
use Rattle.dsde_syntax.specs.Levels.{all_hold, stands_at, may_follow, is_sum_sign, is_mul_sign, level_step, suffix_level_step, expr_arm_level_step, field_set_level_step, sign_tail_level_step, tail_level_step, level_of, is_expr_arm, is_field_set, is_suffix, sign_tail_level, tail_level}
use Rattle.dsde_parser.specs.declared.depth.Last.TheVariants as last
use Rattle.dsde_sound_depth.proofs.Nests.{nest_step, suffix_nest_step, arm_nest_step, set_nest_step, sign_tail_nest_step, tail_nest_step, nest, suffix_nest, arm_nest, set_nest, sign_tail_nest, tail_nest}
use Rattle.dsde_sound_depth.proofs.Lists.{AllParts, AllListed, whole-listed}
use Rattle.dsde_sound_depth.proofs.ExprParts.{both, stands, Good, GoodPart, GoodField, GoodSigned, IsPlainWord, worded, sum-quiet, mul-quiet, or_else-good, or-good, and-good, not-good, compare-good, sum-good, mul-good, neg-good, post-good, call-good, new-good, builtin-good, paren-good, list-good, each-good, if-good, index-good, field-good, sign_tail-good, arm-good, number-whole, truth-whole, elapsed-whole, name-whole, variant-whole, none-whole, empty-whole, dot-part, unwrap-part, no-test, some-test}

abbrev pub ExprClaim : Expr → Type 0
ExprClaim v = Good (level_of v) (expr_tokens v) (nest v)

abbrev SuffixClaim : Suffix → Type 0
SuffixClaim v = GoodPart (is_suffix v) (suffix_tokens v) (suffix_nest v)

abbrev ArmClaim : ExprArm → Type 0
ArmClaim v = GoodPart (is_expr_arm v) (expr_arm_tokens v) (arm_nest v)

abbrev FieldClaim : FieldSet → Type 0
FieldClaim v = GoodField (is_field_set v) (field_set_tokens v) (set_nest v)

abbrev SignTailClaim : SignTail → Type 0
SignTailClaim v = GoodSigned (sign_tail_level v) (sign_tail_tokens v) (sign_tail_nest v)

abbrev TailClaim : Tail → Type 0
TailClaim v = Good (tail_level v) (tail_tokens v) (tail_nest v)

-- a claim of a value made of its layer, by what the steps give there
pub roll-claim : {A B C : Type 0} (P : A → B → C → Type 0) (a a' : A) (b b' : B) (c c' : C) → a ≡ a' → b ≡ b' → c ≡ c' → P a' b' c' → P a b c
roll-claim P a a' b b' c c' ha hb hc own =
    subst (λ own. P own b c) (sym ha) (subst (λ own. P a' own c) (sym hb) (subst (λ own. P a' b' own) (sym hc) own))

expr-roll : (x : Expr-F Expr Suffix ExprArm FieldSet SignTail Tail) → Good (level_step (map-Expr Expr Suffix ExprArm FieldSet SignTail Tail ℕ Bool Bool Bool (Sign × ℕ) ℕ level_of is_suffix is_expr_arm is_field_set sign_tail_level tail_level x)) (expr_step (map-Expr Expr Suffix ExprArm FieldSet SignTail Tail Tokens Tokens Tokens Tokens Tokens Tokens expr_tokens suffix_tokens expr_arm_tokens field_set_tokens sign_tail_tokens tail_tokens x)) (nest_step (map-Expr Expr Suffix ExprArm FieldSet SignTail Tail ℕ ℕ ℕ ℕ ℕ ℕ nest suffix_nest arm_nest set_nest sign_tail_nest tail_nest x)) → ExprClaim (roll-Expr x)
expr-roll x own = roll-claim Good _ _ _ _ _ _
    (fold-roll-Expr ℕ Bool Bool Bool (Sign × ℕ) ℕ level_step suffix_level_step expr_arm_level_step field_set_level_step sign_tail_level_step tail_level_step x)
    (fold-roll-Expr Tokens Tokens Tokens Tokens Tokens Tokens expr_step suffix_step expr_arm_step field_set_step sign_tail_step tail_step x)
    (fold-roll-Expr ℕ ℕ ℕ ℕ ℕ ℕ nest_step suffix_nest_step arm_nest_step set_nest_step sign_tail_nest_step tail_nest_step x) own

suffix-roll : (x : Suffix-F Expr Suffix ExprArm FieldSet SignTail Tail) → GoodPart (suffix_level_step (map-Suffix Expr Suffix ExprArm FieldSet SignTail Tail ℕ Bool Bool Bool (Sign × ℕ) ℕ level_of is_suffix is_expr_arm is_field_set sign_tail_level tail_level x)) (suffix_step (map-Suffix Expr Suffix ExprArm FieldSet SignTail Tail Tokens Tokens Tokens Tokens Tokens Tokens expr_tokens suffix_tokens expr_arm_tokens field_set_tokens sign_tail_tokens tail_tokens x)) (suffix_nest_step (map-Suffix Expr Suffix ExprArm FieldSet SignTail Tail ℕ ℕ ℕ ℕ ℕ ℕ nest suffix_nest arm_nest set_nest sign_tail_nest tail_nest x)) → SuffixClaim (roll-Suffix x)
suffix-roll x own = roll-claim GoodPart _ _ _ _ _ _
    (fold-roll-Suffix ℕ Bool Bool Bool (Sign × ℕ) ℕ level_step suffix_level_step expr_arm_level_step field_set_level_step sign_tail_level_step tail_level_step x)
    (fold-roll-Suffix Tokens Tokens Tokens Tokens Tokens Tokens expr_step suffix_step expr_arm_step field_set_step sign_tail_step tail_step x)
    (fold-roll-Suffix ℕ ℕ ℕ ℕ ℕ ℕ nest_step suffix_nest_step arm_nest_step set_nest_step sign_tail_nest_step tail_nest_step x) own

arm-roll : (x : ExprArm-F Expr Suffix ExprArm FieldSet SignTail Tail) → GoodPart (expr_arm_level_step (map-ExprArm Expr Suffix ExprArm FieldSet SignTail Tail ℕ Bool Bool Bool (Sign × ℕ) ℕ level_of is_suffix is_expr_arm is_field_set sign_tail_level tail_level x)) (expr_arm_step (map-ExprArm Expr Suffix ExprArm FieldSet SignTail Tail Tokens Tokens Tokens Tokens Tokens Tokens expr_tokens suffix_tokens expr_arm_tokens field_set_tokens sign_tail_tokens tail_tokens x)) (arm_nest_step (map-ExprArm Expr Suffix ExprArm FieldSet SignTail Tail ℕ ℕ ℕ ℕ ℕ ℕ nest suffix_nest arm_nest set_nest sign_tail_nest tail_nest x)) → ArmClaim (roll-ExprArm x)
arm-roll x own = roll-claim GoodPart _ _ _ _ _ _
    (fold-roll-ExprArm ℕ Bool Bool Bool (Sign × ℕ) ℕ level_step suffix_level_step expr_arm_level_step field_set_level_step sign_tail_level_step tail_level_step x)
    (fold-roll-ExprArm Tokens Tokens Tokens Tokens Tokens Tokens expr_step suffix_step expr_arm_step field_set_step sign_tail_step tail_step x)
    (fold-roll-ExprArm ℕ ℕ ℕ ℕ ℕ ℕ nest_step suffix_nest_step arm_nest_step set_nest_step sign_tail_nest_step tail_nest_step x) own

field-roll : (x : FieldSet-F Expr Suffix ExprArm FieldSet SignTail Tail) → GoodField (field_set_level_step (map-FieldSet Expr Suffix ExprArm FieldSet SignTail Tail ℕ Bool Bool Bool (Sign × ℕ) ℕ level_of is_suffix is_expr_arm is_field_set sign_tail_level tail_level x)) (field_set_step (map-FieldSet Expr Suffix ExprArm FieldSet SignTail Tail Tokens Tokens Tokens Tokens Tokens Tokens expr_tokens suffix_tokens expr_arm_tokens field_set_tokens sign_tail_tokens tail_tokens x)) (set_nest_step (map-FieldSet Expr Suffix ExprArm FieldSet SignTail Tail ℕ ℕ ℕ ℕ ℕ ℕ nest suffix_nest arm_nest set_nest sign_tail_nest tail_nest x)) → FieldClaim (roll-FieldSet x)
field-roll x own = roll-claim GoodField _ _ _ _ _ _
    (fold-roll-FieldSet ℕ Bool Bool Bool (Sign × ℕ) ℕ level_step suffix_level_step expr_arm_level_step field_set_level_step sign_tail_level_step tail_level_step x)
    (fold-roll-FieldSet Tokens Tokens Tokens Tokens Tokens Tokens expr_step suffix_step expr_arm_step field_set_step sign_tail_step tail_step x)
    (fold-roll-FieldSet ℕ ℕ ℕ ℕ ℕ ℕ nest_step suffix_nest_step arm_nest_step set_nest_step sign_tail_nest_step tail_nest_step x) own

sign_tail-roll : (x : SignTail-F Expr Suffix ExprArm FieldSet SignTail Tail) → GoodSigned (sign_tail_level_step (map-SignTail Expr Suffix ExprArm FieldSet SignTail Tail ℕ Bool Bool Bool (Sign × ℕ) ℕ level_of is_suffix is_expr_arm is_field_set sign_tail_level tail_level x)) (sign_tail_step (map-SignTail Expr Suffix ExprArm FieldSet SignTail Tail Tokens Tokens Tokens Tokens Tokens Tokens expr_tokens suffix_tokens expr_arm_tokens field_set_tokens sign_tail_tokens tail_tokens x)) (sign_tail_nest_step (map-SignTail Expr Suffix ExprArm FieldSet SignTail Tail ℕ ℕ ℕ ℕ ℕ ℕ nest suffix_nest arm_nest set_nest sign_tail_nest tail_nest x)) → SignTailClaim (roll-SignTail x)
sign_tail-roll x own = roll-claim GoodSigned _ _ _ _ _ _
    (fold-roll-SignTail ℕ Bool Bool Bool (Sign × ℕ) ℕ level_step suffix_level_step expr_arm_level_step field_set_level_step sign_tail_level_step tail_level_step x)
    (fold-roll-SignTail Tokens Tokens Tokens Tokens Tokens Tokens expr_step suffix_step expr_arm_step field_set_step sign_tail_step tail_step x)
    (fold-roll-SignTail ℕ ℕ ℕ ℕ ℕ ℕ nest_step suffix_nest_step arm_nest_step set_nest_step sign_tail_nest_step tail_nest_step x) own

tail-roll : (x : Tail-F Expr Suffix ExprArm FieldSet SignTail Tail) → Good (tail_level_step (map-Tail Expr Suffix ExprArm FieldSet SignTail Tail ℕ Bool Bool Bool (Sign × ℕ) ℕ level_of is_suffix is_expr_arm is_field_set sign_tail_level tail_level x)) (tail_step (map-Tail Expr Suffix ExprArm FieldSet SignTail Tail Tokens Tokens Tokens Tokens Tokens Tokens expr_tokens suffix_tokens expr_arm_tokens field_set_tokens sign_tail_tokens tail_tokens x)) (tail_nest_step (map-Tail Expr Suffix ExprArm FieldSet SignTail Tail ℕ ℕ ℕ ℕ ℕ ℕ nest suffix_nest arm_nest set_nest sign_tail_nest tail_nest x)) → TailClaim (roll-Tail x)
tail-roll x own = roll-claim Good _ _ _ _ _ _
    (fold-roll-Tail ℕ Bool Bool Bool (Sign × ℕ) ℕ level_step suffix_level_step expr_arm_level_step field_set_level_step sign_tail_level_step tail_level_step x)
    (fold-roll-Tail Tokens Tokens Tokens Tokens Tokens Tokens expr_step suffix_step expr_arm_step field_set_step sign_tail_step tail_step x)
    (fold-roll-Tail ℕ ℕ ℕ ℕ ℕ ℕ nest_step suffix_nest_step arm_nest_step set_nest_step sign_tail_nest_step tail_nest_step x) own

-- a part of an expression beside its claim
abbrev E : Type 0
E = (v : Expr) × ExprClaim v

abbrev S : Type 0
S = (v : Suffix) × SuffixClaim v

abbrev A : Type 0
A = (v : ExprArm) × ArmClaim v

abbrev F : Type 0
F = (v : FieldSet) × FieldClaim v

abbrev G : Type 0
G = (v : SignTail) × SignTailClaim v

abbrev T : Type 0
T = (v : Tail) × TailClaim v

-- lists of parts
exprs-go : (list : List E) → list_all (stands_at 9) (map level_of (map (λ e. e.0) list)) ≡ true → AllListed last.Other (map nest (map (λ e. e.0) list)) (map expr_tokens (map (λ e. e.0) list))
exprs-go [] level = tt
exprs-go ((e, own) ∷ list) level =
    let part = both (stands_at 9 (level_of e)) (list_all (stands_at 9) (map level_of (map (λ e. e.0) list))) level in
    (whole-listed last.Other (own.holds part.left), exprs-go list part.right)

sets-go : (list : List F) → all_hold (map is_field_set (map (λ e. e.0) list)) ≡ true → AllListed last.Start (map set_nest (map (λ e. e.0) list)) (map field_set_tokens (map (λ e. e.0) list))
sets-go [] level = tt
sets-go ((e, own) ∷ list) level =
    let part = both (is_field_set e) (all_hold (map is_field_set (map (λ e. e.0) list))) level in
    (own.holds part.left, sets-go list part.right)

arms-go : (list : List A) → all_hold (map is_expr_arm (map (λ e. e.0) list)) ≡ true → AllParts (λ part. part) (map arm_nest (map (λ e. e.0) list)) (map expr_arm_tokens (map (λ e. e.0) list))
arms-go [] level = tt
arms-go ((e, own) ∷ list) level =
    let part = both (is_expr_arm e) (all_hold (map is_expr_arm (map (λ e. e.0) list))) level in
    (own.holds part.left, arms-go list part.right)

suffixes-go : (list : List S) → all_hold (map is_suffix (map (λ e. e.0) list)) ≡ true → AllParts (λ part. part) (map suffix_nest (map (λ e. e.0) list)) (map suffix_tokens (map (λ e. e.0) list))
suffixes-go [] level = tt
suffixes-go ((e, own) ∷ list) level =
    let part = both (is_suffix e) (all_hold (map is_suffix (map (λ e. e.0) list))) level in
    (own.holds part.left, suffixes-go list part.right)

tails-go : (which : Key) (quiet : IsPlainWord which) (place : ℕ) → place ≤ 9 → (list : List T) → list_all (stands_at place) (map tail_level (map (λ e. e.0) list)) ≡ true → AllParts (λ value. word which ++ value) (map tail_nest (map (λ e. e.0) list)) (map tail_tokens (map (λ e. e.0) list))
tails-go which quiet place less [] level = tt
tails-go which quiet place less ((e, own) ∷ list) level =
    let part = both (stands_at place (tail_level e)) (list_all (stands_at place) (map tail_level (map (λ e. e.0) list))) level in
    (worded which quiet (own.holds (stands place less (tail_level e) part.left)), tails-go which quiet place less list part.right)

sums-go : (list : List G) → list_all (may_follow is_sum_sign 3) (map sign_tail_level (map (λ e. e.0) list)) ≡ true → AllParts (λ part. part) (map sign_tail_nest (map (λ e. e.0) list)) (map sign_tail_tokens (map (λ e. e.0) list))
sums-go [] level = tt
sums-go ((e, own) ∷ list) level =
    let part = both (may_follow is_sum_sign 3 (sign_tail_level e)) (list_all (may_follow is_sum_sign 3) (map sign_tail_level (map (λ e. e.0) list))) level in
    (own.signed is_sum_sign 3 (omega arith) sum-quiet part.left, sums-go list part.right)

muls-go : (list : List G) → list_all (may_follow is_mul_sign 2) (map sign_tail_level (map (λ e. e.0) list)) ≡ true → AllParts (λ part. part) (map sign_tail_nest (map (λ e. e.0) list)) (map sign_tail_tokens (map (λ e. e.0) list))
muls-go [] level = tt
muls-go ((e, own) ∷ list) level =
    let part = both (may_follow is_mul_sign 2 (sign_tail_level e)) (list_all (may_follow is_mul_sign 2) (map sign_tail_level (map (λ e. e.0) list))) level in
    (own.signed is_mul_sign 2 (omega arith) mul-quiet part.left, muls-go list part.right)

expr-case : (y : Expr-F E S A F G T) → ExprClaim (roll-Expr (map-Expr E S A F G T Expr Suffix ExprArm FieldSet SignTail Tail (λ e. e.0) (λ e. e.0) (λ e. e.0) (λ e. e.0) (λ e. e.0) (λ e. e.0) y))
expr-case (Expr-F.OrElse at (l, left) (r, right)) = expr-roll (Expr-F.OrElse at l r) (or_else-good _ _ _ _ _ _ left right at)
expr-case (Expr-F.Or (e, first) rest) = expr-roll (Expr-F.Or e (map (λ e. e.0) rest)) (or-good _ _ _ first _ _ _ (tails-go key.Or (λ brackets conditions before. refl) 7 (omega arith) rest))
expr-case (Expr-F.And (e, first) rest) = expr-roll (Expr-F.And e (map (λ e. e.0) rest)) (and-good _ _ _ first _ _ _ (tails-go key.And (λ brackets conditions before. refl) 6 (omega arith) rest))
expr-case (Expr-F.Not at (e, part)) = expr-roll (Expr-F.Not at e) (not-good _ _ _ part at)
expr-case (Expr-F.Compare which at (l, left) (r, right)) = expr-roll (Expr-F.Compare which at l r) (compare-good _ _ _ _ _ _ left right which at)
expr-case (Expr-F.Sum (e, first) rest) = expr-roll (Expr-F.Sum e (map (λ e. e.0) rest)) (sum-good _ _ _ first _ _ _ (sums-go rest))
expr-case (Expr-F.Mul (e, first) rest) = expr-roll (Expr-F.Mul e (map (λ e. e.0) rest)) (mul-good _ _ _ first _ _ _ (muls-go rest))
expr-case (Expr-F.Neg at (e, part)) = expr-roll (Expr-F.Neg at e) (neg-good _ _ _ part at)
expr-case (Expr-F.Post (e, first) rest) = expr-roll (Expr-F.Post e (map (λ e. e.0) rest)) (post-good _ _ _ first _ _ _ (suffixes-go rest))
expr-case (Expr-F.Number at value) = expr-roll (Expr-F.Number at value) (record { holds = λ level. number-whole value })
expr-case (Expr-F.Truth at value) = expr-roll (Expr-F.Truth at value) (record { holds = λ level. truth-whole value })
expr-case (Expr-F.Elapsed at) = expr-roll (Expr-F.Elapsed at) (record { holds = λ level. elapsed-whole })
expr-case (Expr-F.Name id) = expr-roll (Expr-F.Name id) (record { holds = λ level. name-whole id })
expr-case (Expr-F.Call name args) = expr-roll (Expr-F.Call name (map (λ e. e.0) args)) (call-good (map level_of (map (λ e. e.0) args)) _ _ (exprs-go args) name)
expr-case (Expr-F.Variant owner variant) = expr-roll (Expr-F.Variant owner variant) (record { holds = λ level. variant-whole owner variant })
expr-case (Expr-F.New at owner fields) = expr-roll (Expr-F.New at owner (map (λ e. e.0) fields)) (new-good at owner (map is_field_set (map (λ e. e.0) fields)) _ _ (sets-go fields))
expr-case (Expr-F.NoneOf at ty) = expr-roll (Expr-F.NoneOf at ty) (record { holds = λ level. none-whole at ty })
expr-case (Expr-F.EmptyOf at ty) = expr-roll (Expr-F.EmptyOf at ty) (record { holds = λ level. empty-whole at ty })
expr-case (Expr-F.Builtin which at args) = expr-roll (Expr-F.Builtin which at (map (λ e. e.0) args)) (builtin-good (map level_of (map (λ e. e.0) args)) _ _ (exprs-go args) which at)
expr-case (Expr-F.Paren at (e, inner)) = expr-roll (Expr-F.Paren at e) (paren-good _ _ _ inner at)
expr-case (Expr-F.List at items) = expr-roll (Expr-F.List at (map (λ e. e.0) items)) (list-good (map level_of (map (λ e. e.0) items)) _ _ (exprs-go items) at)
expr-case (Expr-F.Each at name (l, list) None (v, value)) = expr-roll (Expr-F.Each at name l None v) (each-good at name _ _ _ _ _ _ None None None list no-test value)
expr-case (Expr-F.Each at name (l, list) (Some (c, cond)) (v, value)) = expr-roll (Expr-F.Each at name l (Some c) v)
    (each-good at name _ _ _ _ _ _ (Some (level_of c)) (Some (expr_tokens c)) (Some (nest c)) list (some-test (level_of c) (expr_tokens c) (nest c) cond) value)
expr-case (Expr-F.If at arms (e, other)) = expr-roll (Expr-F.If at (map (λ e. e.0) arms) e) (if-good _ _ _ other at (map is_expr_arm (map (λ e. e.0) arms)) _ _ (arms-go arms))

suffix-case : (y : Suffix-F E S A F G T) → SuffixClaim (roll-Suffix (map-Suffix E S A F G T Expr Suffix ExprArm FieldSet SignTail Tail (λ e. e.0) (λ e. e.0) (λ e. e.0) (λ e. e.0) (λ e. e.0) (λ e. e.0) y))
suffix-case (Suffix-F.Field at name) = suffix-roll (Suffix-F.Field at name) (record { holds = λ level. dot-part at name })
suffix-case (Suffix-F.Index at (e, value)) = suffix-roll (Suffix-F.Index at e) (index-good _ _ _ value at)
suffix-case (Suffix-F.Unwrap at) = suffix-roll (Suffix-F.Unwrap at) (record { holds = λ level. unwrap-part at })

arm-case : (y : ExprArm-F E S A F G T) → ArmClaim (roll-ExprArm (map-ExprArm E S A F G T Expr Suffix ExprArm FieldSet SignTail Tail (λ e. e.0) (λ e. e.0) (λ e. e.0) (λ e. e.0) (λ e. e.0) (λ e. e.0) y))
arm-case y = arm-roll (record { cond = y.cond.0; value = y.value.0 }) (arm-good _ _ _ _ _ _ y.cond.1 y.value.1)

field-case : (y : FieldSet-F E S A F G T) → FieldClaim (roll-FieldSet (map-FieldSet E S A F G T Expr Suffix ExprArm FieldSet SignTail Tail (λ e. e.0) (λ e. e.0) (λ e. e.0) (λ e. e.0) (λ e. e.0) (λ e. e.0) y))
field-case y = field-roll (record { name = y.name; value = y.value.0 }) (field-good _ _ _ y.value.1 y.name)

sign_tail-case : (y : SignTail-F E S A F G T) → SignTailClaim (roll-SignTail (map-SignTail E S A F G T Expr Suffix ExprArm FieldSet SignTail Tail (λ e. e.0) (λ e. e.0) (λ e. e.0) (λ e. e.0) (λ e. e.0) (λ e. e.0) y))
sign_tail-case y = sign_tail-roll (record { sign = y.sign; at = y.at; value = y.value.0 }) (sign_tail-good _ _ _ y.value.1 y.sign y.at)

tail-case : (y : Tail-F E S A F G T) → TailClaim (roll-Tail (map-Tail E S A F G T Expr Suffix ExprArm FieldSet SignTail Tail (λ e. e.0) (λ e. e.0) (λ e. e.0) (λ e. e.0) (λ e. e.0) (λ e. e.0) y))
tail-case y = tail-roll (record { at = y.at; value = y.value.0 }) y.value.1

pub expr-goes : (e : Expr) → ExprClaim e
expr-goes = ind-Expr ExprClaim SuffixClaim ArmClaim FieldClaim SignTailClaim TailClaim
    (λ x y is. subst (λ (z : Expr-F Expr Suffix ExprArm FieldSet SignTail Tail). ExprClaim (roll-Expr z)) is (expr-case y))
    (λ x y is. subst (λ (z : Suffix-F Expr Suffix ExprArm FieldSet SignTail Tail). SuffixClaim (roll-Suffix z)) is (suffix-case y))
    (λ x y is. subst (λ (z : ExprArm-F Expr Suffix ExprArm FieldSet SignTail Tail). ArmClaim (roll-ExprArm z)) is (arm-case y))
    (λ x y is. subst (λ (z : FieldSet-F Expr Suffix ExprArm FieldSet SignTail Tail). FieldClaim (roll-FieldSet z)) is (field-case y))
    (λ x y is. subst (λ (z : SignTail-F Expr Suffix ExprArm FieldSet SignTail Tail). SignTailClaim (roll-SignTail z)) is (sign_tail-case y))
    (λ x y is. subst (λ (z : Tail-F Expr Suffix ExprArm FieldSet SignTail Tail). TailClaim (roll-Tail z)) is (tail-case y))
