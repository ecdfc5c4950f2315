-- The places in expressions and in types can be laid.
use Rattle.std.proofs.Common.{◌≡◌, ℕ, Bool, true, ◌&&◌, List, ◌++◌, map, None, Some, refl, ap, subst, ◌∙◌}
use Rattle.std.specs.Prelude.{flat_map, if◌then◌else◌}
use Rattle.std.specs.List.{list_all}
use Rattle.dsde_syntax.specs.declared.token.Tok.TheVariants as tok
use Rattle.dsde_words.specs.declared.key.Key.{Key}
use Rattle.dsde_words.specs.declared.key.Key.TheVariants as key
use Rattle.dsde_syntax.specs.declared.token.Sign.{Sign}
use Rattle.dsde_syntax.specs.declared.token.Sign.TheVariants as sign
use Rattle.dsde_syntax.specs.declared.type_name.TypeName.{TypeName}
use Rattle.dsde_syntax.specs.declared.type_name.TypeName.TheOpen.{TypeName-F}
use Rattle.dsde_syntax.specs.declared.type_name.TypeName.TheViews.{roll-TypeName}
use Rattle.dsde_syntax.specs.declared.type_name.TypeName.TheFolds.{map-TypeName, fold-roll-TypeName, ind-TypeName}
use Rattle.dsde_syntax.specs.declared.expr.Expr.{Expr}
use Rattle.dsde_syntax.specs.declared.expr.Suffix.{Suffix}
use Rattle.dsde_syntax.specs.declared.expr.ExprArm.{ExprArm}
use Rattle.dsde_syntax.specs.declared.expr.FieldSet.{FieldSet}
use Rattle.dsde_syntax.specs.declared.expr.SignTail.{SignTail}
use Rattle.dsde_syntax.specs.declared.expr.Tail.{Tail}
use Rattle.dsde_syntax.specs.declared.expr.Expr.TheOpen.{Expr-F, Suffix-F, ExprArm-F, FieldSet-F, SignTail-F, Tail-F}
use Rattle.dsde_syntax.specs.declared.expr.Expr.TheViews.{roll-Expr, roll-Suffix, roll-ExprArm, roll-FieldSet, roll-SignTail, roll-Tail}
use Rattle.dsde_syntax.specs.declared.expr.Expr.TheFolds.{map-Expr, map-Suffix, map-ExprArm, map-FieldSet, map-SignTail, map-Tail, fold-roll-Expr, fold-roll-Suffix, fold-roll-ExprArm, fold-roll-FieldSet, fold-roll-SignTail, fold-roll-Tail, ind-Expr}
use Rattle.dsde_syntax.specs.Grammar.{Tokens, word, joined, commas, type_step, type_tokens, expr_step, suffix_step, expr_arm_step, field_set_step, sign_tail_step, tail_step, expr_tokens, suffix_tokens, expr_arm_tokens, field_set_tokens, sign_tail_tokens, tail_tokens, args_tokens}
use Rattle.dsde_syntax.specs.Levels.{post_level, neg_level, prim_level, mul_level, sum_level, cmp_level, not_level, and_level, or_level, expr_level, level_if, stands_at, has_first, all_hold, is_comparison, is_sum_sign, is_mul_sign, is_builtin, may_follow, level_step, suffix_level_step, expr_arm_level_step, field_set_level_step, sign_tail_level_step, tail_level_step, level_of, is_expr, is_expr_arm, is_field_set, is_suffix, sign_tail_level, tail_level}
use Rattle.dsde_syntax.specs.Places.{Span, token, all_spans, spans_with, args_span, type_span_step, type_span, span_step, suffix_span_step, expr_arm_span_step, field_set_span_step, sign_tail_span_step, tail_span_step, expr_span, expr_arm_span, field_set_span, sign_tail_span, suffix_span, tail_span}
use Rattle.dsde_parser_models.proofs.Laying.{Lays, made, nothing, place, here, ident, both, behind, before, within, each, separated, separated_of}

-- types

abbrev TypeLaid : TypeName → Type 0
TypeLaid ty = Lays type_tokens (λ ty. tt {0}) type_span ty

type-made : {A K : Type 0} {t : A → Tokens} {k : A → K} {s : A → Span} {own : A} → Lays t k s own → (f : A → TypeName-F TypeName) → ((v : A) → type_step (map-TypeName TypeName Tokens type_tokens (f v)) ≡ t v) → ((v : A) (at : ℕ) → type_span_step (map-TypeName TypeName Span type_span (f v)) at ≡ s v at) → TypeLaid (roll-TypeName (f own))
type-made laid f spells right =
    made type_tokens (λ ty. tt) type_span laid (λ v. roll-TypeName (f v)) (λ k. tt)
    (λ v. fold-roll-TypeName Tokens type_step (f v) ∙ spells v) (λ v. refl)
    (λ v at. ap (λ (own : Span). own at) (fold-roll-TypeName Span type_span_step (f v)) ∙ right v at)

type-case : (y : TypeName-F ((ty : TypeName) × TypeLaid ty)) → TypeLaid (roll-TypeName (map-TypeName ((ty : TypeName) × TypeLaid ty) TypeName (λ e. e.0) y))
type-case (TypeName-F.Int at) = type-made (place (tok.Key key.Int) at) (λ at. TypeName-F.Int at) (λ v. refl) (λ v at. refl)
type-case (TypeName-F.Bool at) = type-made (place (tok.Key key.Bool) at) (λ at. TypeName-F.Bool at) (λ v. refl) (λ v at. refl)
type-case (TypeName-F.Named id) = type-made (ident id) (λ id. TypeName-F.Named id) (λ v. refl) (λ v at. refl)
type-case (TypeName-F.List at (ty, own)) = type-made (both (place (tok.Key key.List) at) (within (tok.Sign sign.Less) (tok.Sign sign.Greater) own)) (λ v. TypeName-F.List v.0 v.1) (λ v. refl) (λ v at. refl)
type-case (TypeName-F.Opt at (ty, own)) = type-made (both (place (tok.Key key.Opt) at) (within (tok.Sign sign.Less) (tok.Sign sign.Greater) own)) (λ v. TypeName-F.Opt v.0 v.1) (λ v. refl) (λ v at. refl)

pub type-laid : (ty : TypeName) → Lays type_tokens (λ ty. tt {0}) type_span ty
type-laid = ind-TypeName TypeLaid (λ x y is. subst (λ (z : TypeName-F TypeName). TypeLaid (roll-TypeName z)) is (type-case y))

-- expressions

abbrev pub ExprLaid : Expr → Type 0
ExprLaid v = Lays expr_tokens level_of expr_span v

abbrev pub SuffixLaid : Suffix → Type 0
SuffixLaid v = Lays suffix_tokens is_suffix suffix_span v

abbrev pub ExprArmLaid : ExprArm → Type 0
ExprArmLaid v = Lays expr_arm_tokens is_expr_arm expr_arm_span v

abbrev pub FieldSetLaid : FieldSet → Type 0
FieldSetLaid v = Lays field_set_tokens is_field_set field_set_span v

abbrev pub SignTailLaid : SignTail → Type 0
SignTailLaid v = Lays sign_tail_tokens sign_tail_level sign_tail_span v

abbrev TailLaid : Tail → Type 0
TailLaid v = (which : Key) → Lays (λ (v : Tail). word which ++ tail_tokens v) tail_level tail_span v

-- a part is laid by its layer

expr-made : {A K : Type 0} {t : A → Tokens} {k : A → K} {s : A → Span} {own : A} → Lays t k s own → (f : A → Expr-F Expr Suffix ExprArm FieldSet SignTail Tail) (g : K → ℕ) → ((v : A) → expr_step (map-Expr Expr Suffix ExprArm FieldSet SignTail Tail Tokens Tokens Tokens Tokens Tokens Tokens expr_tokens suffix_tokens expr_arm_tokens field_set_tokens sign_tail_tokens tail_tokens (f v)) ≡ t v) → ((v : A) → level_step (map-Expr Expr Suffix ExprArm FieldSet SignTail Tail ℕ Bool Bool Bool (Sign × ℕ) ℕ level_of is_suffix is_expr_arm is_field_set sign_tail_level tail_level (f v)) ≡ g (k v)) → ((v : A) (at : ℕ) → span_step (map-Expr Expr Suffix ExprArm FieldSet SignTail Tail Span Span Span Span Span Span expr_span suffix_span expr_arm_span field_set_span sign_tail_span tail_span (f v)) at ≡ s v at) → ExprLaid (roll-Expr (f own))
expr-made laid f g spells stands right =
    made expr_tokens level_of expr_span laid (λ v. roll-Expr (f v)) g
    (λ v. fold-roll-Expr Tokens Tokens Tokens Tokens Tokens Tokens expr_step suffix_step expr_arm_step field_set_step sign_tail_step tail_step (f v) ∙ spells v)
    (λ v. fold-roll-Expr ℕ Bool Bool Bool (Sign × ℕ) ℕ level_step suffix_level_step expr_arm_level_step field_set_level_step sign_tail_level_step tail_level_step (f v) ∙ stands v)
    (λ v at. ap (λ (own : Span). own at) (fold-roll-Expr Span Span Span Span Span Span span_step suffix_span_step expr_arm_span_step field_set_span_step sign_tail_span_step tail_span_step (f v)) ∙ right v at)

suffix-made : {A K : Type 0} {t : A → Tokens} {k : A → K} {s : A → Span} {own : A} → Lays t k s own → (f : A → Suffix-F Expr Suffix ExprArm FieldSet SignTail Tail) (g : K → Bool) → ((v : A) → suffix_step (map-Suffix Expr Suffix ExprArm FieldSet SignTail Tail Tokens Tokens Tokens Tokens Tokens Tokens expr_tokens suffix_tokens expr_arm_tokens field_set_tokens sign_tail_tokens tail_tokens (f v)) ≡ t v) → ((v : A) → suffix_level_step (map-Suffix Expr Suffix ExprArm FieldSet SignTail Tail ℕ Bool Bool Bool (Sign × ℕ) ℕ level_of is_suffix is_expr_arm is_field_set sign_tail_level tail_level (f v)) ≡ g (k v)) → ((v : A) (at : ℕ) → suffix_span_step (map-Suffix Expr Suffix ExprArm FieldSet SignTail Tail Span Span Span Span Span Span expr_span suffix_span expr_arm_span field_set_span sign_tail_span tail_span (f v)) at ≡ s v at) → SuffixLaid (roll-Suffix (f own))
suffix-made laid f g spells stands right =
    made suffix_tokens is_suffix suffix_span laid (λ v. roll-Suffix (f v)) g
    (λ v. fold-roll-Suffix Tokens Tokens Tokens Tokens Tokens Tokens expr_step suffix_step expr_arm_step field_set_step sign_tail_step tail_step (f v) ∙ spells v)
    (λ v. fold-roll-Suffix ℕ Bool Bool Bool (Sign × ℕ) ℕ level_step suffix_level_step expr_arm_level_step field_set_level_step sign_tail_level_step tail_level_step (f v) ∙ stands v)
    (λ v at. ap (λ (own : Span). own at) (fold-roll-Suffix Span Span Span Span Span Span span_step suffix_span_step expr_arm_span_step field_set_span_step sign_tail_span_step tail_span_step (f v)) ∙ right v at)

arm-made : {A K : Type 0} {t : A → Tokens} {k : A → K} {s : A → Span} {own : A} → Lays t k s own → (f : A → ExprArm-F Expr Suffix ExprArm FieldSet SignTail Tail) (g : K → Bool) → ((v : A) → expr_arm_step (map-ExprArm Expr Suffix ExprArm FieldSet SignTail Tail Tokens Tokens Tokens Tokens Tokens Tokens expr_tokens suffix_tokens expr_arm_tokens field_set_tokens sign_tail_tokens tail_tokens (f v)) ≡ t v) → ((v : A) → expr_arm_level_step (map-ExprArm Expr Suffix ExprArm FieldSet SignTail Tail ℕ Bool Bool Bool (Sign × ℕ) ℕ level_of is_suffix is_expr_arm is_field_set sign_tail_level tail_level (f v)) ≡ g (k v)) → ((v : A) (at : ℕ) → expr_arm_span_step (map-ExprArm Expr Suffix ExprArm FieldSet SignTail Tail Span Span Span Span Span Span expr_span suffix_span expr_arm_span field_set_span sign_tail_span tail_span (f v)) at ≡ s v at) → ExprArmLaid (roll-ExprArm (f own))
arm-made laid f g spells stands right =
    made expr_arm_tokens is_expr_arm expr_arm_span laid (λ v. roll-ExprArm (f v)) g
    (λ v. fold-roll-ExprArm Tokens Tokens Tokens Tokens Tokens Tokens expr_step suffix_step expr_arm_step field_set_step sign_tail_step tail_step (f v) ∙ spells v)
    (λ v. fold-roll-ExprArm ℕ Bool Bool Bool (Sign × ℕ) ℕ level_step suffix_level_step expr_arm_level_step field_set_level_step sign_tail_level_step tail_level_step (f v) ∙ stands v)
    (λ v at. ap (λ (own : Span). own at) (fold-roll-ExprArm Span Span Span Span Span Span span_step suffix_span_step expr_arm_span_step field_set_span_step sign_tail_span_step tail_span_step (f v)) ∙ right v at)

field-made : {A K : Type 0} {t : A → Tokens} {k : A → K} {s : A → Span} {own : A} → Lays t k s own → (f : A → FieldSet-F Expr Suffix ExprArm FieldSet SignTail Tail) (g : K → Bool) → ((v : A) → field_set_step (map-FieldSet Expr Suffix ExprArm FieldSet SignTail Tail Tokens Tokens Tokens Tokens Tokens Tokens expr_tokens suffix_tokens expr_arm_tokens field_set_tokens sign_tail_tokens tail_tokens (f v)) ≡ t v) → ((v : A) → field_set_level_step (map-FieldSet Expr Suffix ExprArm FieldSet SignTail Tail ℕ Bool Bool Bool (Sign × ℕ) ℕ level_of is_suffix is_expr_arm is_field_set sign_tail_level tail_level (f v)) ≡ g (k v)) → ((v : A) (at : ℕ) → field_set_span_step (map-FieldSet Expr Suffix ExprArm FieldSet SignTail Tail Span Span Span Span Span Span expr_span suffix_span expr_arm_span field_set_span sign_tail_span tail_span (f v)) at ≡ s v at) → FieldSetLaid (roll-FieldSet (f own))
field-made laid f g spells stands right =
    made field_set_tokens is_field_set field_set_span laid (λ v. roll-FieldSet (f v)) g
    (λ v. fold-roll-FieldSet Tokens Tokens Tokens Tokens Tokens Tokens expr_step suffix_step expr_arm_step field_set_step sign_tail_step tail_step (f v) ∙ spells v)
    (λ v. fold-roll-FieldSet ℕ Bool Bool Bool (Sign × ℕ) ℕ level_step suffix_level_step expr_arm_level_step field_set_level_step sign_tail_level_step tail_level_step (f v) ∙ stands v)
    (λ v at. ap (λ (own : Span). own at) (fold-roll-FieldSet Span Span Span Span Span Span span_step suffix_span_step expr_arm_span_step field_set_span_step sign_tail_span_step tail_span_step (f v)) ∙ right v at)

sign_tail-made : {A K : Type 0} {t : A → Tokens} {k : A → K} {s : A → Span} {own : A} → Lays t k s own → (f : A → SignTail-F Expr Suffix ExprArm FieldSet SignTail Tail) (g : K → Sign × ℕ) → ((v : A) → sign_tail_step (map-SignTail Expr Suffix ExprArm FieldSet SignTail Tail Tokens Tokens Tokens Tokens Tokens Tokens expr_tokens suffix_tokens expr_arm_tokens field_set_tokens sign_tail_tokens tail_tokens (f v)) ≡ t v) → ((v : A) → sign_tail_level_step (map-SignTail Expr Suffix ExprArm FieldSet SignTail Tail ℕ Bool Bool Bool (Sign × ℕ) ℕ level_of is_suffix is_expr_arm is_field_set sign_tail_level tail_level (f v)) ≡ g (k v)) → ((v : A) (at : ℕ) → sign_tail_span_step (map-SignTail Expr Suffix ExprArm FieldSet SignTail Tail Span Span Span Span Span Span expr_span suffix_span expr_arm_span field_set_span sign_tail_span tail_span (f v)) at ≡ s v at) → SignTailLaid (roll-SignTail (f own))
sign_tail-made laid f g spells stands right =
    made sign_tail_tokens sign_tail_level sign_tail_span laid (λ v. roll-SignTail (f v)) g
    (λ v. fold-roll-SignTail Tokens Tokens Tokens Tokens Tokens Tokens expr_step suffix_step expr_arm_step field_set_step sign_tail_step tail_step (f v) ∙ spells v)
    (λ v. fold-roll-SignTail ℕ Bool Bool Bool (Sign × ℕ) ℕ level_step suffix_level_step expr_arm_level_step field_set_level_step sign_tail_level_step tail_level_step (f v) ∙ stands v)
    (λ v at. ap (λ (own : Span). own at) (fold-roll-SignTail Span Span Span Span Span Span span_step suffix_span_step expr_arm_span_step field_set_span_step sign_tail_span_step tail_span_step (f v)) ∙ right v at)

tail-made : {A K : Type 0} {t : A → Tokens} {k : A → K} {s : A → Span} {own : A} → (which : Key) → Lays t k s own → (f : A → Tail-F Expr Suffix ExprArm FieldSet SignTail Tail) (g : K → ℕ) → ((v : A) → word which ++ tail_step (map-Tail Expr Suffix ExprArm FieldSet SignTail Tail Tokens Tokens Tokens Tokens Tokens Tokens expr_tokens suffix_tokens expr_arm_tokens field_set_tokens sign_tail_tokens tail_tokens (f v)) ≡ t v) → ((v : A) → tail_level_step (map-Tail Expr Suffix ExprArm FieldSet SignTail Tail ℕ Bool Bool Bool (Sign × ℕ) ℕ level_of is_suffix is_expr_arm is_field_set sign_tail_level tail_level (f v)) ≡ g (k v)) → ((v : A) (at : ℕ) → tail_span_step (map-Tail Expr Suffix ExprArm FieldSet SignTail Tail Span Span Span Span Span Span expr_span suffix_span expr_arm_span field_set_span sign_tail_span tail_span (f v)) at ≡ s v at) → Lays (λ (v : Tail). word which ++ tail_tokens v) tail_level tail_span (roll-Tail (f own))
tail-made which laid f g spells stands right =
    made (λ (v : Tail). word which ++ tail_tokens v) tail_level tail_span laid (λ v. roll-Tail (f v)) g
    (λ v. ap (λ t. word which ++ t) (fold-roll-Tail Tokens Tokens Tokens Tokens Tokens Tokens expr_step suffix_step expr_arm_step field_set_step sign_tail_step tail_step (f v)) ∙ spells v)
    (λ v. fold-roll-Tail ℕ Bool Bool Bool (Sign × ℕ) ℕ level_step suffix_level_step expr_arm_level_step field_set_level_step sign_tail_level_step tail_level_step (f v) ∙ stands v)
    (λ v at. ap (λ (own : Span). own at) (fold-roll-Tail Span Span Span Span Span Span span_step suffix_span_step expr_arm_span_step field_set_span_step sign_tail_span_step tail_span_step (f v)) ∙ right v at)

-- a part beside its claim
abbrev E : Type 0
E = (e : Expr) × ExprLaid e

abbrev S : Type 0
S = (v : Suffix) × SuffixLaid v

abbrev A : Type 0
A = (v : ExprArm) × ExprArmLaid v

abbrev F : Type 0
F = (v : FieldSet) × FieldSetLaid v

abbrev G : Type 0
G = (v : SignTail) × SignTailLaid v

abbrev T : Type 0
T = (v : Tail) × TailLaid v

abbrev Exprs : List E → Type 0
Exprs list = Lays (λ vs. commas (map expr_tokens vs)) (map level_of) (λ vs. spans_with token (map expr_span vs)) (map (λ e. e.0) list)

exprs : (list : List E) → Exprs list
exprs = separated (tok.Sign sign.Comma) expr_tokens level_of expr_span (λ e. e.0) (λ e. e.1)

sign_tails : (list : List G) → Lays (λ vs. joined (map sign_tail_tokens vs)) (map sign_tail_level) (λ vs. all_spans (map sign_tail_span vs)) (map (λ e. e.0) list)
sign_tails = each (λ part. part) sign_tail_tokens sign_tail_level sign_tail_span (λ e. e.0) (λ e. e.1)

tails : (which : Key) (list : List T) → Lays (λ vs. flat_map (λ own. word which ++ own) (map tail_tokens vs)) (map tail_level) (λ vs. all_spans (map tail_span vs)) (map (λ e. e.0) list)
tails which = each (λ own. word which ++ own) tail_tokens tail_level tail_span (λ e. e.0) (λ e. e.1 which)

expr-case : (y : Expr-F E S A F G T) → ExprLaid (roll-Expr (map-Expr E S A F G T Expr Suffix ExprArm FieldSet SignTail Tail (λ e. e.0) (λ e. e.0) (λ e. e.0) (λ e. e.0) (λ e. e.0) (λ e. e.0) y))
expr-case (Expr-F.OrElse at (l, left) (r, right)) =
    expr-made (both (both left (place (tok.Sign sign.QuestionQuestion) at)) right) (λ v. Expr-F.OrElse v.0.1 v.0.0 v.1)
    (λ k. level_if (stands_at or_level k.0.0 && stands_at or_level k.1) expr_level) (λ v. refl) (λ v. refl) (λ v at. refl)
expr-case (Expr-F.Or (e, first) rest) =
    expr-made (both first (tails key.Or rest)) (λ v. Expr-F.Or v.0 v.1)
    (λ k. level_if (stands_at and_level k.0 && has_first k.1 && list_all (stands_at and_level) k.1) or_level) (λ v. refl) (λ v. refl) (λ v at. refl)
expr-case (Expr-F.And (e, first) rest) =
    expr-made (both first (tails key.And rest)) (λ v. Expr-F.And v.0 v.1)
    (λ k. level_if (stands_at not_level k.0 && has_first k.1 && list_all (stands_at not_level) k.1) and_level) (λ v. refl) (λ v. refl) (λ v at. refl)
expr-case (Expr-F.Not at (e, part)) =
    expr-made (both (place (tok.Key key.Not) at) part) (λ v. Expr-F.Not v.0 v.1)
    (λ k. level_if (stands_at cmp_level k.1) not_level) (λ v. refl) (λ v. refl) (λ v at. refl)
expr-case (Expr-F.Compare which at (l, left) (r, right)) =
    expr-made (both (both left (place (tok.Sign which) at)) right) (λ v. Expr-F.Compare which v.0.1 v.0.0 v.1)
    (λ k. level_if (is_comparison which && stands_at sum_level k.0.0 && stands_at sum_level k.1) cmp_level) (λ v. refl) (λ v. refl) (λ v at. refl)
expr-case (Expr-F.Sum (e, first) rest) =
    expr-made (both first (sign_tails rest)) (λ v. Expr-F.Sum v.0 v.1)
    (λ k. level_if (stands_at mul_level k.0 && has_first k.1 && list_all (may_follow is_sum_sign mul_level) k.1) sum_level) (λ v. refl) (λ v. refl) (λ v at. refl)
expr-case (Expr-F.Mul (e, first) rest) =
    expr-made (both first (sign_tails rest)) (λ v. Expr-F.Mul v.0 v.1)
    (λ k. level_if (stands_at neg_level k.0 && has_first k.1 && list_all (may_follow is_mul_sign neg_level) k.1) mul_level) (λ v. refl) (λ v. refl) (λ v at. refl)
expr-case (Expr-F.Neg at (e, part)) =
    expr-made (both (place (tok.Sign sign.Minus) at) part) (λ v. Expr-F.Neg v.0 v.1)
    (λ k. level_if (stands_at post_level k.1) neg_level) (λ v. refl) (λ v. refl) (λ v at. refl)
expr-case (Expr-F.Post (e, first) suffixes) =
    expr-made (both first (each (λ part. part) suffix_tokens is_suffix suffix_span (λ e. e.0) (λ e. e.1) suffixes)) (λ v. Expr-F.Post v.0 v.1)
    (λ k. level_if (stands_at prim_level k.0 && has_first k.1 && all_hold k.1) post_level) (λ v. refl) (λ v. refl) (λ v at. refl)
expr-case (Expr-F.Number at value) = expr-made (place (tok.Int value) at) (λ at. Expr-F.Number at value) (λ k. prim_level) (λ v. refl) (λ v. refl) (λ v at. refl)
expr-case (Expr-F.Truth at value) =
    expr-made (place (tok.Key (if value then key.True else key.False)) at) (λ at. Expr-F.Truth at value) (λ k. prim_level) (λ v. refl) (λ v. refl) (λ v at. refl)
expr-case (Expr-F.Elapsed at) = expr-made (place (tok.Key key.Elapsed) at) (λ at. Expr-F.Elapsed at) (λ k. prim_level) (λ v. refl) (λ v. refl) (λ v at. refl)
expr-case (Expr-F.Name id) = expr-made (ident id) (λ id. Expr-F.Name id) (λ k. prim_level) (λ v. refl) (λ v. refl) (λ v at. refl)
expr-case (Expr-F.Call name args) =
    expr-made (both (ident name) (within (tok.Sign sign.OpenParen) (tok.Sign sign.CloseParen) (exprs args))) (λ v. Expr-F.Call v.0 v.1)
    (λ k. level_if (list_all (stands_at expr_level) k.1) prim_level) (λ v. refl) (λ v. refl) (λ v at. refl)
expr-case (Expr-F.Variant owner variant) =
    expr-made (both (before (ident owner) (tok.Sign sign.ColonColon)) (ident variant)) (λ v. Expr-F.Variant v.0 v.1) (λ k. prim_level) (λ v. refl) (λ v. refl) (λ v at. refl)
expr-case (Expr-F.New at owner fields) =
    expr-made
    (both (both (place (tok.Key key.New) at) (ident owner)) (within (tok.Sign sign.OpenBrace) (tok.Sign sign.CloseBrace) (separated (tok.Sign sign.Comma) field_set_tokens is_field_set field_set_span (λ e. e.0) (λ e. e.1) fields)))
    (λ v. Expr-F.New v.0.0 v.0.1 v.1) (λ k. level_if (has_first k.1 && all_hold k.1) prim_level) (λ v. refl) (λ v. refl) (λ v at. refl)
expr-case (Expr-F.NoneOf at ty) =
    expr-made (both (place (tok.Key key.NoneOf) at) (within (tok.Sign sign.Less) (tok.Sign sign.Greater) (type-laid ty))) (λ v. Expr-F.NoneOf v.0 v.1)
    (λ k. prim_level) (λ v. refl) (λ v. refl) (λ v at. refl)
expr-case (Expr-F.EmptyOf at ty) =
    expr-made (both (place (tok.Key key.EmptyOf) at) (within (tok.Sign sign.Less) (tok.Sign sign.Greater) (type-laid ty))) (λ v. Expr-F.EmptyOf v.0 v.1)
    (λ k. prim_level) (λ v. refl) (λ v. refl) (λ v at. refl)
expr-case (Expr-F.Builtin which at args) =
    expr-made (both (place (tok.Key which) at) (within (tok.Sign sign.OpenParen) (tok.Sign sign.CloseParen) (exprs args))) (λ v. Expr-F.Builtin which v.0 v.1)
    (λ k. level_if (is_builtin which && list_all (stands_at expr_level) k.1) prim_level) (λ v. refl) (λ v. refl) (λ v at. refl)
expr-case (Expr-F.Paren at (e, inner)) =
    expr-made (both (here at) (within (tok.Sign sign.OpenParen) (tok.Sign sign.CloseParen) inner)) (λ v. Expr-F.Paren v.0 v.1)
    (λ k. level_if (stands_at expr_level k.1) prim_level) (λ v. refl) (λ v. refl) (λ v at. refl)
expr-case (Expr-F.List at items) =
    expr-made (both (here at) (within (tok.Sign sign.OpenBracket) (tok.Sign sign.CloseBracket) (exprs items))) (λ v. Expr-F.List v.0 v.1)
    (λ k. level_if (has_first k.1 && list_all (stands_at expr_level) k.1) prim_level) (λ v. refl) (λ v. refl) (λ v at. refl)
expr-case (Expr-F.Each at name (l, list) None (e, value)) =
    let head = both (before (behind (tok.Key key.For) (ident name)) (tok.Key key.In)) list in
    expr-made
    (both (here at) (within (tok.Sign sign.OpenBracket) (tok.Sign sign.CloseBracket) (both (before (both head nothing) (tok.Sign sign.Colon)) value)))
    (λ v. Expr-F.Each v.0 v.1.0.0.0 v.1.0.0.1 None v.1.1)
    (λ k. level_if (stands_at expr_level k.1.0.0.1 && true && stands_at expr_level k.1.1) prim_level) (λ v. refl) (λ v. refl) (λ v at. refl)
expr-case (Expr-F.Each at name (l, list) (Some (c, cond)) (e, value)) =
    let head = both (before (behind (tok.Key key.For) (ident name)) (tok.Key key.In)) list in
    expr-made
    (both (here at) (within (tok.Sign sign.OpenBracket) (tok.Sign sign.CloseBracket) (both (before (both head (behind (tok.Key key.If) cond)) (tok.Sign sign.Colon)) value)))
    (λ v. Expr-F.Each v.0 v.1.0.0.0 v.1.0.0.1 (Some v.1.0.1) v.1.1)
    (λ k. level_if (stands_at expr_level k.1.0.0.1 && stands_at expr_level k.1.0.1 && stands_at expr_level k.1.1) prim_level) (λ v. refl) (λ v. refl) (λ v at. refl)
expr-case (Expr-F.If at arms (e, other)) =
    let all = separated (tok.Key key.Else) expr_arm_tokens is_expr_arm expr_arm_span (λ (e : A). e.0) (λ e. e.1) arms in
    expr-made
    (both (before (both (here at) all) (tok.Key key.Else)) (within (tok.Sign sign.OpenBrace) (tok.Sign sign.CloseBrace) other)) (λ v. Expr-F.If v.0.0 v.0.1 v.1)
    (λ k. level_if (has_first k.0.1 && all_hold k.0.1 && stands_at expr_level k.1) prim_level) (λ v. refl) (λ v. refl) (λ v at. refl)

suffix-case : (y : Suffix-F E S A F G T) → SuffixLaid (roll-Suffix (map-Suffix E S A F G T Expr Suffix ExprArm FieldSet SignTail Tail (λ e. e.0) (λ e. e.0) (λ e. e.0) (λ e. e.0) (λ e. e.0) (λ e. e.0) y))
suffix-case (Suffix-F.Field at name) = suffix-made (both (place (tok.Sign sign.Dot) at) (ident name)) (λ v. Suffix-F.Field v.0 v.1) (λ k. true) (λ v. refl) (λ v. refl) (λ v at. refl)
suffix-case (Suffix-F.Index at (e, value)) =
    suffix-made (both (here at) (within (tok.Sign sign.OpenBracket) (tok.Sign sign.CloseBracket) value)) (λ v. Suffix-F.Index v.0 v.1) (λ k. stands_at expr_level k.1) (λ v. refl) (λ v. refl) (λ v at. refl)
suffix-case (Suffix-F.Unwrap at) = suffix-made (place (tok.Sign sign.Bang) at) (λ at. Suffix-F.Unwrap at) (λ k. true) (λ v. refl) (λ v. refl) (λ v at. refl)

arm-case : (y : ExprArm-F E S A F G T) → ExprArmLaid (roll-ExprArm (map-ExprArm E S A F G T Expr Suffix ExprArm FieldSet SignTail Tail (λ e. e.0) (λ e. e.0) (λ e. e.0) (λ e. e.0) (λ e. e.0) (λ e. e.0) y))
arm-case y =
    arm-made (both (behind (tok.Key key.If) y.cond.1) (within (tok.Sign sign.OpenBrace) (tok.Sign sign.CloseBrace) y.value.1)) (λ v. record { cond = v.0; value = v.1 })
    (λ k. stands_at expr_level k.0 && stands_at expr_level k.1) (λ v. refl) (λ v. refl) (λ v at. refl)

field-case : (y : FieldSet-F E S A F G T) → FieldSetLaid (roll-FieldSet (map-FieldSet E S A F G T Expr Suffix ExprArm FieldSet SignTail Tail (λ e. e.0) (λ e. e.0) (λ e. e.0) (λ e. e.0) (λ e. e.0) (λ e. e.0) y))
field-case y =
    field-made (both (before (ident y.name) (tok.Sign sign.Colon)) y.value.1) (λ v. record { name = v.0; value = v.1 }) (λ k. stands_at expr_level k.1) (λ v. refl) (λ v. refl) (λ v at. refl)

sign_tail-case : (y : SignTail-F E S A F G T) → SignTailLaid (roll-SignTail (map-SignTail E S A F G T Expr Suffix ExprArm FieldSet SignTail Tail (λ e. e.0) (λ e. e.0) (λ e. e.0) (λ e. e.0) (λ e. e.0) (λ e. e.0) y))
sign_tail-case y =
    sign_tail-made (both (place (tok.Sign y.sign) y.at) y.value.1) (λ v. record { sign = y.sign; at = v.0; value = v.1 }) (λ k. (y.sign, k.1)) (λ v. refl) (λ v. refl) (λ v at. refl)

tail-case : (y : Tail-F E S A F G T) → TailLaid (roll-Tail (map-Tail E S A F G T Expr Suffix ExprArm FieldSet SignTail Tail (λ e. e.0) (λ e. e.0) (λ e. e.0) (λ e. e.0) (λ e. e.0) (λ e. e.0) y))
tail-case y = λ which.
    tail-made which (both (place (tok.Key which) y.at) y.value.1) (λ v. record { at = v.0; value = v.1 }) (λ k. k.1) (λ v. refl) (λ v. refl) (λ v at. refl)

pub expr-laid : (e : Expr) → ExprLaid e
expr-laid = ind-Expr ExprLaid SuffixLaid ExprArmLaid FieldSetLaid SignTailLaid TailLaid
    (λ x y is. subst (λ (z : Expr-F Expr Suffix ExprArm FieldSet SignTail Tail). ExprLaid (roll-Expr z)) is (expr-case y))
    (λ x y is. subst (λ (z : Suffix-F Expr Suffix ExprArm FieldSet SignTail Tail). SuffixLaid (roll-Suffix z)) is (suffix-case y))
    (λ x y is. subst (λ (z : ExprArm-F Expr Suffix ExprArm FieldSet SignTail Tail). ExprArmLaid (roll-ExprArm z)) is (arm-case y))
    (λ x y is. subst (λ (z : FieldSet-F Expr Suffix ExprArm FieldSet SignTail Tail). FieldSetLaid (roll-FieldSet z)) is (field-case y))
    (λ x y is. subst (λ (z : SignTail-F Expr Suffix ExprArm FieldSet SignTail Tail). SignTailLaid (roll-SignTail z)) is (sign_tail-case y))
    (λ x y is. subst (λ (z : Tail-F Expr Suffix ExprArm FieldSet SignTail Tail). TailLaid (roll-Tail z)) is (tail-case y))

-- an expression of the grammar
pub whole-laid : (e : Expr) → Lays expr_tokens is_expr expr_span e
whole-laid e = made expr_tokens is_expr expr_span (expr-laid e) (λ v. v) (λ k. stands_at expr_level k) (λ v. refl) (λ v. refl) (λ v at. refl)

-- the arguments of a call
pub args-laid : (args : List Expr) → Lays args_tokens (map is_expr) (λ args. args_span (map expr_span args)) args
args-laid args =
    within (tok.Sign sign.OpenParen) (tok.Sign sign.CloseParen) (separated_of (tok.Sign sign.Comma) expr_tokens is_expr expr_span whole-laid args)
