-- The steps of types and of the chains of expressions are sound.
use Rattle.std.proofs.Common.{◌≡◌, ℕ, Bool, true, List, [], ◌∷◌, ◌++◌, map, Some, refl, ap, ◌∙◌}
use Rattle.std.specs.Prelude.{flat_map}
use Rattle.dsde_syntax.specs.declared.token.Tok.{Tok}
use Rattle.dsde_syntax.specs.declared.token.Tok.TheVariants as tok
use Rattle.dsde_words.specs.declared.key.Key.{Key}
use Rattle.dsde_words.specs.declared.key.Key.TheVariants as key
use Rattle.dsde_syntax.specs.declared.token.Sign.{Sign}
use Rattle.dsde_syntax.specs.declared.token.Sign.TheVariants as sign
use Rattle.dsde_syntax.specs.declared.type_name.TypeName.{TypeName}
use Rattle.dsde_syntax.specs.declared.type_name.TypeName.TheOpen.{TypeName-F}
use Rattle.dsde_syntax.specs.declared.type_name.TypeName.TheViews.{roll-TypeName}
use Rattle.dsde_syntax.specs.declared.type_name.TypeName.TheFolds.{map-TypeName}
use Rattle.dsde_syntax.specs.declared.expr.Expr.{Expr}
use Rattle.dsde_syntax.specs.declared.expr.Suffix.{Suffix}
use Rattle.dsde_syntax.specs.declared.expr.ExprArm.{ExprArm}
use Rattle.dsde_syntax.specs.declared.expr.FieldSet.{FieldSet}
use Rattle.dsde_syntax.specs.declared.expr.SignTail.{SignTail}
use Rattle.dsde_syntax.specs.declared.expr.Tail.{Tail}
use Rattle.dsde_syntax.specs.declared.expr.Expr.TheOpen.{Suffix-F, SignTail-F, Tail-F}
use Rattle.dsde_syntax.specs.declared.expr.Expr.TheViews.{roll-Suffix, roll-SignTail, roll-Tail}
use Rattle.dsde_syntax.specs.declared.expr.Expr.TheFolds.{map-Suffix}
use Rattle.dsde_syntax.specs.Grammar.{Tokens, word, joined, suffix_step as suffix_tokens_step, type_step as type_tokens_step, type_tokens, expr_tokens, suffix_tokens, expr_arm_tokens, field_set_tokens, sign_tail_tokens, tail_tokens}
use Rattle.dsde_syntax.specs.Levels.{suffix_level_step, stands_at, level_of, may_follow, is_comparison, is_sum_sign, is_mul_sign, is_expr_arm, is_field_set, is_suffix, sign_tail_level, tail_level}
use Rattle.dsde_parser_grammar.specs.Want as want
use Rattle.dsde_parser_grammar.specs.Steps.{repeated, type_step, neg_wants, mul_wants, sum_wants, negation_step, minus_step, suffix_step, factor_step, term_step, comparison_step, conjunct_step, disjunct_step, fallback_step}
use Rattle.dsde_parser_grammar.proofs.Layers.{type-tokens, suffix-tokens, suffix-level, sign_tail-tokens, sign_tail-level, tail-tokens, tail-level}
use Rattle.dsde_parser_grammar.proofs.Values.{Good, Several, ExprOf, Spelled, Meets}
use Rattle.dsde_parser_grammar.proofs.Taking.{Takes, Sound, repeated-sound, go_if-takes, named, one_more, true-and}
use Rattle.dsde_parser_grammar.proofs.Levels.{neg-of, mul-of, sum-of, not-of, and-of, or-of}

-- a type by its layer
pub type-made : (x : TypeName-F TypeName) {u : Tokens} → type_tokens_step (map-TypeName TypeName Tokens type_tokens x) ≡ u → Meets want.ty u
type-made x e = record { value = roll-TypeName x; spells = type-tokens x ∙ e }

pub type-takes : (t : Tok) → Takes (λ u. Meets want.ty (t ∷ u)) (type_step t)
type-takes (tok.Key key.Int) = λ vs. type-made (TypeName-F.Int 0) refl
type-takes (tok.Key key.Bool) = λ vs. type-made (TypeName-F.Bool 0) refl
type-takes (tok.Key key.List) = λ (left, (ty, (right, end))). type-made (TypeName-F.List 0 ty) refl
type-takes (tok.Key key.Opt) = λ (left, (ty, (right, end))). type-made (TypeName-F.Opt 0 ty) refl
type-takes (tok.Ident name) = λ vs. type-made (TypeName-F.Named (named name)) refl
type-takes _ = tt

pub negation-takes : (t : Tok) → Takes (λ u. Meets want.negation (t ∷ u)) (negation_step t)
negation-takes (tok.Key key.Not) = λ vs. record { value = true; spells = refl }
negation-takes _ = tt

pub minus-takes : (t : Tok) → Takes (λ u. Meets want.minus (t ∷ u)) (minus_step t)
minus-takes (tok.Sign sign.Minus) = λ vs. record { value = true; spells = refl }
minus-takes _ = tt

-- a suffix by its layer
suffix-made : (x : Suffix-F Expr Suffix ExprArm FieldSet SignTail Tail) {u : Tokens} → suffix_tokens_step (map-Suffix Expr Suffix ExprArm FieldSet SignTail Tail Tokens Tokens Tokens Tokens Tokens Tokens expr_tokens suffix_tokens expr_arm_tokens field_set_tokens sign_tail_tokens tail_tokens x) ≡ u → suffix_level_step (map-Suffix Expr Suffix ExprArm FieldSet SignTail Tail ℕ Bool Bool Bool (Sign × ℕ) ℕ level_of is_suffix is_expr_arm is_field_set sign_tail_level tail_level x) ≡ true → Meets want.suffix u
suffix-made x e h = record { value = record { value = roll-Suffix x; good = suffix-level x ∙ h }; spells = suffix-tokens x ∙ e }

pub suffix-takes : (t : Tok) → Takes (λ u. Meets want.suffix (t ∷ u)) (suffix_step t)
suffix-takes (tok.Sign sign.Dot) = λ (name, end). suffix-made (Suffix-F.Field 0 name) refl refl
suffix-takes (tok.Sign sign.OpenBracket) = λ (value, (right, end)). suffix-made (Suffix-F.Index 0 value.value) refl value.good
suffix-takes (tok.Sign sign.Bang) = λ vs. suffix-made (Suffix-F.Unwrap 0) refl refl
suffix-takes _ = tt

-- one more value before several
pub several-join : {A B : Type 0} (own : A → B) (ok : B → Bool) (one : A → Tokens) (all : List A → Tokens) → ((x : A) (xs : List A) → all (x ∷ xs) ≡ one x ++ all xs) → (u : Tokens) → Spelled (λ (v : Good (λ v. ok (own v))). one v.value) u → (vs : Several own ok) → Spelled (λ (vs : Several own ok). all vs.items) (u ++ all vs.items)
several-join own ok one all turn u first vs =
    record { value = one_more first.value.value first.value.good vs; spells = turn first.value.value vs.items ∙ ap (λ t. t ++ all vs.items) first.spells }

pub suffixes-sound : (t : Tok) → Sound (λ u. Meets want.suffixes (t ∷ u)) (Meets want.suffixes []) (repeated want.suffixes (suffix_step t))
suffixes-sound t =
    repeated-sound (Meets want.suffix) want.suffixes t (suffix_step t) (suffix-takes t)
    (several-join is_suffix (λ holds. holds) suffix_tokens (λ items. joined (map suffix_tokens items)) (λ x xs. refl))
    (record { value = record { items = []; all = refl }; spells = refl })

-- a sign and what stands behind it
abbrev SignTailOf : (Sign → Bool) → ℕ → Tokens → Type 0
SignTailOf is level = Spelled (λ (v : Good (λ v. may_follow is level (sign_tail_level v))). sign_tail_tokens v.value)

sign_tail-of : (is : Sign → Bool) (level : ℕ) (which : Sign) → is which ≡ true → {u : Tokens} → ExprOf level u → SignTailOf is level (tok.Sign which ∷ u)
sign_tail-of is level which h own =
    let x : SignTail-F Expr Suffix ExprArm FieldSet SignTail Tail = record { sign = which; at = 0; value = own.value.value } in
    record {
      value = record { value = roll-SignTail x; good = ap (may_follow is level) (sign_tail-level x) ∙ true-and (is which) (stands_at level (level_of own.value.value)) h own.value.good };
      spells = sign_tail-tokens x ∙ ap (λ t. tok.Sign which ∷ t) own.spells;
    }

factor-takes : (t : Tok) → Takes (λ u. SignTailOf is_mul_sign 2 (t ∷ u)) (factor_step t)
factor-takes (tok.Sign which) =
    go_if-takes (λ u. SignTailOf is_mul_sign 2 (tok.Sign which ∷ u)) (is_mul_sign which) neg_wants (λ h vs. sign_tail-of is_mul_sign 2 which h (neg-of vs))
factor-takes _ = tt

pub factors-sound : (t : Tok) → Sound (λ u. Meets want.factors (t ∷ u)) (Meets want.factors []) (repeated want.factors (factor_step t))
factors-sound t =
    repeated-sound (SignTailOf is_mul_sign 2) want.factors t (factor_step t) (factor-takes t)
    (several-join sign_tail_level (may_follow is_mul_sign 2) sign_tail_tokens (λ items. joined (map sign_tail_tokens items)) (λ x xs. refl))
    (record { value = record { items = []; all = refl }; spells = refl })

term-takes : (t : Tok) → Takes (λ u. SignTailOf is_sum_sign 3 (t ∷ u)) (term_step t)
term-takes (tok.Sign which) =
    go_if-takes (λ u. SignTailOf is_sum_sign 3 (tok.Sign which ∷ u)) (is_sum_sign which) mul_wants (λ h vs. sign_tail-of is_sum_sign 3 which h (mul-of vs))
term-takes _ = tt

pub terms-sound : (t : Tok) → Sound (λ u. Meets want.terms (t ∷ u)) (Meets want.terms []) (repeated want.terms (term_step t))
terms-sound t =
    repeated-sound (SignTailOf is_sum_sign 3) want.terms t (term_step t) (term-takes t)
    (several-join sign_tail_level (may_follow is_sum_sign 3) sign_tail_tokens (λ items. joined (map sign_tail_tokens items)) (λ x xs. refl))
    (record { value = record { items = []; all = refl }; spells = refl })

comparison-of : (which : Sign) → is_comparison which ≡ true → {u : Tokens} → ExprOf 4 u → Meets want.comparison (tok.Sign which ∷ u)
comparison-of which h own =
    record { value = Some (record { which = which; is = h; value = own.value }); spells = ap (λ t. tok.Sign which ∷ t) own.spells }

pub comparison-takes : (t : Tok) → Takes (λ u. Meets want.comparison (t ∷ u)) (comparison_step t)
comparison-takes (tok.Sign which) =
    go_if-takes (λ u. Meets want.comparison (tok.Sign which ∷ u)) (is_comparison which) sum_wants (λ h vs. comparison-of which h (sum-of vs))
comparison-takes _ = tt

-- a word and what stands behind it
abbrev TailOf : Key → ℕ → Tokens → Type 0
TailOf which level = Spelled (λ (v : Good (λ v. stands_at level (tail_level v))). word which ++ tail_tokens v.value)

tail-of : (which : Key) (level : ℕ) {u : Tokens} → ExprOf level u → TailOf which level (tok.Key which ∷ u)
tail-of which level own =
    let x : Tail-F Expr Suffix ExprArm FieldSet SignTail Tail = record { at = 0; value = own.value.value } in
    record {
      value = record { value = roll-Tail x; good = ap (stands_at level) (tail-level x) ∙ own.value.good };
      spells = ap (λ t. tok.Key which ∷ t) (tail-tokens x ∙ own.spells);
    }

conjunct-takes : (t : Tok) → Takes (λ u. TailOf key.And 6 (t ∷ u)) (conjunct_step t)
conjunct-takes (tok.Key key.And) = λ vs. tail-of key.And 6 (not-of vs)
conjunct-takes _ = tt

pub conjuncts-sound : (t : Tok) → Sound (λ u. Meets want.conjuncts (t ∷ u)) (Meets want.conjuncts []) (repeated want.conjuncts (conjunct_step t))
conjuncts-sound t =
    repeated-sound (TailOf key.And 6) want.conjuncts t (conjunct_step t) (conjunct-takes t)
    (several-join tail_level (stands_at 6) (λ v. word key.And ++ tail_tokens v) (λ items. flat_map (λ own. word key.And ++ own) (map tail_tokens items)) (λ x xs. refl))
    (record { value = record { items = []; all = refl }; spells = refl })

disjunct-takes : (t : Tok) → Takes (λ u. TailOf key.Or 7 (t ∷ u)) (disjunct_step t)
disjunct-takes (tok.Key key.Or) = λ vs. tail-of key.Or 7 (and-of vs)
disjunct-takes _ = tt

pub disjuncts-sound : (t : Tok) → Sound (λ u. Meets want.disjuncts (t ∷ u)) (Meets want.disjuncts []) (repeated want.disjuncts (disjunct_step t))
disjuncts-sound t =
    repeated-sound (TailOf key.Or 7) want.disjuncts t (disjunct_step t) (disjunct-takes t)
    (several-join tail_level (stands_at 7) (λ v. word key.Or ++ tail_tokens v) (λ items. flat_map (λ own. word key.Or ++ own) (map tail_tokens items)) (λ x xs. refl))
    (record { value = record { items = []; all = refl }; spells = refl })

fallback-of : {u : Tokens} → ExprOf 8 u → Meets want.fallback (tok.Sign sign.QuestionQuestion ∷ u)
fallback-of own = record { value = Some own.value; spells = ap (λ t. tok.Sign sign.QuestionQuestion ∷ t) own.spells }

pub fallback-takes : (t : Tok) → Takes (λ u. Meets want.fallback (t ∷ u)) (fallback_step t)
fallback-takes (tok.Sign sign.QuestionQuestion) = λ vs. fallback-of (or-of vs)
fallback-takes _ = tt
