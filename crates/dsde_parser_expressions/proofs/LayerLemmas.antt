-- Expressions and their parts that were read, by the parts of their layers.
use Rattle.std.proofs.Common.{◌≡◌, ℕ, ◌≤◌, Bool, true, false, ◌&&◌, ◌++◌, Option, Some, None, refl, sym, ap, subst, ◌∙◌, arith}
use Rattle.dsde_syntax.specs.declared.token.Tok.TheVariants as tok
use Rattle.dsde_words.specs.declared.key.Key.TheVariants as key
use Rattle.dsde_syntax.specs.declared.token.Sign.{Sign}
use Rattle.dsde_syntax.specs.declared.token.Sign.TheVariants as sign
use Rattle.dsde_syntax.specs.declared.id.Id.{Id}
use Rattle.dsde_syntax.specs.declared.type_name.TypeName.{TypeName}
use Rattle.dsde_syntax.specs.declared.expr.Expr.{Expr}
use Rattle.dsde_syntax.specs.declared.expr.Expr.TheVariants as expr
use Rattle.dsde_syntax.specs.declared.expr.Expr.TheVariants.{rolls-OrElse, rolls-Not, rolls-Compare, rolls-Neg, rolls-Paren, rolls-NoneOf, rolls-EmptyOf, rolls-Name, rolls-Variant, rolls-Each}
use Rattle.dsde_syntax.specs.declared.expr.Suffix.{Suffix}
use Rattle.dsde_syntax.specs.declared.expr.Suffix.TheVariants as suffix
use Rattle.dsde_syntax.specs.declared.expr.Suffix.TheVariants.{rolls-Field, rolls-Index, rolls-Unwrap}
use Rattle.dsde_syntax.specs.declared.expr.ExprArm.{ExprArm}
use Rattle.dsde_syntax.specs.declared.expr.FieldSet.{FieldSet}
use Rattle.dsde_syntax.specs.declared.expr.SignTail.{SignTail}
use Rattle.dsde_syntax.specs.declared.expr.Tail.{Tail}
use Rattle.dsde_syntax.specs.declared.expr.Expr.TheOpen.{Expr-F, Suffix-F, ExprArm-F, FieldSet-F}
use Rattle.dsde_syntax.specs.declared.expr.Expr.TheViews.{roll-ExprArm, roll-FieldSet}
use Rattle.dsde_syntax.specs.declared.expr.Expr.TheFolds.{fold-roll-Expr, fold-roll-Suffix, fold-roll-ExprArm, fold-roll-FieldSet}
use Rattle.dsde_syntax.specs.Grammar.{Tokens, mark, in_angles, in_parens, in_brackets, in_braces, for_tokens, id_tokens, type_tokens, expr_step, suffix_step, expr_arm_step, field_set_step, sign_tail_step, tail_step, expr_tokens, suffix_tokens, expr_arm_tokens, field_set_tokens}
use Rattle.dsde_syntax.specs.Levels.{level_if, if_written, is_expr, is_comparison, level_step, suffix_level_step, expr_arm_level_step, field_set_level_step, sign_tail_level_step, tail_level_step, level_of, is_suffix, is_expr_arm, is_field_set}
use Rattle.dsde_syntax.specs.Places.{Span, ◌>>◌, token, id_span, type_span, bracketed, for_span, span_step, suffix_span_step, expr_arm_span_step, field_set_span_step, sign_tail_span_step, tail_span_step, expr_span, suffix_span, expr_arm_span, field_set_span}
use Rattle.dsde_parser_expressions.specs.Took.{Spot, Took, TookAll, TookOne, Any}
use Rattle.dsde_parser_expressions.specs.Parts.{IsWithin, IsOk, test_tokens, test_span}
use Rattle.dsde_parser_expressions.proofs.ChainLemmas.{le-stands}
use Rattle.dsde_parser_expressions.proofs.PartLemmas.{Part, one, one-at, placed-at, own, all, ◌⨟◌, behind-two, behind-three, read, read-node, whole-expr}

-- a node whose tokens, span and level are those of its layer
layer-Took : {before after : Spot} {t : Tokens} {s : Span} (node : Expr) (own k : ℕ) → Part true t s before after → expr_tokens node ≡ t → expr_span node ≡ s → level_of node ≡ own → own ≤ k → Took expr_tokens expr_span (IsWithin k) before after node
layer-Took {before} {after} node own k part toks span level small =
    let P : ℕ → Type 0 = λ own. own ≤ k in
    read part toks (ap (λ (own : Span). own before.0) span) (subst P (sym level) small)

level-one : (b : Bool) (k : ℕ) → b ≡ true → level_if b k ≤ k
level-one b k h = rw h (omega arith)

true-and : (a b : Bool) → a ≡ true → b ≡ true → (a && b) ≡ true
true-and a b h1 h2 = rw (h1, h2) refl

pub fallback-Took : {before a b after : Spot} (at : ℕ) (left : Expr) (right : Expr) → Took expr_tokens expr_span (IsWithin 8) before a left → TookOne (tok.Sign sign.QuestionQuestion) a b → at ≡ a.0 → Took expr_tokens expr_span (IsWithin 8) b after right → Took expr_tokens expr_span (IsWithin 9) before after (expr.OrElse at left right)
fallback-Took at left right first begun place next =
    let x : Expr-F Expr Suffix ExprArm FieldSet SignTail Tail = Expr-F.OrElse at left right in
    let same = sym (rolls-OrElse at left right) in
    layer-Took (expr.OrElse at left right) _ 9 (own first ⨟ one-at begun place ⨟ own next)
    (ap expr_tokens same ∙ fold-roll-Expr Tokens Tokens Tokens Tokens Tokens Tokens expr_step suffix_step expr_arm_step field_set_step sign_tail_step tail_step x)
    (ap expr_span same ∙ fold-roll-Expr Span Span Span Span Span Span span_step suffix_span_step expr_arm_span_step field_set_span_step sign_tail_span_step tail_span_step x)
    (ap level_of same ∙ fold-roll-Expr ℕ Bool Bool Bool (Sign × ℕ) ℕ level_step suffix_level_step expr_arm_level_step field_set_level_step sign_tail_level_step tail_level_step x)
    (level-one _ 9 (true-and _ _ (le-stands (level_of left) 8 first.good) (le-stands (level_of right) 8 next.good)))

pub negation-Took : {before a after : Spot} (at : ℕ) (part : Expr) → TookOne (tok.Key key.Not) before a → at ≡ before.0 → Took expr_tokens expr_span (IsWithin 5) a after part → Took expr_tokens expr_span (IsWithin 6) before after (expr.Not at part)
negation-Took at part begun place next =
    let x : Expr-F Expr Suffix ExprArm FieldSet SignTail Tail = Expr-F.Not at part in
    let same = sym (rolls-Not at part) in
    layer-Took (expr.Not at part) _ 6 (one-at begun place ⨟ own next)
    (ap expr_tokens same ∙ fold-roll-Expr Tokens Tokens Tokens Tokens Tokens Tokens expr_step suffix_step expr_arm_step field_set_step sign_tail_step tail_step x)
    (ap expr_span same ∙ fold-roll-Expr Span Span Span Span Span Span span_step suffix_span_step expr_arm_span_step field_set_span_step sign_tail_span_step tail_span_step x)
    (ap level_of same ∙ fold-roll-Expr ℕ Bool Bool Bool (Sign × ℕ) ℕ level_step suffix_level_step expr_arm_level_step field_set_level_step sign_tail_level_step tail_level_step x)
    (level-one _ 6 (le-stands (level_of part) 5 next.good))

pub compare-Took : {before a b after : Spot} (which : Sign) (at : ℕ) (left : Expr) (right : Expr) → Took expr_tokens expr_span (IsWithin 4) before a left → TookOne (tok.Sign which) a b → is_comparison which ≡ true → at ≡ a.0 → Took expr_tokens expr_span (IsWithin 4) b after right → Took expr_tokens expr_span (IsWithin 5) before after (expr.Compare which at left right)
compare-Took which at left right first begun fits place next =
    let x : Expr-F Expr Suffix ExprArm FieldSet SignTail Tail = Expr-F.Compare which at left right in
    let same = sym (rolls-Compare which at left right) in
    layer-Took (expr.Compare which at left right) _ 5 (own first ⨟ one-at begun place ⨟ own next)
    (ap expr_tokens same ∙ fold-roll-Expr Tokens Tokens Tokens Tokens Tokens Tokens expr_step suffix_step expr_arm_step field_set_step sign_tail_step tail_step x)
    (ap expr_span same ∙ fold-roll-Expr Span Span Span Span Span Span span_step suffix_span_step expr_arm_span_step field_set_span_step sign_tail_span_step tail_span_step x)
    (ap level_of same ∙ fold-roll-Expr ℕ Bool Bool Bool (Sign × ℕ) ℕ level_step suffix_level_step expr_arm_level_step field_set_level_step sign_tail_level_step tail_level_step x)
    (level-one _ 5 (true-and _ _ (true-and _ _ fits (le-stands (level_of left) 4 first.good)) (le-stands (level_of right) 4 next.good)))

pub minus-Took : {before a after : Spot} (at : ℕ) (part : Expr) → TookOne (tok.Sign sign.Minus) before a → at ≡ before.0 → Took expr_tokens expr_span (IsWithin 1) a after part → Took expr_tokens expr_span (IsWithin 2) before after (expr.Neg at part)
minus-Took at part begun place next =
    let x : Expr-F Expr Suffix ExprArm FieldSet SignTail Tail = Expr-F.Neg at part in
    let same = sym (rolls-Neg at part) in
    layer-Took (expr.Neg at part) _ 2 (one-at begun place ⨟ own next)
    (ap expr_tokens same ∙ fold-roll-Expr Tokens Tokens Tokens Tokens Tokens Tokens expr_step suffix_step expr_arm_step field_set_step sign_tail_step tail_step x)
    (ap expr_span same ∙ fold-roll-Expr Span Span Span Span Span Span span_step suffix_span_step expr_arm_span_step field_set_span_step sign_tail_span_step tail_span_step x)
    (ap level_of same ∙ fold-roll-Expr ℕ Bool Bool Bool (Sign × ℕ) ℕ level_step suffix_level_step expr_arm_level_step field_set_level_step sign_tail_level_step tail_level_step x)
    (level-one _ 2 (le-stands (level_of part) 1 next.good))

pub paren-Took : {before after : Spot} (at : ℕ) (inner : Expr) → at ≡ before.0 → Took (λ expr. in_parens (expr_tokens expr)) (λ expr. bracketed (expr_span expr)) (IsWithin 9) before after inner → Took expr_tokens expr_span (IsWithin 0) before after (expr.Paren at inner)
paren-Took at inner place next =
    let x : Expr-F Expr Suffix ExprArm FieldSet SignTail Tail = Expr-F.Paren at inner in
    let same = sym (rolls-Paren at inner) in
    layer-Took (expr.Paren at inner) _ 0 (placed-at (own next) place)
    (ap expr_tokens same ∙ fold-roll-Expr Tokens Tokens Tokens Tokens Tokens Tokens expr_step suffix_step expr_arm_step field_set_step sign_tail_step tail_step x)
    (ap expr_span same ∙ fold-roll-Expr Span Span Span Span Span Span span_step suffix_span_step expr_arm_span_step field_set_span_step sign_tail_span_step tail_span_step x)
    (ap level_of same ∙ fold-roll-Expr ℕ Bool Bool Bool (Sign × ℕ) ℕ level_step suffix_level_step expr_arm_level_step field_set_level_step sign_tail_level_step tail_level_step x)
    (level-one _ 0 (le-stands (level_of inner) 9 next.good))

pub none_of-Took : {before a after : Spot} (at : ℕ) (ty : TypeName) → TookOne (tok.Key key.NoneOf) before a → at ≡ before.0 → Took (λ ty. in_angles (type_tokens ty)) (λ ty. bracketed (type_span ty)) Any a after ty → Took expr_tokens expr_span (IsWithin 0) before after (expr.NoneOf at ty)
none_of-Took at ty begun place next =
    let x : Expr-F Expr Suffix ExprArm FieldSet SignTail Tail = Expr-F.NoneOf at ty in
    let same = sym (rolls-NoneOf at ty) in
    layer-Took (expr.NoneOf at ty) _ 0 (one-at begun place ⨟ own next)
    (ap expr_tokens same ∙ fold-roll-Expr Tokens Tokens Tokens Tokens Tokens Tokens expr_step suffix_step expr_arm_step field_set_step sign_tail_step tail_step x)
    (ap expr_span same ∙ fold-roll-Expr Span Span Span Span Span Span span_step suffix_span_step expr_arm_span_step field_set_span_step sign_tail_span_step tail_span_step x)
    (ap level_of same ∙ fold-roll-Expr ℕ Bool Bool Bool (Sign × ℕ) ℕ level_step suffix_level_step expr_arm_level_step field_set_level_step sign_tail_level_step tail_level_step x)
    (omega arith)

pub empty_of-Took : {before a after : Spot} (at : ℕ) (ty : TypeName) → TookOne (tok.Key key.EmptyOf) before a → at ≡ before.0 → Took (λ ty. in_angles (type_tokens ty)) (λ ty. bracketed (type_span ty)) Any a after ty → Took expr_tokens expr_span (IsWithin 0) before after (expr.EmptyOf at ty)
empty_of-Took at ty begun place next =
    let x : Expr-F Expr Suffix ExprArm FieldSet SignTail Tail = Expr-F.EmptyOf at ty in
    let same = sym (rolls-EmptyOf at ty) in
    layer-Took (expr.EmptyOf at ty) _ 0 (one-at begun place ⨟ own next)
    (ap expr_tokens same ∙ fold-roll-Expr Tokens Tokens Tokens Tokens Tokens Tokens expr_step suffix_step expr_arm_step field_set_step sign_tail_step tail_step x)
    (ap expr_span same ∙ fold-roll-Expr Span Span Span Span Span Span span_step suffix_span_step expr_arm_span_step field_set_span_step sign_tail_span_step tail_span_step x)
    (ap level_of same ∙ fold-roll-Expr ℕ Bool Bool Bool (Sign × ℕ) ℕ level_step suffix_level_step expr_arm_level_step field_set_level_step sign_tail_level_step tail_level_step x)
    (omega arith)

pub name-Took : {before after : Spot} (name : Id) → Took id_tokens id_span Any before after name → Took expr_tokens expr_span (IsWithin 0) before after (expr.Name name)
name-Took name named =
    let x : Expr-F Expr Suffix ExprArm FieldSet SignTail Tail = Expr-F.Name name in
    let same = sym (rolls-Name name) in
    layer-Took (expr.Name name) _ 0 (own named)
    (ap expr_tokens same ∙ fold-roll-Expr Tokens Tokens Tokens Tokens Tokens Tokens expr_step suffix_step expr_arm_step field_set_step sign_tail_step tail_step x)
    (ap expr_span same ∙ fold-roll-Expr Span Span Span Span Span Span span_step suffix_span_step expr_arm_span_step field_set_span_step sign_tail_span_step tail_span_step x)
    (ap level_of same ∙ fold-roll-Expr ℕ Bool Bool Bool (Sign × ℕ) ℕ level_step suffix_level_step expr_arm_level_step field_set_level_step sign_tail_level_step tail_level_step x)
    (omega arith)

pub variant-Took : {before a b after : Spot} (owner : Id) (variant : Id) → Took id_tokens id_span Any before a owner → TookOne (tok.Sign sign.ColonColon) a b → Took id_tokens id_span Any b after variant → Took expr_tokens expr_span (IsWithin 0) before after (expr.Variant owner variant)
variant-Took owner variant first begun next =
    let x : Expr-F Expr Suffix ExprArm FieldSet SignTail Tail = Expr-F.Variant owner variant in
    let same = sym (rolls-Variant owner variant) in
    layer-Took (expr.Variant owner variant) _ 0 (own first ⨟ one begun ⨟ own next)
    (ap expr_tokens same ∙ fold-roll-Expr Tokens Tokens Tokens Tokens Tokens Tokens expr_step suffix_step expr_arm_step field_set_step sign_tail_step tail_step x)
    (ap expr_span same ∙ fold-roll-Expr Span Span Span Span Span Span span_step suffix_span_step expr_arm_span_step field_set_span_step sign_tail_span_step tail_span_step x)
    (ap level_of same ∙ fold-roll-Expr ℕ Bool Bool Bool (Sign × ℕ) ℕ level_step suffix_level_step expr_arm_level_step field_set_level_step sign_tail_level_step tail_level_step x)
    (omega arith)

-- "[" head test ":" value "]", where the value is read with the signs round it
each-Part : {before a b c after : Spot} (head test value : Tokens) (g h k : Span) → TookOne (tok.Sign sign.OpenBracket) before a → Part true head g a b → Part false test h b c → Part true ((mark sign.Colon ++ value) ++ mark sign.CloseBracket) ((token >> k) >> token) c after → Part true ((mark sign.OpenBracket ++ (((head ++ test) ++ mark sign.Colon) ++ value)) ++ mark sign.CloseBracket) ((token >> (((g >> h) >> token) >> k)) >> token) before after
each-Part head test value g h k begun first tested inner =
    behind-two (((head ++ test) ++ mark sign.Colon) ++ value) (mark sign.CloseBracket) (((g >> h) >> token) >> k) token (one begun) (behind-three (mark sign.Colon) value (mark sign.CloseBracket) token k token (first ⨟ tested) inner)

pub each-Took : {before a b c after : Spot} (at : ℕ) (name : Id) (list : Expr) (cond : Option Expr) (value : Expr) → TookOne (tok.Sign sign.OpenBracket) before a → at ≡ before.0 → Took (λ (own : Id × Expr). for_tokens own.0 own.1) (λ (own : Id × Expr). for_span own.0 own.1) (λ (own : Id × Expr). is_expr own.1 ≡ true) a b (name, list) → TookAll test_tokens test_span (λ cond. if_written is_expr cond ≡ true) b c cond → Took (λ expr. (mark sign.Colon ++ expr_tokens expr) ++ mark sign.CloseBracket) (λ expr. bracketed (expr_span expr)) (IsWithin 9) c after value → Took expr_tokens expr_span (IsWithin 0) before after (expr.Each at name list cond value)
each-Took at name list None value begun place head test inner =
    let x : Expr-F Expr Suffix ExprArm FieldSet SignTail Tail = Expr-F.Each at name list None value in
    let same = sym (rolls-Each at name list None value) in
    layer-Took (expr.Each at name list None value) _ 0 (placed-at (each-Part _ _ _ _ _ _ begun (own head) (all test) (own inner)) place)
    (ap expr_tokens same ∙ fold-roll-Expr Tokens Tokens Tokens Tokens Tokens Tokens expr_step suffix_step expr_arm_step field_set_step sign_tail_step tail_step x)
    (ap expr_span same ∙ fold-roll-Expr Span Span Span Span Span Span span_step suffix_span_step expr_arm_span_step field_set_span_step sign_tail_span_step tail_span_step x)
    (ap level_of same ∙ fold-roll-Expr ℕ Bool Bool Bool (Sign × ℕ) ℕ level_step suffix_level_step expr_arm_level_step field_set_level_step sign_tail_level_step tail_level_step x)
    (level-one _ 0 (true-and _ _ (true-and _ _ head.good refl) (le-stands (level_of value) 9 inner.good)))
each-Took at name list (Some when) value begun place head test inner =
    let x : Expr-F Expr Suffix ExprArm FieldSet SignTail Tail = Expr-F.Each at name list (Some when) value in
    let same = sym (rolls-Each at name list (Some when) value) in
    layer-Took (expr.Each at name list (Some when) value) _ 0 (placed-at (each-Part _ _ _ _ _ _ begun (own head) (all test) (own inner)) place)
    (ap expr_tokens same ∙ fold-roll-Expr Tokens Tokens Tokens Tokens Tokens Tokens expr_step suffix_step expr_arm_step field_set_step sign_tail_step tail_step x)
    (ap expr_span same ∙ fold-roll-Expr Span Span Span Span Span Span span_step suffix_span_step expr_arm_span_step field_set_span_step sign_tail_span_step tail_span_step x)
    (ap level_of same ∙ fold-roll-Expr ℕ Bool Bool Bool (Sign × ℕ) ℕ level_step suffix_level_step expr_arm_level_step field_set_level_step sign_tail_level_step tail_level_step x)
    (level-one _ 0 (true-and _ _ (true-and _ _ head.good test.good) (le-stands (level_of value) 9 inner.good)))

pub field-Took : {before a after : Spot} (at : ℕ) (name : Id) → TookOne (tok.Sign sign.Dot) before a → at ≡ before.0 → Took id_tokens id_span Any a after name → Took suffix_tokens suffix_span (IsOk is_suffix) before after (suffix.Field at name)
field-Took at name begun place named =
    let x : Suffix-F Expr Suffix ExprArm FieldSet SignTail Tail = Suffix-F.Field at name in
    let same = sym (rolls-Field at name) in
    read-node (one-at begun place ⨟ own named)
    (ap suffix_tokens same ∙ fold-roll-Suffix Tokens Tokens Tokens Tokens Tokens Tokens expr_step suffix_step expr_arm_step field_set_step sign_tail_step tail_step x)
    (ap suffix_span same ∙ fold-roll-Suffix Span Span Span Span Span Span span_step suffix_span_step expr_arm_span_step field_set_span_step sign_tail_span_step tail_span_step x)
    (ap is_suffix same ∙ fold-roll-Suffix ℕ Bool Bool Bool (Sign × ℕ) ℕ level_step suffix_level_step expr_arm_level_step field_set_level_step sign_tail_level_step tail_level_step x)

pub index-Took : {before after : Spot} (at : ℕ) (value : Expr) → at ≡ before.0 → Took (λ expr. in_brackets (expr_tokens expr)) (λ expr. bracketed (expr_span expr)) (IsWithin 9) before after value → Took suffix_tokens suffix_span (IsOk is_suffix) before after (suffix.Index at value)
index-Took at value place inner =
    let x : Suffix-F Expr Suffix ExprArm FieldSet SignTail Tail = Suffix-F.Index at value in
    let same = sym (rolls-Index at value) in
    read-node (placed-at (own inner) place)
    (ap suffix_tokens same ∙ fold-roll-Suffix Tokens Tokens Tokens Tokens Tokens Tokens expr_step suffix_step expr_arm_step field_set_step sign_tail_step tail_step x)
    (ap suffix_span same ∙ fold-roll-Suffix Span Span Span Span Span Span span_step suffix_span_step expr_arm_span_step field_set_span_step sign_tail_span_step tail_span_step x)
    (ap is_suffix same ∙ (fold-roll-Suffix ℕ Bool Bool Bool (Sign × ℕ) ℕ level_step suffix_level_step expr_arm_level_step field_set_level_step sign_tail_level_step tail_level_step x ∙ le-stands (level_of value) 9 inner.good))

pub unwrap-Took : {before after : Spot} (at : ℕ) → TookOne (tok.Sign sign.Bang) before after → at ≡ before.0 → Took suffix_tokens suffix_span (IsOk is_suffix) before after (suffix.Unwrap at)
unwrap-Took at begun place =
    let x : Suffix-F Expr Suffix ExprArm FieldSet SignTail Tail = Suffix-F.Unwrap at in
    let same = sym (rolls-Unwrap at) in
    read-node (one-at begun place)
    (ap suffix_tokens same ∙ fold-roll-Suffix Tokens Tokens Tokens Tokens Tokens Tokens expr_step suffix_step expr_arm_step field_set_step sign_tail_step tail_step x)
    (ap suffix_span same ∙ fold-roll-Suffix Span Span Span Span Span Span span_step suffix_span_step expr_arm_span_step field_set_span_step sign_tail_span_step tail_span_step x)
    (ap is_suffix same ∙ fold-roll-Suffix ℕ Bool Bool Bool (Sign × ℕ) ℕ level_step suffix_level_step expr_arm_level_step field_set_level_step sign_tail_level_step tail_level_step x)

pub field_set-Took : {before a b after : Spot} (name : Id) (value : Expr) → Took id_tokens id_span Any before a name → TookOne (tok.Sign sign.Colon) a b → Took expr_tokens expr_span (IsWithin 9) b after value → Took field_set_tokens field_set_span (IsOk is_field_set) before after (roll-FieldSet (record { name = name; value = value }))
field_set-Took name value named colon inner =
    let x : FieldSet-F Expr Suffix ExprArm FieldSet SignTail Tail = record { name = name; value = value } in
    read-node (own named ⨟ one colon ⨟ own inner)
    (fold-roll-FieldSet Tokens Tokens Tokens Tokens Tokens Tokens expr_step suffix_step expr_arm_step field_set_step sign_tail_step tail_step x)
    (fold-roll-FieldSet Span Span Span Span Span Span span_step suffix_span_step expr_arm_span_step field_set_span_step sign_tail_span_step tail_span_step x)
    (fold-roll-FieldSet ℕ Bool Bool Bool (Sign × ℕ) ℕ level_step suffix_level_step expr_arm_level_step field_set_level_step sign_tail_level_step tail_level_step x ∙ whole-expr inner)

pub arm-Took : {before a b after : Spot} (cond : Expr) (value : Expr) → TookOne (tok.Key key.If) before a → Took expr_tokens expr_span (IsWithin 9) a b cond → Took (λ expr. in_braces (expr_tokens expr)) (λ expr. bracketed (expr_span expr)) (IsWithin 9) b after value → Took expr_arm_tokens expr_arm_span (IsOk is_expr_arm) before after (roll-ExprArm (record { cond = cond; value = value }))
arm-Took cond value begun test braces =
    let x : ExprArm-F Expr Suffix ExprArm FieldSet SignTail Tail = record { cond = cond; value = value } in
    read-node (one begun ⨟ own test ⨟ own braces)
    (fold-roll-ExprArm Tokens Tokens Tokens Tokens Tokens Tokens expr_step suffix_step expr_arm_step field_set_step sign_tail_step tail_step x)
    (fold-roll-ExprArm Span Span Span Span Span Span span_step suffix_span_step expr_arm_span_step field_set_span_step sign_tail_span_step tail_span_step x)
    (fold-roll-ExprArm ℕ Bool Bool Bool (Sign × ℕ) ℕ level_step suffix_level_step expr_arm_level_step field_set_level_step sign_tail_level_step tail_level_step x ∙ true-and _ _ (le-stands (level_of cond) 9 test.good) (le-stands (level_of value) 9 braces.good))
