use Rattle.dsde_parser_expressions.specs.Took.{Spot}
use Rattle.dsde_parser_expressions.specs.Follows.{stop_at}
use Rattle.dsde_parser_expressions.proofs.TookLemmas.{Took-push, Took-closed, Took-last, Took-between, Reads-between}
use Rattle.dsde_parser_expressions.proofs.ChainLemmas.{alone-Took, or-Took, and-Took, sum-Took, mul-Took, post-Took}
use Rattle.dsde_parser_expressions.proofs.NodeLemmas.{boxed-Reads, no-empty, taken, or_tail-Took, and_tail-Took, sum_tail-Took, mul_tail-Took, call-Took, builtin-Took, row-Took, new-Took, choice-Took, whole-Took}
use Rattle.std.proofs.Common.{rules, arith, refl, sym, ◌∙◌, [], ◌∷◌, ◌++◌, ap}
use Rattle.dsde_syntax.specs.declared.token.Tok.TheVariants as tok
use Rattle.dsde_syntax.specs.Grammar.{expr_tokens, field_set_tokens}
use Rattle.dsde_syntax.specs.Places.{expr_span, field_set_span}
use Rattle.dsde_parser_expressions.specs.Parts.{commas_by, spans_by}
use Rattle.dsde_syntax.specs.Levels.{is_expr}
use Rattle.dsde_words.specs.declared.key.Key.TheVariants as key
use Rattle.dsde_syntax.specs.declared.token.Sign.TheVariants as sign
use Rattle.dsde_parser_grammar.specs.Want as want
use Rattle.dsde_parser_grammar.specs.Steps.{expr_wants, post_wants, sum_wants, or_wants, cmp_wants, and_wants, mul_wants, args, exprs, braced_expr, choice_rest, neg_wants, not_wants, angles, field_set}
use Rattle.dsde_parser_expressions.proofs.LedLemmas.{leads-from, leads-behind, boxed-leads, taken-step}
use Rattle.dsde_parser_expressions.proofs.StepLemmas.{expr-levels, fallback-none, minus-none, negation-none, suffixes-more, suffix-field, suffix-index, suffix-unwrap, prim-named, prim-paren, prim-record, prim-none_of, prim-empty_of, prim-choice, prim-each, prim-row, after_name-args, args-some, else-last, else-if, more_exprs-none, more_fields-none, disjuncts-none, conjuncts-none, suffixes-none, after_name-none, test-none}
use Rattle.dsde_parser_expressions.proofs.PartLemmas.{one, own, ◌⨟◌, read, whole-expr}
use Rattle.dsde_parser_expressions.proofs.LayerLemmas.{fallback-Took, negation-Took, compare-Took, minus-Took, paren-Took, name-Took, variant-Took, each-Took, index-Took, field_set-Took, arm-Took}
use Rattle.dsde_parser_expressions.proofs.parser.Parser.+read_expr.Goals as goal

pub or-returns-clause-took : goal.or-returns-clause-took
or-returns-clause-took t c = boxed-Reads _ _ c.boxed.ensures.own (or-Took _ _ c.in_ok-first.ensures.took c.in_ok-rest.ensures.took (no-empty c.if-is_empty.ensures.1))

pub and-returns-clause-took : goal.and-returns-clause-took
and-returns-clause-took t c = boxed-Reads _ _ c.boxed.ensures.own (and-Took _ _ c.in_ok-first.ensures.took c.in_ok-rest.ensures.took (no-empty c.if-is_empty.ensures.1))

pub sum-returns-clause-took : goal.sum-returns-clause-took
sum-returns-clause-took t c = boxed-Reads _ _ c.boxed.ensures.own (sum-Took _ _ c.in_ok-first.ensures.took c.in_ok-rest.ensures.took (no-empty c.if-is_empty.ensures.1))

pub mul-returns-clause-took : goal.mul-returns-clause-took
mul-returns-clause-took t c = boxed-Reads _ _ c.boxed.ensures.own (mul-Took _ _ c.in_ok-first.ensures.took c.in_ok-rest.ensures.took (no-empty c.if-is_empty.ensures.1))

pub post-returns-clause-took : goal.post-returns-clause-took
post-returns-clause-took t c = boxed-Reads _ _ c.boxed.ensures.own (post-Took _ _ c.in_ok-first.ensures.took c.in_ok-suffixes.ensures.took (no-empty c.if-is_empty.ensures.1))

pub or_tails-tails-preserved : goal.or_tails-tails-preserved
or_tails-tails-preserved t c =
    let one = taken _ _ _ _ c.takes_key.ensures.took c.if-not-takes_key.false in
    let place = ap (λ (spot : Spot). spot.0) c.self-in-tails.view_is in
    record {
      took = rw c.in_ok-push.ensures.ok (Took-push _ c.tails.invariant.took (or_tail-Took _ _ one place (rw (← c.into_inner.ensures) at c.in_ok-value.ensures.took)));
      same = λ s. c.tails.invariant.same s ∙ (taken-step (want.disjuncts ∷ s) (and_wants ++ want.disjuncts ∷ s) one refl ∙ c.in_ok-value.ensures.same (want.disjuncts ∷ s));
    }

pub and_tails-tails-preserved : goal.and_tails-tails-preserved
and_tails-tails-preserved t c =
    let one = taken _ _ _ _ c.takes_key.ensures.took c.if-not-takes_key.false in
    let place = ap (λ (spot : Spot). spot.0) c.self-in-tails.view_is in
    record {
      took = rw c.in_ok-push.ensures.ok (Took-push _ c.tails.invariant.took (and_tail-Took _ _ one place (rw (← c.into_inner.ensures) at c.in_ok-value.ensures.took)));
      same = λ s. c.tails.invariant.same s ∙ (taken-step (want.conjuncts ∷ s) (not_wants ++ want.conjuncts ∷ s) one refl ∙ c.in_ok-value.ensures.same (want.conjuncts ∷ s));
    }

pub sum_tails-tails-preserved : goal.sum_tails-tails-preserved
sum_tails-tails-preserved t c =
    let place = ap (λ (spot : Spot). spot.0) c.self-in-tails.view_is in
    record {
      took = rw c.in_ok-push.ensures.ok (Took-push _ c.tails.invariant.took (sum_tail-Took _ _ _ c.in-Some.ensures.took.0 c.in-Some.ensures.took.1 place (rw (← c.into_inner.ensures) at c.in_ok-value.ensures.took)));
      same = λ s. c.tails.invariant.same s ∙ (taken-step (want.terms ∷ s) (mul_wants ++ want.terms ∷ s) c.in-Some.ensures.took.0 (rw c.in-Some.ensures.took.1 refl) ∙ c.in_ok-value.ensures.same (want.terms ∷ s));
    }

pub mul_tails-tails-preserved : goal.mul_tails-tails-preserved
mul_tails-tails-preserved t c =
    let place = ap (λ (spot : Spot). spot.0) c.self-in-tails.view_is in
    record {
      took = rw c.in_ok-push.ensures.ok (Took-push _ c.tails.invariant.took (mul_tail-Took _ _ _ c.in-Some.ensures.took.0 c.in-Some.ensures.took.1 place (rw (← c.into_inner.ensures) at c.in_ok-value.ensures.took)));
      same = λ s. c.tails.invariant.same s ∙ (taken-step (want.factors ∷ s) (neg_wants ++ want.factors ∷ s) c.in-Some.ensures.took.0 (rw c.in-Some.ensures.took.1 refl) ∙ c.in_ok-value.ensures.same (want.factors ∷ s));
    }

pub suffixes-suffixes-preserved : goal.suffixes-suffixes-preserved
suffixes-suffixes-preserved t c =
    record {
      took = rw c.in_ok-push.ensures.ok (Took-push _ c.suffixes.invariant.took c.in_ok-suffix.ensures.took);
      same = λ s. c.suffixes.invariant.same s ∙ (suffixes-more s c.suffixes.self.0 c.suffixes.self.1 (sym c.suffixes-test.ensures) ∙ c.in_ok-suffix.ensures.same (want.suffixes ∷ s));
    }

pub builtin-returns-clause-took : goal.builtin-returns-clause-took
builtin-returns-clause-took t c =
    let place = ap (λ (spot : Spot). spot.0) c.self.view_is in
    boxed-Reads _ _ c.boxed.ensures.own (builtin-Took _ _ _ c.in-Some.ensures.took.0 c.in-Some.ensures.took.1 place c.in_ok-args.ensures.took)

pub named-returns-then-next_is_sign-clause-took : goal.named-returns-then-next_is_sign-clause-took
named-returns-then-next_is_sign-clause-took t c =
    let name = c.in_ok-name.ensures.took in
    boxed-Reads _ _ c.boxed.ensures.own (call-Took _ _ name.spells name.placed name.shorter name.moved c.in_ok-args.ensures.took)

pub row-returns-clause-took : goal.row-returns-clause-took
row-returns-clause-took t c =
    boxed-Reads _ _ c.boxed.ensures.own (row-Took _ _ c.in_ok-at.ensures.took c.in_ok-at.ensures.place c.in_ok-items.ensures.took)

pub new_record-returns-clause-took : goal.new_record-returns-clause-took
new_record-returns-clause-took t c =
    let owner = c.in_ok-of.ensures.took in
    boxed-Reads _ _ c.boxed.ensures.own (new-Took _ _ _ c.in_ok-at.ensures.took c.in_ok-at.ensures.place owner.spells owner.placed owner.shorter owner.moved (Took-between (commas_by field_set_tokens) (spans_by field_set_span) (tok.Sign sign.CloseBrace) c.in_ok-sign.ensures.took c.in_ok-fields.ensures.took))

pub choice-returns-clause-took : goal.choice-returns-clause-took
choice-returns-clause-took t c =
    let place = ap (λ (spot : Spot). spot.0) c.self.view_is in
    boxed-Reads _ _ c.boxed.ensures.own (choice-Took _ _ _ place c.in_ok-arms.ensures.took c.in_ok-other.ensures.took)

pub expr-returns-clause-same : goal.expr-returns-clause-same
expr-returns-clause-same t c =
    let one = taken _ _ _ _ c.takes_sign.ensures.took c.if-not-takes_sign.false in
    boxed-leads (want.expr ∷ []) [] c.args.self.now c.or-2.new.self _ c.boxed.ensures.memory (λ s. expr-levels s c.args.self.now.0 c.args.self.now.1 ∙ (c.in_ok-left.ensures.same (want.fallback ∷ s) ∙ (taken-step (want.fallback ∷ s) (or_wants ++ s) one refl ∙ c.in_ok-right.ensures.same s)))

pub expr-returns-in_err-left-clause-same : goal.expr-returns-in_err-left-clause-same
expr-returns-in_err-left-clause-same t c =
    leads-from (want.expr ∷ []) expr_wants [] c.args.self.now c.or.new.self _ (λ s. expr-levels s c.args.self.now.0 c.args.self.now.1) (search rules)

pub expr-returns-then-not-takes_sign-clause-same : goal.expr-returns-then-not-takes_sign-clause-same
expr-returns-then-not-takes_sign-clause-same t c =
    λ s.
    expr-levels s c.args.self.now.0 c.args.self.now.1
    ∙ (c.in_ok-left.ensures.same (want.fallback ∷ s)
    ∙ (fallback-none s c.or.new.self.0 c.or.new.self.1 (sym c.if-not-takes_sign.ensures.comes)
    ∙ ap (λ (spot : Spot). stop_at s spot) (sym c.if-not-takes_sign.ensures.took)))

pub expr-returns-in_err-right-clause-same : goal.expr-returns-in_err-right-clause-same
expr-returns-in_err-right-clause-same t c =
    let one = taken _ _ _ _ c.takes_sign.ensures.took c.if-not-takes_sign.false in
    leads-behind (want.expr ∷ []) or_wants [] c.args.self.now c.takes_sign.new.self c.or-2.new.self _ (λ s. expr-levels s c.args.self.now.0 c.args.self.now.1 ∙ (c.in_ok-left.ensures.same (want.fallback ∷ s) ∙ taken-step (want.fallback ∷ s) (or_wants ++ s) one refl)) (search rules)

pub neg-returns-then-not-takes_sign-clause-same : goal.neg-returns-then-not-takes_sign-clause-same
neg-returns-then-not-takes_sign-clause-same t c =
    leads-from neg_wants post_wants [] c.args.self.now c.post.new.self _ (λ s. minus-none (post_wants ++ s) c.args.self.now.0 c.args.self.now.1 (sym c.if-not-takes_sign.ensures.comes)) (search rules)

pub not-returns-then-not-takes_key-clause-same : goal.not-returns-then-not-takes_key-clause-same
not-returns-then-not-takes_key-clause-same t c =
    leads-from not_wants cmp_wants [] c.args.self.now c.compare.new.self _ (λ s. negation-none (cmp_wants ++ s) c.args.self.now.0 c.args.self.now.1 (sym c.if-not-takes_key.ensures.comes)) (search rules)

pub suffixes-returns-in_err-suffix-clause-same : goal.suffixes-returns-in_err-suffix-clause-same
suffixes-returns-in_err-suffix-clause-same t c =
    leads-behind (want.suffixes ∷ []) (want.suffixes ∷ []) [] c.args.self.now c.suffixes.self c.suffix.new.self _ c.suffixes.invariant.same (leads-from (want.suffixes ∷ []) (want.suffix ∷ want.suffixes ∷ []) [] c.suffixes.self c.suffix.new.self _ (λ s. suffixes-more s c.suffixes.self.0 c.suffixes.self.1 (sym c.suffixes-test.ensures)) (search rules))

pub suffix-returns-then-next_is_sign-clause-same : goal.suffix-returns-then-next_is_sign-clause-same
suffix-returns-then-next_is_sign-clause-same t c =
    leads-from (want.suffix ∷ []) (want.mark sign.Dot ∷ want.name ∷ []) [] c.args.self.now c.field.new.self _ (λ s. suffix-field s c.args.self.now.0 c.args.self.now.1 (sym c.if-next_is_sign.ensures)) c.field.ensures.same

pub suffix-returns-then-next_is_sign-2-clause-same : goal.suffix-returns-then-next_is_sign-2-clause-same
suffix-returns-then-next_is_sign-2-clause-same t c =
    leads-from (want.suffix ∷ []) (want.mark sign.OpenBracket ∷ want.expr ∷ want.mark sign.CloseBracket ∷ []) [] c.args.self.now c.index.new.self _ (λ s. suffix-index s c.args.self.now.0 c.args.self.now.1 (sym c.if-next_is_sign-2.ensures)) c.index.ensures.same

pub suffix-returns-clause-same : goal.suffix-returns-clause-same
suffix-returns-clause-same t c =
    leads-from (want.suffix ∷ []) (want.mark sign.Bang ∷ []) [] c.args.self.now c.unwrap.new.self _ (λ s. suffix-unwrap s c.args.self.now.0 c.args.self.now.1 (sym c.if-next_is_sign.ensures) (sym c.if-next_is_sign-2.ensures)) c.unwrap.ensures.same

pub prim-returns-then-next_is_name-clause-same : goal.prim-returns-then-next_is_name-clause-same
prim-returns-then-next_is_name-clause-same t c =
    leads-from (want.prim ∷ []) (want.name ∷ want.after_name ∷ []) [] c.args.self.now c.named.new.self _ (λ s. prim-named s c.args.self.now.0 c.args.self.now.1 (sym c.if-next_is_name.ensures)) c.named.ensures.same

pub prim-returns-then-next_is_sign-clause-same : goal.prim-returns-then-next_is_sign-clause-same
prim-returns-then-next_is_sign-clause-same t c =
    leads-from (want.prim ∷ []) (want.mark sign.OpenParen ∷ want.expr ∷ want.mark sign.CloseParen ∷ []) [] c.args.self.now c.paren.new.self _ (λ s. prim-paren s c.args.self.now.0 c.args.self.now.1 (sym c.if-next_is_sign.ensures)) c.paren.ensures.same

pub prim-returns-then-next_is_sign-2-clause-same : goal.prim-returns-then-next_is_sign-2-clause-same
prim-returns-then-next_is_sign-2-clause-same t c =
    c.in_brackets.ensures.same (sym c.if-next_is_sign-2.ensures)

pub prim-returns-then-next_is_key-clause-same : goal.prim-returns-then-next_is_key-clause-same
prim-returns-then-next_is_key-clause-same t c =
    leads-from (want.prim ∷ []) (want.word key.New ∷ want.name ∷ want.mark sign.OpenBrace ∷ (field_set ++ want.more_fields ∷ want.mark sign.CloseBrace ∷ [])) [] c.args.self.now c.new_record.new.self _ (λ s. prim-record s c.args.self.now.0 c.args.self.now.1 (sym c.if-next_is_key.ensures)) c.new_record.ensures.same

pub prim-returns-then-next_is_key-2-clause-same : goal.prim-returns-then-next_is_key-2-clause-same
prim-returns-then-next_is_key-2-clause-same t c =
    leads-from (want.prim ∷ []) (want.word key.NoneOf ∷ angles) [] c.args.self.now c.none_of.new.self _ (λ s. prim-none_of s c.args.self.now.0 c.args.self.now.1 (sym c.if-next_is_key-2.ensures)) c.none_of.ensures.same

pub prim-returns-then-next_is_key-3-clause-same : goal.prim-returns-then-next_is_key-3-clause-same
prim-returns-then-next_is_key-3-clause-same t c =
    leads-from (want.prim ∷ []) (want.word key.EmptyOf ∷ angles) [] c.args.self.now c.empty_of.new.self _ (λ s. prim-empty_of s c.args.self.now.0 c.args.self.now.1 (sym c.if-next_is_key-3.ensures)) c.empty_of.ensures.same

pub prim-returns-then-next_is_key-4-clause-same : goal.prim-returns-then-next_is_key-4-clause-same
prim-returns-then-next_is_key-4-clause-same t c =
    leads-from (want.prim ∷ []) (want.word key.If ∷ choice_rest) [] c.args.self.now c.choice.new.self _ (λ s. prim-choice s c.args.self.now.0 c.args.self.now.1 (sym c.if-next_is_key-4.ensures)) c.choice.ensures.same

pub in_brackets-returns-then-second_is_key-clause-same : goal.in_brackets-returns-then-second_is_key-clause-same
in_brackets-returns-then-second_is_key-clause-same t c =
    λ h. leads-from (want.prim ∷ []) (want.mark sign.OpenBracket ∷ want.word key.For ∷ want.name ∷ want.word key.In ∷ want.expr ∷ want.test ∷ want.mark sign.Colon ∷ want.expr ∷ want.mark sign.CloseBracket ∷ []) [] c.args.self.now c.each.new.self _ (λ s. prim-each s c.args.self.now.0 c.args.self.now.1 h (sym c.if-second_is_key.ensures)) c.each.ensures.same

pub in_brackets-returns-clause-same : goal.in_brackets-returns-clause-same
in_brackets-returns-clause-same t c =
    λ h. leads-from (want.prim ∷ []) (want.mark sign.OpenBracket ∷ (exprs ++ want.mark sign.CloseBracket ∷ [])) [] c.args.self.now c.row.new.self _ (λ s. prim-row s c.args.self.now.0 c.args.self.now.1 h (sym c.if-second_is_key.ensures)) c.row.ensures.same

pub named-returns-in_err-args-clause-same : goal.named-returns-in_err-args-clause-same
named-returns-in_err-args-clause-same t c =
    leads-behind (want.name ∷ want.after_name ∷ []) (want.after_name ∷ []) [] c.args.self.now c.name.new.self c.arguments.new.self _ (λ s. c.in_ok-name.ensures.same (want.after_name ∷ s)) (leads-from (want.after_name ∷ []) args [] c.name.new.self c.arguments.new.self _ (λ s. after_name-args s c.name.new.self.0 c.name.new.self.1 (sym c.if-next_is_sign.ensures)) (search rules))

pub choice-returns-in_err-other-clause-same : goal.choice-returns-in_err-other-clause-same
choice-returns-in_err-other-clause-same t c =
    leads-behind (want.word key.If ∷ choice_rest) braced_expr [] c.args.self.now c.arms.new.self c.between.new.self _ c.in_ok-arms.ensures.same (search rules)

pub expr-returns-clause-took : goal.expr-returns-clause-took
expr-returns-clause-took t c =
    let begun = taken _ _ _ _ c.takes_sign.ensures.took c.if-not-takes_sign.false in
    let place = ap (λ (spot : Spot). spot.0) c.self.view_is in
    boxed-Reads _ _ c.boxed.ensures.own (fallback-Took _ _ _ c.in_ok-left.ensures.took begun place c.in_ok-right.ensures.took)

pub not-returns-clause-took : goal.not-returns-clause-took
not-returns-clause-took t c =
    let begun = taken _ _ _ _ c.takes_key.ensures.took c.if-not-takes_key.false in
    let place = ap (λ (spot : Spot). spot.0) c.self.view_is in
    boxed-Reads _ _ c.boxed.ensures.own (negation-Took _ _ begun place c.in_ok-of.ensures.took)

pub compare-returns-clause-took : goal.compare-returns-clause-took
compare-returns-clause-took t c =
    let place = ap (λ (spot : Spot). spot.0) c.self.view_is in
    boxed-Reads _ _ c.boxed.ensures.own (compare-Took _ _ _ _ c.in_ok-left.ensures.took c.in-Some.ensures.took.0 c.in-Some.ensures.took.1 place c.in_ok-right.ensures.took)

pub neg-returns-clause-took : goal.neg-returns-clause-took
neg-returns-clause-took t c =
    let begun = taken _ _ _ _ c.takes_sign.ensures.took c.if-not-takes_sign.false in
    let place = ap (λ (spot : Spot). spot.0) c.self.view_is in
    boxed-Reads _ _ c.boxed.ensures.own (minus-Took _ _ begun place c.in_ok-of.ensures.took)

pub named-returns-clause-took : goal.named-returns-clause-took
named-returns-clause-took t c =
    let named = rw (← c.if-takes_sign.ensures.took) at c.in_ok-name.ensures.took in
    boxed-Reads _ _ c.boxed-2.ensures.own (name-Took _ named)

pub named-returns-then-takes_sign-clause-took : goal.named-returns-then-takes_sign-clause-took
named-returns-then-takes_sign-clause-took t c =
    let begun = taken _ _ _ _ c.takes_sign.ensures.took c.if-takes_sign.true in
    boxed-Reads _ _ c.boxed-then-takes_sign.ensures.own (variant-Took _ _ c.in_ok-name.ensures.took begun c.in_ok-variant.ensures.took)

pub index-returns-clause-took : goal.index-returns-clause-took
index-returns-clause-took t c =
    let place = ap (λ (spot : Spot). spot.0) c.self.view_is in
    rw c.into_inner.ensures (index-Took _ _ place c.in_ok-value.ensures.took)

pub field_set-returns-clause-took : goal.field_set-returns-clause-took
field_set-returns-clause-took t c =
    rw c.into_inner-value.ensures (field_set-Took _ _ c.in_ok-name.ensures.took c.in_ok-sign.ensures.took c.in_ok-expr.ensures.took)

pub arm-returns-clause-took : goal.arm-returns-clause-took
arm-returns-clause-took t c =
    rw (c.into_inner.ensures, c.into_inner-2.ensures) (arm-Took _ _ c.in_ok-key.ensures.took c.in_ok-cond.ensures.took c.in_ok-value.ensures.took)

pub arguments-returns-clause-took : goal.arguments-returns-clause-took
arguments-returns-clause-took t c =
    let begun = rw (← c.if-takes_sign.ensures.took) at c.in_ok-sign.ensures.took in
    Reads-between expr_tokens expr_span is_expr c.exprs.new.self (tok.Sign sign.OpenParen) (tok.Sign sign.CloseParen) c.exprs.result begun c.exprs.ensures.took

pub row-returns-clause-same : goal.row-returns-clause-same
row-returns-clause-same t c =
    boxed-leads (want.mark sign.OpenBracket ∷ (exprs ++ want.mark sign.CloseBracket ∷ [])) [] c.args.self.now c.exprs.new.self _ c.boxed.ensures.memory (λ s. c.in_ok-at.ensures.same (exprs ++ want.mark sign.CloseBracket ∷ s) ∙ c.in_ok-items.ensures.same s)

pub new_record-returns-clause-same : goal.new_record-returns-clause-same
new_record-returns-clause-same t c =
    boxed-leads (want.word key.New ∷ want.name ∷ want.mark sign.OpenBrace ∷ (field_set ++ want.more_fields ∷ want.mark sign.CloseBrace ∷ [])) [] c.args.self.now c.field_sets.new.self _ c.boxed.ensures.memory (λ s. c.in_ok-at.ensures.same (want.name ∷ want.mark sign.OpenBrace ∷ (field_set ++ want.more_fields ∷ want.mark sign.CloseBrace ∷ s)) ∙ c.in_ok-of.ensures.same (want.mark sign.OpenBrace ∷ (field_set ++ want.more_fields ∷ want.mark sign.CloseBrace ∷ s)) ∙ c.in_ok-sign.ensures.same (field_set ++ want.more_fields ∷ want.mark sign.CloseBrace ∷ s) ∙ c.in_ok-fields.ensures.same s)

pub new_record-returns-in_err-fields-clause-same : goal.new_record-returns-in_err-fields-clause-same
new_record-returns-in_err-fields-clause-same t c =
    leads-behind (want.word key.New ∷ want.name ∷ want.mark sign.OpenBrace ∷ (field_set ++ want.more_fields ∷ want.mark sign.CloseBrace ∷ [])) (field_set ++ want.more_fields ∷ want.mark sign.CloseBrace ∷ []) [] c.args.self.now c.sign.new.self c.field_sets.new.self _ (λ s. c.in_ok-at.ensures.same (want.name ∷ want.mark sign.OpenBrace ∷ (field_set ++ want.more_fields ∷ want.mark sign.CloseBrace ∷ s)) ∙ c.in_ok-of.ensures.same (want.mark sign.OpenBrace ∷ (field_set ++ want.more_fields ∷ want.mark sign.CloseBrace ∷ s)) ∙ c.in_ok-sign.ensures.same (field_set ++ want.more_fields ∷ want.mark sign.CloseBrace ∷ s)) (search rules)

pub or-returns-clause-same : goal.or-returns-clause-same
or-returns-clause-same t c =
    boxed-leads (and_wants ++ want.disjuncts ∷ []) [] c.args.self.now c.or_tails.new.self _ c.boxed.ensures.memory (λ s. c.in_ok-first.ensures.same (want.disjuncts ∷ s) ∙ c.in_ok-rest.ensures.same s)

pub or-returns-in_err-rest-clause-same : goal.or-returns-in_err-rest-clause-same
or-returns-in_err-rest-clause-same t c =
    leads-behind (and_wants ++ want.disjuncts ∷ []) (want.disjuncts ∷ []) [] c.args.self.now c.and.new.self c.or_tails.new.self _ (λ s. c.in_ok-first.ensures.same (want.disjuncts ∷ s)) (search rules)

pub and-returns-clause-same : goal.and-returns-clause-same
and-returns-clause-same t c =
    boxed-leads (not_wants ++ want.conjuncts ∷ []) [] c.args.self.now c.and_tails.new.self _ c.boxed.ensures.memory (λ s. c.in_ok-first.ensures.same (want.conjuncts ∷ s) ∙ c.in_ok-rest.ensures.same s)

pub and-returns-in_err-rest-clause-same : goal.and-returns-in_err-rest-clause-same
and-returns-in_err-rest-clause-same t c =
    leads-behind (not_wants ++ want.conjuncts ∷ []) (want.conjuncts ∷ []) [] c.args.self.now c.not.new.self c.and_tails.new.self _ (λ s. c.in_ok-first.ensures.same (want.conjuncts ∷ s)) (search rules)

pub sum-returns-clause-same : goal.sum-returns-clause-same
sum-returns-clause-same t c =
    boxed-leads (mul_wants ++ want.terms ∷ []) [] c.args.self.now c.sum_tails.new.self _ c.boxed.ensures.memory (λ s. c.in_ok-first.ensures.same (want.terms ∷ s) ∙ c.in_ok-rest.ensures.same s)

pub sum-returns-in_err-rest-clause-same : goal.sum-returns-in_err-rest-clause-same
sum-returns-in_err-rest-clause-same t c =
    leads-behind (mul_wants ++ want.terms ∷ []) (want.terms ∷ []) [] c.args.self.now c.mul.new.self c.sum_tails.new.self _ (λ s. c.in_ok-first.ensures.same (want.terms ∷ s)) (search rules)

pub mul-returns-clause-same : goal.mul-returns-clause-same
mul-returns-clause-same t c =
    boxed-leads (neg_wants ++ want.factors ∷ []) [] c.args.self.now c.mul_tails.new.self _ c.boxed.ensures.memory (λ s. c.in_ok-first.ensures.same (want.factors ∷ s) ∙ c.in_ok-rest.ensures.same s)

pub mul-returns-in_err-rest-clause-same : goal.mul-returns-in_err-rest-clause-same
mul-returns-in_err-rest-clause-same t c =
    leads-behind (neg_wants ++ want.factors ∷ []) (want.factors ∷ []) [] c.args.self.now c.neg.new.self c.mul_tails.new.self _ (λ s. c.in_ok-first.ensures.same (want.factors ∷ s)) (search rules)

pub post-returns-clause-same : goal.post-returns-clause-same
post-returns-clause-same t c =
    boxed-leads (want.prim ∷ want.suffixes ∷ []) [] c.args.self.now c.suffixes.new.self _ c.boxed.ensures.memory (λ s. c.in_ok-first.ensures.same (want.suffixes ∷ s) ∙ c.in_ok-suffixes.ensures.same s)

pub post-returns-in_err-suffixes-clause-same : goal.post-returns-in_err-suffixes-clause-same
post-returns-in_err-suffixes-clause-same t c =
    leads-behind (want.prim ∷ want.suffixes ∷ []) (want.suffixes ∷ []) [] c.args.self.now c.prim.new.self c.suffixes.new.self _ (λ s. c.in_ok-first.ensures.same (want.suffixes ∷ s)) (search rules)

pub choice-returns-clause-same : goal.choice-returns-clause-same
choice-returns-clause-same t c =
    boxed-leads (want.word key.If ∷ choice_rest) [] c.args.self.now c.between.new.self _ c.boxed.ensures.memory (λ s. c.in_ok-arms.ensures.same s ∙ c.in_ok-other.ensures.same s)

pub exprs-exprs-preserved : goal.exprs-exprs-preserved
exprs-exprs-preserved t c =
    let value = rw (← c.into_inner.ensures) at c.in_ok-expr.ensures.took in
    let comma = taken _ _ _ _ c.takes_sign.ensures.took c.if-not-takes_sign.false in
    record {
      took = rw c.in_ok-push.ensures.ok (Took-push _ c.exprs.invariant.took (Took-closed (whole-Took value) comma));
      same = λ s. c.exprs.invariant.same s ∙ (c.in_ok-expr.ensures.same (want.more_exprs ∷ want.mark c.args.close ∷ s) ∙ taken-step (want.more_exprs ∷ want.mark c.args.close ∷ s) (want.expr ∷ want.more_exprs ∷ want.mark c.args.close ∷ s) comma refl);
    }

pub exprs-returns-then-not-takes_sign-clause-took : goal.exprs-returns-then-not-takes_sign-clause-took
exprs-returns-then-not-takes_sign-clause-took t c =
    let value = rw (← c.into_inner.ensures) at c.in_ok-expr.ensures.took in
    let closed = rw c.if-not-takes_sign.ensures.took at c.in_ok-sign.ensures.took in
    rw c.in_ok-push.ensures.ok (Took-closed (Took-last (tok.Sign sign.Comma) _ c.exprs.invariant.took (whole-Took value)) closed)

pub exprs-returns-then-not-takes_sign-clause-same : goal.exprs-returns-then-not-takes_sign-clause-same
exprs-returns-then-not-takes_sign-clause-same t c =
    λ s. c.exprs.invariant.same s ∙ (c.in_ok-expr.ensures.same (want.more_exprs ∷ want.mark c.args.close ∷ s) ∙ (more_exprs-none (want.mark c.args.close ∷ s) c.expr.new.self.0 c.expr.new.self.1 (sym c.if-not-takes_sign.ensures.comes) ∙ (ap (λ (spot : Spot). stop_at (want.mark c.args.close ∷ s) spot) (sym c.if-not-takes_sign.ensures.took) ∙ c.in_ok-sign.ensures.same s)))

pub exprs-returns-in_err-expr-clause-same : goal.exprs-returns-in_err-expr-clause-same
exprs-returns-in_err-expr-clause-same t c =
    leads-behind (exprs ++ want.mark c.args.close ∷ []) (exprs ++ want.mark c.args.close ∷ []) [] c.args.self.now c.exprs.self c.expr.new.self _ c.exprs.invariant.same (search rules)

pub exprs-returns-in_err-sign-clause-same : goal.exprs-returns-in_err-sign-clause-same
exprs-returns-in_err-sign-clause-same t c =
    leads-behind (exprs ++ want.mark c.args.close ∷ []) (want.mark c.args.close ∷ []) [] c.args.self.now c.takes_sign.new.self c.sign.new.self _ (λ s. c.exprs.invariant.same s ∙ (c.in_ok-expr.ensures.same (want.more_exprs ∷ want.mark c.args.close ∷ s) ∙ (more_exprs-none (want.mark c.args.close ∷ s) c.expr.new.self.0 c.expr.new.self.1 (sym c.if-not-takes_sign.ensures.comes) ∙ ap (λ (spot : Spot). stop_at (want.mark c.args.close ∷ s) spot) (sym c.if-not-takes_sign.ensures.took)))) (search rules)

pub field_sets-fields-preserved : goal.field_sets-fields-preserved
field_sets-fields-preserved t c =
    let comma = taken _ _ _ _ c.takes_sign.ensures.took c.if-not-takes_sign.false in
    record {
      took = rw c.in_ok-push.ensures.ok (Took-push _ c.fields.invariant.took (Took-closed c.in_ok-field_set.ensures.took comma));
      same = λ s. c.fields.invariant.same s ∙ (c.in_ok-field_set.ensures.same (want.more_fields ∷ want.mark sign.CloseBrace ∷ s) ∙ taken-step (want.more_fields ∷ want.mark sign.CloseBrace ∷ s) (field_set ++ want.more_fields ∷ want.mark sign.CloseBrace ∷ s) comma refl);
    }

pub field_sets-returns-then-not-takes_sign-clause-took : goal.field_sets-returns-then-not-takes_sign-clause-took
field_sets-returns-then-not-takes_sign-clause-took t c =
    let closed = rw c.if-not-takes_sign.ensures.took at c.in_ok-sign.ensures.took in
    rw c.in_ok-push.ensures.ok (Took-closed (Took-last (tok.Sign sign.Comma) _ c.fields.invariant.took c.in_ok-field_set.ensures.took) closed)

pub field_sets-returns-then-not-takes_sign-clause-same : goal.field_sets-returns-then-not-takes_sign-clause-same
field_sets-returns-then-not-takes_sign-clause-same t c =
    λ s. c.fields.invariant.same s ∙ (c.in_ok-field_set.ensures.same (want.more_fields ∷ want.mark sign.CloseBrace ∷ s) ∙ (more_fields-none (want.mark sign.CloseBrace ∷ s) c.field_set.new.self.0 c.field_set.new.self.1 (sym c.if-not-takes_sign.ensures.comes) ∙ (ap (λ (spot : Spot). stop_at (want.mark sign.CloseBrace ∷ s) spot) (sym c.if-not-takes_sign.ensures.took) ∙ c.in_ok-sign.ensures.same s)))

pub field_sets-returns-in_err-field_set-clause-same : goal.field_sets-returns-in_err-field_set-clause-same
field_sets-returns-in_err-field_set-clause-same t c =
    leads-behind (field_set ++ want.more_fields ∷ want.mark sign.CloseBrace ∷ []) (field_set ++ want.more_fields ∷ want.mark sign.CloseBrace ∷ []) [] c.args.self.now c.fields.self c.field_set.new.self _ c.fields.invariant.same (search rules)

pub field_sets-returns-in_err-sign-clause-same : goal.field_sets-returns-in_err-sign-clause-same
field_sets-returns-in_err-sign-clause-same t c =
    leads-behind (field_set ++ want.more_fields ∷ want.mark sign.CloseBrace ∷ []) (want.mark sign.CloseBrace ∷ []) [] c.args.self.now c.takes_sign.new.self c.sign.new.self _ (λ s. c.fields.invariant.same s ∙ (c.in_ok-field_set.ensures.same (want.more_fields ∷ want.mark sign.CloseBrace ∷ s) ∙ (more_fields-none (want.mark sign.CloseBrace ∷ s) c.field_set.new.self.0 c.field_set.new.self.1 (sym c.if-not-takes_sign.ensures.comes) ∙ ap (λ (spot : Spot). stop_at (want.mark sign.CloseBrace ∷ s) spot) (sym c.if-not-takes_sign.ensures.took)))) (search rules)

pub arms-arms-preserved : goal.arms-arms-preserved
arms-arms-preserved t c =
    record {
      took = rw c.in_ok-push.ensures.ok (Took-push _ c.arms.invariant.took (Took-closed c.in_ok-arm.ensures.took c.in_ok-key.ensures.took));
      same = λ s. c.arms.invariant.same s ∙ (c.in_ok-arm.ensures.same (want.word key.Else ∷ want.else_rest ∷ s) ∙ (c.in_ok-key.ensures.same (want.else_rest ∷ s) ∙ else-if s c.key.new.self.0 c.key.new.self.1 (sym c.if-not-next_is_key.ensures)));
    }

pub arms-returns-then-not-next_is_key-clause-took : goal.arms-returns-then-not-next_is_key-clause-took
arms-returns-then-not-next_is_key-clause-took t c =
    rw c.in_ok-push.ensures.ok (Took-closed (Took-last (tok.Key key.Else) _ c.arms.invariant.took c.in_ok-arm.ensures.took) c.in_ok-key.ensures.took)

pub arms-returns-then-not-next_is_key-clause-same : goal.arms-returns-then-not-next_is_key-clause-same
arms-returns-then-not-next_is_key-clause-same t c =
    λ s. c.arms.invariant.same s ∙ (c.in_ok-arm.ensures.same (want.word key.Else ∷ want.else_rest ∷ s) ∙ (c.in_ok-key.ensures.same (want.else_rest ∷ s) ∙ else-last s c.key.new.self.0 c.key.new.self.1 (sym c.if-not-next_is_key.ensures)))

pub arms-returns-in_err-arm-clause-same : goal.arms-returns-in_err-arm-clause-same
arms-returns-in_err-arm-clause-same t c =
    leads-behind (want.word key.If ∷ choice_rest) (want.word key.If ∷ choice_rest) braced_expr c.args.self.now c.arms.self c.arm.new.self _ c.arms.invariant.same (search rules)

pub arms-returns-in_err-key-clause-same : goal.arms-returns-in_err-key-clause-same
arms-returns-in_err-key-clause-same t c =
    leads-behind (want.word key.If ∷ choice_rest) (want.word key.Else ∷ want.else_rest ∷ []) braced_expr c.args.self.now c.arm.new.self c.key.new.self _ (λ s. c.arms.invariant.same s ∙ c.in_ok-arm.ensures.same (want.word key.Else ∷ want.else_rest ∷ s)) (search rules)

pub row-returns-in_err-items-clause-same : goal.row-returns-in_err-items-clause-same
row-returns-in_err-items-clause-same t c =
    leads-behind (want.mark sign.OpenBracket ∷ (exprs ++ want.mark sign.CloseBracket ∷ [])) (exprs ++ want.mark sign.CloseBracket ∷ []) [] c.args.self.now c.sign.new.self c.exprs.new.self _ (λ s. c.in_ok-at.ensures.same (exprs ++ want.mark sign.CloseBracket ∷ s)) (search rules)

pub new_record-returns-in_err-sign-clause-same : goal.new_record-returns-in_err-sign-clause-same
new_record-returns-in_err-sign-clause-same t c =
    leads-behind (want.word key.New ∷ want.name ∷ want.mark sign.OpenBrace ∷ (field_set ++ want.more_fields ∷ want.mark sign.CloseBrace ∷ [])) (want.mark sign.OpenBrace ∷ (field_set ++ want.more_fields ∷ want.mark sign.CloseBrace ∷ [])) [] c.args.self.now c.name.new.self c.sign.new.self _ (λ s. c.in_ok-at.ensures.same (want.name ∷ want.mark sign.OpenBrace ∷ (field_set ++ want.more_fields ∷ want.mark sign.CloseBrace ∷ s)) ∙ c.in_ok-of.ensures.same (want.mark sign.OpenBrace ∷ (field_set ++ want.more_fields ∷ want.mark sign.CloseBrace ∷ s))) (search rules)

pub arguments-returns-clause-same : goal.arguments-returns-clause-same
arguments-returns-clause-same t c =
    let behind = rw c.if-takes_sign.ensures.took at c.exprs.ensures.same in
    leads-behind args (want.args_rest ∷ []) [] c.args.self.now c.sign.new.self c.exprs.new.self _ (λ s. c.in_ok-sign.ensures.same (want.args_rest ∷ s)) (leads-from (want.args_rest ∷ []) (exprs ++ want.mark sign.CloseParen ∷ []) [] c.sign.new.self c.exprs.new.self _ (λ s. args-some s c.sign.new.self.0 c.sign.new.self.1 (sym c.if-takes_sign.ensures.comes)) behind)

pub between-returns-clause-took : goal.between-returns-clause-took
between-returns-clause-took t c =
    let inner = c.in_ok-inner.ensures.took in
    read (one c.in_ok-sign.ensures.took ⨟ own inner ⨟ one c.in_ok-sign-2.ensures.took) refl refl inner.good

pub between-returns-clause-same : goal.between-returns-clause-same
between-returns-clause-same t c =
    λ s. c.in_ok-sign.ensures.same (want.expr ∷ want.mark c.args.back ∷ s) ∙ c.in_ok-inner.ensures.same (want.mark c.args.back ∷ s) ∙ c.in_ok-sign-2.ensures.same s

pub between-returns-in_err-inner-clause-same : goal.between-returns-in_err-inner-clause-same
between-returns-in_err-inner-clause-same t c =
    leads-behind (want.mark c.args.front ∷ want.expr ∷ want.mark c.args.back ∷ []) (want.expr ∷ want.mark c.args.back ∷ []) [] c.args.self.now c.sign.new.self c.expr.new.self _ (λ s. c.in_ok-sign.ensures.same (want.expr ∷ want.mark c.args.back ∷ s)) (search rules)

pub between-returns-in_err-sign-2-clause-same : goal.between-returns-in_err-sign-2-clause-same
between-returns-in_err-sign-2-clause-same t c =
    leads-behind (want.mark c.args.front ∷ want.expr ∷ want.mark c.args.back ∷ []) (want.mark c.args.back ∷ []) [] c.args.self.now c.expr.new.self c.sign-2.new.self _ (λ s. c.in_ok-sign.ensures.same (want.expr ∷ want.mark c.args.back ∷ s) ∙ c.in_ok-inner.ensures.same (want.mark c.args.back ∷ s)) (search rules)

pub for_in-returns-clause-took : goal.for_in-returns-clause-took
for_in-returns-clause-took t c =
    let list = c.in_ok-list.ensures.took in
    read (one c.in_ok-key.ensures.took ⨟ own c.in_ok-name.ensures.took ⨟ one c.in_ok-key-2.ensures.took ⨟ own list) refl refl (whole-expr list)

pub for_in-returns-clause-same : goal.for_in-returns-clause-same
for_in-returns-clause-same t c =
    λ s. c.in_ok-key.ensures.same (want.name ∷ want.word key.In ∷ want.expr ∷ s) ∙ c.in_ok-name.ensures.same (want.word key.In ∷ want.expr ∷ s) ∙ c.in_ok-key-2.ensures.same (want.expr ∷ s) ∙ c.in_ok-list.ensures.same s

pub for_in-returns-in_err-name-clause-same : goal.for_in-returns-in_err-name-clause-same
for_in-returns-in_err-name-clause-same t c =
    leads-behind (want.word key.For ∷ want.name ∷ want.word key.In ∷ want.expr ∷ []) (want.name ∷ want.word key.In ∷ want.expr ∷ []) [] c.args.self.now c.key.new.self c.name.new.self _ (λ s. c.in_ok-key.ensures.same (want.name ∷ want.word key.In ∷ want.expr ∷ s)) (search rules)

pub for_in-returns-in_err-key-2-clause-same : goal.for_in-returns-in_err-key-2-clause-same
for_in-returns-in_err-key-2-clause-same t c =
    leads-behind (want.word key.For ∷ want.name ∷ want.word key.In ∷ want.expr ∷ []) (want.word key.In ∷ want.expr ∷ []) [] c.args.self.now c.name.new.self c.key-2.new.self _ (λ s. c.in_ok-key.ensures.same (want.name ∷ want.word key.In ∷ want.expr ∷ s) ∙ c.in_ok-name.ensures.same (want.word key.In ∷ want.expr ∷ s)) (search rules)

pub for_in-returns-in_err-list-clause-same : goal.for_in-returns-in_err-list-clause-same
for_in-returns-in_err-list-clause-same t c =
    leads-behind (want.word key.For ∷ want.name ∷ want.word key.In ∷ want.expr ∷ []) (want.expr ∷ []) [] c.args.self.now c.key-2.new.self c.expr.new.self _ (λ s. c.in_ok-key.ensures.same (want.name ∷ want.word key.In ∷ want.expr ∷ s) ∙ c.in_ok-name.ensures.same (want.word key.In ∷ want.expr ∷ s) ∙ c.in_ok-key-2.ensures.same (want.expr ∷ s)) (search rules)

pub paren-returns-clause-took : goal.paren-returns-clause-took
paren-returns-clause-took t c =
    let place = ap (λ (spot : Spot). spot.0) c.self.view_is in
    boxed-Reads _ _ c.boxed.ensures.own (paren-Took _ _ place c.in_ok-inner.ensures.took)

pub paren-returns-clause-same : goal.paren-returns-clause-same
paren-returns-clause-same t c =
    boxed-leads (want.mark sign.OpenParen ∷ want.expr ∷ want.mark sign.CloseParen ∷ []) [] c.args.self.now c.between.new.self _ c.boxed.ensures.memory c.in_ok-inner.ensures.same

pub each-returns-clause-took : goal.each-returns-clause-took
each-returns-clause-took t c =
    boxed-Reads _ _ c.boxed.ensures.own (each-Took _ _ _ _ _ c.in_ok-at.ensures.took c.in_ok-at.ensures.place c.in_ok-name.ensures.took c.in_ok-cond.ensures.took c.in_ok-value.ensures.took)

pub each-returns-clause-same : goal.each-returns-clause-same
each-returns-clause-same t c =
    boxed-leads (want.mark sign.OpenBracket ∷ want.word key.For ∷ want.name ∷ want.word key.In ∷ want.expr ∷ want.test ∷ want.mark sign.Colon ∷ want.expr ∷ want.mark sign.CloseBracket ∷ []) [] c.args.self.now c.between.new.self _ c.boxed.ensures.memory (λ s. c.in_ok-at.ensures.same (want.word key.For ∷ want.name ∷ want.word key.In ∷ want.expr ∷ want.test ∷ want.mark sign.Colon ∷ want.expr ∷ want.mark sign.CloseBracket ∷ s) ∙ c.in_ok-name.ensures.same (want.test ∷ want.mark sign.Colon ∷ want.expr ∷ want.mark sign.CloseBracket ∷ s) ∙ c.in_ok-cond.ensures.same (want.mark sign.Colon ∷ want.expr ∷ want.mark sign.CloseBracket ∷ s) ∙ c.in_ok-value.ensures.same s)

pub each-returns-in_err-name-clause-same : goal.each-returns-in_err-name-clause-same
each-returns-in_err-name-clause-same t c =
    leads-behind (want.mark sign.OpenBracket ∷ want.word key.For ∷ want.name ∷ want.word key.In ∷ want.expr ∷ want.test ∷ want.mark sign.Colon ∷ want.expr ∷ want.mark sign.CloseBracket ∷ []) (want.word key.For ∷ want.name ∷ want.word key.In ∷ want.expr ∷ want.test ∷ want.mark sign.Colon ∷ want.expr ∷ want.mark sign.CloseBracket ∷ []) [] c.args.self.now c.sign.new.self c.for_in.new.self _ (λ s. c.in_ok-at.ensures.same (want.word key.For ∷ want.name ∷ want.word key.In ∷ want.expr ∷ want.test ∷ want.mark sign.Colon ∷ want.expr ∷ want.mark sign.CloseBracket ∷ s)) (search rules)

pub each-returns-in_err-cond-clause-same : goal.each-returns-in_err-cond-clause-same
each-returns-in_err-cond-clause-same t c =
    leads-behind (want.mark sign.OpenBracket ∷ want.word key.For ∷ want.name ∷ want.word key.In ∷ want.expr ∷ want.test ∷ want.mark sign.Colon ∷ want.expr ∷ want.mark sign.CloseBracket ∷ []) (want.test ∷ want.mark sign.Colon ∷ want.expr ∷ want.mark sign.CloseBracket ∷ []) [] c.args.self.now c.for_in.new.self c.each_test.new.self _ (λ s. c.in_ok-at.ensures.same (want.word key.For ∷ want.name ∷ want.word key.In ∷ want.expr ∷ want.test ∷ want.mark sign.Colon ∷ want.expr ∷ want.mark sign.CloseBracket ∷ s) ∙ c.in_ok-name.ensures.same (want.test ∷ want.mark sign.Colon ∷ want.expr ∷ want.mark sign.CloseBracket ∷ s)) (search rules)

pub each-returns-in_err-value-clause-same : goal.each-returns-in_err-value-clause-same
each-returns-in_err-value-clause-same t c =
    leads-behind (want.mark sign.OpenBracket ∷ want.word key.For ∷ want.name ∷ want.word key.In ∷ want.expr ∷ want.test ∷ want.mark sign.Colon ∷ want.expr ∷ want.mark sign.CloseBracket ∷ []) (want.mark sign.Colon ∷ want.expr ∷ want.mark sign.CloseBracket ∷ []) [] c.args.self.now c.each_test.new.self c.between.new.self _ (λ s. c.in_ok-at.ensures.same (want.word key.For ∷ want.name ∷ want.word key.In ∷ want.expr ∷ want.test ∷ want.mark sign.Colon ∷ want.expr ∷ want.mark sign.CloseBracket ∷ s) ∙ c.in_ok-name.ensures.same (want.test ∷ want.mark sign.Colon ∷ want.expr ∷ want.mark sign.CloseBracket ∷ s) ∙ c.in_ok-cond.ensures.same (want.mark sign.Colon ∷ want.expr ∷ want.mark sign.CloseBracket ∷ s)) (search rules)

pub or_tails-returns-in_err-value-clause-same : goal.or_tails-returns-in_err-value-clause-same
or_tails-returns-in_err-value-clause-same t c =
    let one = taken _ _ _ _ c.takes_key.ensures.took c.if-not-takes_key.false in
    leads-behind (want.disjuncts ∷ []) (and_wants ++ want.disjuncts ∷ []) [] c.args.self.now c.takes_key.new.self c.and.new.self _ (λ s. c.tails.invariant.same s ∙ taken-step (want.disjuncts ∷ s) (and_wants ++ want.disjuncts ∷ s) one refl) (search rules)

pub or_tails-returns-then-not-takes_key-clause-same : goal.or_tails-returns-then-not-takes_key-clause-same
or_tails-returns-then-not-takes_key-clause-same t c =
    λ s. c.tails.invariant.same s ∙ (disjuncts-none s c.tails.self.0 c.tails.self.1 (sym c.if-not-takes_key.ensures.comes) ∙ ap (λ (spot : Spot). stop_at s spot) (sym c.if-not-takes_key.ensures.took))

pub and_tails-returns-in_err-value-clause-same : goal.and_tails-returns-in_err-value-clause-same
and_tails-returns-in_err-value-clause-same t c =
    let one = taken _ _ _ _ c.takes_key.ensures.took c.if-not-takes_key.false in
    leads-behind (want.conjuncts ∷ []) (not_wants ++ want.conjuncts ∷ []) [] c.args.self.now c.takes_key.new.self c.not.new.self _ (λ s. c.tails.invariant.same s ∙ taken-step (want.conjuncts ∷ s) (not_wants ++ want.conjuncts ∷ s) one refl) (search rules)

pub and_tails-returns-then-not-takes_key-clause-same : goal.and_tails-returns-then-not-takes_key-clause-same
and_tails-returns-then-not-takes_key-clause-same t c =
    λ s. c.tails.invariant.same s ∙ (conjuncts-none s c.tails.self.0 c.tails.self.1 (sym c.if-not-takes_key.ensures.comes) ∙ ap (λ (spot : Spot). stop_at s spot) (sym c.if-not-takes_key.ensures.took))

pub sum_tails-returns-in_err-value-clause-same : goal.sum_tails-returns-in_err-value-clause-same
sum_tails-returns-in_err-value-clause-same t c =
    leads-behind (want.terms ∷ []) (mul_wants ++ want.terms ∷ []) [] c.args.self.now c.takes_sum_sign.new.self c.mul.new.self _ (λ s. c.tails.invariant.same s ∙ taken-step (want.terms ∷ s) (mul_wants ++ want.terms ∷ s) c.in-Some.ensures.took.0 (rw c.in-Some.ensures.took.1 refl)) (search rules)

pub mul_tails-returns-in_err-value-clause-same : goal.mul_tails-returns-in_err-value-clause-same
mul_tails-returns-in_err-value-clause-same t c =
    leads-behind (want.factors ∷ []) (neg_wants ++ want.factors ∷ []) [] c.args.self.now c.takes_mul_sign.new.self c.neg.new.self _ (λ s. c.tails.invariant.same s ∙ taken-step (want.factors ∷ s) (neg_wants ++ want.factors ∷ s) c.in-Some.ensures.took.0 (rw c.in-Some.ensures.took.1 refl)) (search rules)

pub suffixes-returns-clause-same : goal.suffixes-returns-clause-same
suffixes-returns-clause-same t c =
    λ s. c.suffixes.invariant.same s ∙ suffixes-none s c.suffixes.self.0 c.suffixes.self.1 (sym c.suffixes-test.ensures)

pub not-returns-clause-same : goal.not-returns-clause-same
not-returns-clause-same t c =
    let one = taken _ _ _ _ c.takes_key.ensures.took c.if-not-takes_key.false in
    boxed-leads not_wants [] c.args.self.now c.compare-2.new.self _ c.boxed.ensures.memory (λ s. taken-step (want.negation ∷ (cmp_wants ++ s)) (cmp_wants ++ s) one refl ∙ c.in_ok-of.ensures.same s)

pub not-returns-in_err-of-clause-same : goal.not-returns-in_err-of-clause-same
not-returns-in_err-of-clause-same t c =
    let one = taken _ _ _ _ c.takes_key.ensures.took c.if-not-takes_key.false in
    leads-behind not_wants cmp_wants [] c.args.self.now c.takes_key.new.self c.compare-2.new.self _ (λ s. taken-step (want.negation ∷ (cmp_wants ++ s)) (cmp_wants ++ s) one refl) (search rules)

pub neg-returns-clause-same : goal.neg-returns-clause-same
neg-returns-clause-same t c =
    let one = taken _ _ _ _ c.takes_sign.ensures.took c.if-not-takes_sign.false in
    boxed-leads neg_wants [] c.args.self.now c.post-2.new.self _ c.boxed.ensures.memory (λ s. taken-step (want.minus ∷ (post_wants ++ s)) (post_wants ++ s) one refl ∙ c.in_ok-of.ensures.same s)

pub neg-returns-in_err-of-clause-same : goal.neg-returns-in_err-of-clause-same
neg-returns-in_err-of-clause-same t c =
    let one = taken _ _ _ _ c.takes_sign.ensures.took c.if-not-takes_sign.false in
    leads-behind neg_wants post_wants [] c.args.self.now c.takes_sign.new.self c.post-2.new.self _ (λ s. taken-step (want.minus ∷ (post_wants ++ s)) (post_wants ++ s) one refl) (search rules)

pub compare-returns-clause-same : goal.compare-returns-clause-same
compare-returns-clause-same t c =
    boxed-leads cmp_wants [] c.args.self.now c.sum-2.new.self _ c.boxed.ensures.memory (λ s. c.in_ok-left.ensures.same (want.comparison ∷ s) ∙ (taken-step (want.comparison ∷ s) (sum_wants ++ s) c.in-Some.ensures.took.0 (rw c.in-Some.ensures.took.1 refl) ∙ c.in_ok-right.ensures.same s))

pub compare-returns-in_err-right-clause-same : goal.compare-returns-in_err-right-clause-same
compare-returns-in_err-right-clause-same t c =
    leads-behind cmp_wants sum_wants [] c.args.self.now c.takes_comparison.new.self c.sum-2.new.self _ (λ s. c.in_ok-left.ensures.same (want.comparison ∷ s) ∙ taken-step (want.comparison ∷ s) (sum_wants ++ s) c.in-Some.ensures.took.0 (rw c.in-Some.ensures.took.1 refl)) (search rules)

pub or-returns-then-is_empty-clause-same : goal.or-returns-then-is_empty-clause-same
or-returns-then-is_empty-clause-same t c =
    λ s. c.in_ok-first.ensures.same (want.disjuncts ∷ s) ∙ c.in_ok-rest.ensures.same s

pub or-returns-then-is_empty-clause-took : goal.or-returns-then-is_empty-clause-took
or-returns-then-is_empty-clause-took t c =
    alone-Took c.in_ok-first.ensures.took c.in_ok-rest.ensures.took (c.if-is_empty.ensures.0 refl) (omega arith)

pub and-returns-then-is_empty-clause-same : goal.and-returns-then-is_empty-clause-same
and-returns-then-is_empty-clause-same t c =
    λ s. c.in_ok-first.ensures.same (want.conjuncts ∷ s) ∙ c.in_ok-rest.ensures.same s

pub and-returns-then-is_empty-clause-took : goal.and-returns-then-is_empty-clause-took
and-returns-then-is_empty-clause-took t c =
    alone-Took c.in_ok-first.ensures.took c.in_ok-rest.ensures.took (c.if-is_empty.ensures.0 refl) (omega arith)

pub sum-returns-then-is_empty-clause-same : goal.sum-returns-then-is_empty-clause-same
sum-returns-then-is_empty-clause-same t c =
    λ s. c.in_ok-first.ensures.same (want.terms ∷ s) ∙ c.in_ok-rest.ensures.same s

pub sum-returns-then-is_empty-clause-took : goal.sum-returns-then-is_empty-clause-took
sum-returns-then-is_empty-clause-took t c =
    alone-Took c.in_ok-first.ensures.took c.in_ok-rest.ensures.took (c.if-is_empty.ensures.0 refl) (omega arith)

pub mul-returns-then-is_empty-clause-same : goal.mul-returns-then-is_empty-clause-same
mul-returns-then-is_empty-clause-same t c =
    λ s. c.in_ok-first.ensures.same (want.factors ∷ s) ∙ c.in_ok-rest.ensures.same s

pub mul-returns-then-is_empty-clause-took : goal.mul-returns-then-is_empty-clause-took
mul-returns-then-is_empty-clause-took t c =
    alone-Took c.in_ok-first.ensures.took c.in_ok-rest.ensures.took (c.if-is_empty.ensures.0 refl) (omega arith)

pub post-returns-then-is_empty-clause-same : goal.post-returns-then-is_empty-clause-same
post-returns-then-is_empty-clause-same t c =
    λ s. c.in_ok-first.ensures.same (want.suffixes ∷ s) ∙ c.in_ok-suffixes.ensures.same s

pub post-returns-then-is_empty-clause-took : goal.post-returns-then-is_empty-clause-took
post-returns-then-is_empty-clause-took t c =
    alone-Took c.in_ok-first.ensures.took c.in_ok-suffixes.ensures.took (c.if-is_empty.ensures.0 refl) (omega arith)

pub field_set-returns-clause-same : goal.field_set-returns-clause-same
field_set-returns-clause-same t c =
    λ s. c.in_ok-name.ensures.same (want.mark sign.Colon ∷ want.expr ∷ s) ∙ (c.in_ok-sign.ensures.same (want.expr ∷ s) ∙ c.in_ok-expr.ensures.same s)

pub field_set-returns-in_err-sign-clause-same : goal.field_set-returns-in_err-sign-clause-same
field_set-returns-in_err-sign-clause-same t c =
    leads-behind (want.name ∷ want.mark sign.Colon ∷ want.expr ∷ []) (want.mark sign.Colon ∷ want.expr ∷ []) [] c.args.self.now c.name.new.self c.sign.new.self _ (λ s. c.in_ok-name.ensures.same (want.mark sign.Colon ∷ want.expr ∷ s)) (search rules)

pub field_set-returns-in_err-expr-clause-same : goal.field_set-returns-in_err-expr-clause-same
field_set-returns-in_err-expr-clause-same t c =
    leads-behind (want.name ∷ want.mark sign.Colon ∷ want.expr ∷ []) (want.expr ∷ []) [] c.args.self.now c.sign.new.self c.expr.new.self _ (λ s. c.in_ok-name.ensures.same (want.mark sign.Colon ∷ want.expr ∷ s) ∙ c.in_ok-sign.ensures.same (want.expr ∷ s)) (search rules)

pub arm-returns-clause-same : goal.arm-returns-clause-same
arm-returns-clause-same t c =
    λ s. c.in_ok-key.ensures.same (want.expr ∷ want.mark sign.OpenBrace ∷ want.expr ∷ want.mark sign.CloseBrace ∷ s) ∙ (c.in_ok-cond.ensures.same (want.mark sign.OpenBrace ∷ want.expr ∷ want.mark sign.CloseBrace ∷ s) ∙ c.in_ok-value.ensures.same s)

pub arm-returns-in_err-cond-clause-same : goal.arm-returns-in_err-cond-clause-same
arm-returns-in_err-cond-clause-same t c =
    leads-behind (want.word key.If ∷ want.expr ∷ want.mark sign.OpenBrace ∷ want.expr ∷ want.mark sign.CloseBrace ∷ []) (want.expr ∷ want.mark sign.OpenBrace ∷ want.expr ∷ want.mark sign.CloseBrace ∷ []) [] c.args.self.now c.key.new.self c.expr.new.self _ (λ s. c.in_ok-key.ensures.same (want.expr ∷ want.mark sign.OpenBrace ∷ want.expr ∷ want.mark sign.CloseBrace ∷ s)) (search rules)

pub arm-returns-in_err-value-clause-same : goal.arm-returns-in_err-value-clause-same
arm-returns-in_err-value-clause-same t c =
    leads-behind (want.word key.If ∷ want.expr ∷ want.mark sign.OpenBrace ∷ want.expr ∷ want.mark sign.CloseBrace ∷ []) (want.mark sign.OpenBrace ∷ want.expr ∷ want.mark sign.CloseBrace ∷ []) [] c.args.self.now c.expr.new.self c.between.new.self _ (λ s. c.in_ok-key.ensures.same (want.expr ∷ want.mark sign.OpenBrace ∷ want.expr ∷ want.mark sign.CloseBrace ∷ s) ∙ c.in_ok-cond.ensures.same (want.mark sign.OpenBrace ∷ want.expr ∷ want.mark sign.CloseBrace ∷ s)) (search rules)

pub new_record-returns-in_err-of-clause-same : goal.new_record-returns-in_err-of-clause-same
new_record-returns-in_err-of-clause-same t c =
    leads-behind (want.word key.New ∷ want.name ∷ want.mark sign.OpenBrace ∷ (field_set ++ want.more_fields ∷ want.mark sign.CloseBrace ∷ [])) (want.name ∷ want.mark sign.OpenBrace ∷ (field_set ++ want.more_fields ∷ want.mark sign.CloseBrace ∷ [])) [] c.args.self.now c.key.new.self c.name.new.self _ (λ s. c.in_ok-at.ensures.same (want.name ∷ want.mark sign.OpenBrace ∷ (field_set ++ want.more_fields ∷ want.mark sign.CloseBrace ∷ s))) (search rules)

pub index-returns-clause-same : goal.index-returns-clause-same
index-returns-clause-same t c =
    λ s. c.in_ok-value.ensures.same s

pub named-returns-clause-same : goal.named-returns-clause-same
named-returns-clause-same t c =
    boxed-leads (want.name ∷ want.after_name ∷ []) [] c.args.self.now c.takes_sign.new.self _ c.boxed-2.ensures.memory (λ s. c.in_ok-name.ensures.same (want.after_name ∷ s) ∙ (after_name-none s c.name.new.self.0 c.name.new.self.1 (sym c.if-next_is_sign.ensures) (sym c.if-takes_sign.ensures.comes) ∙ ap (λ (spot : Spot). stop_at s spot) (sym c.if-takes_sign.ensures.took)))

pub named-returns-then-next_is_sign-clause-same : goal.named-returns-then-next_is_sign-clause-same
named-returns-then-next_is_sign-clause-same t c =
    boxed-leads (want.name ∷ want.after_name ∷ []) [] c.args.self.now c.arguments.new.self _ c.boxed.ensures.memory (λ s. c.in_ok-name.ensures.same (want.after_name ∷ s) ∙ (after_name-args s c.name.new.self.0 c.name.new.self.1 (sym c.if-next_is_sign.ensures) ∙ c.in_ok-args.ensures.same s))

pub named-returns-then-takes_sign-clause-same : goal.named-returns-then-takes_sign-clause-same
named-returns-then-takes_sign-clause-same t c =
    let one = taken _ _ _ _ c.takes_sign.ensures.took c.if-takes_sign.true in
    boxed-leads (want.name ∷ want.after_name ∷ []) [] c.args.self.now _ _ c.boxed-then-takes_sign.ensures.memory (λ s. c.in_ok-name.ensures.same (want.after_name ∷ s) ∙ (taken-step (want.after_name ∷ s) (want.name ∷ s) one refl ∙ c.in_ok-variant.ensures.same s))

pub named-returns-in_err-variant-clause-same : goal.named-returns-in_err-variant-clause-same
named-returns-in_err-variant-clause-same t c =
    let one = taken _ _ _ _ c.takes_sign.ensures.took c.if-takes_sign.true in
    leads-behind (want.name ∷ want.after_name ∷ []) (want.name ∷ []) [] c.args.self.now c.takes_sign.new.self _ _ (λ s. c.in_ok-name.ensures.same (want.after_name ∷ s) ∙ taken-step (want.after_name ∷ s) (want.name ∷ s) one refl) (search rules)

pub each_test-returns-clause-same : goal.each_test-returns-clause-same
each_test-returns-clause-same t c =
    let one = taken _ _ _ _ c.takes_key.ensures.took c.if-not-takes_key.false in
    λ s. taken-step (want.test ∷ s) (want.expr ∷ s) one refl ∙ c.in_ok-expr.ensures.same s

pub each_test-returns-in_err-expr-clause-same : goal.each_test-returns-in_err-expr-clause-same
each_test-returns-in_err-expr-clause-same t c =
    let one = taken _ _ _ _ c.takes_key.ensures.took c.if-not-takes_key.false in
    leads-behind (want.test ∷ []) (want.expr ∷ []) [] c.args.self.now c.takes_key.new.self c.expr.new.self _ (λ s. taken-step (want.test ∷ s) (want.expr ∷ s) one refl) (search rules)

pub each_test-returns-then-not-takes_key-clause-same : goal.each_test-returns-then-not-takes_key-clause-same
each_test-returns-then-not-takes_key-clause-same t c =
    λ s. test-none s c.args.self.now.0 c.args.self.now.1 (sym c.if-not-takes_key.ensures.comes) ∙ ap (λ (spot : Spot). stop_at s spot) (sym c.if-not-takes_key.ensures.took)
