use Rattle.std.proofs.Common.{◌++◌, rules}
use Rattle.dsde_words.specs.declared.key.Key.TheVariants as key
use Rattle.dsde_syntax.specs.declared.token.Sign.TheVariants as sign
use Rattle.dsde_syntax.specs.Grammar.{word, mark, expr_tokens, suffix_tokens, sign_tail_tokens, tail_tokens, field_set_tokens, expr_arm_tokens}
use Rattle.dsde_syntax.specs.declared.expr.Expr.TheFolds.{the_lemmas}
use Rattle.dsde_syntax.proofs.Nodes.{or_else_tokens, or_tokens, and_tokens, compare_tokens, each_tokens, if_else_tokens}
use Rattle.dsde_syntax.proofs.Writing.{then, same, adds_more, adds_all}
use Rattle.dsde_syntax.proofs.writer.Writer.+write_expr.Goals as goal

pub expr-returns-in-OrElse : goal.expr-returns-in-OrElse
expr-returns-in-OrElse t c =
    same (then (then c.expr.ensures c.sign.ensures) c.expr-in-OrElse.ensures) (or_else_tokens _ _ _ _ _ _ c.in-OrElse.is c.get.ensures c.get-in-OrElse.ensures)

pub expr-returns-in-Or : goal.expr-returns-in-Or
expr-returns-in-Or t c =
    same (then c.expr-in-Or.ensures c.tails.ensures) (or_tokens _ _ _ _ _ c.in-Or.is c.get-in-Or.ensures c.as_slice.ensures)

pub expr-returns-in-And : goal.expr-returns-in-And
expr-returns-in-And t c =
    same (then c.expr-in-And.ensures c.tails-in-And.ensures) (and_tokens _ _ _ _ _ c.in-And.is c.get-in-And.ensures c.as_slice-in-And.ensures)

pub expr-returns-in-Not : goal.expr-returns-in-Not
expr-returns-in-Not t c = same (then c.word.ensures c.expr-in-Not.ensures) (search (rules, the_lemmas))

pub expr-returns-in-Compare : goal.expr-returns-in-Compare
expr-returns-in-Compare t c =
    same (then (then c.expr-in-Compare.ensures c.sign-in-Compare.ensures) c.expr-in-Compare-2.ensures) (compare_tokens _ _ _ _ _ _ _ c.in-Compare.is c.get-in-Compare.ensures c.get-in-Compare-2.ensures)

pub expr-returns-in-Sum : goal.expr-returns-in-Sum
expr-returns-in-Sum t c = same (then c.expr-in-Sum.ensures c.sign_tails.ensures) (search (rules, the_lemmas))

pub expr-returns-in-Mul : goal.expr-returns-in-Mul
expr-returns-in-Mul t c = same (then c.expr-in-Mul.ensures c.sign_tails-in-Mul.ensures) (search (rules, the_lemmas))

pub expr-returns-in-Neg : goal.expr-returns-in-Neg
expr-returns-in-Neg t c = same (then c.sign-in-Neg.ensures c.expr-in-Neg.ensures) (search (rules, the_lemmas))

pub expr-returns-in-Post : goal.expr-returns-in-Post
expr-returns-in-Post t c = same (then c.expr-in-Post.ensures c.suffixes.ensures) (search (rules, the_lemmas))

pub expr-returns-in-Each : goal.expr-returns-in-Each
expr-returns-in-Each t c =
    same (then (then c.sign-in-Each.ensures (then (then (then c.for_in.ensures c.each_cond.ensures) c.sign-in-Each-2.ensures) c.expr-in-Each.ensures)) c.sign-in-Each-3.ensures)
    (each_tokens _ _ _ _ _ _ _ _ c.in-Each.is c.get-in-Each.ensures c.get-in-Each-2.ensures)

pub expr-returns-in-If : goal.expr-returns-in-If
expr-returns-in-If t c =
    same (then (then c.expr_arms.ensures c.word-in-If.ensures) c.expr_in_braces.ensures) (if_else_tokens _ _ _ _ _ _ c.in-If.is c.as_slice-in-If.ensures c.get-in-If.ensures)

pub suffix-returns-in-Field : goal.suffix-returns-in-Field
suffix-returns-in-Field t c = same (then c.sign.ensures c.id.ensures) (search (rules, the_lemmas))

pub expr_arm-returns : goal.expr_arm-returns
expr_arm-returns t c = same (then (then c.word.ensures c.expr.ensures) c.expr_in_braces.ensures) (search (rules, the_lemmas))

pub field_set-returns : goal.field_set-returns
field_set-returns t c = same (then (then c.id.ensures c.sign.ensures) c.expr.ensures) (search (rules, the_lemmas))

pub for_in-returns : goal.for_in-returns
for_in-returns t c = then (then (then c.word.ensures c.id.ensures) c.word-2.ensures) c.expr.ensures

pub call-returns : goal.call-returns
call-returns t c = then c.id.ensures c.args-2.ensures

pub new_record-returns : goal.new_record-returns
new_record-returns t c = then (then c.word.ensures c.id.ensures) (then (then c.sign.ensures c.field_sets.ensures) c.sign-2.ensures)

pub args-returns : goal.args-returns
args-returns t c = then (then c.sign.ensures c.exprs.ensures) c.sign-2.ensures

pub list-returns : goal.list-returns
list-returns t c = then (then c.sign.ensures c.exprs.ensures) c.sign-2.ensures

pub index-returns : goal.index-returns
index-returns t c = then (then c.sign.ensures c.expr.ensures) c.sign-2.ensures

pub expr_in_parens-returns : goal.expr_in_parens-returns
expr_in_parens-returns t c = then (then c.sign.ensures c.expr.ensures) c.sign-2.ensures

pub expr_in_braces-returns : goal.expr_in_braces-returns
expr_in_braces-returns t c = then (then c.sign.ensures c.expr.ensures) c.sign-2.ensures

pub suffixes-loop-suffix-preserved : goal.suffixes-loop-suffix-preserved
suffixes-loop-suffix-preserved t c =
    adds_more (λ part. part) suffix_tokens _ _ _ c.loop-suffix-test.true c.suffix-item.is c.loop-suffix.invariant (c.suffix.ensures)

pub suffixes-returns : goal.suffixes-returns
suffixes-returns t c = adds_all (λ part. part) suffix_tokens _ _ c.loop-suffix-test.false c.loop-suffix.invariant

pub sign_tails-loop-tail-preserved : goal.sign_tails-loop-tail-preserved
sign_tails-loop-tail-preserved t c =
    adds_more (λ part. part) sign_tail_tokens _ _ _ c.loop-tail-test.true c.tail-item.is c.loop-tail.invariant (same (then c.sign.ensures c.expr.ensures) (search (rules, the_lemmas)))

pub sign_tails-returns : goal.sign_tails-returns
sign_tails-returns t c = adds_all (λ part. part) sign_tail_tokens _ _ c.loop-tail-test.false c.loop-tail.invariant

pub tails-loop-tail-preserved : goal.tails-loop-tail-preserved
tails-loop-tail-preserved t c =
    adds_more (λ value. word c.args.operator ++ value) tail_tokens _ _ _ c.loop-tail-test.true c.tail-item.is c.loop-tail.invariant (same (then c.word.ensures c.expr.ensures) (search (rules, the_lemmas)))

pub tails-returns : goal.tails-returns
tails-returns t c = adds_all (λ value. word c.args.operator ++ value) tail_tokens _ _ c.loop-tail-test.false c.loop-tail.invariant

pub exprs-loop-expr-preserved : goal.exprs-loop-expr-preserved
exprs-loop-expr-preserved t c =
    adds_more (λ part. mark sign.Comma ++ part) expr_tokens _ _ _ c.loop-expr-test.true c.expr-item.is c.loop-expr.invariant (then c.sign.ensures c.expr-in-loop-expr.ensures)

pub field_sets-loop-field-preserved : goal.field_sets-loop-field-preserved
field_sets-loop-field-preserved t c =
    adds_more (λ part. mark sign.Comma ++ part) field_set_tokens _ _ _ c.loop-field-test.true c.field-item.is c.loop-field.invariant (then c.sign.ensures c.field_set-in-loop-field.ensures)

pub expr_arms-loop-arm-preserved : goal.expr_arms-loop-arm-preserved
expr_arms-loop-arm-preserved t c =
    adds_more (λ part. word key.Else ++ part) expr_arm_tokens _ _ _ c.loop-arm-test.true c.arm-item.is c.loop-arm.invariant (then c.word.ensures c.expr_arm-in-loop-arm.ensures)
