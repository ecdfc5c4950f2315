-- The tokens of the items so far are written.
use Rattle.std.proofs.Common.{◌++◌, map, flat_map, take}
use Rattle.dsde_syntax.specs.Writing.{Adds}
use Rattle.dsde_syntax.specs.Grammar.{word, mark, joined, expr_tokens, suffix_tokens, expr_arm_tokens, field_set_tokens, sign_tail_tokens, tail_tokens}
use Rattle.dsde_words.specs.declared.key.Key.TheVariants as key
use Rattle.dsde_syntax.specs.declared.token.Sign.TheVariants as sign
use Rattle.dsde_syntax.proofs.writer.Writer.+write_expr.Given as goal

abbrev pub invariant-expr_arms-loop-arm : goal.invariant-expr_arms-loop-arm
invariant-expr_arms-loop-arm l = Adds l.initial.self (flat_map (λ part. word key.Else ++ part) (map expr_arm_tokens (take l.arm-index l.rest))) l.self

abbrev pub invariant-exprs-loop-expr : goal.invariant-exprs-loop-expr
invariant-exprs-loop-expr l = Adds l.initial.self (flat_map (λ part. mark sign.Comma ++ part) (map expr_tokens (take l.expr-index l.rest))) l.self

abbrev pub invariant-field_sets-loop-field : goal.invariant-field_sets-loop-field
invariant-field_sets-loop-field l = Adds l.initial.self (flat_map (λ part. mark sign.Comma ++ part) (map field_set_tokens (take l.field-index l.rest))) l.self

abbrev pub invariant-sign_tails-loop-tail : goal.invariant-sign_tails-loop-tail
invariant-sign_tails-loop-tail l = Adds l.fn.self (joined (map sign_tail_tokens (take l.tail-index l.tails))) l.self

abbrev pub invariant-suffixes-loop-suffix : goal.invariant-suffixes-loop-suffix
invariant-suffixes-loop-suffix l = Adds l.fn.self (joined (map suffix_tokens (take l.suffix-index l.suffixes))) l.self

abbrev pub invariant-tails-loop-tail : goal.invariant-tails-loop-tail
invariant-tails-loop-tail l = Adds l.fn.self (flat_map (λ value. word l.operator ++ value) (map tail_tokens (take l.tail-index l.tails))) l.self
