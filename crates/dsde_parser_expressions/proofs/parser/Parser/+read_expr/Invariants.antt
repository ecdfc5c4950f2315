-- What is read so far, from the start of the loop on, and a measure that goes down.
use Rattle.std.proofs.Common.{◌+◌, ◌*◌, length, [], ◌∷◌, ◌++◌}
use Rattle.dsde_syntax.specs.Grammar.{word, mark, expr_tokens, expr_arm_tokens, suffix_tokens, field_set_tokens, sign_tail_tokens}
use Rattle.dsde_syntax.specs.Places.{◌>>◌, token, expr_span, expr_arm_span, field_set_span, sign_tail_span, suffix_span, tail_span}
use Rattle.dsde_syntax.specs.Levels.{is_expr, stands_at, may_follow, is_sum_sign, is_mul_sign, is_expr_arm, is_field_set, is_suffix, sign_tail_level, tail_level}
use Rattle.dsde_parser_expressions.specs.Took.{TookAll}
use Rattle.dsde_parser_expressions.specs.Parts.{AllOk, joined_by, all_by, or_tail_tokens, and_tail_tokens}
use Rattle.dsde_words.specs.declared.key.Key.TheVariants as key
use Rattle.dsde_syntax.specs.declared.token.Sign.TheVariants as sign
use Rattle.dsde_parser_grammar.specs.Want as want
use Rattle.dsde_parser_grammar.specs.Steps.{exprs, field_set, choice_rest}
use Rattle.dsde_parser_expressions.specs.Follows.{Led}
use Rattle.dsde_parser_expressions.proofs.parser.Parser.+read_expr.Given as goal

abbrev pub invariant-or_tails-tails : goal.invariant-or_tails-tails
invariant-or_tails-tails l = record {
  took : TookAll (joined_by or_tail_tokens) (all_by tail_span) (AllOk (λ tail. stands_at 7 (tail_level tail))) l.fn.self l.self l.tails;
  same : Led (want.disjuncts ∷ []) (want.disjuncts ∷ []) l.fn.self l.self;
}

abbrev pub invariant-and_tails-tails : goal.invariant-and_tails-tails
invariant-and_tails-tails l = record {
  took : TookAll (joined_by and_tail_tokens) (all_by tail_span) (AllOk (λ tail. stands_at 6 (tail_level tail))) l.fn.self l.self l.tails;
  same : Led (want.conjuncts ∷ []) (want.conjuncts ∷ []) l.fn.self l.self;
}

abbrev pub invariant-sum_tails-tails : goal.invariant-sum_tails-tails
invariant-sum_tails-tails l = record {
  took : TookAll (joined_by sign_tail_tokens) (all_by sign_tail_span) (AllOk (λ tail. may_follow is_sum_sign 3 (sign_tail_level tail))) l.fn.self l.self l.tails;
  same : Led (want.terms ∷ []) (want.terms ∷ []) l.fn.self l.self;
}

abbrev pub invariant-mul_tails-tails : goal.invariant-mul_tails-tails
invariant-mul_tails-tails l = record {
  took : TookAll (joined_by sign_tail_tokens) (all_by sign_tail_span) (AllOk (λ tail. may_follow is_mul_sign 2 (sign_tail_level tail))) l.fn.self l.self l.tails;
  same : Led (want.factors ∷ []) (want.factors ∷ []) l.fn.self l.self;
}

abbrev pub invariant-suffixes-suffixes : goal.invariant-suffixes-suffixes
invariant-suffixes-suffixes l = record {
  took : TookAll (joined_by suffix_tokens) (all_by suffix_span) (AllOk is_suffix) l.fn.self l.self l.suffixes;
  same : Led (want.suffixes ∷ []) (want.suffixes ∷ []) l.fn.self l.self;
}

abbrev pub invariant-exprs-exprs : goal.invariant-exprs-exprs
invariant-exprs-exprs l = record {
  took : TookAll (joined_by (λ expr. expr_tokens expr ++ mark sign.Comma)) (all_by (λ expr. expr_span expr >> token)) (AllOk is_expr) l.fn.self l.self l.exprs;
  same : Led (exprs ++ want.mark l.close ∷ []) (exprs ++ want.mark l.close ∷ []) l.fn.self l.self;
}

abbrev pub invariant-field_sets-fields : goal.invariant-field_sets-fields
invariant-field_sets-fields l = record {
  took : TookAll (joined_by (λ own. field_set_tokens own ++ mark sign.Comma)) (all_by (λ own. field_set_span own >> token)) (AllOk is_field_set) l.fn.self l.self l.fields;
  same : Led (field_set ++ want.more_fields ∷ want.mark sign.CloseBrace ∷ []) (field_set ++ want.more_fields ∷ want.mark sign.CloseBrace ∷ []) l.fn.self l.self;
}

abbrev pub invariant-arms-arms : goal.invariant-arms-arms
invariant-arms-arms l = record {
  took : TookAll (joined_by (λ arm. expr_arm_tokens arm ++ word key.Else)) (all_by (λ arm. expr_arm_span arm >> token)) (AllOk is_expr_arm) l.fn.self l.self l.arms;
  same : Led (want.word key.If ∷ choice_rest) (want.word key.If ∷ choice_rest) l.fn.self l.self;
}

abbrev pub decreases-expr : goal.decreases-expr
decreases-expr l = 24 * length l.self.now.1 + 22

abbrev pub decreases-or : goal.decreases-or
decreases-or l = 24 * length l.self.now.1 + 20

abbrev pub decreases-or_tails : goal.decreases-or_tails
decreases-or_tails l = 24 * length l.self.now.1 + 19

abbrev pub decreases-and : goal.decreases-and
decreases-and l = 24 * length l.self.now.1 + 18

abbrev pub decreases-and_tails : goal.decreases-and_tails
decreases-and_tails l = 24 * length l.self.now.1 + 17

abbrev pub decreases-not : goal.decreases-not
decreases-not l = 24 * length l.self.now.1 + 16

abbrev pub decreases-compare : goal.decreases-compare
decreases-compare l = 24 * length l.self.now.1 + 14

abbrev pub decreases-sum : goal.decreases-sum
decreases-sum l = 24 * length l.self.now.1 + 12

abbrev pub decreases-sum_tails : goal.decreases-sum_tails
decreases-sum_tails l = 24 * length l.self.now.1 + 11

abbrev pub decreases-mul : goal.decreases-mul
decreases-mul l = 24 * length l.self.now.1 + 10

abbrev pub decreases-mul_tails : goal.decreases-mul_tails
decreases-mul_tails l = 24 * length l.self.now.1 + 9

abbrev pub decreases-neg : goal.decreases-neg
decreases-neg l = 24 * length l.self.now.1 + 8

abbrev pub decreases-post : goal.decreases-post
decreases-post l = 24 * length l.self.now.1 + 6

abbrev pub decreases-suffixes : goal.decreases-suffixes
decreases-suffixes l = 24 * length l.self.now.1 + 5

abbrev pub decreases-index : goal.decreases-index
decreases-index l = 24 * length l.self.now.1 + 1

abbrev pub decreases-prim : goal.decreases-prim
decreases-prim l = 24 * length l.self.now.1 + 4

abbrev pub decreases-named : goal.decreases-named
decreases-named l = 24 * length l.self.now.1 + 2

abbrev pub decreases-paren : goal.decreases-paren
decreases-paren l = 24 * length l.self.now.1 + 1

abbrev pub decreases-builtin : goal.decreases-builtin
decreases-builtin l = 24 * length l.self.now.1 + 2

abbrev pub decreases-arguments : goal.decreases-arguments
decreases-arguments l = 24 * length l.self.now.1 + 1

abbrev pub decreases-exprs : goal.decreases-exprs
decreases-exprs l = 24 * length l.self.now.1 + 23

abbrev pub decreases-new_record : goal.decreases-new_record
decreases-new_record l = 24 * length l.self.now.1 + 2

abbrev pub decreases-field_sets : goal.decreases-field_sets
decreases-field_sets l = 24 * length l.self.now.1 + 23

abbrev pub decreases-for_in : goal.decreases-for_in
decreases-for_in l = 24 * length l.self.now.1

abbrev pub decreases-field_set : goal.decreases-field_set
decreases-field_set l = 24 * length l.self.now.1 + 22

abbrev pub decreases-row : goal.decreases-row
decreases-row l = 24 * length l.self.now.1 + 1

abbrev pub decreases-each : goal.decreases-each
decreases-each l = 24 * length l.self.now.1 + 1

abbrev pub decreases-each_test : goal.decreases-each_test
decreases-each_test l = 24 * length l.self.now.1 + 1

abbrev pub decreases-choice : goal.decreases-choice
decreases-choice l = 24 * length l.self.now.1 + 3

abbrev pub decreases-arms : goal.decreases-arms
decreases-arms l = 24 * length l.self.now.1 + 2

abbrev pub decreases-arm : goal.decreases-arm
decreases-arm l = 24 * length l.self.now.1 + 1

abbrev pub decreases-between : goal.decreases-between
decreases-between l = 24 * length l.self.now.1

abbrev pub decreases-or_tails-tails : goal.decreases-or_tails-tails
decreases-or_tails-tails l = length l.self.1

abbrev pub decreases-and_tails-tails : goal.decreases-and_tails-tails
decreases-and_tails-tails l = length l.self.1

abbrev pub decreases-sum_tails-tails : goal.decreases-sum_tails-tails
decreases-sum_tails-tails l = length l.self.1

abbrev pub decreases-mul_tails-tails : goal.decreases-mul_tails-tails
decreases-mul_tails-tails l = length l.self.1

abbrev pub decreases-suffixes-suffixes : goal.decreases-suffixes-suffixes
decreases-suffixes-suffixes l = length l.self.1

abbrev pub decreases-exprs-exprs : goal.decreases-exprs-exprs
decreases-exprs-exprs l = length l.self.1

abbrev pub decreases-field_sets-fields : goal.decreases-field_sets-fields
decreases-field_sets-fields l = length l.self.1

abbrev pub decreases-arms-arms : goal.decreases-arms-arms
decreases-arms-arms l = length l.self.1

abbrev pub decreases-suffix : goal.decreases-suffix
decreases-suffix l = 24 * length l.self.now.1 + 3

abbrev pub decreases-in_brackets : goal.decreases-in_brackets
decreases-in_brackets l = 24 * length l.self.now.1 + 3
