-- What is read so far, from the start of the loop on, and a measure that goes down.
use Rattle.std.proofs.Common.{◌+◌, ◌*◌, length, [], ◌∷◌}
use Rattle.dsde_syntax.specs.Grammar.{stmt_tokens, stmt_arm_tokens}
use Rattle.dsde_syntax.specs.Places.{stmt_span, stmt_arm_span}
use Rattle.dsde_syntax.specs.Levels.{is_stmt, is_stmt_arm}
use Rattle.dsde_parser_expressions.specs.Took.{Took, TookAll}
use Rattle.dsde_parser_expressions.specs.Parts.{AllOk, SomeOk, joined_by, all_by, elses_by, spans_by}
use Rattle.dsde_words.specs.declared.key.Key.TheVariants as key
use Rattle.dsde_parser_grammar.specs.Want as want
use Rattle.dsde_parser_grammar.specs.Steps.{arm_rest}
use Rattle.dsde_parser_expressions.specs.Follows.{Led}
use Rattle.dsde_parser_statements.proofs.stmt.+read_stmt.Given as goal

abbrev pub invariant-stmts-stmts : goal.invariant-stmts-stmts
invariant-stmts-stmts l = record {
  took : TookAll (joined_by stmt_tokens) (all_by stmt_span) (AllOk is_stmt) l.fn.parser l.parser l.stmts;
  same : Led (want.stmts ∷ []) (want.stmts ∷ []) l.fn.parser l.parser;
}

abbrev pub decreases-stmts-stmts : goal.decreases-stmts-stmts
decreases-stmts-stmts l = length l.parser.1

abbrev pub invariant-stmt_arms-arms : goal.invariant-stmt_arms-arms
invariant-stmt_arms-arms l = record {
  took : Took (elses_by stmt_arm_tokens) (spans_by stmt_arm_span) (SomeOk is_stmt_arm) l.fn.parser l.parser l.arms;
  same : Led (want.word key.If ∷ arm_rest want.stmts want.other_stmts) (want.other_stmts ∷ []) l.fn.parser l.parser;
}

abbrev pub decreases-stmt_arms-arms : goal.decreases-stmt_arms-arms
decreases-stmt_arms-arms l = length l.parser.1

abbrev pub decreases-stmts : goal.decreases-stmts
decreases-stmts l = 8 * length l.parser.now.1 + 6

abbrev pub decreases-stmt : goal.decreases-stmt
decreases-stmt l = 8 * length l.parser.now.1 + 5

abbrev pub decreases-stmt_choice : goal.decreases-stmt_choice
decreases-stmt_choice l = 8 * length l.parser.now.1 + 4

abbrev pub decreases-stmt_arms : goal.decreases-stmt_arms
decreases-stmt_arms l = 8 * length l.parser.now.1 + 3

abbrev pub decreases-stmt_arm : goal.decreases-stmt_arm
decreases-stmt_arm l = 8 * length l.parser.now.1 + 2

abbrev pub decreases-stmt_loop : goal.decreases-stmt_loop
decreases-stmt_loop l = 8 * length l.parser.now.1 + 2

abbrev pub decreases-block : goal.decreases-block
decreases-block l = 8 * length l.parser.now.1 + 1

abbrev pub decreases-last_stmts : goal.decreases-last_stmts
decreases-last_stmts l = 8 * length l.parser.now.1 + 1
