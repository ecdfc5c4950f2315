-- What is read so far, from the start of the loop on.
use Rattle.std.proofs.Common.{length, [], ◌∷◌}
use Rattle.dsde_syntax.specs.Grammar.{state_tokens}
use Rattle.dsde_syntax.specs.Places.{state_span}
use Rattle.dsde_syntax.specs.Levels.{is_state}
use Rattle.dsde_parser_expressions.specs.Took.{TookAll}
use Rattle.dsde_parser_expressions.specs.Parts.{AllOk, joined_by, all_by}
use Rattle.dsde_parser_grammar.specs.Want as want
use Rattle.dsde_parser_expressions.specs.Follows.{Led}
use Rattle.dsde_parser_declarations.proofs.decl.states.Given as goal

abbrev pub invariant-states : goal.invariant-states
invariant-states l = record {
  took : TookAll (joined_by state_tokens) (all_by state_span) (AllOk is_state) l.fn.parser l.parser l.states;
  same : Led (want.states ∷ []) (want.states ∷ []) l.fn.parser l.parser;
}

abbrev pub decreases-states : goal.decreases-states
decreases-states l = length l.parser.1
