-- What is read so far, from the start of the loop on.
use Rattle.std.proofs.Common.{length, [], ◌∷◌}
use Rattle.dsde_syntax.specs.Grammar.{id_tokens}
use Rattle.dsde_syntax.specs.Places.{id_span}
use Rattle.dsde_parser_expressions.specs.Took.{Took}
use Rattle.dsde_parser_expressions.specs.Parts.{SomeOk, commas_by, spans_by}
use Rattle.dsde_parser_expressions.specs.Parts.{any_ok}
use Rattle.dsde_parser_grammar.specs.Want as want
use Rattle.dsde_parser_expressions.specs.Follows.{Led}
use Rattle.dsde_parser_declarations.proofs.decl.ids.Given as goal

abbrev pub invariant-ids : goal.invariant-ids
invariant-ids l = record {
  took : Took (commas_by id_tokens) (spans_by id_span) (SomeOk any_ok) l.fn.parser l.parser l.ids;
  same : Led (want.name ∷ want.more_names ∷ []) (want.more_names ∷ []) l.fn.parser l.parser;
}

abbrev pub decreases-ids : goal.decreases-ids
decreases-ids l = length l.parser.1
