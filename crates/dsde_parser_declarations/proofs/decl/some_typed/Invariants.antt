-- What is read so far, from the start of the loop on.
use Rattle.std.proofs.Common.{length, [], ◌∷◌, ◌++◌}
use Rattle.dsde_syntax.specs.Grammar.{typed_tokens}
use Rattle.dsde_syntax.specs.Places.{typed_span}
use Rattle.dsde_parser_expressions.specs.Took.{Took}
use Rattle.dsde_parser_expressions.specs.Parts.{SomeOk, commas_by, spans_by}
use Rattle.dsde_parser_expressions.specs.Parts.{any_ok}
use Rattle.dsde_parser_grammar.specs.Want as want
use Rattle.dsde_parser_grammar.specs.Steps.{typed}
use Rattle.dsde_parser_expressions.specs.Follows.{Led}
use Rattle.dsde_parser_declarations.proofs.decl.some_typed.Given as goal

abbrev pub invariant-all : goal.invariant-all
invariant-all l = record {
  took : Took (commas_by typed_tokens) (spans_by typed_span) (SomeOk any_ok) l.fn.parser l.parser l.all;
  same : Led (typed ++ want.more_typed ∷ []) (want.more_typed ∷ []) l.fn.parser l.parser;
}

abbrev pub decreases-all : goal.decreases-all
decreases-all l = length l.parser.1
