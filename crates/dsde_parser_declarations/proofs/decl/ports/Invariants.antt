-- What is read so far, from the start of the loop on.
use Rattle.std.proofs.Common.{length, [], ◌∷◌}
use Rattle.dsde_syntax.specs.Grammar.{port_tokens}
use Rattle.dsde_syntax.specs.Places.{port_span}
use Rattle.dsde_parser_expressions.specs.Took.{TookAll}
use Rattle.dsde_parser_expressions.specs.Parts.{AllOk, joined_by, all_by}
use Rattle.dsde_parser_expressions.specs.Parts.{any_ok}
use Rattle.dsde_parser_grammar.specs.Want as want
use Rattle.dsde_parser_expressions.specs.Follows.{Led}
use Rattle.dsde_parser_declarations.proofs.decl.ports.Given as goal

abbrev pub invariant-ports : goal.invariant-ports
invariant-ports l = record {
  took : TookAll (joined_by port_tokens) (all_by port_span) (AllOk any_ok) l.fn.parser l.parser l.ports;
  same : Led (want.ports ∷ []) (want.ports ∷ []) l.fn.parser l.parser;
}

abbrev pub decreases-ports : goal.decreases-ports
decreases-ports l = length l.parser.1
