use Rattle.dsde_parser_expressions.proofs.LayerLemmas.{field-Took}
use Rattle.dsde_parser_expressions.proofs.parser.Parser.field.Goals as goal

pub returns-clause-took : goal.returns-clause-took
returns-clause-took c = field-Took _ _ c.in_ok-at.ensures.took c.in_ok-at.ensures.place c.in_ok-name.ensures.took
