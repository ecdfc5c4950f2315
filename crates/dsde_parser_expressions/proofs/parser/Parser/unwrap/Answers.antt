use Rattle.dsde_parser_expressions.proofs.LayerLemmas.{unwrap-Took}
use Rattle.dsde_parser_expressions.proofs.parser.Parser.unwrap.Goals as goal

pub returns-clause-took : goal.returns-clause-took
returns-clause-took c = unwrap-Took _ c.in_ok-at.ensures.took c.in_ok-at.ensures.place
