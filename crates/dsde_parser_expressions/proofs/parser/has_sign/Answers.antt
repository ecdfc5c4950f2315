use Rattle.dsde_parser_expressions.proofs.TestLemmas.{tests-sign}
use Rattle.dsde_parser_expressions.proofs.parser.has_sign.Goals as goal

pub returns-clause-tests : goal.returns-clause-tests
returns-clause-tests c = tests-sign _ _ _ c.is_sign.ensures
