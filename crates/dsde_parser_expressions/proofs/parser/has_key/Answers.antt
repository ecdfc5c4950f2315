use Rattle.dsde_parser_expressions.proofs.TestLemmas.{tests-key}
use Rattle.dsde_parser_expressions.proofs.parser.has_key.Goals as goal

pub returns-clause-tests : goal.returns-clause-tests
returns-clause-tests c = tests-key _ _ _ c.is_key.ensures
