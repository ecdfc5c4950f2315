use Rattle.dsde_parser_statements.proofs.StmtLemmas.{set-Took}
use Rattle.dsde_parser_statements.proofs.stmt.assign.Goals as goal

pub returns-clause-took : goal.returns-clause-took
returns-clause-took c = set-Took _ _ c.in_ok-name.ensures.took
