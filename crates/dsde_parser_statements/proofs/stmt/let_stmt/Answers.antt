use Rattle.std.proofs.Common.{false}
use Rattle.dsde_parser_statements.proofs.StmtLemmas.{let-Took}
use Rattle.dsde_parser_statements.proofs.stmt.let_stmt.Goals as goal

pub returns-clause-took : goal.returns-clause-took
returns-clause-took c = let-Took false _ _ c.in_ok-key.ensures.took c.in_ok-name.ensures.took
