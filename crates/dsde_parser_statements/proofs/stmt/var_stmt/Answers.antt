use Rattle.std.proofs.Common.{true}
use Rattle.dsde_parser_statements.proofs.StmtLemmas.{let-Took}
use Rattle.dsde_parser_statements.proofs.stmt.var_stmt.Goals as goal

pub returns-clause-took : goal.returns-clause-took
returns-clause-took c = let-Took true _ _ c.in_ok-key.ensures.took c.in_ok-name.ensures.took
