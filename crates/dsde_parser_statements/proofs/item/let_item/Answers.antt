use Rattle.dsde_parser_statements.proofs.StmtLemmas.{let_item-Took}
use Rattle.dsde_parser_statements.proofs.item.let_item.Goals as goal

pub returns-clause-took : goal.returns-clause-took
returns-clause-took c = let_item-Took _ _ c.in_ok-key.ensures.took c.in_ok-name.ensures.took
