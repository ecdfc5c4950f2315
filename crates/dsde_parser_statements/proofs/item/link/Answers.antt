use Rattle.dsde_parser_statements.proofs.StmtLemmas.{link-Took}
use Rattle.dsde_parser_statements.proofs.item.link.Goals as goal

pub returns-clause-took : goal.returns-clause-took
returns-clause-took c =
    rw (c.into_inner-from.ensures, c.into_inner-to.ensures, c.unboxed-via.ensures) (link-Took _ _ _ _ c.in_ok-at.ensures.took c.in_ok-at.ensures.place c.in_ok-from.ensures.took c.in_ok-via.ensures.took)
