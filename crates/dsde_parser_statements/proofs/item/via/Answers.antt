use Rattle.dsde_parser_expressions.proofs.NodeLemmas.{taken}
use Rattle.dsde_parser_statements.proofs.StmtLemmas.{via-Took}
use Rattle.dsde_parser_statements.proofs.item.via.Goals as goal

pub returns-clause-took : goal.returns-clause-took
returns-clause-took c =
    let begun = taken _ _ _ _ c.takes_key.ensures.took c.if-not-takes_key.false in
    rw (c.in_ok-via.ensures, c.unboxed-key.ensures, c.into_inner-body.ensures) (via-Took _ _ _ begun c.in_ok-value.ensures.took c.in_ok-via_body.ensures.took)
