use Rattle.dsde_parser_statements.proofs.StmtLemmas.{send-Took}
use Rattle.dsde_parser_statements.proofs.stmt.send.Goals as goal

pub returns-clause-took : goal.returns-clause-took
returns-clause-took c =
    let value = rw (← c.into_inner.ensures) at c.in_ok-value.ensures.took in
    send-Took _ _ c.in_ok-key.ensures.took c.in_ok-port.ensures.took c.in_ok-sign.ensures.took value c.in_ok-sign-2.ensures.took c.in_ok-sign-3.ensures.took
