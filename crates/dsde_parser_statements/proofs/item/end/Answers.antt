use Rattle.std.proofs.Common.{refl}
use Rattle.dsde_parser_expressions.proofs.PartLemmas.{one, own, ◌⨟◌, read}
use Rattle.dsde_parser_statements.proofs.StmtLemmas.{end-ok}
use Rattle.dsde_parser_statements.proofs.item.end.Goals as goal

pub returns-clause-took : goal.returns-clause-took
returns-clause-took c =
    let part = rw (← c.in_ok-part.ensures, ← c.into_inner-part.ensures) at c.in_ok-end_part.ensures.took in
    rw c.in_ok-end.ensures (read (own part ⨟ one c.in_ok-sign.ensures.took ⨟ own c.in_ok-port.ensures.took) refl refl (end-ok _ c.in_ok-port.port part.good))
