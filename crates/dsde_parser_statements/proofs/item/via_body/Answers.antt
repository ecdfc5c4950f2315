use Rattle.std.proofs.Common.{refl}
use Rattle.dsde_parser_expressions.proofs.PartLemmas.{one, own, ◌⨟◌, read, whole-expr}
use Rattle.dsde_parser_statements.proofs.item.via_body.Goals as goal

pub returns-clause-took : goal.returns-clause-took
returns-clause-took c =
    let body = c.in_ok-body.ensures.took in
    read (one c.in_ok-sign.ensures.took ⨟ own body) refl refl (whole-expr body)
