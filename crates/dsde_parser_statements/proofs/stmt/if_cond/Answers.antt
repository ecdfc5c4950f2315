use Rattle.std.proofs.Common.{refl}
use Rattle.dsde_parser_expressions.proofs.PartLemmas.{one, own, ◌⨟◌, read, whole-expr}
use Rattle.dsde_parser_statements.proofs.stmt.if_cond.Goals as goal

pub returns-clause-took : goal.returns-clause-took
returns-clause-took c =
    let cond = c.in_ok-cond.ensures.took in
    read (one c.in_ok-key.ensures.took ⨟ own cond) refl refl (whole-expr cond)
