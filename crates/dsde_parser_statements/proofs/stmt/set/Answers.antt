use Rattle.std.proofs.Common.{refl}
use Rattle.dsde_parser_expressions.proofs.PartLemmas.{one, own, ◌⨟◌, read, whole-expr}
use Rattle.dsde_parser_statements.proofs.stmt.set.Goals as goal

pub returns-clause-took : goal.returns-clause-took
returns-clause-took c =
    let value = rw (← c.into_inner.ensures) at c.in_ok-value.ensures.took in
    read (own c.in_ok-name.ensures.took ⨟ one c.in_ok-sign.ensures.took ⨟ own value ⨟ one c.in_ok-sign-2.ensures.took) refl refl (whole-expr value)
