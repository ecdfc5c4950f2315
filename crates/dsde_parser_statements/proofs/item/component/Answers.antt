use Rattle.std.proofs.Common.{refl}
use Rattle.dsde_parser_expressions.proofs.NodeLemmas.{taken}
use Rattle.dsde_parser_expressions.proofs.PartLemmas.{one, own, placed-at, ◌⨟◌, read, whole-expr}
use Rattle.dsde_parser_statements.proofs.item.component.Goals as goal

pub returns-clause-took : goal.returns-clause-took
returns-clause-took c =
    let value = rw (← c.into_inner-value.ensures) at c.in_ok-value.ensures.took in
    let bracket = taken _ _ _ _ c.takes_sign.ensures.took c.if-not-takes_sign.false in
    read (own c.in_ok-name.ensures.took ⨟ placed-at (one bracket ⨟ own value ⨟ one c.in_ok-sign.ensures.took) c.at-at.ensures) refl refl (whole-expr value)
