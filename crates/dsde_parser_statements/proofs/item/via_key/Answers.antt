use Rattle.std.proofs.Common.{refl}
use Rattle.dsde_parser_expressions.proofs.NodeLemmas.{taken}
use Rattle.dsde_parser_expressions.proofs.PartLemmas.{one, own, ◌⨟◌, wide, read-all, whole-expr}
use Rattle.dsde_parser_statements.proofs.item.via_key.Goals as goal

pub returns-clause-took : goal.returns-clause-took
returns-clause-took c =
    let value = rw (← c.into_inner-value.ensures) at c.in_ok-expr.ensures.took in
    let comma = taken _ _ _ _ c.takes_sign.ensures.took c.if-not-takes_sign.false in
    rw c.in_ok-key.ensures (read-all (wide (one comma ⨟ own c.in_ok-name.ensures.took ⨟ one c.in_ok-sign.ensures.took ⨟ own value)) refl refl (whole-expr value))
