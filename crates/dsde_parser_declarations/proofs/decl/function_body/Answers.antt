use Rattle.std.proofs.Common.{refl}
use Rattle.dsde_parser_expressions.proofs.PartLemmas.{one, own, all, ◌⨟◌, read, whole-expr}
use Rattle.dsde_parser_declarations.proofs.decl.function_body.Goals as goal

pub returns-clause-took : goal.returns-clause-took
returns-clause-took c =
    let value = rw (← c.into_inner.ensures) at c.in_ok-value.ensures.took in
    let stmts = c.in_ok-stmts.ensures.took in
    read (one c.in_ok-sign.ensures.took ⨟ (all stmts ⨟ one c.in_ok-key.ensures.took ⨟ own value ⨟ one c.in_ok-sign-2.ensures.took) ⨟ one c.in_ok-sign-3.ensures.took) refl refl (stmts.good, whole-expr value)
