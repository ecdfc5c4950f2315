use Rattle.dsde_parser_statements.proofs.StmtLemmas.{comp-Took}
use Rattle.dsde_parser_statements.proofs.item.comp.Goals as goal

pub returns-clause-took : goal.returns-clause-took
returns-clause-took c =
    let part = rw (← c.in_ok-named.ensures, ← c.into_inner-name.ensures) at c.in_ok-component.ensures.took in
    comp-Took _ _ _ _ _ _ c.in_ok-at.ensures.took c.in_ok-at.ensures.place part c.in_ok-soft.ensures.took
