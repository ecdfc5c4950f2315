use Rattle.dsde_parser_declarations.proofs.DeclLemmas.{body-Took}
use Rattle.dsde_parser_declarations.proofs.decl.body.Goals as goal

pub returns-clause-took : goal.returns-clause-took
returns-clause-took c =
    let advance = c.in_ok-advance_at.ensures.took in
    rw (c.in_ok-body.ensures, c.into_inner.ensures) (body-Took _ _ _ _ _ _ _ _ c.in_ok-ports.ensures.took c.in_ok-states.ensures.took advance c.in_ok-output.ensures.took)
