use Rattle.dsde_parser_declarations.proofs.DeclLemmas.{exec-Took}
use Rattle.dsde_parser_declarations.proofs.decl.executive.Goals as goal

pub returns-clause-took : goal.returns-clause-took
returns-clause-took c =
    exec-Took _ _ _ c.in_ok-at.ensures.took c.in_ok-at.ensures.place c.in_ok-sign.ensures.took c.in_ok-body.ensures.took c.in_ok-items.ensures.took
