use Rattle.std.proofs.Common.{refl}
use Rattle.dsde_parser_expressions.proofs.PartLemmas.{one, one-at, own, ◌⨟◌, read, whole-expr}
use Rattle.dsde_parser_declarations.proofs.decl.advance.Goals as goal

pub returns-clause-took : goal.returns-clause-took
returns-clause-took c =
    let advance = c.in_ok-advance.ensures.took in
    read (one-at c.in_ok-at.ensures.took c.in_ok-at.ensures.place ⨟ own advance ⨟ one c.in_ok-sign.ensures.took) refl refl (whole-expr advance)
