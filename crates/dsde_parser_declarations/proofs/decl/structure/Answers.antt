use Rattle.std.proofs.Common.{refl}
use Rattle.dsde_parser_expressions.proofs.PartLemmas.{one, own, ◌⨟◌, read}
use Rattle.dsde_parser_declarations.proofs.decl.structure.Goals as goal

pub returns-clause-took : goal.returns-clause-took
returns-clause-took c =
    let items = c.in_ok-items.ensures.took in
    read (one c.in_ok-key.ensures.took ⨟ own items ⨟ one c.in_ok-sign.ensures.took) refl refl items.good
