use Rattle.std.proofs.Common.{refl}
use Rattle.dsde_parser_expressions.proofs.PartLemmas.{one, own, ◌⨟◌, read}
use Rattle.dsde_parser_declarations.proofs.decl.typed.Goals as goal

pub returns-clause-took : goal.returns-clause-took
returns-clause-took c =
    read (own c.in_ok-name.ensures.took ⨟ one c.in_ok-sign.ensures.took ⨟ own c.in_ok-ty.ensures.took) refl refl tt
