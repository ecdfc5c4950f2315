use Rattle.std.proofs.Common.{refl}
use Rattle.dsde_parser_expressions.proofs.PartLemmas.{one, own, ◌⨟◌, read}
use Rattle.dsde_parser_declarations.proofs.decl.an_enum.Goals as goal

pub returns-clause-took : goal.returns-clause-took
returns-clause-took c =
    read (one c.in_ok-key.ensures.took ⨟ own c.in_ok-name.ensures.took ⨟ (one c.in_ok-sign.ensures.took ⨟ own c.in_ok-variants.ensures.took ⨟ one c.in_ok-sign-2.ensures.took)) refl refl c.in_ok-variants.ensures.took.good.some
