use Rattle.std.proofs.Common.{refl}
use Rattle.dsde_parser_expressions.proofs.PartLemmas.{one, own, all, ◌⨟◌, read}
use Rattle.dsde_parser_statements.proofs.item.via_names.Goals as goal

pub returns-clause-took : goal.returns-clause-took
returns-clause-took c =
    read (one c.in_ok-sign.ensures.took ⨟ (own c.in_ok-value.ensures.took ⨟ all c.in_ok-key.ensures.took) ⨟ one c.in_ok-sign-2.ensures.took) refl refl c.in_ok-key.ensures.took.good
