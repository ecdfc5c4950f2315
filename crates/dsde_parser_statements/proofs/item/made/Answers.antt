use Rattle.std.proofs.Common.{refl}
use Rattle.dsde_parser_expressions.proofs.PartLemmas.{one, own, ◌⨟◌, read}
use Rattle.dsde_parser_statements.proofs.item.made.Goals as goal

pub returns-clause-took : goal.returns-clause-took
returns-clause-took c =
    read (own c.in_ok-soft.ensures.took ⨟ own c.in_ok-model.ensures.took ⨟ own c.in_ok-args.ensures.took ⨟ one c.in_ok-sign.ensures.took) refl refl c.in_ok-args.ensures.took.good
