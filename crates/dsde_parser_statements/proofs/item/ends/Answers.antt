use Rattle.std.proofs.Common.{refl}
use Rattle.dsde_parser_expressions.proofs.PartLemmas.{own, ◌⨟◌, read}
use Rattle.dsde_parser_statements.proofs.item.ends.Goals as goal

pub returns-clause-took : goal.returns-clause-took
returns-clause-took c = read (own c.in_ok-from.ensures.took ⨟ own c.in_ok-to.ensures.took) refl refl (c.in_ok-from.ensures.took.good, c.in_ok-to.ensures.took.good)
