use Rattle.std.proofs.Common.{refl}
use Rattle.dsde_parser_expressions.proofs.PartLemmas.{all, one, ◌⨟◌, read}
use Rattle.dsde_parser_statements.proofs.item.last_via.Goals as goal

pub returns-clause-took : goal.returns-clause-took
returns-clause-took c = read (all c.in_ok-via.ensures.took ⨟ one c.in_ok-sign.ensures.took) refl refl c.in_ok-via.ensures.took.good
