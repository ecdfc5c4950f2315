use Rattle.dsde_parser.proofs.RefusalLemmas.{shallow-refused}
use Rattle.dsde_parser.proofs.whole.parse.Goals as goal

pub returns-in-None-clause-refused : goal.returns-in-None-clause-refused
returns-in-None-clause-refused c = shallow-refused _ _ c.stops_are_first_wrong.ensures c.requires.well_formed (rw c.in-None.is at c.in_ok-deep.ensures) c.parse_all.ensures.stopped
