use Rattle.dsde_repair_walks.proofs.Finding.{found-one}
use Rattle.dsde_repair_walks.proofs.found.find_near.Goals as goal

pub returns-in-Some-get : goal.returns-in-Some-get
returns-in-Some-get c = found-one c.args.name.now c.args.kids.now c.in-Some.index c.in-Some.ensures c.in-Some-get.kid.now c.in-Some-get.ensures.lookup.1
