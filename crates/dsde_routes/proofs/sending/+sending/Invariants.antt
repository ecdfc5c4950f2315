use Rattle.std.proofs.Common.{map, drop}
use Rattle.dsde_routes_wiring.specs.Flatten.{flow_of_kid}
use Rattle.dsde_routes.specs.Sending.{SendsSoFar}
use Rattle.dsde_routes.proofs.sending.+sending.Given as goal

abbrev pub invariant-sents-loop-kid : goal.invariant-sents-loop-kid
invariant-sents-loop-kid l = SendsSoFar l.sents (map flow_of_kid l.kids) (map flow_of_kid (drop l.kid-index l.kids))
