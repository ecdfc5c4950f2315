use Rattle.dsde_parser.proofs.DepthLemmas.{IsSoFar}
use Rattle.dsde_parser.proofs.depth.first_too_deep.Given as goal

abbrev pub invariant-loop-index : goal.invariant-loop-index
invariant-loop-index l = IsSoFar l.tokens l.index l.open
