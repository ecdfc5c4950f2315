use Rattle.std.proofs.Common.{◌≡◌, ◌+◌, sum, map, drop}
use Rattle.dsde_sim_tree.specs.Tree.{parts, parts_of_kid}
use Rattle.dsde_sim_changing.proofs.counting.+parts.Given as goal

abbrev pub decreases-parts : goal.decreases-parts
decreases-parts l = goal.size-parts l

abbrev pub invariant-loop-kid : goal.invariant-loop-kid
invariant-loop-kid l = l.count + sum (map parts_of_kid (drop l.kid-index l.kid-items)) ≡ parts l.sim
