use Rattle.std.proofs.Common.{◌≡◌, map, drop}
use Rattle.dsde_sim_tree.specs.Tree.{next_time, next_of_kid, soonest}
use Rattle.dsde_sim_changing.proofs.counting.+next_time.Given as goal

abbrev pub decreases-next_time : goal.decreases-next_time
decreases-next_time l = goal.size-next_time l

abbrev pub invariant-loop-kid : goal.invariant-loop-kid
invariant-loop-kid l = soonest l.next (map next_of_kid (drop l.kid-index l.kid-items)) ≡ next_time l.sim
