-- The depth falls.
use Rattle.std.proofs.Common.{◌+◌, ◌*◌}
use Rattle.dsde_eval_tables.proofs.evaluator.Evaluator.+reckoning.Given as goal

abbrev pub decreases-reckon : goal.decreases-reckon
decreases-reckon l = 3 * l.depth

abbrev pub decreases-reckon_node : goal.decreases-reckon_node
decreases-reckon_node l = 3 * l.depth + 2

abbrev pub decreases-reckon_sides : goal.decreases-reckon_sides
decreases-reckon_sides l = 3 * l.depth + 1
