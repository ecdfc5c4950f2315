use Rattle.std.proofs.Common.{◌+◌, ◌*◌, length}
use Rattle.dsde_order.proofs.stepping.+stepping.Given as goal

abbrev pub decreases-step : goal.decreases-step
decreases-step l = 3 * length l.names.now

abbrev pub decreases-step_in : goal.decreases-step_in
decreases-step_in l = 3 * length l.rest.now + 2

abbrev pub decreases-step_at : goal.decreases-step_at
decreases-step_at l = 3 * length l.rest.now + 1
