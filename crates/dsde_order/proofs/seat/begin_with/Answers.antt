use Rattle.std.proofs.Common.{◌∙◌}
use Rattle.dsde_order.proofs.Seats.{begins}
use Rattle.dsde_order.proofs.seat.begin_with.Goals as goal

pub returns : goal.returns
returns c = c.starts_with.ensures.value ∙ begins c.args.front.now c.args.names.now
