use Rattle.dsde_sim_movers.proofs.DeliveryTurns.{turn-gets}
use Rattle.dsde_sim_movers.proofs.delivery_laws.turns_deliver_in_order.Goals as goal

pub returns : goal.returns
returns c = turn-gets
