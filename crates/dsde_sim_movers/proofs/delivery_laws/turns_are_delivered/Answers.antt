use Rattle.dsde_sim_movers.proofs.DeliveryTurns.{turn-delivered}
use Rattle.dsde_sim_movers.proofs.delivery_laws.turns_are_delivered.Goals as goal

pub returns : goal.returns
returns c system tree number time items = turn-delivered system tree number time items c.orders_are_total.ensures.names
