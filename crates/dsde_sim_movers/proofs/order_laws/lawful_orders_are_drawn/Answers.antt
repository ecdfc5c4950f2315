use Rattle.dsde_sim_movers.proofs.Agree.{drawn-lawful}
use Rattle.dsde_sim_movers.proofs.order_laws.lawful_orders_are_drawn.Goals as goal

pub returns : goal.returns
returns c = drawn-lawful
