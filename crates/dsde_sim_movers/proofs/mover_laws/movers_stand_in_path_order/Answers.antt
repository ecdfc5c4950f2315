use Rattle.dsde_sim_movers.proofs.Walking.{movers-walk}
use Rattle.dsde_sim_movers.proofs.mover_laws.movers_stand_in_path_order.Goals as goal

pub returns : goal.returns
returns c system tree path time got named = movers-walk c.orders_are_total.ensures.names system tree path time got named
