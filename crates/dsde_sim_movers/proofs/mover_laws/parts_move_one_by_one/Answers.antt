use Rattle.dsde_sim_movers.proofs.MoverMoving.{moves-by-movers}
use Rattle.dsde_sim_movers.specs.lemmas.Named.{placed-from}
use Rattle.dsde_sim_movers.proofs.mover_laws.parts_move_one_by_one.Goals as goal

pub returns : goal.returns
returns c system tree path time got sent room named is = moves-by-movers c.orders_are_total.ensures.names system tree path time got sent room (placed-from tree named) is
