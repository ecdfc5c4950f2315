use Rattle.dsde_sim_movers.specs.Movers.{seat_behind}
use Rattle.dsde_sim_movers.proofs.Works.{takes-at}
use Rattle.dsde_sim_movers.proofs.mover_laws.executives_take_structures.Goals as goal

pub returns : goal.returns
returns c system tree after net kind path time own room left boss there is ends =
    takes-at system path time (seat_behind path own.path) own.ports tree net kind room boss there is (after, left) ends
