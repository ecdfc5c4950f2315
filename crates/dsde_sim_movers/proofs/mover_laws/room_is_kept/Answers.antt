use Rattle.dsde_sim_movers.proofs.Rooms.{start-few, each-few, turn-few}
use Rattle.dsde_sim_movers.proofs.mover_laws.room_is_kept.Goals as goal

pub returns-clause-movers : goal.returns-clause-movers
returns-clause-movers c system tree after path time order room left is = each-few system path time order tree room (after, left) is

pub returns-clause-turn : goal.returns-clause-turn
returns-clause-turn c system tree after number time items order within is = turn-few system tree number time items order within after is

pub returns-clause-start : goal.returns-clause-start
returns-clause-start c system left model args path time room rest tree is = start-few system left model args path time room (tree, rest) is
