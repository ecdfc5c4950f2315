use Rattle.dsde_sim_movers.proofs.MoverTurns.{turn-by}
use Rattle.dsde_sim_movers.proofs.mover_laws.turns_move_one_by_one.Goals as goal

pub returns : goal.returns
returns c system tree number time items placed = turn-by system (c.parts_move_one_by_one.ensures system) tree number time items placed
