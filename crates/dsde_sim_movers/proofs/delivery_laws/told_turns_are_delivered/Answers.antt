use Rattle.dsde_sim_tree.specs.declared.sim.Sim.{Sim}
use Rattle.dsde_sim_tree.specs.Output.{by_port}
use Rattle.dsde_sim_tree.specs.Move.{ins_of}
use Rattle.dsde_sim_tree.specs.Turn.{turn}
use Rattle.dsde_sim_movers.proofs.Fronts.{told-delivered}
use Rattle.dsde_sim_movers.proofs.delivery_laws.told_turns_are_delivered.Goals as goal

pub returns : goal.returns
returns c system tree number time items old new result order tells =
    told-delivered system tree time (by_port (ins_of system tree) items) Sim (turn system tree number time items) old new result tells
    (c.turns_are_delivered.ensures system tree number time items order)
