use Rattle.dsde_sim_tree.specs.Engine.{next_of}
use Rattle.dsde_sim_tree.specs.Turn.{turn_time}
use Rattle.dsde_order.proofs.Advances.{advances-agree}
use Rattle.dsde_order.proofs.laws.drawn_advances_agree.Goals as goal

pub returns : goal.returns
returns c system own after head step other named plain drawn =
    advances-agree c.drawn_turns_agree.ensures system own head step after other own.engine.tree (turn_time (next_of own.engine) head) named plain drawn
