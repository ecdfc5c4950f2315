use Rattle.dsde_sim_changing.specs.given.sim_starting.lemmas_Stood.{inputs-of}
use Rattle.dsde_sim_moving.proofs.leaf.move_leaf_at.Goals as goal

pub take_move-requires-clause-got : goal.take_move-requires-clause-got
take_move-requires-clause-got c = inputs-of c.args.program.now c.args.leaf c.args.got c.requires.leaf c.requires.got
