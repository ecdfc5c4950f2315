use Rattle.dsde_sound_expressions.proofs.BlockWhole.{blocks-agree}
use Rattle.dsde_sound_expressions.proofs.block_law.blocks_agree.Goals as goal

pub returns : goal.returns
returns c = blocks-agree c.expressions_agree.ensures
