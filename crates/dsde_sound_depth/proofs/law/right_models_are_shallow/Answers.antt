use Rattle.dsde_sound_depth.proofs.DeclGoes.{model-within}
use Rattle.dsde_sound_depth.proofs.DeclTall.{model-low}
use Rattle.dsde_sound_depth.proofs.law.right_models_are_shallow.Goals as goal

pub returns : goal.returns
returns c = λ model right n. model-within model 512 right.shaped.levels (model-low model right.sound) n
