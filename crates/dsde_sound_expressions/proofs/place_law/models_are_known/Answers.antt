use Rattle.dsde_sound_expressions.proofs.ModelsAre.{models-are-known}
use Rattle.dsde_sound_expressions.proofs.place_law.models_are_known.Goals as goal

pub returns : goal.returns
returns c = λ model right. models-are-known model right (c.shaped_is_proper.ensures model right.shaped)
