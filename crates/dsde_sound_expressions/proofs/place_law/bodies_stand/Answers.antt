use Rattle.dsde_sound_expressions.proofs.Bodies.{bodies-stand}
use Rattle.dsde_sound_expressions.proofs.place_law.bodies_stand.Goals as goal

pub returns : goal.returns
returns c = λ model number right low. bodies-stand model right (c.shaped_is_proper.ensures model right.shaped) number low
