use Rattle.dsde_sound_expressions.proofs.Tops.{tops-stand}
use Rattle.dsde_sound_expressions.proofs.place_law.tops_stand.Goals as goal

pub returns : goal.returns
returns c = λ model right. tops-stand model right (c.shaped_is_proper.ensures model right.shaped)
