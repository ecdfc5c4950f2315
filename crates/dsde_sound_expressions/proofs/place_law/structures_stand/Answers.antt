use Rattle.dsde_sound_expressions.proofs.Structures.{structures-stand}
use Rattle.dsde_sound_expressions.proofs.place_law.structures_stand.Goals as goal

pub returns : goal.returns
returns c = λ model number own right here network.
    structures-stand model right (c.shaped_is_proper.ensures model right.shaped) (c.shaped_items_are_proper.ensures model right.shaped) number own here network
