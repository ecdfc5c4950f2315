use Rattle.dsde_sound_structures.proofs.Components.{component-sure}
use Rattle.dsde_sound_structures.proofs.component_laws.components_are_sure.Goals as goal

pub returns : goal.returns
returns c = λ model number args right fits.
    component-sure model number args right c.expressions_agree.ensures c.blocks_agree.ensures c.known_is_within.ensures c.functions_agree.ensures c.bodies_stand.ensures fits
