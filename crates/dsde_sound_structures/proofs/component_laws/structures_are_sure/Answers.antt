use Rattle.dsde_sound_structures.proofs.Networks.{structure-sure}
use Rattle.dsde_sound_structures.proofs.component_laws.structures_are_sure.Goals as goal

pub returns : goal.returns
returns c = λ model number args state right network fits stood.
    structure-sure c.structures_stand.ensures c.structures_agree.ensures model number args state right network fits stood
