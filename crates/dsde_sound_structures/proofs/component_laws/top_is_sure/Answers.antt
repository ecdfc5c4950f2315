use Rattle.dsde_sound_structures.proofs.ComponentTops.{top-sure}
use Rattle.dsde_sound_structures.proofs.component_laws.top_is_sure.Goals as goal

pub returns : goal.returns
returns c = λ model right.
    top-sure model right c.expressions_agree.ensures c.known_is_within.ensures c.functions_agree.ensures c.tops_stand.ensures c.top_is_declared.ensures
