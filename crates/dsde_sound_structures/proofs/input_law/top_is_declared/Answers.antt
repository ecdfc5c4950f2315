use Rattle.dsde_sound_structures.proofs.InputTops.{top-is-declared}
use Rattle.dsde_sound_structures.proofs.input_law.top_is_declared.Goals as goal

pub returns : goal.returns
returns c = top-is-declared c.tops_stand.ensures
