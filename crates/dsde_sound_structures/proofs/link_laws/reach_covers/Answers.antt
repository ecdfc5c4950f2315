use Rattle.dsde_sound_structures.proofs.Sources.{reach-covers}
use Rattle.dsde_sound_structures.proofs.link_laws.reach_covers.Goals as goal

pub returns : goal.returns
returns c = λ types ports got reach. reach-covers types ports got reach
