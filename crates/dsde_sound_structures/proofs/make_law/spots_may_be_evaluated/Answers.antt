use Rattle.dsde_sound_structures.proofs.Evaluating.{spots-may-eval}
use Rattle.dsde_sound_structures.proofs.make_law.spots_may_be_evaluated.Goals as goal

pub returns : goal.returns
returns c = spots-may-eval
