use Rattle.dsde_sound_expressions.proofs.Within.{known-is-within}
use Rattle.dsde_sound_expressions.proofs.place_law.known_is_within.Goals as goal

pub returns : goal.returns
returns c = λ model known right at. known-is-within model known right at
