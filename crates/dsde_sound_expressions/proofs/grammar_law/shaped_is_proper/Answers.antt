use Rattle.dsde_sound_expressions.proofs.DeclProper.{shaped-is-proper}
use Rattle.dsde_sound_expressions.proofs.grammar_law.shaped_is_proper.Goals as goal

pub returns : goal.returns
returns c = λ model shaped. shaped-is-proper model shaped
