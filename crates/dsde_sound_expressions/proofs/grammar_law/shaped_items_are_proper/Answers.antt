use Rattle.dsde_sound_expressions.proofs.ItemProper.{items-are-proper}
use Rattle.dsde_sound_expressions.proofs.grammar_law.shaped_items_are_proper.Goals as goal

pub returns : goal.returns
returns c = λ model shaped. items-are-proper model shaped
