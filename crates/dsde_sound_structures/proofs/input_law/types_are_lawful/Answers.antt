use Rattle.dsde_sound_structures.proofs.Types.{types-are-lawful}
use Rattle.dsde_sound_structures.proofs.input_law.types_are_lawful.Goals as goal

pub returns : goal.returns
returns c = λ model right. types-are-lawful model right
