use Rattle.dsde_sound_structures.proofs.Infos.{ports-are-lawful}
use Rattle.dsde_sound_structures.proofs.input_law.ports_are_lawful.Goals as goal

pub returns : goal.returns
returns c = λ model right number info at. ports-are-lawful model right number info at
