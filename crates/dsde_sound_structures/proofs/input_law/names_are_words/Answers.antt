use Rattle.dsde_sound_structures.proofs.InputNaming.{types-are-named, models-are-named}
use Rattle.dsde_sound_structures.proofs.input_law.names_are_words.Goals as goal

pub returns-clause-types : goal.returns-clause-types
returns-clause-types c = types-are-named

pub returns-clause-models : goal.returns-clause-models
returns-clause-models c = models-are-named
