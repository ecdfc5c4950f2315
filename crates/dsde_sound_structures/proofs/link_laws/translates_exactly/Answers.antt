use Rattle.dsde_sound_structures.proofs.LinkTranslating.{translates}
use Rattle.dsde_sound_structures.proofs.link_laws.translates_exactly.Goals as goal

pub returns : goal.returns
returns c = λ model via from to own held takes typed came. translates model via from to own takes typed held came
