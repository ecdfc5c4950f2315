use Rattle.dsde_sound_structures.proofs.LinkTranslating.{may-translate}
use Rattle.dsde_sound_structures.proofs.link_laws.may_translate.Goals as goal

pub returns : goal.returns
returns c = λ model via from to own takes typed. may-translate model via from to own takes typed
