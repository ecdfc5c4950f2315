use Rattle.dsde_sound_structures.proofs.TranslationTranslating.{made-typed}
use Rattle.dsde_sound_structures.proofs.translation_laws.translations_keep_types.Goals as goal

pub returns : goal.returns
returns c = λ model via from to own made right takes typed is.
    made-typed model via from to own takes typed right c.expressions_agree.ensures c.known_is_within.ensures c.functions_agree.ensures made is
