use Rattle.dsde_sound_structures.proofs.Gathering.{gathered-reach}
use Rattle.dsde_sound_structures.proofs.link_laws.gathered_fits.Goals as goal

pub returns : goal.returns
returns c = λ model own entries links sources part ports right order all fit are.
    gathered-reach (λ name other. (c.one_name.ensures name other).0) c.expressions_agree.ensures c.known_is_within.ensures c.functions_agree.ensures
    model right own entries order sources fit links all part ports are
