use Rattle.dsde_sound_structures.proofs.MakeWhole.{makes-stand}
use Rattle.dsde_sound_structures.proofs.make_law.makes_stand.Goals as goal

pub returns : goal.returns
returns c = makes-stand c.expressions_agree.ensures c.functions_agree.ensures c.known_is_within.ensures c.structures_stand.ensures
