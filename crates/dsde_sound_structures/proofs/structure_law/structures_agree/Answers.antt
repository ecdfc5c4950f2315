use Rattle.dsde_sound_structures.proofs.StructureWhole.{structures-agree}
use Rattle.dsde_sound_structures.proofs.structure_law.structures_agree.Goals as goal

pub returns : goal.returns
returns c = structures-agree c.expressions_agree.ensures c.functions_agree.ensures c.known_is_within.ensures c.models_are_known.ensures c.plans_are_in_order.ensures c.plans_are_ordinary.ensures
