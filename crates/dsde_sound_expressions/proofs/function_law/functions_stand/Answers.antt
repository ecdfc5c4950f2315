use Rattle.dsde_sound_expressions.proofs.FuncStanding.{functions-stand}
use Rattle.dsde_sound_expressions.proofs.function_law.functions_stand.Goals as goal

pub returns : goal.returns
returns c = λ model number right. functions-stand model right c.blocks_agree.ensures c.known_is_within.ensures c.functions_agree.ensures c.shaped_is_proper.ensures number
