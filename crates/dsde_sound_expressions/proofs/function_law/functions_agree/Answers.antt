use Rattle.dsde_sound_expressions.proofs.FunctionWhole.{functions-agree}
use Rattle.dsde_sound_expressions.proofs.function_law.functions_agree.Goals as goal

pub returns : goal.returns
returns c = λ model known right at.
    functions-agree c.expressions_agree.ensures c.blocks_agree.ensures c.known_is_within.ensures c.shaped_is_proper.ensures model known right at
