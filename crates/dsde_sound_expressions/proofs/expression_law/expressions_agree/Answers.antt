use Rattle.dsde_sound_expressions.proofs.ExpressionWhole.{expressions-agree}
use Rattle.dsde_sound_expressions.proofs.expression_law.expressions_agree.Goals as goal

pub returns : goal.returns
returns c = expressions-agree
