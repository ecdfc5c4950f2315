use Rattle.dsde_eval_operators.proofs.Same.{same-is}
use Rattle.dsde_eval_operators.proofs.operators.is_same.Goals as goal

pub returns : goal.returns
returns c = same-is c.equal.result c.args.value.now c.args.other.now c.equal.ensures.0 c.equal.ensures.1
