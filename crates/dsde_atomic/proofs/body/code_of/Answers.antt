use Rattle.dsde_atomic.proofs.Ends.{code-stands}
use Rattle.dsde_atomic.proofs.body.code_of.Goals as goal

pub returns : goal.returns
returns c = code-stands c.args.program.now c.args.model.0 c.code.result.now c.laws.ensures.bodies c.right.ensures c.requires c.code.ensures
