use Rattle.dsde_syntax.proofs.Writing.{then}
use Rattle.dsde_syntax.proofs.writer.Writer.set.Goals as goal

pub returns : goal.returns
returns c = then (then (then c.id.ensures c.sign.ensures) c.expr.ensures) c.sign-2.ensures
