use Rattle.dsde_syntax.proofs.Writing.{then}
use Rattle.dsde_syntax.proofs.writer.Writer.state.Goals as goal

pub returns : goal.returns
returns c = then (then (then (then (then (then c.word.ensures c.id.ensures) c.sign.ensures) c.type_name.ensures) c.sign-2.ensures) c.expr.ensures) c.sign-3.ensures
