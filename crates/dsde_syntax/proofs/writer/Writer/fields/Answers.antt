use Rattle.dsde_syntax.proofs.Writing.{then}
use Rattle.dsde_syntax.proofs.writer.Writer.fields.Goals as goal

pub returns : goal.returns
returns c = then (then c.sign.ensures c.all_typed.ensures) c.sign-2.ensures
