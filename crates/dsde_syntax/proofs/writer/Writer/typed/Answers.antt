use Rattle.dsde_syntax.proofs.Writing.{then}
use Rattle.dsde_syntax.proofs.writer.Writer.typed.Goals as goal

pub returns : goal.returns
returns c = then (then c.id.ensures c.sign.ensures) c.type_name.ensures
