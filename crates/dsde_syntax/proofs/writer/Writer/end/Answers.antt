use Rattle.dsde_syntax.proofs.Writing.{then}
use Rattle.dsde_syntax.proofs.writer.Writer.end.Goals as goal

pub returns : goal.returns
returns c = then (then c.end_part.ensures c.sign.ensures) c.id.ensures
