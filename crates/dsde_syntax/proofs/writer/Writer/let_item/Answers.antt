use Rattle.dsde_syntax.proofs.Writing.{then}
use Rattle.dsde_syntax.proofs.writer.Writer.let_item.Goals as goal

pub returns : goal.returns
returns c = then c.word.ensures c.set.ensures
