use Rattle.dsde_syntax.proofs.Writing.{then}
use Rattle.dsde_syntax.proofs.writer.Writer.let_stmt.Goals as goal

pub returns : goal.returns
returns c = then c.let_word.ensures c.set.ensures
