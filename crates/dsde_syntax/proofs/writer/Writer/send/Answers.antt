use Rattle.dsde_syntax.proofs.Writing.{then}
use Rattle.dsde_syntax.proofs.writer.Writer.send.Goals as goal

pub returns : goal.returns
returns c = then (then (then c.word.ensures c.id.ensures) c.expr_in_parens.ensures) c.sign.ensures
