use Rattle.dsde_syntax.proofs.Writing.{then}
use Rattle.dsde_syntax.proofs.writer.Writer.executive.Goals as goal

pub returns : goal.returns
returns c = then c.word.ensures (then (then c.sign.ensures (then (then c.body.ensures c.word-2.ensures) c.items.ensures)) c.sign-2.ensures)
