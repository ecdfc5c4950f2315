use Rattle.dsde_syntax.proofs.Writing.{then}
use Rattle.dsde_syntax.proofs.writer.Writer.link.Goals as goal

pub returns : goal.returns
returns c = then (then (then (then (then c.word.ensures c.end.ensures) c.sign.ensures) c.end-2.ensures) c.via.ensures) c.sign-2.ensures
