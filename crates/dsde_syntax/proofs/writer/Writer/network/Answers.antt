use Rattle.dsde_syntax.proofs.Writing.{then}
use Rattle.dsde_syntax.proofs.writer.Writer.network.Goals as goal

pub returns : goal.returns
returns c = then (then c.sign.ensures (then c.ports.ensures c.executive.ensures)) c.sign-2.ensures
