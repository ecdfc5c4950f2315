use Rattle.dsde_syntax.proofs.Writing.{then}
use Rattle.dsde_syntax.proofs.writer.Writer.via_names.Goals as goal

pub returns : goal.returns
returns c = then (then c.sign.ensures (then c.id.ensures c.via_key.ensures)) c.sign-2.ensures
