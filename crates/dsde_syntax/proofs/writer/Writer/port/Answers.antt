use Rattle.dsde_syntax.proofs.Writing.{then}
use Rattle.dsde_syntax.proofs.writer.Writer.port.Goals as goal

pub returns : goal.returns
returns c = then (then (then (then c.port_word.ensures c.id.ensures) c.sign.ensures) c.type_name.ensures) c.sign-2.ensures
