use Rattle.dsde_syntax.proofs.Writing.{then}
use Rattle.dsde_syntax.proofs.writer.Writer.variants.Goals as goal

pub returns : goal.returns
returns c = then (then c.sign.ensures c.ids.ensures) c.sign-2.ensures
