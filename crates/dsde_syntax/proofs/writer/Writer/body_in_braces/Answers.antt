use Rattle.dsde_syntax.proofs.Writing.{then}
use Rattle.dsde_syntax.proofs.writer.Writer.body_in_braces.Goals as goal

pub returns : goal.returns
returns c = then (then c.sign.ensures c.body.ensures) c.sign-2.ensures
