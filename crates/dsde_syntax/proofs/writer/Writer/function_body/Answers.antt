use Rattle.dsde_syntax.proofs.Writing.{then}
use Rattle.dsde_syntax.proofs.writer.Writer.function_body.Goals as goal

pub returns : goal.returns
returns c = then (then c.sign.ensures (then (then (then c.stmts.ensures c.word.ensures) c.expr.ensures) c.sign-2.ensures)) c.sign-3.ensures
