use Rattle.std.proofs.Common.{rules}
use Rattle.dsde_syntax.proofs.Writing.{then, same}
use Rattle.dsde_syntax.proofs.writer.Writer.via_key.Goals as goal

pub returns : goal.returns
returns c = same (then (then (then c.sign.ensures c.id.ensures) c.sign-2.ensures) c.expr.ensures) (search rules)
