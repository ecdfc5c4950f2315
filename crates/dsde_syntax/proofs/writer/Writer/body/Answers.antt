use Rattle.std.proofs.Common.{rules}
use Rattle.dsde_syntax.proofs.Writing.{then, same}
use Rattle.dsde_syntax.proofs.writer.Writer.body.Goals as goal

pub returns : goal.returns
returns c = same (then (then (then (then (then c.ports.ensures c.states.ensures) c.word.ensures) c.expr.ensures) c.sign.ensures) c.phases.ensures) (search rules)
