use Rattle.dsde_syntax.proofs.Writing.{then}
use Rattle.dsde_syntax.proofs.writer.Writer.phases.Goals as goal

pub returns : goal.returns
returns c = then (then (then c.phase.ensures c.phase-2.ensures) c.phase-3.ensures) c.phase-4.ensures
