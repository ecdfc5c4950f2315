use Rattle.std.proofs.Common.{arith}
use Rattle.dsde_trace_reading.proofs.Modelling.{within}
use Rattle.dsde_trace_reading.proofs.models.count_of.Goals as goal

pub returns-clause-all : goal.returns-clause-all
returns-clause-all c =
    λ number network is. omega (arith, within c.infos_are_declared.ensures c.args.program.now number network is, c.models.ensures)
