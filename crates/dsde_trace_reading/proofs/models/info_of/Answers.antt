use Rattle.dsde_trace_reading.proofs.Modelling.{told}
use Rattle.dsde_trace_reading.proofs.models.info_of.Goals as goal

pub returns : goal.returns
returns c =
    told c.infos_are_declared.ensures c.args.program.now c.args.number c.info.result.now c.info.ensures
