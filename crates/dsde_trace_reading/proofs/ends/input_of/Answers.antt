use Rattle.std.specs.Prelude.{Some, None}
use Rattle.dsde_trace_reading.proofs.Ending.{input-ends}
use Rattle.dsde_trace_reading.proofs.ends.input_of.Goals as goal

pub returns-in-Some : goal.returns-in-Some
returns-in-Some c =
    input-ends c.args.text.now (Some (c.in-Some.kind, c.in-Some.lined)) c.in-Some.ensures

pub returns-in-None : goal.returns-in-None
returns-in-None c =
    input-ends c.args.text.now None c.in-None.ensures
