use Rattle.std.specs.Prelude.{Some, None}
use Rattle.dsde_trace_reading.proofs.Ending.{quiet-ends}
use Rattle.dsde_trace_reading.proofs.ends.quiet_of.Goals as goal

pub returns-in-Some : goal.returns-in-Some
returns-in-Some c =
    quiet-ends c.args.text.now (Some c.in-Some.times) c.in-Some.ensures

pub returns-in-None : goal.returns-in-None
returns-in-None c =
    quiet-ends c.args.text.now None c.in-None.ensures
