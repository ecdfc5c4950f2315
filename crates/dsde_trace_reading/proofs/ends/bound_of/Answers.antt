use Rattle.std.specs.Prelude.{Some, None}
use Rattle.dsde_trace_reading.proofs.Ending.{bound-ends}
use Rattle.dsde_trace_reading.proofs.ends.bound_of.Goals as goal

pub returns-in-Some : goal.returns-in-Some
returns-in-Some c =
    bound-ends c.args.text.now (Some c.in-Some.times) c.in-Some.ensures

pub returns-in-None : goal.returns-in-None
returns-in-None c =
    bound-ends c.args.text.now None c.in-None.ensures
