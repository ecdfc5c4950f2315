use Rattle.std.proofs.Common.{Err, ap}
use Rattle.dsde_input.proofs.Passing.{passed-one, refused-one}
use Rattle.dsde_input.proofs.skipping.pass.Goals as goal

pub returns-in-Ok-clause-one : goal.returns-in-Ok-clause-one
returns-in-Ok-clause-one g c =
    rw c.is_some.ensures
    (passed-one c.args.ports.now c.args.types.now c.in-Ok.found (g.R.Source.left c.args.source.now) (g.R.Source.left c.next.new.source) c.args.reader.now c.next.new.self c.requires.floor c.requires.lawful
    c.in-Ok.ensures.records c.in-Ok.ensures.given c.in-Ok.ensures.taken c.in-Ok.ensures.of_line c.in-Ok.ensures.line
    (λ there. ap g.R.Source.left (c.in-Ok.ensures.idle there)) c.in-Ok.ensures.over)

pub returns-in-Err-clause-refused : goal.returns-in-Err-clause-refused
returns-in-Err-clause-refused g c =
    refused-one c.args.ports.now c.args.types.now c.in-Err.why (g.R.Source.left c.args.source.now) (g.R.Source.left c.next.new.source) c.args.reader.now c.next.new.self c.requires.floor c.requires.lawful
    c.in-Err.ensures.records c.in-Err.ensures.of_line (λ is. c.in-Err.ensures.fault_keeps (ap Err is)) (λ is. c.in-Err.ensures.wanted (ap Err is))
