use Rattle.std.proofs.Common.{Ok, Err, Some, None, ap}
use Rattle.dsde_input.specs.Reader.{Reader}
use Rattle.dsde_run.proofs.Asking.{of_model, asked-one, asked-over, refused}
use Rattle.dsde_run.proofs.run.ask.Goals as goal

pub returns-in-Err-clause-refused : goal.returns-in-Err-clause-refused
returns-in-Err-clause-refused g c =
    refused c.args.own.now c.args.reader.now c.next.new.self c.in-Err.why (g.R.Source.left c.args.source.now) (g.R.Source.left c.next.new.source)
    (of_model c.args.own.now c.args.reader.now c.next.new.self c.ins.result.now c.types.result.now (Err c.in-Err.why) _ _ c.ins.ensures.value c.types.ensures.value c.in-Err.ensures.records) c.in-Err.ensures.of_line
    (λ is. c.in-Err.ensures.fault_keeps (ap Err is)) (λ is. c.in-Err.ensures.wanted (ap Err is))

pub returns-in-Ok-Some-clause-asked : goal.returns-in-Ok-Some-clause-asked
returns-in-Ok-Some-clause-asked g c =
    asked-one c.args.own.now c.args.reader.now c.next.new.self c.in-Ok-Some.arrival (g.R.Source.left c.args.source.now) (g.R.Source.left c.next.new.source)
    (of_model c.args.own.now c.args.reader.now c.next.new.self c.ins.result.now c.types.result.now (Ok (Some c.in-Ok-Some.arrival)) _ _ c.ins.ensures.value c.types.ensures.value
    (rw c.in-Ok-Some.field-0-is at c.in-Ok-Some.ensures.records)) c.in-Ok-Some.ensures.of_line
    (rw c.in-Ok-Some.field-0-is at c.in-Ok-Some.ensures.line) (λ has. ap g.R.Source.left (c.in-Ok-Some.ensures.idle has)) c.in-Ok-Some.ensures.over

pub returns-in-Ok-None-clause-asked : goal.returns-in-Ok-None-clause-asked
returns-in-Ok-None-clause-asked g c =
    asked-over c.args.own.now c.args.reader.now c.next.new.self (g.R.Source.left c.args.source.now) (g.R.Source.left c.next.new.source)
    (of_model c.args.own.now c.args.reader.now c.next.new.self c.ins.result.now c.types.result.now (Ok None) _ _ c.ins.ensures.value c.types.ensures.value
    (rw c.in-Ok-None.field-0-is at c.in-Ok-None.ensures.records)) c.in-Ok-None.ensures.of_line
    (ap (λ (r : Reader). r.ended) (c.in-Ok-None.ensures.end (ap Ok c.in-Ok-None.field-0-is))) (λ has. ap g.R.Source.left (c.in-Ok-None.ensures.idle has)) c.in-Ok-None.ensures.over
