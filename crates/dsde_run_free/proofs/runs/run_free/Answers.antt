use Rattle.std.proofs.Common.{arith}
use Rattle.std.proofs.lemmas.Result.{IfOk-weaker}
use Rattle.dsde_run.specs.given.system.Program.{system}
use Rattle.dsde_order.specs.Free as drawing
use Rattle.dsde_run_free.proofs.Beginning.{begins-drawn, drawn-starts}
use Rattle.dsde_run_free.proofs.runs.run_free.Goals as goal

pub run_started-requires-clause-starts : goal.run_started-requires-clause-starts
run_started-requires-clause-starts g c =
    drawn-starts c.args.own.now c.args.seed c.program.result.now c.program.ensures c.new-events.result c.start-started.new.events c.start-started.result
    c.start-started.ensures.program c.start-started.ensures.root c.start-started.ensures.ok

pub run_started-requires-clause-births : goal.run_started-requires-clause-births
run_started-requires-clause-births g c = IfOk-weaker c.start-started.result _ _ (λ free of. omega arith) c.start-started.ensures.program

pub returns-clause-comes : goal.returns-clause-comes
returns-clause-comes g c =
    c.run_started.ensures.comes (drawing.start (system c.args.own.now.model) c.args.seed)
    (begins-drawn c.args.own.now c.args.seed c.program.result.now c.program.ensures c.new-events.result c.start-started.new.events c.start-started.result
    c.start-started.ensures.ok c.start-started.ensures.err c.new-events.ensures c.as_slice.result.now c.as_slice.ensures)

pub returns-clause-taken : goal.returns-clause-taken
returns-clause-taken g c =
    c.run_started.ensures.taken (drawing.start (system c.args.own.now.model) c.args.seed)
    (begins-drawn c.args.own.now c.args.seed c.program.result.now c.program.ensures c.new-events.result c.start-started.new.events c.start-started.result
    c.start-started.ensures.ok c.start-started.ensures.err c.new-events.ensures c.as_slice.result.now c.as_slice.ensures)
