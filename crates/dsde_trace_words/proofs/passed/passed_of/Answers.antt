use Rattle.std.proofs.Common.{rules, arith}
use Rattle.dsde_trace_words.proofs.Passing.{port-first, ports-more, ports-none}
use Rattle.dsde_trace_words.proofs.passed.passed_of.Goals as goal

pub returns-in-Some : goal.returns-in-Some
returns-in-Some c =
    port-first c.args.ports.now c.args.types.now c.args.text.now c.in-Ok.port c.loop-index.index c.index-ports-index.result (search rules) (search rules) c.index-ports-index.is c.loop-index-test.true c.loop-index.invariant
    c.in-Some.value (rw c.in-Some.is at c.in_ok-value.ensures)

pub loop-index-preserved : goal.loop-index-preserved
loop-index-preserved c =
    ports-more c.args.ports.now c.args.types.now c.args.text.now c.in-Ok.port c.loop-index.index c.index-ports-index.result (search rules) (search rules) c.index-ports-index.is c.loop-index-test.true c.loop-index.invariant
    (rw c.in_default-2.is at c.in_ok-value.ensures)

pub returns : goal.returns
returns c = ports-none c.args.ports.now c.args.types.now c.args.text.now c.loop-index.index (omega (arith, c.loop-index-test.false)) c.loop-index.invariant
