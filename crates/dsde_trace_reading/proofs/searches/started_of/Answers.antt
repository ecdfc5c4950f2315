use Rattle.std.proofs.Common.{arith}
use Rattle.dsde_trace_words.specs.Words.{NoneBefore, Spells}
use Rattle.dsde_trace_words.specs.lemmas.Searching.{found-first, none-found, none-here}
use Rattle.dsde_trace_reading.specs.Parts.{IsStarted, state_text}
use Rattle.dsde_trace_reading.proofs.searches.started_of.Goals as goal

pub returns-in-Some : goal.returns-in-Some
returns-in-Some c =
    found-first NoneBefore (Spells (IsStarted c.args.program.now c.args.executive c.args.name.now) (state_text c.args.program.now) c.args.text.now) c.loop-number.number c.in-Some.settled c.loop-number.invariant (rw c.in-Some.is at c.in_ok-settled.ensures)

pub loop-number-preserved : goal.loop-number-preserved
loop-number-preserved c =
    none-here NoneBefore (Spells (IsStarted c.args.program.now c.args.executive c.args.name.now) (state_text c.args.program.now) c.args.text.now) c.loop-number.number c.loop-number.invariant (rw c.in_default.is at c.in_ok-settled.ensures)

pub returns : goal.returns
returns c =
    none-found NoneBefore (Spells (IsStarted c.args.program.now c.args.executive c.args.name.now) (state_text c.args.program.now) c.args.text.now) c.loop-number.number c.loop-number.invariant (λ one is. omega (arith, c.count_of-number-end.ensures.all one.0 c.args.executive is.0.0.0))
