use Rattle.std.proofs.Common.{arith}
use Rattle.dsde_trace_words.specs.Words.{NoneBefore, Precedes, Spells}
use Rattle.dsde_trace_words.specs.lemmas.Searching.{found-first, none-found, none-here}
use Rattle.dsde_trace_reading.specs.Parts.{IsGot, got_text}
use Rattle.dsde_trace_reading.proofs.searches.got_of.Goals as goal

pub returns-in-Some : goal.returns-in-Some
returns-in-Some c =
    found-first (Precedes NoneBefore) (Spells (IsGot c.args.program.now c.args.executive) (got_text c.args.program.now) c.args.text.now) c.loop-model.model c.in-Some.passed c.loop-model.invariant (rw c.in-Some.is at c.in_ok-passed.ensures)

pub loop-model-preserved : goal.loop-model-preserved
loop-model-preserved c =
    none-here (Precedes NoneBefore) (Spells (IsGot c.args.program.now c.args.executive) (got_text c.args.program.now) c.args.text.now) c.loop-model.model c.loop-model.invariant (rw c.in_default.is at c.in_ok-passed.ensures)

pub returns : goal.returns
returns c =
    none-found (Precedes NoneBefore) (Spells (IsGot c.args.program.now c.args.executive) (got_text c.args.program.now) c.args.text.now) c.loop-model.model c.loop-model.invariant (λ one is. omega (arith, c.count_of-model-end.ensures.all one.0 c.args.executive is.0.0))
