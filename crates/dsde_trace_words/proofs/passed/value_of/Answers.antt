use Rattle.dsde_trace_words.proofs.Passing.{value-part}
use Rattle.dsde_trace_words.proofs.passed.value_of.Goals as goal

pub returns-then-size-text : goal.returns-then-size-text
returns-then-size-text c = value-part c.args.types.now c.args.ty.now c.args.text.now c.in-Ok.value c.in-Ok.size c.in-Ok.ensures.size c.in-Ok.ensures.only c.if-size-text.true
