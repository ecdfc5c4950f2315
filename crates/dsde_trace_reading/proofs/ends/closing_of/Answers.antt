use Rattle.std.proofs.Common.{codes}
use Rattle.dsde_trace_words.specs.Words.{NoneBefore}
use Rattle.dsde_trace_words.specs.lemmas.Behind.{behind-finds, not-behind-finds}
use Rattle.dsde_trace_reading.specs.Parts.{IsTimes, times_text}
use Rattle.dsde_trace_reading.proofs.ends.closing_of.Goals as goal

pub returns-in-Some : goal.returns-in-Some
returns-in-Some c =
    behind-finds NoneBefore IsTimes times_text c.args.text.now (codes "turns ") c.in-Some.rest.now c.times_of.result c.in-Some.ensures.some c.times_of.ensures.finds

pub returns-in-None : goal.returns-in-None
returns-in-None c =
    not-behind-finds NoneBefore IsTimes times_text c.args.text.now (codes "turns ") c.in-None.ensures.none
