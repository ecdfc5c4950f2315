use Rattle.std.proofs.Common.{codes, decimal}
use Rattle.dsde_trace_words.specs.Words.{IsCount}
use Rattle.dsde_trace_words.specs.lemmas.Behind.{behind-inverts, not-behind}
use Rattle.dsde_trace_reading.proofs.parts.time_of.Goals as goal

pub returns-in-Some : goal.returns-in-Some
returns-in-Some c =
    behind-inverts IsCount decimal c.args.text.now (codes "at ") c.in-Some.rest.now c.number_of.result c.in-Some.ensures.some c.number_of.ensures

pub returns-in-None : goal.returns-in-None
returns-in-None c =
    not-behind IsCount decimal c.args.text.now (codes "at ") c.in-None.ensures.none
