use Rattle.std.specs.Prelude.{Some, None}
use Rattle.dsde_trace_words.specs.lemmas.Pairing.{pair-is, pair-no_first, pair-no_second, pair-uncut}
use Rattle.dsde_trace_words.specs.Words.{IsCount}
use Rattle.dsde_trace_words.specs.lemmas.Lacking.{Lacks-count}
use Rattle.dsde_trace_words.specs.lemmas.Searching.{inverts-finds}
use Rattle.dsde_trace_reading.specs.Parts.{at_text}
use Rattle.dsde_trace_reading.proofs.parts.times_of.Goals as goal

pub returns-in_default : goal.returns-in_default
returns-in_default c =
    pair-uncut c.in_default.ensures

pub returns-in_default-number_of : goal.returns-in_default-number_of
returns-in_default-number_of c =
    pair-no_first Lacks-count c.in-Some.number.now c.in-Some.rest.now c.in-Some.ensures.0 c.in-Some.ensures.1 c.in_default-number_of.ensures

pub returns-in-Some-time_of : goal.returns-in-Some-time_of
returns-in-Some-time_of c =
    pair-is Lacks-count c.in-Some.number.now c.in-Some.rest.now c.in-Some.ensures.0 c.in-Some.ensures.1 c.in-Some-number_of.number c.in-Some-number_of.ensures c.in-Some-time_of.time
    (inverts-finds IsCount at_text c.in-Some.rest.now (Some c.in-Some-time_of.time) c.in-Some-time_of.ensures)

pub returns-in-None : goal.returns-in-None
returns-in-None c =
    pair-no_second Lacks-count c.in-Some.number.now c.in-Some.rest.now c.in-Some.ensures.0 c.in-Some.ensures.1 c.in-Some-number_of.number c.in-Some-number_of.ensures
    (inverts-finds IsCount at_text c.in-Some.rest.now None c.in-None.ensures)
