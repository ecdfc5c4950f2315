use Rattle.dsde_trace_words.specs.lemmas.Pairing.{pair-is, pair-no_first, pair-no_second, pair-uncut}
use Rattle.dsde_trace_words.specs.lemmas.Lacking.{Lacks-place}
use Rattle.dsde_trace_reading.proofs.ends.placed_of.Goals as goal

pub returns-in_default : goal.returns-in_default
returns-in_default c =
    pair-uncut c.in_default.ensures

pub returns-in_default-place_of : goal.returns-in_default-place_of
returns-in_default-place_of c =
    pair-no_first Lacks-place c.in-Some.place.now c.in-Some.rest.now c.in-Some.ensures.0 c.in-Some.ensures.1 c.in_default-place_of.ensures

pub returns-in-Some-closing_of : goal.returns-in-Some-closing_of
returns-in-Some-closing_of c =
    pair-is Lacks-place c.in-Some.place.now c.in-Some.rest.now c.in-Some.ensures.0 c.in-Some.ensures.1 c.in-Some-place_of.place c.in-Some-place_of.ensures c.in-Some-closing_of.times
    c.in-Some-closing_of.ensures

pub returns-in-None : goal.returns-in-None
returns-in-None c =
    pair-no_second Lacks-place c.in-Some.place.now c.in-Some.rest.now c.in-Some.ensures.0 c.in-Some.ensures.1 c.in-Some-place_of.place c.in-Some-place_of.ensures
    c.in-None.ensures
