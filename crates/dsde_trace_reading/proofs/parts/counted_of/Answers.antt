use Rattle.std.specs.Prelude.{Some, None}
use Rattle.dsde_trace_words.specs.lemmas.Pairing.{pair-is, pair-no_first, pair-no_second, pair-uncut}
use Rattle.dsde_trace_words.specs.Words.{IsCount}
use Rattle.dsde_trace_words.specs.lemmas.Lacking.{Lacks-path}
use Rattle.dsde_trace_words.specs.lemmas.Searching.{inverts-finds}
use Rattle.std.proofs.Common.{decimal}
use Rattle.dsde_trace_reading.proofs.parts.counted_of.Goals as goal

pub returns-in_default : goal.returns-in_default
returns-in_default c =
    pair-uncut c.in_default.ensures

pub returns-in_default-2 : goal.returns-in_default-2
returns-in_default-2 c =
    pair-no_first Lacks-path c.in-Some.path.now c.in-Some.rest.now c.in-Some.ensures.0 c.in-Some.ensures.1 (rw c.in_default-2.is at c.in_ok-path.ensures)

pub returns-in-Some-number_of : goal.returns-in-Some-number_of
returns-in-Some-number_of c =
    pair-is Lacks-path c.in-Some.path.now c.in-Some.rest.now c.in-Some.ensures.0 c.in-Some.ensures.1 c.in-Some-2.path (rw c.in-Some-2.is at c.in_ok-path.ensures) c.in-Some-number_of.count
    (inverts-finds IsCount decimal c.in-Some.rest.now (Some c.in-Some-number_of.count) c.in-Some-number_of.ensures)

pub returns-in-None : goal.returns-in-None
returns-in-None c =
    pair-no_second Lacks-path c.in-Some.path.now c.in-Some.rest.now c.in-Some.ensures.0 c.in-Some.ensures.1 c.in-Some-2.path (rw c.in-Some-2.is at c.in_ok-path.ensures)
    (inverts-finds IsCount decimal c.in-Some.rest.now None c.in-None.ensures)
