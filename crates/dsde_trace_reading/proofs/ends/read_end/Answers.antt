use Rattle.std.specs.Prelude.{Some, None}
use Rattle.dsde_trace_words.specs.lemmas.Pairing.{pair-is, pair-no_first, pair-no_second, pair-uncut}
use Rattle.dsde_trace_reading.proofs.Naming.{Lacks-ending, ending-inverts}
use Rattle.dsde_trace_reading.proofs.Telling.{end-reads}
use Rattle.dsde_trace_reading.proofs.ends.read_end.Goals as goal

pub returns-in_default : goal.returns-in_default
returns-in_default c =
    λ model. end-reads model c.args.text.now None (pair-uncut c.in_default.ensures)

pub returns-in_default-ending_of : goal.returns-in_default-ending_of
returns-in_default-ending_of c =
    λ model. end-reads model c.args.text.now None (pair-no_first Lacks-ending c.in-Some.word.now c.in-Some.rest.now c.in-Some.ensures.0 c.in-Some.ensures.1 (ending-inverts c.in-Some.word.now None c.in_default-ending_of.ensures))

pub returns-in-Some-2 : goal.returns-in-Some-2
returns-in-Some-2 c =
    λ model. end-reads model c.args.text.now (Some (c.in-Some-ending_of.ending, (c.in-Some-2.how, c.in-Some-2.times)))
    (pair-is Lacks-ending c.in-Some.word.now c.in-Some.rest.now c.in-Some.ensures.0 c.in-Some.ensures.1 c.in-Some-ending_of.ending (ending-inverts c.in-Some.word.now (Some c.in-Some-ending_of.ending) c.in-Some-ending_of.ensures) (c.in-Some-2.how, c.in-Some-2.times) (rw c.in-Some-2.is at c.in_ok-how.ensures))

pub returns-in-None : goal.returns-in-None
returns-in-None c =
    λ model. end-reads model c.args.text.now None (pair-no_second Lacks-ending c.in-Some.word.now c.in-Some.rest.now c.in-Some.ensures.0 c.in-Some.ensures.1 c.in-Some-ending_of.ending (ending-inverts c.in-Some.word.now (Some c.in-Some-ending_of.ending) c.in-Some-ending_of.ensures) (rw c.in-None.is at c.in_ok-how.ensures))
