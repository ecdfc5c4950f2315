use Rattle.std.specs.Prelude.{Some, None}
use Rattle.dsde_trace_words.specs.lemmas.Pairing.{pair-is, pair-no_first, pair-no_second, pair-uncut}
use Rattle.dsde_trace_reading.proofs.Naming.{Lacks-input, input-inverts}
use Rattle.dsde_trace_reading.proofs.ends.wrong_of.Goals as goal

pub returns-in_default : goal.returns-in_default
returns-in_default c =
    pair-uncut c.in_default.ensures

pub returns-in_default-input_kind_of : goal.returns-in_default-input_kind_of
returns-in_default-input_kind_of c =
    pair-no_first Lacks-input c.in-Some.kind.now c.in-Some.rest.now c.in-Some.ensures.0 c.in-Some.ensures.1 (input-inverts c.in-Some.kind.now None c.in_default-input_kind_of.ensures)

pub returns-in-Some-lined_of : goal.returns-in-Some-lined_of
returns-in-Some-lined_of c =
    pair-is Lacks-input c.in-Some.kind.now c.in-Some.rest.now c.in-Some.ensures.0 c.in-Some.ensures.1 c.in-Some-input_kind_of.kind (input-inverts c.in-Some.kind.now (Some c.in-Some-input_kind_of.kind) c.in-Some-input_kind_of.ensures) c.in-Some-lined_of.lined
    c.in-Some-lined_of.ensures.finds

pub returns-in-None : goal.returns-in-None
returns-in-None c =
    pair-no_second Lacks-input c.in-Some.kind.now c.in-Some.rest.now c.in-Some.ensures.0 c.in-Some.ensures.1 c.in-Some-input_kind_of.kind (input-inverts c.in-Some.kind.now (Some c.in-Some-input_kind_of.kind) c.in-Some-input_kind_of.ensures)
    c.in-None.ensures.finds
