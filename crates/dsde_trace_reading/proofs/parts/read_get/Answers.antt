use Rattle.std.specs.Prelude.{Some, None}
use Rattle.dsde_trace_words.specs.lemmas.Pairing.{pair-is, pair-no_first, pair-no_second, pair-uncut}
use Rattle.dsde_trace_words.specs.lemmas.Lacking.{Lacks-path}
use Rattle.dsde_trace_reading.proofs.Telling.{get-reads}
use Rattle.dsde_trace_reading.proofs.parts.read_get.Goals as goal

pub returns-in_default : goal.returns-in_default
returns-in_default c =
    get-reads c.args.program.now c.args.text.now None (pair-uncut c.in_default.ensures)

pub returns-in_default-2 : goal.returns-in_default-2
returns-in_default-2 c =
    get-reads c.args.program.now c.args.text.now None (pair-no_first Lacks-path c.in-Some.path.now c.in-Some.rest.now c.in-Some.ensures.0 c.in-Some.ensures.1 (rw c.in_default-2.is at c.in_ok-path.ensures))

pub returns-in-Some-3 : goal.returns-in-Some-3
returns-in-Some-3 c =
    get-reads c.args.program.now c.args.text.now (Some (c.in-Some-2.path, (c.in-Some-3.model, c.in-Some-3.passed)))
    (pair-is Lacks-path c.in-Some.path.now c.in-Some.rest.now c.in-Some.ensures.0 c.in-Some.ensures.1 c.in-Some-2.path (rw c.in-Some-2.is at c.in_ok-path.ensures) (c.in-Some-3.model, c.in-Some-3.passed)
    (rw (c.in-Some-3.is, c.is_executive.ensures) at c.in_ok-model.ensures))

pub returns-in-None : goal.returns-in-None
returns-in-None c =
    get-reads c.args.program.now c.args.text.now None (pair-no_second Lacks-path c.in-Some.path.now c.in-Some.rest.now c.in-Some.ensures.0 c.in-Some.ensures.1 c.in-Some-2.path (rw c.in-Some-2.is at c.in_ok-path.ensures) (rw (c.in-None.is, c.is_executive.ensures) at c.in_ok-model.ensures))
