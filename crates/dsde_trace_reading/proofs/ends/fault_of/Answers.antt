use Rattle.std.specs.Prelude.{Some, None}
use Rattle.dsde_trace_words.specs.lemmas.Pairing.{pair-is, pair-no_first, pair-no_second, pair-uncut}
use Rattle.dsde_trace_words.specs.lemmas.Lacking.{Lacks-path}
use Rattle.dsde_trace_reading.proofs.Ending.{fault-ends}
use Rattle.dsde_trace_reading.proofs.ends.fault_of.Goals as goal

pub returns-in_default : goal.returns-in_default
returns-in_default c =
    fault-ends c.args.text.now None (pair-uncut c.in_default.ensures)

pub returns-in_default-2 : goal.returns-in_default-2
returns-in_default-2 c =
    fault-ends c.args.text.now None (pair-no_first Lacks-path c.in-Some.path.now c.in-Some.rest.now c.in-Some.ensures.0 c.in-Some.ensures.1 (rw c.in_default-2.is at c.in_ok-path.ensures))

pub returns-in-Some-sited_of : goal.returns-in-Some-sited_of
returns-in-Some-sited_of c =
    fault-ends c.args.text.now (Some (c.in-Some-2.path, (c.in-Some-sited_of.site, c.in-Some-sited_of.kinded)))
    (pair-is Lacks-path c.in-Some.path.now c.in-Some.rest.now c.in-Some.ensures.0 c.in-Some.ensures.1 c.in-Some-2.path (rw c.in-Some-2.is at c.in_ok-path.ensures) (c.in-Some-sited_of.site, c.in-Some-sited_of.kinded) c.in-Some-sited_of.ensures.finds)

pub returns-in-None : goal.returns-in-None
returns-in-None c =
    fault-ends c.args.text.now None (pair-no_second Lacks-path c.in-Some.path.now c.in-Some.rest.now c.in-Some.ensures.0 c.in-Some.ensures.1 c.in-Some-2.path (rw c.in-Some-2.is at c.in_ok-path.ensures) c.in-None.ensures.finds)
