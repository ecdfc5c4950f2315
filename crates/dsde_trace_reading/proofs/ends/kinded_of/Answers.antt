use Rattle.std.specs.Prelude.{Some, None}
use Rattle.dsde_trace_words.specs.lemmas.Pairing.{pair-is, pair-no_first, pair-no_second, pair-uncut}
use Rattle.dsde_trace_reading.proofs.Naming.{Lacks-kind, kind-inverts}
use Rattle.dsde_trace_reading.proofs.ends.kinded_of.Goals as goal

pub returns-in_default : goal.returns-in_default
returns-in_default c =
    pair-uncut c.in_default.ensures

pub returns-in_default-fault_kind_of : goal.returns-in_default-fault_kind_of
returns-in_default-fault_kind_of c =
    pair-no_first Lacks-kind c.in-Some.kind.now c.in-Some.rest.now c.in-Some.ensures.0 c.in-Some.ensures.1 (kind-inverts c.in-Some.kind.now None c.in_default-fault_kind_of.ensures)

pub returns-in-Some-placed_of : goal.returns-in-Some-placed_of
returns-in-Some-placed_of c =
    pair-is Lacks-kind c.in-Some.kind.now c.in-Some.rest.now c.in-Some.ensures.0 c.in-Some.ensures.1 c.in-Some-fault_kind_of.kind (kind-inverts c.in-Some.kind.now (Some c.in-Some-fault_kind_of.kind) c.in-Some-fault_kind_of.ensures) c.in-Some-placed_of.placed
    c.in-Some-placed_of.ensures.finds

pub returns-in-None : goal.returns-in-None
returns-in-None c =
    pair-no_second Lacks-kind c.in-Some.kind.now c.in-Some.rest.now c.in-Some.ensures.0 c.in-Some.ensures.1 c.in-Some-fault_kind_of.kind (kind-inverts c.in-Some.kind.now (Some c.in-Some-fault_kind_of.kind) c.in-Some-fault_kind_of.ensures)
    c.in-None.ensures.finds
