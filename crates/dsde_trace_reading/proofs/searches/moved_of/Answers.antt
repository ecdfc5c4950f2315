use Rattle.std.specs.Prelude.{Some, None}
use Rattle.dsde_trace_words.specs.lemmas.Pairing.{pair-is, pair-no_first, pair-no_second, pair-uncut}
use Rattle.dsde_trace_reading.proofs.Naming.{Lacks-move, move-inverts}
use Rattle.dsde_trace_reading.proofs.searches.moved_of.Goals as goal

pub returns-in_default : goal.returns-in_default
returns-in_default c =
    pair-uncut c.in_default.ensures

pub returns-in_default-move_kind_of : goal.returns-in_default-move_kind_of
returns-in_default-move_kind_of c =
    pair-no_first Lacks-move c.in-Some.kind.now c.in-Some.rest.now c.in-Some.ensures.0 c.in-Some.ensures.1 (move-inverts c.in-Some.kind.now None c.in_default-move_kind_of.ensures)

pub returns-in-Some-2 : goal.returns-in-Some-2
returns-in-Some-2 c =
    pair-is Lacks-move c.in-Some.kind.now c.in-Some.rest.now c.in-Some.ensures.0 c.in-Some.ensures.1 c.in-Some-move_kind_of.kind (move-inverts c.in-Some.kind.now (Some c.in-Some-move_kind_of.kind) c.in-Some-move_kind_of.ensures) c.in-Some-2.found (rw c.in-Some-2.is at c.in_ok-found.ensures)

pub returns-in-None : goal.returns-in-None
returns-in-None c =
    pair-no_second Lacks-move c.in-Some.kind.now c.in-Some.rest.now c.in-Some.ensures.0 c.in-Some.ensures.1 c.in-Some-move_kind_of.kind (move-inverts c.in-Some.kind.now (Some c.in-Some-move_kind_of.kind) c.in-Some-move_kind_of.ensures) (rw c.in-None.is at c.in_ok-found.ensures)
