use Rattle.std.proofs.Common.{◌≡◌, ◌+◌, ◌*◌, ◌≤◌, ◌++◌, length}
use Rattle.std.specs.List.{AllByRecursion}
use Rattle.dsde_sim_working.specs.given.system.Program.{system}
use Rattle.dsde_core_parcels.specs.Brought.{Rise}
use Rattle.dsde_core_parcels.specs.Calling.{due_movers, left_by, IsLeafAt}
use Rattle.dsde_core_outputs.proofs.due.due_movers.Given as goal

abbrev pub invariant-loop-one : goal.invariant-loop-one
invariant-loop-one g l =
    (l.movers ++ due_movers (system l.program) l.grove l.one-iterator.rest.items l.inboxes ≡ due_movers (system l.fn.program) l.fn.grove l.fn.due.items l.fn.inboxes)
    × (left_by l.one-iterator.rest.items l.inboxes ≡ left_by l.fn.due.items l.fn.inboxes)
    × Rise l.inboxes
    × AllByRecursion (IsLeafAt l.grove) l.one-iterator.rest.items
    × (l.looks + 2 * length l.one-iterator.rest.items ≤ l.fn.looks + 2 * length l.fn.due.items)
