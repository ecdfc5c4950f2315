use Rattle.std.proofs.Common.{◌≡◌, ◌+◌, ◌*◌, ◌≤◌, ◌++◌, length}
use Rattle.std.specs.List.{flat_map}
use Rattle.dsde_sim_working.specs.given.system.Program.{system}
use Rattle.dsde_core_parcels.specs.Calling.{told_by}
use Rattle.dsde_core_outputs.proofs.told.told_movers.Given as goal

abbrev pub invariant-loop-inbox : goal.invariant-loop-inbox
invariant-loop-inbox g l =
    (l.movers ++ flat_map (told_by (system l.program) l.grove l.time) l.inbox-iterator.rest.items ≡ flat_map (told_by (system l.fn.program) l.fn.grove l.fn.time) l.fn.inboxes)
    × (l.looks + 67 * length l.inbox-iterator.rest.items ≤ l.fn.looks + 67 * length l.fn.inboxes)
