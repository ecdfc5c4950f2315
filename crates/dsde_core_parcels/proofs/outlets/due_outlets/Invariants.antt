use Rattle.std.proofs.Common.{◌≡◌, ◌+◌, ◌*◌, ◌≤◌, ◌++◌, length, map}
use Rattle.std.specs.List.{AllByRecursion, flat_map}
use Rattle.dsde_core_moves.specs.given.system.Program.{system}
use Rattle.dsde_routes_pushing.specs.given.sim_movers.Asking.{ask_each}
use Rattle.dsde_core_moves.specs.given.core_flat.Due.{asked}
use Rattle.dsde_core_parcels.specs.Outlets.{outlets_by}
use Rattle.dsde_core_parcels.specs.Asking.{IsNextAt, SendsAt}
use Rattle.dsde_core_parcels.proofs.outlets.due_outlets.Given as goal

abbrev pub invariant-loop-one : goal.invariant-loop-one
invariant-loop-one g l =
    (ask_each (system l.program) l.time (map (asked l.grove) l.rest) ≡ ask_each (system l.fn.program) l.fn.time (map (asked l.fn.grove) l.fn.due))
    × (l.outlets ++ flat_map (outlets_by (system l.program) l.time l.grove) l.rest ≡ flat_map (outlets_by (system l.fn.program) l.fn.time l.fn.grove) l.fn.due)
    × (AllByRecursion (SendsAt l.program l.time l.grove) l.rest → AllByRecursion (SendsAt l.fn.program l.fn.time l.fn.grove) l.fn.due)
    × AllByRecursion (IsNextAt l.grove l.time) l.rest
    × (l.looks + 2 * length l.rest ≤ l.fn.looks + 2 * length l.fn.due)

abbrev pub decreases-loop-one : goal.decreases-loop-one
decreases-loop-one g l = length l.rest
