use Rattle.std.proofs.Common.{◌≡◌, length}
use Rattle.dsde_routes_pushing.specs.Carried.{along}
use Rattle.dsde_core_moves.specs.given.system.Program.{system}
use Rattle.dsde_core_parcels.specs.Along.{GoesAlong}
use Rattle.dsde_core_parcels.proofs.along.along.Given as goal

abbrev pub invariant-loop-via : goal.invariant-loop-via
invariant-loop-via l =
    (along (system l.program).translate l.rest l.own ≡ along (system l.fn.program).translate l.fn.chain l.fn.value)
    × GoesAlong l.program l.rest l.own

abbrev pub decreases-loop-via : goal.decreases-loop-via
decreases-loop-via l = length l.rest
