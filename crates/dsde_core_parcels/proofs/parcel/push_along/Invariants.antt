use Rattle.std.proofs.Common.{◌≡◌, ◌++◌, length}
use Rattle.std.specs.List.{AllByRecursion}
use Rattle.dsde_core_moves.specs.given.system.Program.{system}
use Rattle.dsde_core_parcels.specs.Along.{GoAlong}
use Rattle.dsde_core_parcels.specs.Parcels.{parcels_of}
use Rattle.dsde_core_parcels.proofs.parcel.push_along.Given as goal

abbrev pub invariant-loop-row : goal.invariant-loop-row
invariant-loop-row l =
    (l.parcels ++ parcels_of (system l.program).translate l.values l.rest ≡ l.initial.parcels ++ parcels_of (system l.fn.program).translate l.fn.values l.fn.rows)
    × AllByRecursion (λ row. GoAlong l.program row.chain l.values) l.rest

abbrev pub decreases-loop-row : goal.decreases-loop-row
decreases-loop-row l = length l.rest
