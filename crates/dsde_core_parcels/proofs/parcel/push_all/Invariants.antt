use Rattle.std.proofs.Common.{◌++◌, List, length}
use Rattle.std.specs.List.{AllByRecursion}
use Rattle.dsde_core_moves.specs.given.system.Program.{system}
use Rattle.dsde_core_parcels.specs.declared.parcel.Parcel.{Parcel}
use Rattle.dsde_core_parcels.specs.Parcels.{ArePushed, GoFrom}
use Rattle.dsde_core_parcels.proofs.parcel.push_all.Given as goal

abbrev pub invariant-loop-outlet : goal.invariant-loop-outlet
invariant-loop-outlet l =
    ((later : List Parcel) → ArePushed l.table (system l.program).translate l.rest later → ArePushed l.fn.table (system l.fn.program).translate l.fn.outlets (l.parcels ++ later))
    × AllByRecursion (GoFrom l.program l.table) l.rest

abbrev pub decreases-loop-outlet : goal.decreases-loop-outlet
decreases-loop-outlet l = length l.rest
