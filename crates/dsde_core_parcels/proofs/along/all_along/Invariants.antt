use Rattle.std.proofs.Common.{◌≡◌, ◌++◌, length}
use Rattle.std.specs.List.{filter_map}
use Rattle.dsde_routes_pushing.specs.Carried.{along}
use Rattle.dsde_core_moves.specs.given.system.Program.{system}
use Rattle.dsde_core_parcels.specs.Along.{GoAlong}
use Rattle.dsde_core_parcels.proofs.along.all_along.Given as goal

abbrev pub invariant-loop-value : goal.invariant-loop-value
invariant-loop-value l =
    (l.all ++ filter_map (along (system l.program).translate l.chain) l.rest ≡ filter_map (along (system l.fn.program).translate l.fn.chain) l.fn.values)
    × GoAlong l.program l.chain l.rest

abbrev pub decreases-loop-value : goal.decreases-loop-value
decreases-loop-value l = length l.rest
