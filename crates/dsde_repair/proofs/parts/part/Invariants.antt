use Rattle.std.proofs.Common.{◌≡◌, ◌++◌, map}
use Rattle.std.specs.List.{AllByRecursion}
use Rattle.dsde_routes_wiring.specs.Places.{going, inside, staying}
use Rattle.dsde_routes_wiring.specs.Routes.{row_of}
use Rattle.dsde_repair_walks.specs.Places.{IsBelowWired}
use Rattle.dsde_repair.proofs.parts.part.Given as goal

abbrev pub invariant-loop-kid : goal.invariant-loop-kid
invariant-loop-kid l =
    (l.kept ++ staying l.gone l.kid-iterator.rest.items ≡ staying l.gone l.fn.kids)
    × (l.rows ++ map row_of (inside (going l.gone l.kid-iterator.rest.items)) ≡ l.fn.rows ++ map row_of (inside (going l.gone l.fn.kids)))
    × AllByRecursion IsBelowWired l.kid-iterator.rest.items
