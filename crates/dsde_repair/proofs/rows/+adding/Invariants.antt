use Rattle.std.proofs.Common.{◌≡◌, ◌+◌, ◌*◌, ◌++◌, drop, length, map}
use Rattle.std.specs.List.{AllByRecursion, flat_map}
use Rattle.dsde_routes_wiring.specs.Touched.{handles_of, handles_of_kid}
use Rattle.dsde_routes_wiring.specs.Routes.{row_of}
use Rattle.dsde_routes_wiring.specs.Places.{inside}
use Rattle.dsde_repair_walks.specs.Places.{IsBelowWired}
use Rattle.dsde_repair.proofs.rows.+adding.Given as goal

abbrev pub invariant-add_inside-loop-kid : goal.invariant-add_inside-loop-kid
invariant-add_inside-loop-kid l =
    (l.rows ++ map row_of (inside (drop l.kid-index l.kids)) ≡ l.fn.rows ++ map row_of (inside l.kids))
    × AllByRecursion IsBelowWired (drop l.kid-index l.kids)

-- how many handles there are
abbrev pub decreases-net_rows : goal.decreases-net_rows
decreases-net_rows l = 3 * length (handles_of l.net.now) + 1

abbrev pub decreases-add_inside : goal.decreases-add_inside
decreases-add_inside l = 3 * length (flat_map handles_of_kid l.kids.now) + 3

abbrev pub decreases-add_kid : goal.decreases-add_kid
decreases-add_kid l = 3 * length (handles_of_kid l.kid.now) + 2
