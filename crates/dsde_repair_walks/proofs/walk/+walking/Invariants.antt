use Rattle.std.proofs.Common.{◌≡◌, ◌+◌, ◌*◌, ◌++◌, drop, length}
use Rattle.std.specs.List.{flat_map}
use Rattle.dsde_routes_wiring.specs.declared.wiring.WiredKid.TheViews.{out-Wiring}
use Rattle.dsde_routes_wiring.specs.Touched.{handles_of, handles_of_kid}
use Rattle.dsde_repair_walks.specs.Walks.{link_at, ways_over}
use Rattle.dsde_repair_walks.proofs.walk.+walking.Given as goal

abbrev pub invariant-net_ways-loop-number : goal.invariant-net_ways-loop-number
invariant-net_ways-loop-number l =
    l.ways ++ flat_map (link_at (ways_over l.side l.net l.port) (out-Wiring l.net).links) (drop l.number-index l.numbers)
    ≡ flat_map (link_at (ways_over l.side l.net l.port) (out-Wiring l.net).links) l.numbers

-- how many handles there are
abbrev pub decreases-net_ways : goal.decreases-net_ways
decreases-net_ways l = 4 * length (handles_of l.net.now) + 2

abbrev pub decreases-ways_numbered : goal.decreases-ways_numbered
decreases-ways_numbered l = 4 * length (handles_of l.net.now) + 1

abbrev pub decreases-ways_of_end : goal.decreases-ways_of_end
decreases-ways_of_end l = 4 * length (handles_of l.net.now)

abbrev pub decreases-ways_of_kid : goal.decreases-ways_of_kid
decreases-ways_of_kid l = 4 * length (handles_of_kid l.kid.now) + 3
