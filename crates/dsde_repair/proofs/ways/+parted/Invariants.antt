use Rattle.std.proofs.Common.{◌≡◌, ◌+◌, ◌*◌, ◌++◌, drop, length}
use Rattle.dsde_routes_wiring.specs.declared.wiring.WiredKid.TheViews.{out-Wiring}
use Rattle.std.specs.List.{flat_map}
use Rattle.dsde_repair_walks.specs.Walks.{link_at}
use Rattle.dsde_repair.specs.Walks.{over_link, parted_around}
use Rattle.dsde_repair.proofs.ways.+parted.Given as goal

abbrev pub invariant-parted_above-loop-number : goal.invariant-parted_above-loop-number
invariant-parted_above-loop-number l =
    l.ways ++ flat_map (link_at (over_link l.side (parted_around l.passes l.name l.rest l.net) (out-Wiring l.net).me l.port) (out-Wiring l.net).links) (drop l.number-index l.numbers)
    ≡ flat_map (link_at (over_link l.side (parted_around l.passes l.name l.rest l.net) (out-Wiring l.net).me l.port) (out-Wiring l.net).links) l.numbers

abbrev pub decreases-parted_ways : goal.decreases-parted_ways
decreases-parted_ways l = 6 * length l.place.now

abbrev pub decreases-parted_above : goal.decreases-parted_above
decreases-parted_above l = 6 * length l.rest.now + 5

abbrev pub decreases-parted_numbered : goal.decreases-parted_numbered
decreases-parted_numbered l = 6 * length l.rest.now + 4

abbrev pub decreases-parted_end : goal.decreases-parted_end
decreases-parted_end l = 6 * length l.rest.now + 2

abbrev pub decreases-parted_kid : goal.decreases-parted_kid
decreases-parted_kid l = 6 * length l.rest.now + 1
