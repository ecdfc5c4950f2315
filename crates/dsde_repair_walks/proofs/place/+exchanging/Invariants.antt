use Rattle.std.proofs.Common.{◌+◌, ◌*◌, length}
use Rattle.dsde_repair_walks.proofs.place.+exchanging.Given as goal

abbrev pub decreases-exchange : goal.decreases-exchange
decreases-exchange l = 2 * length l.place.now

abbrev pub decreases-exchange_below : goal.decreases-exchange_below
decreases-exchange_below l = 2 * length l.place.now + 1
