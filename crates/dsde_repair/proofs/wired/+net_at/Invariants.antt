use Rattle.std.proofs.Common.{length}
use Rattle.dsde_repair.proofs.wired.+net_at.Given as goal

abbrev pub decreases-net_at : goal.decreases-net_at
decreases-net_at l = length l.place.now
