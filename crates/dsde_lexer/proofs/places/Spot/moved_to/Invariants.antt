use Rattle.std.proofs.Common.{◌-◌, ◌≤◌}
use Rattle.dsde_lexer.specs.Spots.{IsSpot}
use Rattle.dsde_lexer.proofs.places.Spot.moved_to.Given as goal

abbrev pub invariant-loop-spot : goal.invariant-loop-spot
invariant-loop-spot l = IsSpot l.bytes l.spot × (l.spot.offset ≤ l.offset)

abbrev pub decreases-loop-spot : goal.decreases-loop-spot
decreases-loop-spot l = l.offset - l.spot.offset
