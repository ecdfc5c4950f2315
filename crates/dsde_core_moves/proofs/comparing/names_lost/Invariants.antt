use Rattle.std.proofs.Common.{◌≡◌, ◌++◌, length, map}
use Rattle.dsde_repair_walks.specs.Found.{name_of}
use Rattle.dsde_routes_wiring.specs.declared.wiring.WiredKid.TheViews.{out-Wiring}
use Rattle.dsde_core_moves.specs.Chosen.{lost}
use Rattle.dsde_core_moves.proofs.comparing.names_lost.Given as goal

abbrev pub invariant-loop-kid : goal.invariant-loop-kid
invariant-loop-kid l = (l.names ++ map name_of (lost l.tests l.left) ≡ map name_of (lost l.keeps (out-Wiring l.wiring).kids)) × (length l.tests ≡ length l.left)

abbrev pub decreases-loop-kid : goal.decreases-loop-kid
decreases-loop-kid l = length l.left
