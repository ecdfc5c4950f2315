use Rattle.std.proofs.Common.{length}
use Rattle.dsde_routes_wiring.specs.declared.wiring.WiredKid.TheViews.{out-Wiring}
use Rattle.dsde_core_moves.proofs.ComparingStepping.{Tested}
use Rattle.dsde_core_moves.proofs.comparing.survivors.Given as goal

abbrev pub invariant-loop-kid : goal.invariant-loop-kid
invariant-loop-kid g l = Tested l.grove l.entries (out-Wiring l.wiring).kids l.fn.looks l.tests l.looks l.rest l.left

abbrev pub decreases-loop-kid : goal.decreases-loop-kid
decreases-loop-kid g l = length l.left
