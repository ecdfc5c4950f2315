use Rattle.std.proofs.Common.{◌≡◌, ◌+◌, ◌*◌, ◌≤◌, length}
use Rattle.dsde_core_flat.specs.given.grove.Grove.{IsTree}
use Rattle.dsde_routes_wiring.specs.declared.wiring.WiredKid.TheViews.{out-Wiring}
use Rattle.dsde_core_moves.proofs.Leaving.{Drops}
use Rattle.dsde_core_moves.proofs.dropping.drop_others.Given as goal

abbrev pub invariant-loop-kid : goal.invariant-loop-kid
invariant-loop-kid g l =
    Drops l.fn.grove (out-Wiring l.wiring).me (out-Wiring l.wiring).boss l.path (out-Wiring l.wiring).kids l.keeps l.room l.fn.events l.grove l.kids l.tests l.left l.events
    × (length l.tests ≡ length l.kids)
    × (l.looks + 6 * l.room ≤ l.fn.looks + 6 * l.left)
    × IsTree l.grove

abbrev pub decreases-loop-kid : goal.decreases-loop-kid
decreases-loop-kid g l = length l.kids
