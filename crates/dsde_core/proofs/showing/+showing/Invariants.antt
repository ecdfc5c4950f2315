use Rattle.std.proofs.Common.{◌≡◌, map, take}
use Rattle.dsde_grove.specs.Grove.{value_of}
use Rattle.dsde_core_moving.specs.given.core_flat.Shown.{kid_under}
use Rattle.dsde_core.proofs.showing.+showing.Given as goal

abbrev pub invariant-kids_shown-loop-kid : goal.invariant-kids_shown-loop-kid
invariant-kids_shown-loop-kid g l = l.shown ≡ map (kid_under (value_of l.grove)) (take l.kid-index l.kids)
