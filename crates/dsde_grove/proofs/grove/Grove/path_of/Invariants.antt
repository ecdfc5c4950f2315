use Rattle.std.proofs.Common.{◌≡◌, ◌+◌, ◌++◌, reverse, length}
use Rattle.dsde_grove.specs.Inside.{path_at}
use Rattle.dsde_grove.proofs.Walk.{path_above, height, IsAtLive}
use Rattle.dsde_grove.proofs.grove.Grove.path_of.Given as goal

abbrev pub invariant-loop-at : goal.invariant-loop-at
invariant-loop-at g l =
    (path_above l.self-inside.bank.held l.at ++ reverse l.names.items ≡ path_at l.self-inside.bank.held l.fn.handle.birth)
    × IsAtLive l.self-inside.bank l.at
    × (l.looks ≡ l.fn.looks + 1 + length l.names.items)

abbrev pub decreases-loop-at : goal.decreases-loop-at
decreases-loop-at g l = height l.at
