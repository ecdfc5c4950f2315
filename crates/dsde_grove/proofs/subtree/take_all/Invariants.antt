use Rattle.std.proofs.Common.{◌≡◌, ◌+◌, ◌≤◌, length}
use Rattle.std.specs.FinMap as map
use Rattle.dsde_grove.proofs.Frontier.{IsFrontier}
use Rattle.dsde_grove.proofs.subtree.take_all.Given as goal

abbrev pub invariant-loop-handle : goal.invariant-loop-handle
invariant-loop-handle g l =
    IsFrontier l.fn.bank.held l.bank.held l.fn.top.birth l.work.items
    × (l.work.spare + length l.work.items ≡ l.fn.work.spare)
    × (l.bank.next_birth ≡ l.fn.bank.next_birth)
    × (l.looks + map.len l.bank.held ≡ l.fn.looks + map.len l.fn.bank.held)
    × (map.len l.bank.held ≤ map.len l.fn.bank.held)

abbrev pub decreases-loop-handle : goal.decreases-loop-handle
decreases-loop-handle g l = map.len l.bank.held
