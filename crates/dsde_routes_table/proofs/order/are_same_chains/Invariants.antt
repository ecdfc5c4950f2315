use Rattle.std.proofs.Common.{◌≡◌, ◌≤◌, ◌-◌, length, take}
use Rattle.dsde_routes_table.proofs.order.are_same_chains.Given as goal

abbrev pub invariant-loop-index : goal.invariant-loop-index
invariant-loop-index l = (l.index ≤ length l.one) × (take l.index l.one ≡ take l.index l.other)

abbrev pub decreases-loop-index : goal.decreases-loop-index
decreases-loop-index l = length l.one - l.index
