use Rattle.std.proofs.Common.{◌≡◌, take}
use Rattle.dsde_order.proofs.order.copies_of.Given as goal

abbrev pub invariant-loop-path : goal.invariant-loop-path
invariant-loop-path l = l.list.items ≡ take l.path-index l.paths
