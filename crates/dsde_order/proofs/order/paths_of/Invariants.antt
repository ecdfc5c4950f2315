use Rattle.std.proofs.Common.{◌≡◌, ◌++◌}
use Rattle.dsde_order.proofs.order.paths_of.Given as goal

abbrev pub invariant-loop-waiting : goal.invariant-loop-waiting
invariant-loop-waiting l = l.paths ++ l.waiting-iterator.rest.items ≡ l.fn.order
