use Rattle.std.proofs.Common.{◌≡◌, ◌++◌}
use Rattle.dsde_core_parcels.proofs.ports.append.Given as goal

abbrev pub invariant-loop-value : goal.invariant-loop-value
invariant-loop-value l = l.values ++ l.value-iterator.rest.items ≡ l.initial.values ++ l.fn.more
