use Rattle.std.proofs.Common.{◌≡◌, length, take}
use Rattle.dsde_values.proofs.value.+equality.Given as goal

abbrev pub invariant-are_equal-loop-value : goal.invariant-are_equal-loop-value
invariant-are_equal-loop-value l = take (length l.yielded) l.values ≡ take (length l.yielded) l.others
