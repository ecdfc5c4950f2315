use Rattle.std.proofs.Common.{◌≡◌, ◌-ℤ◌, ◌++◌}
use Rattle.dsde_language.specs.MeaningOperators.{count_of, numbers_from}
use Rattle.dsde_eval_operators.proofs.lists.numbers_between.Given as goal

abbrev pub invariant-loop-number : goal.invariant-loop-number
invariant-loop-number l = l.items ++ numbers_from l.number (count_of (l.end -ℤ l.number)) ≡ numbers_from l.fn.first (count_of (l.fn.end -ℤ l.fn.first))
