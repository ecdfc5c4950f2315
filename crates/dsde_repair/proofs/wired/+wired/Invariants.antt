use Rattle.std.proofs.Common.{drop}
use Rattle.std.specs.List.{AllByRecursion}
use Rattle.dsde_repair_walks.specs.Places.{IsBelowWired}
use Rattle.dsde_repair.proofs.wired.+wired.Given as goal

abbrev pub invariant-are_wired_below-loop-kid : goal.invariant-are_wired_below-loop-kid
invariant-are_wired_below-loop-kid l = AllByRecursion IsBelowWired (drop l.kid-index l.kids) → AllByRecursion IsBelowWired l.kids
