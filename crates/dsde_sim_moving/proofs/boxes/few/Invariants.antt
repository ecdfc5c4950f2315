use Rattle.std.proofs.Common.{drop}
use Rattle.std.specs.List.{AllByRecursion}
use Rattle.dsde_sim_moving.specs.Moving.{AreFew}
use Rattle.dsde_sim_moving.proofs.boxes.few.Given as goal

abbrev pub invariant-loop-got : goal.invariant-loop-got
invariant-loop-got l = AllByRecursion AreFew (drop l.got-index l.gots) → AllByRecursion AreFew l.gots
