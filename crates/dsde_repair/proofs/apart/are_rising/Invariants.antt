use Rattle.std.proofs.Common.{drop}
use Rattle.dsde_repair.specs.Rising.{AreRising}
use Rattle.dsde_repair.proofs.apart.are_rising.Given as goal

abbrev pub invariant-loop-index : goal.invariant-loop-index
invariant-loop-index l = AreRising (drop l.index l.handles) → AreRising l.handles
