use Rattle.std.proofs.Common.{drop}
use Rattle.dsde_routes_wiring.specs.given.structure.Survival.{AreInOrder}
use Rattle.dsde_repair.proofs.names.are_in_order.Given as goal

abbrev pub invariant-loop-index : goal.invariant-loop-index
invariant-loop-index l = AreInOrder (drop l.index l.names) → AreInOrder l.names
