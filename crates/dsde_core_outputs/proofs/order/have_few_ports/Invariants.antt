use Rattle.std.proofs.Common.{drop}
use Rattle.std.specs.List.{AllByRecursion}
use Rattle.dsde_core_parcels.specs.Calling.{IsFew}
use Rattle.dsde_core_outputs.proofs.order.have_few_ports.Given as goal

abbrev pub invariant-loop-mover : goal.invariant-loop-mover
invariant-loop-mover l = AllByRecursion IsFew (drop l.mover-index l.movers) → AllByRecursion IsFew l.movers
