use Rattle.std.proofs.Common.{sym, subst}
use Rattle.dsde_executive_plans.specs.given.structure.Survival.{IsInOrder}
use Rattle.dsde_executive_plans.specs.lemmas.Inserting.{empty-in-order}
use Rattle.dsde_executive_planner.proofs.entries.Entries.new.Goals as goal

pub invariant_of-result : goal.invariant_of-result
invariant_of-result c = subst IsInOrder (sym c.new.ensures.items) empty-in-order
