use Rattle.dsde_executive_plans.specs.lemmas.Inserting.{empty-in-order}
use Rattle.dsde_executive_planner.proofs.entries.Entries.spread.Goals as goal

pub invariant_of-self : goal.invariant_of-self
invariant_of-self c = rw (c.replace-list.ensures.after, c.new.ensures.items) empty-in-order
