use Rattle.dsde_executive_plans.proofs.Laying.{plan-in-order}
use Rattle.dsde_executive_plans.proofs.laws.plans_are_in_order.Goals as goal

pub returns : goal.returns
returns c = plan-in-order c.orders_are_total.ensures.names
