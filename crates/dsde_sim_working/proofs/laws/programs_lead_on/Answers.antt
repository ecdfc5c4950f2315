use Rattle.dsde_sim_working.proofs.Leading.{leads-on}
use Rattle.dsde_sim_working.proofs.laws.programs_lead_on.Goals as goal

pub returns : goal.returns
returns c = leads-on c.plans_are_in_order.ensures
