use Rattle.dsde_repair_walks.proofs.Bridging.{rows-routes}
use Rattle.dsde_repair_walks.proofs.Sets.{in-flatten}
use Rattle.dsde_repair_walks.proofs.laws.rows_are_routes.Goals as goal

pub returns-clause-sets : goal.returns-clause-sets
returns-clause-sets c = in-flatten

pub returns-clause-rows : goal.returns-clause-rows
returns-clause-rows c = rows-routes c.orders_are_total.ensures.names
