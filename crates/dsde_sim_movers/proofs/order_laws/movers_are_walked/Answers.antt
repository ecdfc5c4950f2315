use Rattle.dsde_sim_movers.specs.lemmas.Named.{placed-from}
use Rattle.dsde_sim_tree.specs.declared.sim.Sim.TheVariants as sim
use Rattle.dsde_sim_movers.proofs.Walked.{walked-leaf, walked-net}
use Rattle.dsde_sim_movers.proofs.order_laws.movers_are_walked.Goals as goal

pub returns-clause-leaf : goal.returns-clause-leaf
returns-clause-leaf c system leaf path time got = walked-leaf c.orders_are_total.ensures.names system leaf path time got

pub returns-clause-net : goal.returns-clause-net
returns-clause-net c system net path time got sources named is = walked-net c.orders_are_total.ensures.names system net path time got sources (placed-from (sim.Net net) named) is
