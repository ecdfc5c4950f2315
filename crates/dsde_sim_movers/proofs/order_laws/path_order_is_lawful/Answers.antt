use Rattle.dsde_values.specs.Path.{root}
use Rattle.dsde_sim_tree.specs.Move.{ins_of}
use Rattle.dsde_sim_tree.specs.Output.{by_port}
use Rattle.dsde_sim_movers.proofs.Agree.{path-order-lawful}
use Rattle.dsde_sim_movers.specs.lemmas.Named.{placed-from}
use Rattle.dsde_sim_movers.proofs.order_laws.path_order_is_lawful.Goals as goal

pub returns : goal.returns
returns c system tree time items named = path-order-lawful c.orders_are_total.ensures.names system tree root time (by_port (ins_of system tree) items) (placed-from tree named)
