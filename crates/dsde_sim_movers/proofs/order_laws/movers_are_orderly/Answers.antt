use Rattle.dsde_values.specs.Path.{root}
use Rattle.dsde_sim_tree.specs.Move.{ins_of}
use Rattle.dsde_sim_tree.specs.Output.{by_port}
use Rattle.dsde_sim_movers.specs.lemmas.Named.{exact-by, placed-from}
use Rattle.dsde_sim_movers.proofs.Orderly.{movers-orderly}
use Rattle.dsde_sim_movers.proofs.order_laws.movers_are_orderly.Goals as goal

pub returns : goal.returns
returns c system tree time items named =
    movers-orderly c.orders_are_total.ensures.names (exact-by c.one_name.ensures) system tree root time (by_port (ins_of system tree) items) (placed-from tree named)
