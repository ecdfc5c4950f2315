use Rattle.dsde_values.specs.Path.{root}
use Rattle.dsde_sim_tree.specs.Move.{ins_of}
use Rattle.dsde_sim_tree.specs.Output.{by_port}
use Rattle.dsde_sim_movers.specs.Places.{leaves_from}
use Rattle.dsde_sim_movers.specs.lemmas.Events.{among-from}
use Rattle.dsde_sim_movers.specs.Movers.{path_behind}
use Rattle.dsde_sim_movers.proofs.MoverTelling.{movers-are}
use Rattle.dsde_sim_movers.proofs.mover_laws.movers_are_those.Goals as goal

pub returns : goal.returns
returns c system tree time items sent list named is walk are =
    let got = by_port (ins_of system tree) items in
    movers-are system tree time got c.orders_are_total.ensures.paths (c.deliveries_are_found.ensures system tree time items named) (c.leaves_have_deliveries.ensures system tree time got sent is)
    (λ names leaf there. among-from (leaves_from tree root) (path_behind root names) (c.leaves_have_paths.ensures tree root names leaf there))
    (c.movers_stand_in_path_order.ensures system tree root time got named) list walk are
