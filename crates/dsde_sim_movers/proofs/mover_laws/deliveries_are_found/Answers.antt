use Rattle.std.proofs.lemmas.List.FromFn.{length-map-range_with_len}
use Rattle.dsde_values.specs.Path.{root}
use Rattle.dsde_sim_tree.specs.Move.{ins_of}
use Rattle.dsde_sim_tree.specs.Output.{by_port, values_at}
use Rattle.dsde_sim_movers.proofs.Finding.{all-found}
use Rattle.dsde_sim_movers.specs.lemmas.Named.{placed-from}
use Rattle.dsde_sim_movers.proofs.Walking.{walks-up}
use Rattle.dsde_sim_movers.proofs.mover_laws.deliveries_are_found.Goals as goal

pub returns : goal.returns
returns c system tree time items named =
    let got = by_port (ins_of system tree) items in
    all-found c.orders_are_total.ensures.names system c.orders_are_total.ensures.paths tree time got (placed-from tree named)
    (length-map-range_with_len (values_at items) 0 (ins_of system tree)) (walks-up c.orders_are_total.ensures.names system tree root time got named)
