use Rattle.dsde_values.specs.Path.{root}
use Rattle.dsde_sim_tree.specs.Move.{ins_of}
use Rattle.dsde_sim_tree.specs.Output.{by_port}
use Rattle.dsde_sim_movers.specs.Movers.{move_each}
use Rattle.dsde_sim_movers.specs.Turns.{turn_movers}
use Rattle.dsde_sim_movers.specs.lemmas.Named.{exact-by, same_name, placed-from}
use Rattle.dsde_sim_movers.proofs.Agree.{movers-paired}
use Rattle.dsde_sim_movers.proofs.Chains.{chain-from}
use Rattle.dsde_sim_movers.proofs.Later.{related-in-order}
use Rattle.dsde_sim_movers.proofs.Waiting.{chain-waits}
use Rattle.dsde_sim_movers.proofs.order_laws.lawful_movers_wait.Goals as goal

pub returns : goal.returns
returns c system tree after time items before later own room left named order lawful ends =
    let total = c.orders_are_total.ensures.names in
    let same = same_name total in
    let exact = exact-by c.one_name.ensures in
    chain-waits same exact system root time before own
    (related-in-order same exact root (turn_movers system tree time items) before own later
    (movers-paired total system tree root time (by_port (ins_of system tree) items) (placed-from tree named)) order lawful)
    tree (move_each system root time before tree room).events after
    (chain-from system root time before tree room left after ends)
