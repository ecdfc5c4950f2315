use Rattle.std.proofs.Common.{subst}
use Rattle.dsde_sim_movers.specs.Movers.{move_each}
use Rattle.dsde_sim_movers.specs.lemmas.Named.{exact-by, same_name, placed-from}
use Rattle.dsde_sim_movers.proofs.Agree.{movers-paired, related-before}
use Rattle.dsde_sim_movers.proofs.Chains.{chain-from}
use Rattle.dsde_sim_movers.proofs.Pairs.{ArePaired}
use Rattle.dsde_sim_movers.proofs.Waiting.{chain-waits}
use Rattle.dsde_sim_movers.proofs.order_laws.movers_wait.Goals as goal

pub returns : goal.returns
returns c system tree after path time got before later own room left named is ends =
    let total = c.orders_are_total.ensures.names in
    chain-waits (same_name total) (exact-by c.one_name.ensures) system path time before own
    (related-before path before own later (subst (ArePaired path) is (movers-paired total system tree path time got (placed-from tree named))))
    tree (move_each system path time before tree room).events after
    (chain-from system path time before tree room left after ends)
