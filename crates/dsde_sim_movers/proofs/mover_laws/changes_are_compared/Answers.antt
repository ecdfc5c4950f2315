use Rattle.std.proofs.Common.{subst}
use Rattle.std.proofs.lemmas.Simd.{map-map}
use Rattle.dsde_sim_tree.specs.given.structure.Survival.{AreInOrder}
use Rattle.dsde_sim_tree.specs.Tree.{entry_of}
use Rattle.dsde_sim_movers.specs.lemmas.Named.{exact-by}
use Rattle.dsde_sim_movers.proofs.MoverChanging.{change-compared}
use Rattle.dsde_sim_movers.proofs.mover_laws.changes_are_compared.Goals as goal

pub returns : goal.returns
returns c system entries kids path time room order sorted =
    change-compared c.orders_are_total.ensures.names (exact-by c.one_name.ensures) entries kids order (subst AreInOrder (map-map (λ entry. entry.name) entry_of kids) sorted) system path time room
