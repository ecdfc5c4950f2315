use Rattle.std.proofs.Common.{subst}
use Rattle.std.proofs.lemmas.Simd.{map-map}
use Rattle.dsde_sim_tree.specs.given.structure.Survival.{AreInOrder}
use Rattle.dsde_sim_tree.specs.Tree.{entry_of}
use Rattle.dsde_sim_movers.specs.lemmas.Named.{exact-by}
use Rattle.dsde_sim_movers.proofs.Works.{change-works, kids-few, take-works}
use Rattle.dsde_sim_movers.proofs.mover_laws.steps_tell_their_work.Goals as goal

pub returns-clause-moves : goal.returns-clause-moves
returns-clause-moves c system leaf moved kind path time got is = take-works system leaf kind path time got moved is

pub returns-clause-changes : goal.returns-clause-changes
returns-clause-changes c system entries kids after path time room left is = change-works system entries kids path time room (after, left) is

pub returns-clause-few : goal.returns-clause-few
returns-clause-few c entries kids order =
    kids-few c.orders_are_total.ensures.names (exact-by c.one_name.ensures) entries kids (subst AreInOrder (map-map (λ entry. entry.name) entry_of kids) order)
