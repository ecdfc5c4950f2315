use Rattle.dsde_sim_movers.specs.lemmas.Named.{exact-by, same_name}
use Rattle.dsde_sim_movers.specs.lemmas.Lenses.{part-apart, with-apart, with-itself}
use Rattle.dsde_sim_movers.proofs.mover_laws.places_are_apart.Goals as goal

pub returns-clause-stays : goal.returns-clause-stays
returns-clause-stays c names others own tree apart = part-apart (same_name c.orders_are_total.ensures.names) (exact-by c.one_name.ensures) names others apart own tree

pub returns-clause-either : goal.returns-clause-either
returns-clause-either c names others own part tree apart = with-apart (same_name c.orders_are_total.ensures.names) (exact-by c.one_name.ensures) names others apart own part tree

pub returns-clause-itself : goal.returns-clause-itself
returns-clause-itself c names own part tree is = with-itself (same_name c.orders_are_total.ensures.names) (exact-by c.one_name.ensures) names own part tree is
