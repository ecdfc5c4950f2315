use Rattle.dsde_sim_movers.specs.lemmas.Named.{exact-by}
use Rattle.dsde_order.proofs.Ordered.{orderly}
use Rattle.dsde_order.proofs.laws.paths_in_order_are_orderly.Goals as goal

pub returns : goal.returns
returns c = orderly c.orders_are_total.ensures.names (exact-by c.one_name.ensures)
