use Rattle.dsde_values.specs.Path.{root}
use Rattle.dsde_sim_movers.specs.lemmas.Asking.{have-deliveries}
use Rattle.dsde_sim_movers.proofs.delivery_laws.leaves_have_deliveries.Goals as goal

pub returns : goal.returns
returns c system tree time got sent is = have-deliveries system tree root time got sent is
