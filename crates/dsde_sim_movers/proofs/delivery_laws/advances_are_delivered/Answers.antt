use Rattle.dsde_sim_movers.proofs.Advances.{advance-delivered}
use Rattle.dsde_sim_movers.proofs.delivery_laws.advances_are_delivered.Goals as goal

pub returns : goal.returns
returns c system engine after head old new = advance-delivered c.turns_are_delivered.ensures system engine head old new after
