use Rattle.dsde_values.proofs.Orders.{one-name}
use Rattle.dsde_values.proofs.laws.one_name.Goals as goal

pub returns : goal.returns
returns c = one-name
