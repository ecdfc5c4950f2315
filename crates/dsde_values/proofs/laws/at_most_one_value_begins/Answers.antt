use Rattle.dsde_values.proofs.OneValue.{one_value}
use Rattle.dsde_values.proofs.laws.at_most_one_value_begins.Goals as goal

pub returns : goal.returns
returns c = one_value
