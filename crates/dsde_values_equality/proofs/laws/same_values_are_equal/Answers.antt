use Rattle.dsde_values_equality.proofs.SameValues.{exact-value, exact-values}
use Rattle.dsde_values_equality.proofs.laws.same_values_are_equal.Goals as goal

pub returns : goal.returns
returns c = record { value = exact-value; values = exact-values }
