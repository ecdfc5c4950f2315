use Rattle.dsde_repair_walks.proofs.Sizes.{flatten-counts}
use Rattle.dsde_repair_walks.proofs.laws.rows_are_counted.Goals as goal

pub returns : goal.returns
returns c = flatten-counts
