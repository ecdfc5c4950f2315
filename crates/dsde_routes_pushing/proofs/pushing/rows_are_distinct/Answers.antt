use Rattle.dsde_routes_pushing.proofs.Once.{all-count}
use Rattle.dsde_routes_pushing.proofs.pushing.rows_are_distinct.Goals as goal

pub returns : goal.returns
returns c = all-count
