use Rattle.dsde_repair_walks.proofs.Gathers.{routes-gathered}
use Rattle.dsde_repair_walks.proofs.laws.routes_are_gathered.Goals as goal

pub returns : goal.returns
returns c = routes-gathered
