use Rattle.dsde_core_flat.proofs.Deep.{are-short}
use Rattle.dsde_core_flat.proofs.tree_laws.paths_are_short.Goals as goal

pub returns : goal.returns
returns c own top wiring tree stands deep = are-short own top wiring tree stands deep
