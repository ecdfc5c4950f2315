use Rattle.dsde_sim_movers.proofs.Counting.{movers-halves}
use Rattle.dsde_sim_movers.specs.lemmas.Named.{placed-from}
use Rattle.dsde_sim_movers.proofs.mover_laws.executives_are_few.Goals as goal

pub returns : goal.returns
returns c system tree path time got named = movers-halves system tree path time got (placed-from tree named)
