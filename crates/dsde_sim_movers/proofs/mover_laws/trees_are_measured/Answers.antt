use Rattle.dsde_sim_movers.proofs.Measuring.{counts, next-of}
use Rattle.dsde_sim_movers.proofs.mover_laws.trees_are_measured.Goals as goal

pub returns-clause-parts : goal.returns-clause-parts
returns-clause-parts c = counts

pub returns-clause-next : goal.returns-clause-next
returns-clause-next c = next-of
