use Rattle.dsde_sim_movers.proofs.Advancing.{start-engine, advance-stands}
use Rattle.dsde_sim_movers.proofs.standing_laws.trees_stand.Goals as goal

pub returns-clause-start : goal.returns-clause-start
returns-clause-start c = start-engine

pub returns-clause-advance : goal.returns-clause-advance
returns-clause-advance c = advance-stands c.one_name.ensures c.survivors_keep_their_roles.ensures.found
