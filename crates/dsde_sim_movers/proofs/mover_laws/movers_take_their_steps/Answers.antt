use Rattle.dsde_sim_movers.proofs.Taking.{leaf-takes, boss-takes}
use Rattle.dsde_sim_movers.proofs.mover_laws.movers_take_their_steps.Goals as goal

pub returns-clause-component : goal.returns-clause-component
returns-clause-component c = leaf-takes

pub returns-clause-executive : goal.returns-clause-executive
returns-clause-executive c = boss-takes
