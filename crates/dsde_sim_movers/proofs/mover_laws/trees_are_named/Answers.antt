use Rattle.dsde_sim_movers.specs.lemmas.Named.{exact-by}
use Rattle.dsde_sim_movers.proofs.Staying.{start-named, turn-named}
use Rattle.dsde_sim_movers.proofs.mover_laws.trees_are_named.Goals as goal

pub returns-clause-start : goal.returns-clause-start
returns-clause-start c system left model args path time room rest tree plans is = start-named system plans left model args path time room (tree, rest) is

pub returns-clause-turn : goal.returns-clause-turn
returns-clause-turn c system tree after number time items order plans named is = turn-named system plans (exact-by c.one_name.ensures) tree number time items order named after is
