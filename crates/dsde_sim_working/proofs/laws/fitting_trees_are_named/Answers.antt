use Rattle.dsde_sim_working.specs.lemmas.Delivering.{tree-named}
use Rattle.dsde_sim_working.proofs.laws.fitting_trees_are_named.Goals as goal

pub returns : goal.returns
returns c model tree fits = tree-named model tree fits
