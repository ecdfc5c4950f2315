use Rattle.dsde_core_moving.proofs.Fitting.{kids-are-wired, tree-wired}
use Rattle.dsde_core_moving.proofs.rewiring_laws.fitting_trees_are_wired.Goals as goal

pub returns-clause-wiring : goal.returns-clause-wiring
returns-clause-wiring c model own top wiring fits = tree-wired model own top wiring fits

pub returns-clause-kids : goal.returns-clause-kids
returns-clause-kids c model own kids fits = kids-are-wired model own kids fits
