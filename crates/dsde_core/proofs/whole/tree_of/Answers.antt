use Rattle.dsde_values.specs.Path.{root}
use Rattle.dsde_core.proofs.whole.tree_of.Goals as goal

pub tree_shown-requires-clause-live : goal.tree_shown-requires-clause-live
tree_shown-requires-clause-live c = record { path = root; all = c.requires.live }
