use Rattle.std.proofs.Common.{subst}
use Rattle.dsde_grove.specs.Grove.{IsTree}
use Rattle.dsde_grove.proofs.ShownTrees.{tree-shown}
use Rattle.dsde_grove.proofs.grove.Grove.born.Goals as goal

pub returns-clause-tree : goal.returns-clause-tree
returns-clause-tree g c = subst IsTree c.self.view_is (tree-shown c.self.inside.bank c.self.invariant.tree)
