use Rattle.dsde_repair_walks.proofs.Touches.{touched-before, touched-after}
use Rattle.dsde_repair_walks.proofs.laws.a_change_leaves_the_others.Goals as goal

pub returns-clause-before : goal.returns-clause-before
returns-clause-before c = touched-before

pub returns-clause-after : goal.returns-clause-after
returns-clause-after c = touched-after
