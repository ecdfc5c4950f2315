use Rattle.dsde_repair_walks.proofs.Touching.{exact-before, exact-after}
use Rattle.dsde_repair_walks.proofs.laws.a_change_touches_these.Goals as goal

pub returns-clause-before : goal.returns-clause-before
returns-clause-before c = exact-before

pub returns-clause-after : goal.returns-clause-after
returns-clause-after c = exact-after
