use Rattle.dsde_repair_walks.proofs.Touching.{bound-before, bound-after}
use Rattle.dsde_repair_walks.proofs.laws.a_change_touches_few.Goals as goal

pub returns-clause-before : goal.returns-clause-before
returns-clause-before c net place gone links kids fresh wiring here is both distinct = bound-before place gone links kids fresh wiring here is both distinct net

pub returns-clause-after : goal.returns-clause-after
returns-clause-after c net place gone links kids fresh wiring here is both distinct = bound-after place gone links kids fresh wiring here is both distinct net
