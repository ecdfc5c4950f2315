use Rattle.dsde_repair_walks.proofs.Repairs.{at-most-once, rows-after}
use Rattle.dsde_repair_walks.proofs.laws.rows_follow_a_change.Goals as goal

pub returns-clause-once : goal.returns-clause-once
returns-clause-once c = at-most-once

pub returns-clause-rows : goal.returns-clause-rows
returns-clause-rows c = rows-after
