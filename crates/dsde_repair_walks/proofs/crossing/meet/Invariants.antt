use Rattle.std.proofs.Common.{◌≡◌, ◌++◌, drop}
use Rattle.dsde_repair_walks.specs.Walks.{met_rows}
use Rattle.dsde_repair_walks.proofs.crossing.meet.Given as goal

abbrev pub invariant-loop-after : goal.invariant-loop-after
invariant-loop-after l = l.rows ++ met_rows l.before (drop l.after-index l.afters) ≡ l.fn.rows ++ met_rows l.before l.afters
