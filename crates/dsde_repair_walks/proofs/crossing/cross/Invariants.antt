use Rattle.std.proofs.Common.{◌≡◌, ◌++◌}
use Rattle.dsde_repair_walks.specs.Walks.{crossed_rows}
use Rattle.dsde_repair_walks.proofs.crossing.cross.Given as goal

abbrev pub invariant-loop-before : goal.invariant-loop-before
invariant-loop-before l = l.rows ++ crossed_rows l.number l.link l.before-iterator.rest.items l.afters ≡ l.fn.rows ++ crossed_rows l.number l.link l.fn.befores l.afters
