use Rattle.std.proofs.Common.{◌≡◌, ◌+◌, drop}
use Rattle.std.specs.FinSet as set
use Rattle.dsde_routes.specs.Passing.{rows_by}
use Rattle.dsde_routes.specs.Putting.{put_all}
use Rattle.dsde_routes.proofs.flowing.put_rows.Given as goal

abbrev pub invariant-loop-passing : goal.invariant-loop-passing
invariant-loop-passing g l =
    (put_all l.table (rows_by l.target (drop l.passing-index l.list)) ≡ put_all l.fn.table (rows_by l.target l.list))
    × (l.changes + set.len l.fn.table ≡ l.fn.changes + set.len l.table)
