use Rattle.std.proofs.Common.{◌≡◌, ◌+◌, drop}
use Rattle.std.specs.FinSet as set
use Rattle.dsde_routes.specs.Putting.{put_all, rows_to_kids}
use Rattle.dsde_routes.proofs.flowing.+flowing.Given as goal

abbrev pub invariant-put_kids-loop-kid : goal.invariant-put_kids-loop-kid
invariant-put_kids-loop-kid g l =
    (put_all l.table (rows_to_kids l.comes (drop l.kid-index l.kids)) ≡ put_all l.fn.table (rows_to_kids l.comes l.kids))
    × (l.changes + set.len l.fn.table ≡ l.fn.changes + set.len l.table)
