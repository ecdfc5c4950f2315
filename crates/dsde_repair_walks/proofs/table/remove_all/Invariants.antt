use Rattle.std.proofs.Common.{◌≡◌, ◌+◌, ◌≤◌, ◌&&◌, not, length, drop}
use Rattle.std.specs.FinSet as set
use Rattle.dsde_routes_wiring.specs.declared.row.Row.{Row}
use Rattle.dsde_routes_wiring.specs.Rows.{among}
use Rattle.dsde_repair_walks.proofs.table.remove_all.Given as goal

abbrev pub invariant-loop-index : goal.invariant-loop-index
invariant-loop-index g l =
    (l.index ≤ length l.rows)
    × ((other : Row) → set.contains l.table other ≡ (set.contains l.fn.table other && not (among (drop l.index l.rows) other)))
    × (l.changes + set.len l.table ≡ l.fn.changes + set.len l.fn.table)
    × (l.changes + l.index ≤ l.fn.changes + length l.rows)

abbrev pub decreases-loop-index : goal.decreases-loop-index
decreases-loop-index g l = l.index
