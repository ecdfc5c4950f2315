use Rattle.std.proofs.Common.{◌≡◌, ◌+◌, ◌≤◌, ◌||◌, length}
use Rattle.std.specs.FinSet as set
use Rattle.dsde_routes_wiring.specs.declared.row.Row.{Row}
use Rattle.dsde_routes_wiring.specs.Rows.{among}
use Rattle.dsde_repair_walks.proofs.table.insert_all.Given as goal

abbrev pub invariant-loop-row : goal.invariant-loop-row
invariant-loop-row g l =
    ((other : Row) → among l.row-iterator.rest.items other || set.contains l.table other ≡ among l.fn.rows other || set.contains l.fn.table other)
    × (l.changes + length l.row-iterator.rest.items ≤ l.fn.changes + length l.fn.rows)
    × (l.changes + set.len l.fn.table ≡ l.fn.changes + set.len l.table)
