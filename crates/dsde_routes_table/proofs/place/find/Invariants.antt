use Rattle.std.proofs.Common.{◌≡◌, false, ◌≤◌, length, drop}
use Rattle.std.specs.List.{AllByRecursion, list_any}
use Rattle.dsde_routes_wiring.specs.Rows.{is_same_row}
use Rattle.dsde_routes_table.specs.Order.{IsUpTo}
use Rattle.dsde_routes_table.proofs.place.find.Given as goal

abbrev pub invariant-loop-index : goal.invariant-loop-index
invariant-loop-index l =
    (l.index ≤ length l.rows) × AllByRecursion (IsUpTo l.row) (drop l.index l.rows) × (list_any (is_same_row l.row) (drop l.index l.rows) ≡ false)

abbrev pub decreases-loop-index : goal.decreases-loop-index
decreases-loop-index l = l.index
