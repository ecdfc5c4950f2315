-- The rows of a wiring as a set.
use Rattle.std.proofs.Common.{◌≡◌, sym, ap, ◌∙◌, ltb}
use Rattle.std.specs.FinSet as set
use Rattle.dsde_routes_wiring.specs.declared.row.Row.{Row}
use Rattle.dsde_routes_wiring.specs.declared.wiring.Wiring.{Wiring}
use Rattle.dsde_routes_wiring.specs.Flatten.{rows, flatten}
use Rattle.dsde_routes_wiring.specs.Routes.{routed}
use Rattle.dsde_routes_wiring.specs.Rows.{among, is_same_row}
use Rattle.dsde_routes_wiring.specs.Sets.{row_cmp-total}
use Rattle.dsde_routes_wiring.specs.Wired.{IsWired, AreWired}
use Rattle.dsde_repair_walks.specs.Bounds.{counted}
use Rattle.dsde_repair_walks.proofs.Bridging.{rows-routes}
use Rattle.dsde_repair_walks.proofs.Counting.{total, wired-named}
use Rattle.dsde_repair_walks.proofs.Repairs.{any-some}
use Rattle.dsde_repair_walks.proofs.Shapes.{net-here}

pub in-flatten : (wiring : Wiring) → AreWired wiring → (row : Row) → set.contains (flatten wiring) row ≡ among (routed wiring) row
in-flatten wiring wired row =
    set.contains-from_list row_cmp-total (rows wiring) row
    ∙ any-some (is_same_row row) (rows wiring)
    ∙ ap (ltb 0) (rows-routes total (counted (is_same_row row)) wiring (wired-named wiring wired) (net-here IsWired wiring wired).1)
    ∙ sym (any-some (is_same_row row) (routed wiring))
