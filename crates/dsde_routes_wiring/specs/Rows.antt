-- Rows among others.
use Rattle.std.specs.Prelude.{Bool, List}
use Rattle.std.specs.List.{list_any}
use Rattle.std.specs.Ordering.{eq_by_cmp}
use Rattle.dsde_routes_wiring.specs.declared.row.Row.{Row}
use Rattle.dsde_routes_wiring.specs.Sets.{row_cmp}

-- whether two rows are the same
abbrev pub is_same_row : Row → Row → Bool
is_same_row = eq_by_cmp row_cmp

-- whether a row is among these
abbrev pub among : List Row → Row → Bool
among rows row = list_any (is_same_row row) rows
