-- Where a row stands among others.
use Rattle.std.specs.Prelude.{◌≡◌, false, List, ◌<◌, ◌≤◌, take, drop, length, slice_index_or}
use Rattle.std.specs.List.{AllByRecursion, list_any}
use Rattle.std.proofs.Common.{Less}
use Rattle.dsde_routes_wiring.specs.declared.row.Row.{Row}
use Rattle.dsde_routes_table.specs.declared.place.Beside.{Beside}
use Rattle.dsde_routes_table.specs.declared.place.Beside.TheVariants.{Before, Same, Behind}
use Rattle.dsde_routes_table.specs.declared.place.Place.{Place}
use Rattle.dsde_routes_table.specs.declared.place.Place.TheVariants.{Here, Free}
use Rattle.dsde_routes_wiring.specs.Rows.{is_same_row}
use Rattle.dsde_routes_table.specs.Order.{target_cmp, IsUpTo}

-- where a row stands to another
abbrev pub IsBeside : Row → Row → Beside → Type 0
IsBeside own row Before = target_cmp own row ≡ Less
IsBeside own row Same = own ≡ row
IsBeside own row Behind = IsUpTo row own × (is_same_row row own ≡ false)

-- the row is there; or it is not among them, and stands in order before the one of this index
abbrev pub IsPlace : List Row → Row → Place → Type 0
IsPlace rows row (Here index) = (index < length rows) × (slice_index_or rows index row ≡ row)
IsPlace rows row (Free index) =
    (index ≤ length rows)
    × AllByRecursion (λ own. IsUpTo own row) (take index rows)
    × AllByRecursion (IsUpTo row) (drop index rows)
    × (list_any (is_same_row row) rows ≡ false)
