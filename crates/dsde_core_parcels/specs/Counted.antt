-- How many rows go from ports.
use Rattle.std.specs.Prelude.{◌≡◌, ◌+◌, ℕ, List, [], ◌∷◌, length}
use Rattle.dsde_routes_wiring.specs.declared.row.Row.{Row}
use Rattle.dsde_routes_wiring.specs.Sets.{Rows}
use Rattle.dsde_core_parcels.specs.declared.parcel.Outlet.{Outlet}
use Rattle.dsde_core_parcels.specs.Parcels.{AreRowsFrom}

-- So many rows of a table go from the ports of outlets, those of each port taken together.
abbrev pub CountsRows : Rows → List Outlet → ℕ → Type 0
CountsRows table [] count = count ≡ 0
CountsRows table (outlet ∷ outlets) count =
    (rows : List Row) × (later : ℕ) × AreRowsFrom table outlet rows × (count ≡ length rows + later) × CountsRows table outlets later
