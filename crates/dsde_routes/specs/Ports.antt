-- The numbers of ways in a list, by the ports at which they end.
use Rattle.std.specs.Prelude.{ℕ, ◌==◌, if◌then◌else◌, List, [], ◌∷◌, slice_get, unwrap_or, Some, None}
use Rattle.std.specs.BTreeMap.{get}
use Rattle.std.specs.List.{flat_map, enumerate_from}
use Rattle.std.specs.Ordering.{nat_cmp}
use Rattle.dsde_routes_wiring.specs.declared.row.Way.{Way}
use Rattle.dsde_routes_wiring.specs.declared.row.Passing.{Passing}
use Rattle.dsde_routes.specs.declared.ports.Ports.{Ports}

abbrev pub number_if : ℕ → ℕ × Passing → List ℕ
number_if port passing = if passing.1.port == port then passing.0 ∷ [] else []

-- the numbers of the ways that end at a port, in their order
abbrev pub numbers_at : ℕ → List Passing → List ℕ
numbers_at port list = flat_map (number_if port) (enumerate_from 0 list)

-- what is kept for a port
abbrev pub numbers_of : Ports → ℕ → List ℕ
numbers_of ports port = unwrap_or (get nat_cmp ports.numbers port) []

-- the way of a number
abbrev pub way_at : List Passing → ℕ → List Way
way_at list number = elim (slice_get list number) [ None ↦ [] | Some passing ↦ passing.way ∷ [] ]
