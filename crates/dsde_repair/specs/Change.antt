-- A change of one network.
use Rattle.std.specs.Prelude.{◌≡◌, List, [], ◌∷◌, ◌++◌, map}
use Rattle.dsde_values.specs.declared.name.Name.{Name}
use Rattle.dsde_routes_wiring.specs.given.structure.plan_Link.{Link}
use Rattle.dsde_routes_wiring.specs.declared.wiring.WiredKid.{WiredKid}
use Rattle.dsde_routes_wiring.specs.declared.wiring.Wiring.{Wiring}
use Rattle.std.specs.FinSet as set
use Rattle.dsde_routes_wiring.specs.declared.row.Row.{Row}
use Rattle.dsde_routes_wiring.specs.Sets.{Rows}
use Rattle.dsde_routes_wiring.specs.Places.{changed, going, inside, kids_at, nets_at, renewed, staying, through}
use Rattle.dsde_routes_wiring.specs.Routes.{own, row_of}
use Rattle.dsde_routes_wiring.specs.declared.wiring.WiredKid.TheViews.{out-Wiring}

-- a place leads to one network
abbrev pub LeadsThere : List Name → Wiring → Type 0
LeadsThere place wiring = (net : Wiring) × (nets_at place wiring ≡ net ∷ [])

-- its components after a change: those that are not gone, and the fresh ones
abbrev pub kids_after : List Name → List Name → List WiredKid → Wiring → List WiredKid
kids_after place gone fresh wiring = staying gone (kids_at place wiring) ++ fresh

abbrev pub wiring_after : List Name → List WiredKid → List Link → Wiring → Wiring
wiring_after place kids links wiring = changed place (renewed links kids) wiring

-- The rows that a change takes out of the table of a wiring: those through the network, and those inside the
-- components that go.
abbrev pub rows_out : List Name → List Name → Wiring → List Row
rows_out place gone wiring = map row_of (through (own (out-Wiring wiring).me) place wiring) ++ map row_of (inside (going gone (kids_at place wiring)))

-- Those that it puts into the table of the wiring after it: those inside the fresh components, and those through
-- the network.
abbrev pub rows_in : List Name → List WiredKid → Wiring → List Row
rows_in place fresh wiring = map row_of (inside fresh) ++ map row_of (through (own (out-Wiring wiring).me) place wiring)

-- the rows of a set that are not among these
abbrev pub without : Rows → List Row → Rows
without rows some = set.difference rows (set.from_list some)
