-- What the walks of a change give.
use Rattle.std.specs.Prelude.{◌≡◌, ℕ, Bool, false, if◌then◌else◌, List, map, drop}
use Rattle.std.specs.List.{flat_map, enumerate_from}
use Rattle.dsde_bank.specs.declared.handle.Handle.{Handle}
use Rattle.dsde_values.specs.declared.name.Name.{Name}
use Rattle.dsde_routes_wiring.specs.given.structure.plan_End.{End}
use Rattle.dsde_routes_wiring.specs.given.structure.plan_Link.{Link}
use Rattle.dsde_routes_wiring.specs.given.structure.plan_Part.{Part}
use Rattle.dsde_routes_wiring.specs.given.structure.plan_Part_TheVariants as part
use Rattle.dsde_routes_wiring.specs.declared.row.Row.{Row}
use Rattle.dsde_routes_wiring.specs.declared.side.Side.{Side}
use Rattle.dsde_routes_wiring.specs.declared.wiring.WiredKid.{WiredKid}
use Rattle.dsde_routes_wiring.specs.declared.wiring.Wiring.{Wiring}
use Rattle.dsde_routes_wiring.specs.declared.wiring.WiredKid.TheViews.{out-Wiring}
use Rattle.dsde_routes_wiring.specs.Routes.{Ways, Route, Around, Inner, row_of, within, around_of, no_ways, step_from, ways_by, at_end, crossed_by, inner_of, inner_of_kid}
use Rattle.dsde_routes_wiring.specs.Places.{bared, changed, kid_changed, only, passing, passing_kid, crossed_between}
use Rattle.dsde_repair_walks.specs.declared.way.Way.{Way}
use Rattle.dsde_repair_walks.specs.Found.{IsNoLeaf}
use Rattle.dsde_repair_walks.specs.Walks.{ranked, beyond}

-- link by link, from a number on
abbrev pub from_number : {X : Type 0} → (ℕ × Link → List X) → List Link → ℕ → List X
from_number each links number = flat_map each (enumerate_from number (drop number links))

-- around the links of a network
abbrev pub open_around : Bool → Wiring → Around
open_around whole net = around_of (beyond whole (out-Wiring net).me) net

-- by what passes in the components, and by what is left where the place is bare
abbrev pub passing_kids : Name → List Name → List WiredKid → List (Name × Inner)
passing_kids name rest kids = map (passing_kid name (passing rest)) kids

abbrev pub past_kid : Name → List Name → WiredKid → Name × Inner
past_kid name rest kid = inner_of_kid (kid_changed name (changed rest bared) kid)

abbrev pub past_around : Ways → Name → List Name → Wiring → Around
past_around beyond_net name rest net = within beyond_net (out-Wiring net).boss (map (past_kid name rest) (out-Wiring net).kids)

abbrev pub over_link : Side → Around → Handle → ℕ → ℕ × Link → List Way
over_link side around me port link = map ranked (ways_by side around port (step_from me link))

abbrev pub crossed_link : Around → Handle → ℕ × Link → List Row
crossed_link around me link = map row_of (crossed_by around (step_from me link))

abbrev pub between_link : Around → Around → Handle → ℕ × Link → List Row
between_link befores afters me link = map row_of (crossed_between befores afters (step_from me link))

abbrev pub at_ways : Side → Around → End → List Way
at_ways side around end = map ranked (at_end side around end)

-- The part is neither atomic nor an executive, nor the network where its own ports are sources and targets.
abbrev pub IsNoOwn : Bool → Wiring → Part → Type 0
IsNoOwn whole net part.Net = whole ≡ false
IsNoOwn whole net part.Boss = ⊥
IsNoOwn whole net (part.Kid name) = IsNoLeaf net (part.Kid name)

abbrev pub passing_kid_ways : Side → Name → List Name → WiredKid → ℕ → List Way
passing_kid_ways side name rest kid port = map ranked ((passing_kid name (passing rest) kid).1.ways side port)

abbrev pub past_kid_ways : Side → Name → List Name → WiredKid → ℕ → List Way
past_kid_ways side name rest kid port = map ranked ((past_kid name rest kid).1.ways side port)

-- the ways that pass a place beneath a component, or those that do not
abbrev pub parted_around : Bool → Name → List Name → Wiring → Around
parted_around passes name rest net = if passes then only (passing_kids name rest (out-Wiring net).kids) else past_around no_ways name rest net

abbrev pub parted_ways : Bool → Side → List Name → Wiring → ℕ → List Way
parted_ways passes side place net port = map ranked ((if passes then passing place net else inner_of (changed place bared net)).ways side port)

abbrev pub parted_kid_ways : Bool → Side → Name → List Name → WiredKid → ℕ → List Way
parted_kid_ways passes side name rest kid port = if passes then passing_kid_ways side name rest kid port else past_kid_ways side name rest kid port

abbrev pub kid_routes : List (Name × Inner) → List Route
kid_routes kids = flat_map (λ kid. kid.1.routes) kids
