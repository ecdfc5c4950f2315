-- Rows put into a set one after another, and the rows of the parts of a network in the words of the code.
use Rattle.std.specs.Prelude.{List, [], ◌∷◌, map, unwrap_or, Some, None}
use Rattle.std.specs.FinSet as set
use Rattle.std.specs.List.{flat_map}
use Rattle.std.specs.BTreeMap.{get}
use Rattle.dsde_values.specs.declared.name.Name.{Name}
use Rattle.dsde_values.specs.Path.{name_cmp}
use Rattle.dsde_routes_wiring.specs.given.structure.plan_Part.{Part}
use Rattle.dsde_routes_wiring.specs.given.structure.plan_Part_TheVariants as part
use Rattle.dsde_routes_wiring.specs.declared.row.Passing.{Passing}
use Rattle.dsde_routes_wiring.specs.declared.row.Row.{Row}
use Rattle.dsde_routes_wiring.specs.declared.wiring.Wiring.{Wiring}
use Rattle.dsde_routes_wiring.specs.declared.wiring.WiredKid.{WiredKid}
use Rattle.dsde_routes_wiring.specs.declared.wiring.WiredKid.TheViews.{out-WiredKid, out-Wiring}
use Rattle.dsde_routes_wiring.specs.Sets.{Rows}
use Rattle.dsde_routes_wiring.specs.Ways.{Ways, from_part}
use Rattle.dsde_routes_wiring.specs.Flatten.{NetFlow, flow, flow_of_kid, rows_at, sources_of}
use Rattle.dsde_routes_wiring.specs.Opened.{kids_of}
use Rattle.dsde_routes.specs.declared.comes.Comes.{Comes}
use Rattle.dsde_routes.specs.Passing.{ways_in, passing, rows_by}

abbrev pub put_all : Rows → List Row → Rows
put_all table [] = table
put_all table (row ∷ list) = put_all (set.insert table row) list

-- the ways to a part of a network, where these ways come to it
abbrev pub ways_to : Wiring → Ways → Part → List Passing
ways_to net come = passing (from_part (sources_of (out-Wiring net).boss (map flow_of_kid (kids_of net)) come)) 0 (out-Wiring net).links

-- what comes to a component
abbrev pub comes_to : Comes → Name → List Passing
comes_to comes name = unwrap_or (get name_cmp comes.kids name) []

-- the rows of what is beneath a network, where these ways come to it
abbrev pub rows_beneath : NetFlow → Ways → List Row
rows_beneath net come = flat_map rows_at (net.sites come)

-- the rows of a component, or of what is beneath it, where these ways come to it
abbrev pub rows_to_kid : WiredKid → List Passing → List Row
rows_to_kid kid got = elim (out-WiredKid kid).below [
  | None ↦ rows_by (out-WiredKid kid).handle got
  | Some own ↦ rows_beneath (flow own) (ways_in got)
]

abbrev pub rows_to_kids : Comes → List WiredKid → List Row
rows_to_kids comes kids = flat_map (λ kid. rows_to_kid kid (comes_to comes (out-WiredKid kid).name)) kids

-- the ways to the out ports of a network
abbrev pub out_passing : Wiring → List Passing
out_passing net = passing (from_part (flow net).out.sources) 0 (flow net).out.links part.Net
