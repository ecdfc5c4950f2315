-- Ways that end at the ports of a part, in the order of the links by which they do.
use Rattle.std.specs.Prelude.{ℕ, ◌+◌, ◌==◌, Bool, if◌then◌else◌, List, [], ◌∷◌, ◌++◌, map, filter, Option, Some, None}
use Rattle.std.specs.Map.{lookup}
use Rattle.std.specs.Ordering.{eq_by_cmp}
use Rattle.dsde_bank.specs.declared.handle.Handle.{Handle}
use Rattle.dsde_values.specs.declared.name.Name.{Name}
use Rattle.dsde_values.specs.Path.{name_cmp}
use Rattle.dsde_routes_wiring.specs.given.structure.plan_Link.{Link}
use Rattle.dsde_routes_wiring.specs.given.structure.plan_Part.{Part}
use Rattle.dsde_routes_wiring.specs.given.structure.plan_Part_TheVariants as part
use Rattle.dsde_routes_wiring.specs.given.structure.Gather.{is_part}
use Rattle.dsde_routes_wiring.specs.declared.row.Way.{Way}
use Rattle.dsde_routes_wiring.specs.declared.row.Passing.{Passing}
use Rattle.dsde_routes_wiring.specs.declared.row.Row.{Row}
use Rattle.dsde_routes_wiring.specs.Ways.{Ways, nowhere, onward, begin}
use Rattle.dsde_routes_wiring.specs.Flatten.{row_of}
use Rattle.dsde_routes.specs.declared.carry.Come.{Come}
use Rattle.dsde_routes.specs.declared.carry.Come.TheVariants as come
use Rattle.dsde_routes.specs.declared.sent.Sent.{Sent}
use Rattle.dsde_routes.specs.declared.sent.Sent.TheVariants.{Leaf, Net}

-- the ways that end at one of the ports
abbrev pub ways_in : List Passing → Ways
ways_in list port = map (λ passing. passing.way) (filter (λ passing. passing.port == port) list)

abbrev pub at_port : ℕ → Way → Passing
at_port port way = record { port = port; way = way }

-- the ways over the link of this number, from where links lead
abbrev pub carry : (Part → Ways) → ℕ → Link → List Passing
carry from number link = map (λ way. at_port link.to.port (onward number link way)) (from link.from.part link.from.port)

-- the ways to a part, link by link, where the first link has this number
abbrev pub passing : (Part → Ways) → ℕ → List Link → Part → List Passing
passing from number [] part = []
passing from number (link ∷ links) part = (if is_part link.to.part part then carry from number link else []) ++ passing from (number + 1) links part

-- the ways out of a component
abbrev pub ways_of : Sent → Ways
ways_of (Leaf handle) = begin handle
ways_of (Net list) = ways_in list

abbrev pub is_name : Name → Name → Bool
is_name name other = eq_by_cmp name_cmp name other

abbrev pub found : List (Name × Sent) → Name → Option Sent
found kids name = lookup (is_name name) kids

abbrev pub ways_out : Option Sent → Ways
ways_out None port = []
ways_out (Some sent) port = ways_of sent port

-- the ways into a network: none come, or they begin at the root, or these came
abbrev pub come_of : Come → Ways
come_of come.Nowhere = nowhere
come_of (come.Root root) = begin root
come_of (come.Ways got) = ways_in got.now

-- where the links of a network lead from
abbrev pub from_parts : Ways → Handle → List (Name × Sent) → Part → Ways
from_parts come boss kids part.Net = come
from_parts come boss kids part.Boss = begin boss
from_parts come boss kids (part.Kid name) = ways_out (found kids name)

abbrev pub rows_by : Handle → List Passing → List Row
rows_by target list = map (λ passing. row_of target passing.port passing.way) list
