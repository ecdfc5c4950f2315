-- The ways by which links carry: from the source at which one begins over each link that it takes.
use Rattle.std.specs.Prelude.{ℕ, ◌+◌, if◌then◌else◌, List, [], ◌∷◌, ◌++◌, map, option_to_list}
use Rattle.dsde_bank.specs.declared.handle.Handle.{Handle}
use Rattle.dsde_values.specs.declared.name.Name.{Name}
use Rattle.dsde_structure.specs.declared.plan.End.{End}
use Rattle.dsde_structure.specs.declared.plan.Link.{Link}
use Rattle.dsde_structure.specs.declared.plan.Part.{Part}
use Rattle.dsde_structure.specs.declared.plan.Part.TheVariants as part
use Rattle.dsde_structure.specs.Gather.{is_end, is_same_name}
use Rattle.dsde_routes_wiring.specs.declared.row.Way.{Way}

-- the ways that end at each port
abbrev pub Ways : Type 0
Ways = ℕ → List Way

-- where nothing comes
abbrev pub nowhere : Ways
nowhere port = []

-- at a port of a source one way begins
abbrev pub begin : Handle → Ways
begin source port = record { source = source; port = port; rank = []; chain = [] } ∷ []

-- a way goes on over the link of this number
abbrev pub onward : ℕ → Link → Way → Way
onward number link way = record way { rank = number ∷ way.rank; chain = way.chain ++ option_to_list link.via }

-- the ways out of a component
pub record Sent : Type 0 where
  pub name : Name
  pub ways : Ways

-- the ways out of the component of this name
abbrev pub sent_by : List Sent → Name → Ways
sent_by [] name = nowhere
sent_by (sent ∷ others) name = if is_same_name sent.name name then sent.ways else sent_by others name

-- where the links of a network lead from: the ways into it, out of its executive and out of its components
pub record Sources : Type 0 where
  pub net : Ways
  pub boss : Handle
  pub kids : List Sent

abbrev pub from_part : Sources → Part → Ways
from_part sources part.Net = sources.net
from_part sources part.Boss = begin sources.boss
from_part sources (part.Kid name) = sent_by sources.kids name

-- the ways over the link of this number
abbrev pub over : Sources → ℕ → Link → List Way
over sources number link = map (onward number link) (from_part sources link.from.part link.from.port)

-- the ways to an end, link by link, where the first link has this number
abbrev pub coming : Sources → ℕ → List Link → End → List Way
coming sources number [] end = []
coming sources number (link ∷ links) end =
    (if is_end link.to end then over sources number link else []) ++ coming sources (number + 1) links end
