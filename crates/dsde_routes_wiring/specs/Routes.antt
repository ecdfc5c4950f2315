-- Routes: ways over links, put together at the link by which a route comes from one part of a network
-- to another. A route climbs from its source out of networks, crosses over one link, and goes down into
-- networks to its target.
use Rattle.std.specs.Prelude.{ℕ, ◌==◌, ◌&&◌, Bool, List, [], ◌∷◌, ◌++◌, map, if◌then◌else◌, Option, Some, None}
use Rattle.std.specs.List.{flat_map, enumerate_from}
use Rattle.std.specs.Option.{option_to_list}
use Rattle.dsde_bank.specs.declared.handle.Handle.{Handle}
use Rattle.dsde_values.specs.declared.name.Name.{Name}
use Rattle.dsde_structure.specs.declared.plan.End.{End}
use Rattle.dsde_structure.specs.declared.plan.Link.{Link}
use Rattle.dsde_structure.specs.declared.plan.Part.{Part}
use Rattle.dsde_structure.specs.declared.plan.Part.TheVariants as part
use Rattle.dsde_structure.specs.declared.plan.Via.{Via}
use Rattle.dsde_structure.specs.Gather.{is_same_name, is_part}
use Rattle.dsde_routes_wiring.specs.Side.{near, far}
use Rattle.dsde_routes_wiring.specs.declared.row.Row.{Row}
use Rattle.dsde_routes_wiring.specs.declared.side.Side.{Side}
use Rattle.dsde_routes_wiring.specs.declared.side.Side.TheVariants.{Out, Into}
use Rattle.dsde_routes_wiring.specs.declared.wiring.WiredKid.{WiredKid}
use Rattle.dsde_routes_wiring.specs.declared.wiring.Wiring.{Wiring}
use Rattle.dsde_routes_wiring.specs.declared.wiring.WiredKid.TheFolds.{fold-Wiring, fold-WiredKid}
use Rattle.dsde_routes_wiring.specs.declared.wiring.WiredKid.TheViews.{out-Wiring}
use Rattle.dsde_routes_wiring.specs.declared.wiring.WiredKid.TheOpen.{Wiring-F, WiredKid-F}

-- a link of a route: the network whose link it is, and its number there
pub record Step : Type 0 where
  pub net : Handle
  pub number : ℕ

-- A way: from the port of a source on to where it stands, or from where it stands on to the port of a
-- target; its links, the last one first, and its translations, the first one first.
pub record Way : Type 0 where
  pub handle : Handle
  pub port : ℕ
  pub steps : List Step
  pub chain : List Via

-- a way from a source all the way to a target
pub record Route : Type 0 where
  pub source : Handle
  pub source_port : ℕ
  pub target : Handle
  pub target_port : ℕ
  pub steps : List Step
  pub chain : List Via

-- its row, which has the numbers of its links alone
abbrev pub rank_of : List Step → List ℕ
rank_of steps = map (λ step. step.number) steps

abbrev pub row_of : Route → Row
row_of route = record { source = route.source; source_port = route.source_port; target = route.target; target_port = route.target_port; rank = rank_of route.steps; chain = route.chain }

-- the ways that come out of a part's out port, or go on from its in port
abbrev pub Ways : Type 0
Ways = Side → ℕ → List Way

-- a link as a step
abbrev pub Numbered : Type 0
Numbered = Step × Link

abbrev pub step_from : Handle → ℕ × Link → Numbered
step_from net link = (record { net = net; number = link.0 }, link.1)

-- the links of a network with their numbers
abbrev pub numbered : Handle → List Link → List Numbered
numbered net links = map (step_from net) (enumerate_from 0 links)

-- at a part that is its own source and target
abbrev pub own : Handle → Ways
own handle side port = record { handle = handle; port = port; steps = []; chain = [] } ∷ []

abbrev pub no_ways : Ways
no_ways side port = []

-- a way that goes on over a link, or that begins with it
abbrev pub extended : Side → Numbered → Way → Way
extended Out link way = record way { steps = link.0 ∷ way.steps; chain = way.chain ++ option_to_list link.1.via }
extended Into link way = record way { steps = way.steps ++ link.0 ∷ []; chain = option_to_list link.1.via ++ way.chain }

-- the route of a way to a place, and a way on from there
abbrev pub met : Way → Way → Route
met before after = record { source = before.handle; source_port = before.port; target = after.handle; target_port = after.port; steps = after.steps ++ before.steps; chain = before.chain ++ after.chain }

-- a part seen from outside: its ways, and the routes that lie wholly inside
pub record Inner : Type 0 where
  pub ways : Ways
  pub routes : List Route

-- what stands at the ends of a network's links: what is outside, its executive, its components
pub record Around : Type 0 where
  pub net : Ways
  pub boss : Ways
  pub kids : List (Name × Inner)

-- the ways of a component, if it has this name
abbrev pub of_kid : Side → Name → ℕ → Name × Inner → List Way
of_kid side name port kid = if is_same_name kid.0 name then kid.1.ways side port else []

abbrev pub at_part : Side → Around → Part → ℕ → List Way
at_part side around part.Net port = around.net side port
at_part side around part.Boss port = around.boss side port
at_part side around (part.Kid name) port = flat_map (of_kid side name port) around.kids

abbrev pub at_end : Side → Around → End → List Way
at_end side around end = at_part side around end.part end.port

-- whether an end is this port of the network itself
abbrev pub is_border : ℕ → End → Bool
is_border port end = is_part end.part part.Net && end.port == port

-- a network's own ways: over the links to its out port, or from its in port on
abbrev pub ways_by : Side → Around → ℕ → Numbered → List Way
ways_by side around port link =
    if is_border port (near side link.1) then map (extended side link) (at_end side around (far side link.1)) else []

abbrev pub net_ways : Around → List Numbered → Ways
net_ways around links side port = flat_map (ways_by side around port) links

-- each way to a link's source, with each way on from its target
abbrev pub crossed : Numbered → List Way → List Way → List Route
crossed link befores afters = flat_map (λ before. map (λ after. met (extended Out link before) after) afters) befores

abbrev pub crossed_by : Around → Numbered → List Route
crossed_by around link = crossed link (at_end Out around link.1.from) (at_end Into around link.1.to)

-- the routes that cross over a link of this network, and those of a network and all beneath it
abbrev pub crossing : Around → List Numbered → List Route
crossing around links = flat_map (crossed_by around) links

abbrev pub routes_by : Around → List Numbered → List Route
routes_by around links = crossing around links ++ flat_map (λ kid. kid.1.routes) around.kids

-- what stands around a network's links, seen from inside alone, or with its own ports as sources and targets
abbrev pub within : Ways → Handle → List (Name × Inner) → Around
within net boss kids = record { net = net; boss = own boss; kids = kids }

abbrev pub inner_net : Handle → List (Name × Inner) → List Numbered → Inner
inner_net boss kids links = record {
  ways = net_ways (within no_ways boss kids) links;
  routes = routes_by (within no_ways boss kids) links;
}

abbrev pub inner_leaf : Handle → Inner
inner_leaf handle = record { ways = own handle; routes = [] }

abbrev pub net_step : Wiring-F (Name × Inner) Inner → Inner
net_step net = inner_net net.boss net.kids (numbered net.me net.links)

abbrev pub below_step : Handle → Option Inner → Inner
below_step handle None = inner_leaf handle
below_step handle (Some inner) = inner

abbrev pub kid_step : WiredKid-F (Name × Inner) Inner → Name × Inner
kid_step kid = (kid.name, below_step kid.handle kid.below)

abbrev pub inner_of : Wiring → Inner
inner_of = fold-Wiring (Name × Inner) Inner kid_step net_step

abbrev pub inner_of_kid : WiredKid → Name × Inner
inner_of_kid = fold-WiredKid (Name × Inner) Inner kid_step net_step

abbrev pub links_of : Wiring → List Numbered
links_of wiring = numbered (out-Wiring wiring).me (out-Wiring wiring).links

-- the routes of a network with these ways beyond its own ports
abbrev pub around_of : Ways → Wiring → Around
around_of net wiring = within net (out-Wiring wiring).boss (map inner_of_kid (out-Wiring wiring).kids)

abbrev pub routes_in : Ways → Wiring → List Route
routes_in net wiring = routes_by (around_of net wiring) (links_of wiring)

-- the routes of a whole wiring: the root's own ports are sources and targets
abbrev pub routes : Wiring → List Route
routes wiring = routes_in (own (out-Wiring wiring).me) wiring

-- their rows
abbrev pub routed : Wiring → List Row
routed wiring = map row_of (routes wiring)
