-- The rows of a wiring: one for each route.
use Rattle.std.specs.Prelude.{ℕ, ◌+◌, ◌==◌, ◌&&◌, Bool, if◌then◌else◌, List, [], ◌∷◌, ◌++◌, map, Some, None}
use Rattle.std.specs.List.{flat_map}
use Rattle.std.specs.FinSet as set
use Rattle.dsde_routes_wiring.specs.Sets.{Rows}
use Rattle.dsde_bank.specs.declared.handle.Handle.{Handle}
use Rattle.dsde_structure.specs.declared.plan.Link.{Link}
use Rattle.dsde_structure.specs.declared.plan.Part.{Part}
use Rattle.dsde_structure.specs.declared.plan.Part.TheVariants as part
use Rattle.dsde_structure.specs.Gather.{is_part}
use Rattle.dsde_routes_wiring.specs.declared.row.Row.{Row}
use Rattle.dsde_routes_wiring.specs.declared.wiring.Wiring.{Wiring}
use Rattle.dsde_routes_wiring.specs.declared.wiring.WiredKid.{WiredKid}
use Rattle.dsde_routes_wiring.specs.declared.wiring.WiredKid.TheFolds.{fold-Wiring, fold-WiredKid}
use Rattle.dsde_routes_wiring.specs.declared.wiring.WiredKid.TheOpen.{Wiring-F, WiredKid-F}
use Rattle.dsde_routes_wiring.specs.Wired.{is_same_handle}
use Rattle.dsde_routes_wiring.specs.declared.row.Way.{Way}
use Rattle.dsde_routes_wiring.specs.Ways.{Ways, Sent, Sources, nowhere, begin, over, coming}

-- where routes may end: a component or an executive, or the root with its out ports; with the links of its
-- network, and where they lead from
pub record Site : Type 0 where
  pub part : Handle
  pub end : Part
  pub links : List Link
  pub sources : Sources

-- the ways that end at a port
abbrev pub ways_at : Site → Ways
ways_at site port = coming site.sources 0 site.links (record { part = site.end; port = port })

abbrev pub row_of : Handle → ℕ → Way → Row
row_of target port way =
    record { source = way.source; source_port = way.port; target = target; target_port = port; rank = way.rank; chain = way.chain }

-- the rows over the links to a part, where the first link has this number
abbrev pub rows_into : Handle → Part → Sources → ℕ → List Link → List Row
rows_into target end sources number [] = []
rows_into target end sources number (link ∷ links) =
    (if is_part link.to.part end then map (row_of target link.to.port) (over sources number link) else [])
    ++ rows_into target end sources (number + 1) links

abbrev pub rows_at : Site → List Row
rows_at site = rows_into site.part site.end site.sources 0 site.links

-- a network: what it sends, and what is beneath it, where these ways come to its in ports
pub record NetFlow : Type 0 where
  pub out : Site
  pub sites : Ways → List Site

-- a component of a network: what it sends; and itself or what is beneath it, by the network's links
pub record KidFlow : Type 0 where
  pub sent : Sent
  pub sites : List Link → Sources → List Site

abbrev pub kid_step : WiredKid-F KidFlow NetFlow → KidFlow
kid_step kid = elim kid.below [
  | None ↦ record {
    sent = record { name = kid.name; ways = begin kid.handle };
    sites = λ links sources. record { part = kid.handle; end = part.Kid kid.name; links = links; sources = sources } ∷ [];
  }
  | Some own ↦ record {
    sent = record { name = kid.name; ways = ways_at own.out };
    sites = λ links sources. own.sites (λ port. coming sources 0 links (record { part = part.Kid kid.name; port = port }));
  }
]

abbrev pub sources_of : Handle → List KidFlow → Ways → Sources
sources_of boss kids got = record { net = got; boss = boss; kids = map (λ kid. kid.sent) kids }

abbrev pub net_step : Wiring-F KidFlow NetFlow → NetFlow
net_step net = record {
  out = record { part = net.me; end = part.Net; links = net.links; sources = sources_of net.boss net.kids nowhere };
  sites = λ got.
      flat_map (λ kid. kid.sites net.links (sources_of net.boss net.kids got)) net.kids
      ++ record { part = net.boss; end = part.Boss; links = net.links; sources = sources_of net.boss net.kids got } ∷ [];
}

abbrev pub flow : Wiring → NetFlow
flow = fold-Wiring KidFlow NetFlow kid_step net_step

abbrev pub flow_of_kid : WiredKid → KidFlow
flow_of_kid = fold-WiredKid KidFlow NetFlow kid_step net_step

-- all places of a wiring where routes may end; the in ports of the root are sources under its handle
abbrev pub sites : Wiring → List Site
sites wiring = (flow wiring).sites (begin (flow wiring).out.part) ++ (flow wiring).out ∷ []

-- the rows of a wiring
abbrev pub rows : Wiring → List Row
rows wiring = flat_map rows_at (sites wiring)

-- the rows of a wiring, as a set: one for each route from a source to a place where routes may end
abbrev pub flatten : Wiring → Rows
flatten wiring = set.from_list (rows wiring)

-- whether a row leads to a port of a part, and from one
abbrev pub is_to : Handle → ℕ → Row → Bool
is_to target port row = is_same_handle row.target target && row.target_port == port

abbrev pub is_from : Handle → ℕ → Row → Bool
is_from source port row = is_same_handle row.source source && row.source_port == port
