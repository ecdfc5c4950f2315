-- What the links of a wiring carry from its sources to each component, followed down from the root; and
-- what a row carries.
use Rattle.std.specs.Prelude.{ℕ, if◌then◌else◌, slice_index_or, List, [], ◌∷◌, ◌++◌, map, Option, Some, None, option_and_then}
use Rattle.std.specs.List.{flat_map, filter_map}
use Rattle.dsde_bank.specs.declared.handle.Handle.{Handle}
use Rattle.dsde_values.specs.declared.name.Name.{Name}
use Rattle.dsde_values.specs.declared.value.Value.{Value}
use Rattle.dsde_routes_wiring.specs.given.structure.plan_Link.{Link}
use Rattle.dsde_routes_wiring.specs.given.structure.plan_Part_TheVariants as part
use Rattle.dsde_routes_wiring.specs.given.structure.plan_Via.{Via}
use Rattle.dsde_routes_wiring.specs.given.structure.sources_Given.{Given}
use Rattle.dsde_routes_wiring.specs.given.structure.sources_Sources.{Sources}
use Rattle.dsde_routes_wiring.specs.given.structure.Gather.{Translation, Ports, gathered}
use Rattle.dsde_routes_wiring.specs.declared.row.Row.{Row}
use Rattle.dsde_routes_wiring.specs.declared.wiring.Wiring.{Wiring}
use Rattle.dsde_routes_wiring.specs.declared.wiring.WiredKid.{WiredKid}
use Rattle.dsde_routes_wiring.specs.declared.wiring.WiredKid.TheFolds.{fold-Wiring, fold-WiredKid}
use Rattle.dsde_routes_wiring.specs.declared.wiring.WiredKid.TheOpen.{Wiring-F, WiredKid-F}
use Rattle.dsde_routes_wiring.specs.Wired.{is_same_handle}

-- what is carried at one time: what translations make of values, how many in and out ports the part of a
-- handle has, and the values at the ports of each source: what a component or an executive sends, and
-- under the root's handle what came to the root
pub record Traffic : Type 0 where
  pub translate : Translation
  pub ins : Handle → ℕ
  pub outs : Handle → ℕ
  pub sent : Handle → Ports

-- what comes to a component or an executive, or out of the root, port by port
pub record Delivery : Type 0 where
  pub part : Handle
  pub ports : Ports

-- a network: what it sends; and what its links carry to what is beneath it, where this comes to it
pub record NetLoad : Type 0 where
  pub me : Handle
  pub sends : Ports
  pub deliveries : Ports → List Delivery

-- a component: what it sends; and what the links of its network carry to it, or beneath it
pub record KidLoad : Type 0 where
  pub given : Given
  pub deliveries : List Link → Sources → List Delivery

module _ (traffic : Traffic) where
  -- what links carry to a component that has so many in ports
  abbrev pub to_kid : Handle → Name → List Link → Sources → Ports
  to_kid handle name links sources = gathered traffic.translate links sources (part.Kid name) (traffic.ins handle)

  abbrev pub kid_step : WiredKid-F KidLoad NetLoad → KidLoad
  kid_step kid = elim kid.below [
    | None ↦ record {
      given = record { name = kid.name; ports = traffic.sent kid.handle };
      deliveries = λ links sources. record { part = kid.handle; ports = to_kid kid.handle kid.name links sources } ∷ [];
    }
    | Some own ↦ record {
      given = record { name = kid.name; ports = own.sends };
      deliveries = λ links sources. own.deliveries (to_kid kid.handle kid.name links sources);
    }
  ]

  abbrev pub sources_of : Handle → List KidLoad → Ports → Sources
  sources_of boss kids got = record { net = got; boss = traffic.sent boss; kids = map (λ kid. kid.given) kids }

  abbrev pub net_step : Wiring-F KidLoad NetLoad → NetLoad
  net_step net = record {
    me = net.me;
    sends = gathered traffic.translate net.links (sources_of net.boss net.kids []) part.Net (traffic.outs net.me);
    deliveries = λ got.
        flat_map (λ kid. kid.deliveries net.links (sources_of net.boss net.kids got)) net.kids
        ++ record { part = net.boss; ports = gathered traffic.translate net.links (sources_of net.boss net.kids got) part.Boss (traffic.ins net.boss) } ∷ [];
  }

  abbrev pub load : Wiring → NetLoad
  load = fold-Wiring KidLoad NetLoad kid_step net_step

  abbrev pub load_of_kid : WiredKid → KidLoad
  load_of_kid = fold-WiredKid KidLoad NetLoad kid_step net_step

  -- what links carry to the components and executives of a wiring, and what its root sends
  abbrev pub deliveries : Wiring → List Delivery
  deliveries wiring =
      (load wiring).deliveries (traffic.sent (load wiring).me)
      ++ record { part = (load wiring).me; ports = (load wiring).sends } ∷ []

-- the values that a delivery has for a port of a part
abbrev pub meant : Handle → ℕ → Delivery → List Value
meant target port delivery = if is_same_handle delivery.part target then slice_index_or delivery.ports port [] else []

-- what links carry to a port of a part
abbrev pub received : Traffic → Wiring → Handle → ℕ → List Value
received traffic wiring target port = flat_map (meant target port) (deliveries traffic wiring)

-- what translations make of a value one after another
abbrev pub along : Translation → List Via → Value → Option Value
along translate [] value = Some value
along translate (via ∷ chain) value = option_and_then (along translate chain) (translate via value)

-- what is pushed along a row: the values at its source, each translated along its chain
abbrev pub pushed : Traffic → Row → List Value
pushed traffic row = filter_map (along traffic.translate row.chain) (slice_index_or (traffic.sent row.source) row.source_port [])
