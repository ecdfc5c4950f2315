-- The same routes, gathered from their targets: what comes to a part over the links that lead to it.
use Rattle.std.specs.Prelude.{ℕ, ◌==◌, List, [], ◌∷◌, ◌++◌, map, if◌then◌else◌, Option, Some, None}
use Rattle.std.specs.List.{flat_map}
use Rattle.dsde_bank.specs.declared.handle.Handle.{Handle}
use Rattle.dsde_structure.specs.declared.plan.Part.{Part}
use Rattle.dsde_structure.specs.declared.plan.Part.TheVariants as part
use Rattle.dsde_structure.specs.Gather.{is_part}
use Rattle.dsde_routes_wiring.specs.declared.side.Side.TheVariants.{Out, Into}
use Rattle.dsde_routes_wiring.specs.declared.wiring.WiredKid.{WiredKid}
use Rattle.dsde_routes_wiring.specs.declared.wiring.Wiring.{Wiring}
use Rattle.dsde_routes_wiring.specs.declared.wiring.WiredKid.TheFolds.{para-Wiring, para-WiredKid}
use Rattle.dsde_routes_wiring.specs.declared.wiring.WiredKid.TheOpen.{Wiring-F, WiredKid-F}
use Rattle.dsde_routes_wiring.specs.declared.wiring.WiredKid.TheViews.{out-Wiring, out-WiredKid}
use Rattle.dsde_routes_wiring.specs.Routes.{Way, Route, Ways, Around, Numbered, numbered, links_of, own, extended, met, at_end, within, inner_of_kid}

-- ways that came to ports
abbrev pub Arrivals : Type 0
Arrivals = List (ℕ × Way)

abbrev pub arrived : Numbered → Way → ℕ × Way
arrived link way = (link.1.to.port, extended Out link way)

-- what comes to a part over a link, and over all links
abbrev pub arriving_by : Around → Part → Numbered → Arrivals
arriving_by around part link = if is_part part link.1.to.part then map (arrived link) (at_end Out around link.1.from) else []

abbrev pub arriving : Around → List Numbered → Part → Arrivals
arriving around links part = flat_map (arriving_by around part) links

-- a way that came to its target
abbrev pub ended : Handle → ℕ × Way → Route
ended handle arrival = met arrival.1 (record { handle = handle; port = arrival.0; steps = []; chain = [] })

abbrev pub at_port : ℕ → Arrivals → List Way
at_port port arrivals = flat_map (λ arrival. if port == arrival.0 then arrival.1 ∷ [] else []) arrivals

-- what comes to the in ports of a network from outside, and nothing beyond its out ports
abbrev pub entry : (ℕ → List Way) → Ways
entry ins Out port = ins port
entry ins Into port = []

abbrev pub NetReach : Type 0
NetReach = (ℕ → List Way) → List Route

abbrev pub KidReach : Type 0
KidReach = Arrivals → List Route

abbrev pub reach_net : Handle → List (WiredKid × KidReach) → List Numbered → NetReach
reach_net boss kids links ins =
    let around : Around = within (entry ins) boss (map (λ (kid : WiredKid × KidReach). inner_of_kid kid.0) kids) in
    map (ended boss) (arriving around links part.Boss)
    ++ flat_map (λ (kid : WiredKid × KidReach). kid.1 (arriving around links (part.Kid (out-WiredKid kid.0).name))) kids

abbrev pub reach_below : Handle → Option NetReach → KidReach
reach_below handle None arrivals = map (ended handle) arrivals
reach_below handle (Some reach) arrivals = reach (λ port. at_port port arrivals)

abbrev pub reach_of_net : Wiring-F (WiredKid × KidReach) (Wiring × NetReach) → NetReach
reach_of_net net = reach_net net.boss net.kids (numbered net.me net.links)

abbrev pub reach_some : Option (Wiring × NetReach) → Option NetReach
reach_some None = None
reach_some (Some net) = Some net.1

abbrev pub reach_of_kid : WiredKid-F (WiredKid × KidReach) (Wiring × NetReach) → KidReach
reach_of_kid kid = reach_below kid.handle (reach_some kid.below)

abbrev pub reach : Wiring → NetReach
reach = para-Wiring KidReach NetReach reach_of_kid reach_of_net

abbrev pub kid_reach : WiredKid → KidReach
kid_reach = para-WiredKid KidReach NetReach reach_of_kid reach_of_net

-- the routes of a whole wiring
abbrev pub gathered : Wiring → List Route
gathered wiring =
    let me : Handle = (out-Wiring wiring).me in
    reach wiring (own me Out)
    ++ map (ended me) (arriving (within (entry (own me Out)) (out-Wiring wiring).boss (map inner_of_kid (out-Wiring wiring).kids)) (links_of wiring) part.Net)
