-- Wirings that are changed at a place, and the routes that pass it.
use Rattle.std.specs.Prelude.{not, Bool, List, [], ◌∷◌, ◌++◌, map, if◌then◌else◌, Option, Some, None}
use Rattle.std.specs.List.{flat_map, filter, list_any}
use Rattle.dsde_values.specs.declared.name.Name.{Name}
use Rattle.dsde_structure.specs.declared.plan.Link.{Link}
use Rattle.dsde_structure.specs.Gather.{is_same_name}
use Rattle.dsde_routes_wiring.specs.declared.side.Side.TheVariants.{Out, Into}
use Rattle.dsde_routes_wiring.specs.declared.wiring.WiredKid.{WiredKid}
use Rattle.dsde_routes_wiring.specs.declared.wiring.Wiring.{Wiring}
use Rattle.dsde_routes_wiring.specs.declared.wiring.WiredKid.TheViews.{out-Wiring, out-WiredKid, roll-Wiring, roll-WiredKid}
use Rattle.dsde_routes_wiring.specs.Routes.{Ways, Numbered, no_ways, at_end, net_ways, crossed, crossing, around_of, links_of, Route, Around, Inner, inner_of, inner_of_kid, routes_in}

-- a wiring with the network at a place changed so
abbrev pub below_changed : (Wiring → Wiring) → Option Wiring → Option Wiring
below_changed change None = None
below_changed change (Some wiring) = Some (change wiring)

abbrev pub kid_changed : Name → (Wiring → Wiring) → WiredKid → WiredKid
kid_changed name change kid =
    if is_same_name (out-WiredKid kid).name name
    then roll-WiredKid (record (out-WiredKid kid) { below = below_changed change (out-WiredKid kid).below })
    else kid

abbrev pub with_kids : List WiredKid → Wiring → Wiring
with_kids kids wiring = roll-Wiring (record (out-Wiring wiring) { kids = kids })

abbrev pub changed : List Name → (Wiring → Wiring) → Wiring → Wiring
changed [] change wiring = change wiring
changed (name ∷ place) change wiring = with_kids (map (kid_changed name (changed place change)) (out-Wiring wiring).kids) wiring

-- a network without links and components
abbrev pub bared : Wiring → Wiring
bared wiring = roll-Wiring (record (out-Wiring wiring) { links = []; kids = [] })

-- what a network at a place has
abbrev pub below_at : {X : Type 0} → (Wiring → List X) → Option Wiring → List X
below_at own None = []
below_at own (Some wiring) = own wiring

abbrev pub kid_at : {X : Type 0} → Name → (Wiring → List X) → WiredKid → List X
kid_at name own kid = if is_same_name (out-WiredKid kid).name name then below_at own (out-WiredKid kid).below else []

abbrev pub at_place : {X : Type 0} → (Wiring → List X) → List Name → Wiring → List X
at_place own [] wiring = own wiring
at_place own (name ∷ place) wiring = flat_map (kid_at name (at_place own place)) (out-Wiring wiring).kids

-- the network there, and its components
abbrev pub nets_at : List Name → Wiring → List Wiring
nets_at = at_place (λ wiring. wiring ∷ [])

abbrev pub kids_at : List Name → Wiring → List WiredKid
kids_at = at_place (λ wiring. (out-Wiring wiring).kids)

-- a network with other links and components
abbrev pub renewed : List Link → List WiredKid → Wiring → Wiring
renewed links kids wiring = roll-Wiring (record (out-Wiring wiring) { links = links; kids = kids })

-- components that have one of these names, and the others
abbrev pub has_name : List Name → WiredKid → Bool
has_name names kid = list_any (is_same_name (out-WiredKid kid).name) names

abbrev pub going : List Name → List WiredKid → List WiredKid
going names kids = filter (has_name names) kids

abbrev pub staying : List Name → List WiredKid → List WiredKid
staying names kids = filter (λ kid. not (has_name names kid)) kids

-- A part seen by the routes alone that use a link of the network at a place in it: a route crosses over
-- a link if the way before the link passes there, or else the way after it.
abbrev pub nothing : Inner
nothing = record { ways = no_ways; routes = [] }

abbrev pub passing_below : (Wiring → Inner) → Option Wiring → Inner
passing_below passing None = nothing
passing_below passing (Some wiring) = passing wiring

abbrev pub passing_kid : Name → (Wiring → Inner) → WiredKid → Name × Inner
passing_kid name passing kid =
    ((out-WiredKid kid).name, if is_same_name (out-WiredKid kid).name name then passing_below passing (out-WiredKid kid).below else nothing)

abbrev pub crossed_between : Around → Around → Numbered → List Route
crossed_between befores afters link = crossed link (at_end Out befores link.1.from) (at_end Into afters link.1.to)

abbrev pub only : List (Name × Inner) → Around
only kids = record { net = no_ways; boss = no_ways; kids = kids }

-- the routes that pass, by what passes in the components, all, and what is left where the place is bare
abbrev pub routes_passing : List (Name × Inner) → Around → Around → List Numbered → List Route
routes_passing kids all past links =
    flat_map (crossed_between (only kids) all) links ++ (flat_map (crossed_between past (only kids)) links ++ flat_map (λ kid. kid.1.routes) kids)

abbrev pub passing : List Name → Wiring → Inner
passing [] wiring = record { ways = (inner_of wiring).ways; routes = crossing (around_of no_ways wiring) (links_of wiring) }
passing (name ∷ place) wiring =
    let kids : List (Name × Inner) = map (passing_kid name (passing place)) (out-Wiring wiring).kids in
    record {
      ways = net_ways (only kids) (links_of wiring);
      routes = routes_passing kids (around_of no_ways wiring) (around_of no_ways (changed (name ∷ place) bared wiring)) (links_of wiring);
    }

-- the same routes where these ways are beyond the network's own ports
abbrev pub through : Ways → List Name → Wiring → List Route
through net [] wiring = crossing (around_of net wiring) (links_of wiring)
through net (name ∷ place) wiring =
    routes_passing (map (passing_kid name (passing place)) (out-Wiring wiring).kids) (around_of net wiring) (around_of net (changed (name ∷ place) bared wiring)) (links_of wiring)

-- the routes that lie wholly inside components
abbrev pub inside : List WiredKid → List Route
inside kids = flat_map (λ kid. (inner_of_kid kid).1.routes) kids

-- The routes that a change of the network at a place touches, where these of its components come or go,
-- and the routes that it leaves, where these of its components stay.
abbrev pub touched : Ways → List Name → List WiredKid → Wiring → List Route
touched net place kids wiring = through net place wiring ++ inside kids

abbrev pub left : Ways → List Name → List WiredKid → Wiring → List Route
left net place kids wiring = routes_in net (changed place bared wiring) ++ inside kids
