-- Each route that passes a place goes over a link of the network there.
use Rattle.std.proofs.Common.{◌≡◌, ℕ, Bool, true, false, if◌then◌else◌, List, [], ◌∷◌, ◌++◌, map, sym, subst, Option, Some, None}
use Rattle.std.specs.List.{flat_map, AllByRecursion, enumerate_from}
use Rattle.dsde_bank.specs.declared.handle.Handle.{Handle}
use Rattle.dsde_values.specs.declared.name.Name.{Name}
use Rattle.dsde_routes_wiring.specs.given.structure.plan_End.{End}
use Rattle.dsde_routes_wiring.specs.given.structure.plan_Link.{Link}
use Rattle.dsde_routes_wiring.specs.given.structure.plan_Part.{Part}
use Rattle.dsde_routes_wiring.specs.given.structure.plan_Part_TheVariants as part
use Rattle.dsde_routes_wiring.specs.given.structure.Gather.{is_same_name}
use Rattle.dsde_routes_wiring.specs.declared.side.Side.{Side}
use Rattle.dsde_routes_wiring.specs.declared.side.Side.TheVariants.{Out, Into}
use Rattle.dsde_routes_wiring.specs.declared.wiring.WiredKid.{WiredKid}
use Rattle.dsde_routes_wiring.specs.declared.wiring.Wiring.{Wiring}
use Rattle.dsde_routes_wiring.specs.declared.wiring.WiredKid.TheViews.{out-Wiring, out-WiredKid}
use Rattle.dsde_routes_wiring.specs.Side.{near, far}
use Rattle.dsde_routes_wiring.specs.Routes.{Step, Way, Route, Ways, Around, Inner, Numbered, step_from, links_of, around_of, no_ways, is_border, extended, met, crossed, crossed_by, crossing, ways_by, net_ways, at_part, at_end, of_kid}
use Rattle.dsde_routes_wiring.specs.Places.{changed, bared, nets_at, kid_at, below_at, passing, passing_kid, passing_below, nothing, only, crossed_between, through}
use Rattle.dsde_routes_wiring.specs.Wired.{is_same_handle}
use Rattle.dsde_routes_wiring.specs.Touched.{passes}
use Rattle.dsde_repair_walks.proofs.Opens.{inner-is}
use Rattle.dsde_repair_walks.proofs.Each.{each-append, each-flat, each-of, each-weaker, each-map, each-if, each-front, each-back, any-left, any-right, any-head, any-tail}

module _ (m : Handle) where
  abbrev test : Step → Bool
  test step = is_same_handle step.net m

  abbrev pub WayPasses : Way → Type 0
  WayPasses way = passes m way.steps ≡ true

  abbrev pub RoutePasses : Route → Type 0
  RoutePasses route = passes m route.steps ≡ true

  abbrev Own : Numbered → Type 0
  Own link = test link.0 ≡ true

  -- a way that is extended by a link of the network, or that passed before
  first-step : (side : Side) (link : Numbered) (way : Way) → Own link → WayPasses (extended side link way)
  first-step Out link way is = any-head test link.0 way.steps is
  first-step Into link way is = any-right test way.steps (link.0 ∷ []) (any-head test link.0 [] is)

  more-steps : (side : Side) (link : Numbered) (way : Way) → WayPasses way → WayPasses (extended side link way)
  more-steps Out link way is = any-tail test link.0 way.steps is
  more-steps Into link way is = any-left test way.steps (link.0 ∷ []) is

  own-links : (handle : Handle) → is_same_handle handle m ≡ true → (links : List (ℕ × Link)) → AllByRecursion Own (map (step_from handle) links)
  own-links handle is [] = tt
  own-links handle is (link ∷ links) = (is, own-links handle is links)

  crossed-own : (link : Numbered) (befores afters : List Way) → Own link → AllByRecursion RoutePasses (crossed link befores afters)
  crossed-own link befores afters is =
      each-flat RoutePasses (λ before. map (λ after. met (extended Out link before) after) afters) befores
      (each-of _ (λ before. each-map RoutePasses (λ after. met (extended Out link before) after) afters
      (each-of _ (λ after. any-right test after.steps (extended Out link before).steps (first-step Out link before is)) afters)) befores)

  crossed-before : (link : Numbered) (befores afters : List Way) → AllByRecursion WayPasses befores → AllByRecursion RoutePasses (crossed link befores afters)
  crossed-before link befores afters each =
      each-flat RoutePasses (λ before. map (λ after. met (extended Out link before) after) afters) befores
      (each-weaker WayPasses _ (λ before is. each-map RoutePasses (λ after. met (extended Out link before) after) afters
      (each-of _ (λ after. any-right test after.steps (extended Out link before).steps (more-steps Out link before is)) afters)) befores each)

  crossed-after : (link : Numbered) (befores afters : List Way) → AllByRecursion WayPasses afters → AllByRecursion RoutePasses (crossed link befores afters)
  crossed-after link befores afters each =
      each-flat RoutePasses (λ before. map (λ after. met (extended Out link before) after) afters) befores
      (each-of _ (λ before. each-map RoutePasses (λ after. met (extended Out link before) after) afters
      (each-weaker WayPasses _ (λ after is. any-left test after.steps (extended Out link before).steps is) afters each)) befores)

  -- over the links of the network itself
  here-ways : (around : Around) (links : List Numbered) → AllByRecursion Own links → (side : Side) (port : ℕ) → AllByRecursion WayPasses (net_ways around links side port)
  here-ways around links own side port =
      each-flat WayPasses (ways_by side around port) links
      (each-weaker Own _ (λ link is. each-if WayPasses (is_border port (near side link.1)) _ (each-map WayPasses (extended side link) _ (each-of _ (λ way. first-step side link way is) _))) links own)

  pub here-crossing : (around : Around) (links : List Numbered) → AllByRecursion Own links → AllByRecursion RoutePasses (crossing around links)
  here-crossing around links own =
      each-flat RoutePasses (crossed_by around) links (each-weaker Own _ (λ link is. crossed-own link (at_end Out around link.1.from) (at_end Into around link.1.to) is) links own)

  -- over links to parts in which all ways pass
  abbrev AllPass : Around → Type 0
  AllPass around = (side : Side) (end : End) → AllByRecursion WayPasses (at_end side around end)

  above-ways : (around : Around) → AllPass around → (links : List Numbered) (side : Side) (port : ℕ) → AllByRecursion WayPasses (net_ways around links side port)
  above-ways around all links side port =
      each-flat WayPasses (ways_by side around port) links
      (each-of _ (λ link. each-if WayPasses (is_border port (near side link.1)) _ (each-map WayPasses (extended side link) _ (each-weaker WayPasses _ (λ way is. more-steps side link way is) _ (all side (far side link.1))))) links)

  above-crossing : (passing whole past : Around) → AllPass passing → (links : List Numbered) (rest : List Route) → AllByRecursion RoutePasses rest →
      AllByRecursion RoutePasses (flat_map (crossed_between passing whole) links ++ (flat_map (crossed_between past passing) links ++ rest))
  above-crossing passing whole past all links rest others =
      let outs : AllByRecursion RoutePasses (flat_map (crossed_between passing whole) links) =
      each-flat RoutePasses (crossed_between passing whole) links
      (each-of _ (λ link. crossed-before link (at_end Out passing link.1.from) (at_end Into whole link.1.to) (all Out link.1.from)) links) in
      let ins : AllByRecursion RoutePasses (flat_map (crossed_between past passing) links) =
      each-flat RoutePasses (crossed_between past passing) links
      (each-of _ (λ link. crossed-after link (at_end Out past link.1.from) (at_end Into passing link.1.to) (all Into link.1.to)) links) in
      each-append RoutePasses (flat_map (crossed_between passing whole) links) (flat_map (crossed_between past passing) links ++ rest) outs
      (each-append RoutePasses (flat_map (crossed_between past passing) links) rest ins others)

  record IsPassed (inner : Inner) : Type 0 where
    ways : (side : Side) (port : ℕ) → AllByRecursion WayPasses (inner.ways side port)
    routes : AllByRecursion RoutePasses inner.routes

  abbrev IsOf : Wiring → Type 0
  IsOf wiring = is_same_handle (out-Wiring wiring).me m ≡ true

  abbrev PassesAt : List Name → Type 0
  PassesAt place = (wiring : Wiring) → AllByRecursion IsOf (nets_at place wiring) → IsPassed (passing place wiring)

  none : IsPassed nothing
  none = record { ways = λ side port. tt; routes = tt }

  module _ (name : Name) (place : List Name) (at : PassesAt place) where
    kid-passes : (kid : WiredKid) → AllByRecursion IsOf (kid_at name (nets_at place) kid) → IsPassed (passing_kid name (passing place) kid).1
    kid-passes kid = by (is_same_name (out-WiredKid kid).name name) (out-WiredKid kid).below where
      by : (same : Bool) (below : Option Wiring) → AllByRecursion IsOf (if same then below_at (nets_at place) below else []) → IsPassed (if same then passing_below (passing place) below else nothing)
      by false below are = none
      by true None are = none
      by true (Some wiring) are = at wiring are

    kids-pass : (kids : List WiredKid) → AllByRecursion IsOf (flat_map (kid_at name (nets_at place)) kids) → AllByRecursion (λ (kid : Name × Inner). IsPassed kid.1) (map (passing_kid name (passing place)) kids)
    kids-pass [] are = tt
    kids-pass (kid ∷ kids) are =
        (kid-passes kid (each-front IsOf (kid_at name (nets_at place) kid) (flat_map (kid_at name (nets_at place)) kids) are), kids-pass kids (each-back IsOf (kid_at name (nets_at place) kid) (flat_map (kid_at name (nets_at place)) kids) are))

  all-pass : (kids : List (Name × Inner)) → AllByRecursion (λ (kid : Name × Inner). IsPassed kid.1) kids → AllPass (only kids)
  all-pass kids are side end = by end.part where
    by : (own_part : Part) → AllByRecursion WayPasses (at_part side (only kids) own_part end.port)
    by part.Net = tt
    by part.Boss = tt
    by (part.Kid wanted) = each-flat WayPasses (of_kid side wanted end.port) kids
        (each-weaker (λ (kid : Name × Inner). IsPassed kid.1) (λ (kid : Name × Inner). AllByRecursion WayPasses (of_kid side wanted end.port kid)) (λ kid is. each-if WayPasses (is_same_name kid.0 wanted) (kid.1.ways side end.port) (is.ways side end.port)) kids are)

  kid-routes : (kids : List (Name × Inner)) → AllByRecursion (λ (kid : Name × Inner). IsPassed kid.1) kids → AllByRecursion RoutePasses (flat_map (λ (kid : Name × Inner). kid.1.routes) kids)
  kid-routes kids are =
      each-flat RoutePasses (λ (kid : Name × Inner). kid.1.routes) kids
      (each-weaker (λ (kid : Name × Inner). IsPassed kid.1) (λ (kid : Name × Inner). AllByRecursion RoutePasses kid.1.routes) (λ kid is. is.routes) kids are)

  passes-at : (place : List Name) → PassesAt place
  passes-at [] wiring are =
      let own : AllByRecursion Own (links_of wiring) = own-links (out-Wiring wiring).me are.0 (enumerate_from 0 (out-Wiring wiring).links) in
      record {
        ways = subst (λ (inner : Inner). (side : Side) (port : ℕ) → AllByRecursion WayPasses (inner.ways side port)) (sym (inner-is wiring))
            (here-ways (around_of no_ways wiring) (links_of wiring) own);
        routes = here-crossing (around_of no_ways wiring) (links_of wiring) own;
      }
  passes-at (name ∷ place) wiring are =
      let kids : List (Name × Inner) = map (passing_kid name (passing place)) (out-Wiring wiring).kids in
      let each : AllByRecursion (λ (kid : Name × Inner). IsPassed kid.1) kids = kids-pass name place (passes-at place) (out-Wiring wiring).kids are in
      record {
        ways = above-ways (only kids) (all-pass kids each) (links_of wiring);
        routes = above-crossing (only kids) (around_of no_ways wiring) (around_of no_ways (changed (name ∷ place) bared wiring)) (all-pass kids each) (links_of wiring)
            (flat_map (λ (kid : Name × Inner). kid.1.routes) kids) (kid-routes kids each);
      }

  pub through-passes : (net : Ways) (place : List Name) (wiring : Wiring) → AllByRecursion IsOf (nets_at place wiring) → AllByRecursion RoutePasses (through net place wiring)
  through-passes net [] wiring are = here-crossing (around_of net wiring) (links_of wiring) (own-links (out-Wiring wiring).me are.0 (enumerate_from 0 (out-Wiring wiring).links))
  through-passes net (name ∷ place) wiring are =
      let kids : List (Name × Inner) = map (passing_kid name (passing place)) (out-Wiring wiring).kids in
      let each : AllByRecursion (λ (kid : Name × Inner). IsPassed kid.1) kids = kids-pass name place (passes-at place) (out-Wiring wiring).kids are in
      above-crossing (only kids) (around_of net wiring) (around_of net (changed (name ∷ place) bared wiring)) (all-pass kids each) (links_of wiring)
      (flat_map (λ (kid : Name × Inner). kid.1.routes) kids) (kid-routes kids each)
