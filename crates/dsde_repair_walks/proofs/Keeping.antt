-- What ways keep where they go on over links, and routes where two ways meet, the ways and the routes of a part keep.
use Rattle.std.proofs.Common.{ℕ, List, map}
use Rattle.std.specs.List.{flat_map, AllByRecursion}
use Rattle.dsde_bank.specs.declared.handle.Handle.{Handle}
use Rattle.dsde_values.specs.declared.name.Name.{Name}
use Rattle.dsde_routes_wiring.specs.given.structure.plan_End.{End}
use Rattle.dsde_routes_wiring.specs.given.structure.plan_Part.{Part}
use Rattle.dsde_routes_wiring.specs.given.structure.plan_Part_TheVariants as part
use Rattle.dsde_routes_wiring.specs.given.structure.Gather.{is_same_name}
use Rattle.dsde_routes_wiring.specs.declared.side.Side.{Side}
use Rattle.dsde_routes_wiring.specs.declared.side.Side.TheVariants.{Out, Into}
use Rattle.dsde_routes_wiring.specs.Side.{near, far}
use Rattle.dsde_routes_wiring.specs.Routes.{Way, Route, Ways, Around, Inner, Numbered, own, no_ways, within, is_border, extended, met, crossed_by, crossing, ways_by, net_ways, routes_by, at_part, at_end, of_kid, inner_net}
use Rattle.dsde_repair_walks.proofs.Each.{each-append, each-flat, each-weaker, each-map, each-if}

-- all ways and routes of a part
pub record Keeps (W : Way → Type 0) (R : Route → Type 0) (inner : Inner) : Type 0 where
  pub ways : (side : Side) (port : ℕ) → AllByRecursion W (inner.ways side port)
  pub routes : AllByRecursion R inner.routes

module _ (W : Way → Type 0) (R : Route → Type 0) (L : Numbered → Type 0) (goes_on : (side : Side) (link : Numbered) (way : Way) → L link → W way → W (extended side link way))
    (meets : (before after : Way) → W before → W after → R (met before after)) where
  abbrev AllKeep : Around → Type 0
  AllKeep around = (side : Side) (end : End) → AllByRecursion W (at_end side around end)

  abbrev EachWay : Ways → Type 0
  EachWay ways = (side : Side) (port : ℕ) → AllByRecursion W (ways side port)

  abbrev KidKeeps : Name × Inner → Type 0
  KidKeeps kid = Keeps W R kid.1

  ways-keep : (around : Around) → AllKeep around → (links : List Numbered) → AllByRecursion L links → EachWay (net_ways around links)
  ways-keep around all links each side port =
      each-flat W (ways_by side around port) links
      (each-weaker L _ (λ link is. each-if W (is_border port (near side link.1)) (map (extended side link) (at_end side around (far side link.1)))
      (each-map W (extended side link) (at_end side around (far side link.1)) (each-weaker W _ (λ way keeps. goes_on side link way is keeps) (at_end side around (far side link.1)) (all side (far side link.1))))) links each)

  crossing-keep : (around : Around) → AllKeep around → (links : List Numbered) → AllByRecursion L links → AllByRecursion R (crossing around links)
  crossing-keep around all links each =
      each-flat R (crossed_by around) links
      (each-weaker L _ (λ link is. each-flat R (λ before. map (λ after. met (extended Out link before) after) (at_end Into around link.1.to)) (at_end Out around link.1.from)
      (each-weaker W _ (λ before keeps. each-map R (λ after. met (extended Out link before) after) (at_end Into around link.1.to)
      (each-weaker W _ (λ after also. meets (extended Out link before) after (goes_on Out link before is keeps) also) (at_end Into around link.1.to) (all Into link.1.to))) (at_end Out around link.1.from) (all Out link.1.from))) links each)

  around-keeps : (net : Ways) (boss : Handle) (kids : List (Name × Inner)) → EachWay net → EachWay (own boss) → AllByRecursion KidKeeps kids → AllKeep (within net boss kids)
  around-keeps net boss kids outside is keep side end = by end.part where
    by : (own_part : Part) → AllByRecursion W (at_part side (within net boss kids) own_part end.port)
    by part.Net = outside side end.port
    by part.Boss = is side end.port
    by (part.Kid wanted) = each-flat W (of_kid side wanted end.port) kids
        (each-weaker KidKeeps (λ (kid : Name × Inner). AllByRecursion W (of_kid side wanted end.port kid)) (λ kid keeps. each-if W (is_same_name kid.0 wanted) (kid.1.ways side end.port) (keeps.ways side end.port)) kids keep)

  pub routes-keep : (net : Ways) (boss : Handle) (kids : List (Name × Inner)) (links : List Numbered) → EachWay net → EachWay (own boss) → AllByRecursion KidKeeps kids → AllByRecursion L links →
      AllByRecursion R (routes_by (within net boss kids) links)
  routes-keep net boss kids links outside is keep each =
      each-append R (crossing (within net boss kids) links) (flat_map (λ (kid : Name × Inner). kid.1.routes) kids)
      (crossing-keep (within net boss kids) (around-keeps net boss kids outside is keep) links each)
      (each-flat R (λ (kid : Name × Inner). kid.1.routes) kids (each-weaker KidKeeps (λ (kid : Name × Inner). AllByRecursion R kid.1.routes) (λ kid keeps. keeps.routes) kids keep))

  pub net-keeps : (boss : Handle) (kids : List (Name × Inner)) (links : List Numbered) → EachWay (own boss) → AllByRecursion KidKeeps kids → AllByRecursion L links → Keeps W R (inner_net boss kids links)
  net-keeps boss kids links is keep each = record {
    ways = ways-keep (within no_ways boss kids) (around-keeps no_ways boss kids (λ side port. tt) is keep) links each;
    routes = routes-keep no_ways boss kids links (λ side port. tt) is keep each;
  }
