-- Routes that are put together where they cross over are those that are gathered from their targets.
use Rattle.std.proofs.Common.{◌≡◌, ℕ, ◌+◌, ◌==◌, ◌&&◌, Bool, true, false, if◌then◌else◌, List, [], ◌∷◌, ◌++◌, map, refl, sym, ap, ap₂, ◌∙◌, arith, zero-add, add-zero, append_assoc, Option, Some, None}
use Rattle.std.specs.List.{flat_map, AllByRecursion}
use Rattle.std.specs.Option.{option_to_list}
use Rattle.dsde_bank.specs.declared.handle.Handle.{Handle}
use Rattle.dsde_values.specs.declared.name.Name.{Name}
use Rattle.dsde_routes_wiring.specs.given.structure.plan_End.{End}
use Rattle.dsde_routes_wiring.specs.given.structure.plan_Part.{Part}
use Rattle.dsde_routes_wiring.specs.given.structure.plan_Part_TheVariants as part
use Rattle.dsde_routes_wiring.specs.given.structure.plan_Via.{Via}
use Rattle.dsde_routes_wiring.specs.given.structure.Gather.{is_same_name, is_part}
use Rattle.dsde_routes_wiring.specs.declared.side.Side.TheVariants.{Out, Into}
use Rattle.dsde_routes_wiring.specs.declared.wiring.WiredKid.{WiredKid}
use Rattle.dsde_routes_wiring.specs.declared.wiring.Wiring.{Wiring}
use Rattle.dsde_routes_wiring.specs.declared.wiring.WiredKid.TheFolds.{para-roll-Wiring, para-roll-WiredKid}
use Rattle.dsde_routes_wiring.specs.declared.wiring.WiredKid.TheOpen.{Wiring-F, WiredKid-F}
use Rattle.dsde_routes_wiring.specs.declared.wiring.WiredKid.TheViews.{out-Wiring, out-WiredKid, roll-WiredKid, roll-out-Wiring, roll-out-WiredKid}
use Rattle.dsde_routes_wiring.specs.Routes.{Step, Way, Route, Around, Inner, Numbered, own, no_ways, links_of, around_of, within, extended, met, crossed, crossed_by, crossing, ways_by, net_ways, routes_in, routes, at_part, at_end, of_kid, inner_of, inner_of_kid, below_step}
use Rattle.dsde_routes_wiring.specs.Gathered.{Arrivals, arriving_by, arriving, ended, at_port, entry, NetReach, KidReach, reach_net, reach_below, reach_of_net, reach_of_kid, reach, kid_reach, gathered}
use Rattle.dsde_repair_walks.specs.Weights.{weight, weight-append, weight-flat, weight-map, weight-same, weight-adds, weight-zero, weight-swap}
use Rattle.dsde_repair_walks.proofs.Opens.{below_inner, inner-is, kid-is}
use Rattle.dsde_repair_walks.proofs.Adding.{crossed_passing, AddsAround, rows-add, crossed-weight}
use Rattle.dsde_routes_wiring.specs.Opened.{Beneath, each_wiring}

abbrev pair : WiredKid → WiredKid × KidReach
pair kid = (kid, kid_reach kid)

abbrev pub below_reach : Option Wiring → Option NetReach
below_reach None = None
below_reach (Some wiring) = Some (reach wiring)

reach-is : (wiring : Wiring) → reach wiring ≡ reach_net (out-Wiring wiring).boss (map pair (out-Wiring wiring).kids) (links_of wiring)
reach-is wiring = ap reach (sym (roll-out-Wiring wiring)) ∙ para-roll-Wiring KidReach NetReach reach_of_kid reach_of_net (out-Wiring wiring)

kid-reach-below : (name : Name) (handle : Handle) (below : Option Wiring) → kid_reach (roll-WiredKid (record { name = name; handle = handle; below = below })) ≡ reach_below handle (below_reach below)
kid-reach-below name handle None = para-roll-WiredKid KidReach NetReach reach_of_kid reach_of_net (record { name = name; handle = handle; below = None })
kid-reach-below name handle (Some wiring) = para-roll-WiredKid KidReach NetReach reach_of_kid reach_of_net (record { name = name; handle = handle; below = Some wiring })

pub kid-reach-is : (kid : WiredKid) → kid_reach kid ≡ reach_below (out-WiredKid kid).handle (below_reach (out-WiredKid kid).below)
kid-reach-is kid = ap kid_reach (sym (roll-out-WiredKid kid)) ∙ kid-reach-below (out-WiredKid kid).name (out-WiredKid kid).handle (out-WiredKid kid).below

inner-pairs : (kids : List WiredKid) → map (λ (kid : WiredKid × KidReach). inner_of_kid kid.0) (map pair kids) ≡ map inner_of_kid kids
inner-pairs [] = refl
inner-pairs (kid ∷ kids) = ap (λ others. inner_of_kid kid ∷ others) (inner-pairs kids)

reach-pairs : (arrivals : Name → Arrivals) (kids : List WiredKid) →
    flat_map (λ (kid : WiredKid × KidReach). kid.1 (arrivals (out-WiredKid kid.0).name)) (map pair kids) ≡ flat_map (λ kid. kid_reach kid (arrivals (out-WiredKid kid).name)) kids
reach-pairs arrivals [] = refl
reach-pairs arrivals (kid ∷ kids) = ap (λ others. kid_reach kid (arrivals (out-WiredKid kid).name) ++ others) (reach-pairs arrivals kids)

-- what stands around the links of a wiring that is entered by these ways
abbrev pub entered : (ℕ → List Way) → Wiring → Around
entered ins wiring = around_of (entry ins) wiring

pub reach-opened : (wiring : Wiring) (ins : ℕ → List Way) → reach wiring ins
    ≡ map (ended (out-Wiring wiring).boss) (arriving (entered ins wiring) (links_of wiring) part.Boss)
    ++ flat_map (λ kid. kid_reach kid (arriving (entered ins wiring) (links_of wiring) (part.Kid (out-WiredKid kid).name))) (out-Wiring wiring).kids
reach-opened wiring ins =
    let y : Wiring-F WiredKid Wiring = out-Wiring wiring in
    let whole : List (Name × Inner) → List Route = λ kids.
    map (ended y.boss) (arriving (within (entry ins) y.boss kids) (links_of wiring) part.Boss)
    ++ flat_map (λ (kid : WiredKid × KidReach). kid.1 (arriving (within (entry ins) y.boss kids) (links_of wiring) (part.Kid (out-WiredKid kid.0).name))) (map pair y.kids) in
    ap (λ (own : NetReach). own ins) (reach-is wiring) ∙ ap whole (inner-pairs y.kids)
    ∙ ap (λ others. map (ended y.boss) (arriving (entered ins wiring) (links_of wiring) part.Boss) ++ others) (reach-pairs (λ name. arriving (entered ins wiring) (links_of wiring) (part.Kid name)) y.kids)

-- a link belongs to the way before it or to the way after it
met-assoc : (link : Numbered) (before after : Way) → met (extended Out link before) after ≡ met before (extended Into link after)
met-assoc link before after =
    let built : List Step → List Via → Route = λ steps chain. record { source = before.handle; source_port = before.port; target = after.handle; target_port = after.port; steps = steps; chain = chain } in
    ap₂ built (sym (append_assoc after.steps (link.0 ∷ []) before.steps)) (append_assoc before.chain (option_to_list link.1.via) after.chain)

nothing-crosses : (g : Route → ℕ) (link : Numbered) (befores : List Way) → weight g (crossed link befores []) ≡ 0
nothing-crosses g link befores = crossed-weight g link befores [] ∙ weight-zero (λ _. 0) (λ _. refl) befores

abbrev onward : (Route → ℕ) → Inner → ℕ × Way → ℕ
onward g inner arrival = weight (λ after. g (met arrival.1 after)) (inner.ways Into arrival.0)

-- a network that is entered
module _ (g : Route → ℕ) (boss : Handle) (kids : List (Name × Inner)) (arrivals : Arrivals) where
  abbrev ins : ℕ → List Way
  ins port = at_port port arrivals

  abbrev whole : Around
  whole = within (entry ins) boss kids

  abbrev first : Around
  first = record { net = entry ins; boss = no_ways; kids = [] }

  abbrev second : Around
  second = within no_ways boss kids

  entry-adds : AddsAround whole first second
  entry-adds h side end = by end.part where
    by : (own_part : Part) → weight h (at_part side whole own_part end.port) ≡ weight h (at_part side first own_part end.port) + weight h (at_part side second own_part end.port)
    by part.Net = sym (add-zero (weight h (entry ins side end.port)))
    by part.Boss = sym (zero-add (weight h (own boss side end.port)))
    by (part.Kid wanted) = sym (zero-add (weight h (flat_map (of_kid side wanted end.port) kids)))

  into-whole : (own_part : Part) (port : ℕ) → at_part Into whole own_part port ≡ at_part Into second own_part port
  into-whole part.Net port = refl
  into-whole part.Boss port = refl
  into-whole (part.Kid wanted) port = refl

  into-first : (own_part : Part) (port : ℕ) → at_part Into first own_part port ≡ []
  into-first part.Net port = refl
  into-first part.Boss port = refl
  into-first (part.Kid wanted) port = refl

  from-first : (link : Numbered) (afters : List Way) (port : ℕ) (own_part : Part) →
      weight g (crossed link (at_part Out first own_part port) afters)
      ≡ weight (λ arrival. weight (λ after. g (met arrival.1 after)) (if is_part own_part part.Net && port == arrival.0 then map (extended Into link) afters else [])) arrivals
  from-first link afters port part.Net =
      let over : Way → ℕ = λ before. weight (λ after. g (met (extended Out link before) after)) afters in
      crossed-weight g link (at_port port arrivals) afters ∙ weight-flat over (λ (arrival : ℕ × Way). if port == arrival.0 then arrival.1 ∷ [] else []) arrivals
      ∙ weight-same _ _ (λ (arrival : ℕ × Way). by arrival.1 (port == arrival.0)) arrivals
    where
      by : (way : Way) (here : Bool) → weight (λ before. weight (λ after. g (met (extended Out link before) after)) afters) (if here then way ∷ [] else [])
          ≡ weight (λ after. g (met way after)) (if here then map (extended Into link) afters else [])
      by way true = add-zero (weight (λ after. g (met (extended Out link way) after)) afters) ∙ weight-same _ _ (λ after. ap g (met-assoc link way after)) afters ∙ sym (weight-map (λ after. g (met way after)) (extended Into link) afters)
      by way false = refl
  from-first link afters port part.Boss = sym (weight-zero (λ (arrival : ℕ × Way). 0) (λ arrival. refl) arrivals)
  from-first link afters port (part.Kid wanted) = sym (weight-zero (λ (arrival : ℕ × Way). 0) (λ arrival. refl) arrivals)

  by-link : (link : Numbered) → weight g (crossed_passing first whole second link) ≡ weight (λ arrival. weight (λ after. g (met arrival.1 after)) (ways_by Into second arrival.0 link)) arrivals
  by-link link =
      let from : End = link.1.from in
      let to : End = link.1.to in
      weight-append g (crossed link (at_end Out first from) (at_end Into whole to)) (crossed link (at_end Out second from) (at_end Into first to))
      ∙ ap (λ afters. weight g (crossed link (at_end Out first from) afters) + weight g (crossed link (at_end Out second from) (at_end Into first to))) (into-whole to.part to.port)
      ∙ ap (λ n. weight g (crossed link (at_end Out first from) (at_end Into second to)) + n) (ap (λ afters. weight g (crossed link (at_end Out second from) afters)) (into-first to.part to.port) ∙ nothing-crosses g link (at_end Out second from))
      ∙ add-zero (weight g (crossed link (at_end Out first from) (at_end Into second to)))
      ∙ from-first link (at_end Into second to) from.port from.part

  pub entered-crossing : (links : List Numbered) → weight g (crossing whole links)
      ≡ weight (λ arrival. weight (λ after. g (met arrival.1 after)) (net_ways second links Into arrival.0)) arrivals + weight g (crossing second links)
  entered-crossing links =
      rows-add whole first second entry-adds g links
      ∙ ap (λ n. n + weight g (crossing second links))
      (weight-flat g (crossed_passing first whole second) links ∙ weight-same _ _ by-link links
      ∙ weight-swap (λ link (arrival : ℕ × Way). weight (λ after. g (met arrival.1 after)) (ways_by Into second arrival.0 link)) links arrivals
      ∙ weight-same _ _ (λ (arrival : ℕ × Way). sym (weight-flat (λ after. g (met arrival.1 after)) (ways_by Into second arrival.0) links)) arrivals)

abbrev NetClaim : Wiring → Type 0
NetClaim wiring = (g : Route → ℕ) (ins : ℕ → List Way) → weight g (reach wiring ins) ≡ weight g (routes_in (entry ins) wiring)

inner-routes : (wiring : Wiring) → (inner_of wiring).routes ≡ routes_in no_ways wiring
inner-routes wiring = ap (λ (inner : Inner). inner.routes) (inner-is wiring)

three : (x y z a b c : ℕ) → x ≡ a + c → a ≡ y + b → z ≡ b + c → x ≡ z + y
three x y z a b c p q r = omega arith

-- a component at which these ways arrive
kid-claim : (kid : WiredKid) → Beneath NetClaim (out-WiredKid kid).below → (g : Route → ℕ) (arrivals : Arrivals) →
    weight g (kid_reach kid arrivals) ≡ weight g (inner_of_kid kid).1.routes + weight (onward g (inner_of_kid kid).1) arrivals
kid-claim kid claim g arrivals =
    let y : WiredKid-F WiredKid Wiring = out-WiredKid kid in
    ap (λ (own : KidReach). weight g (own arrivals)) (kid-reach-is kid) ∙ by y.below claim
    ∙ ap (λ (own : Name × Inner). weight g own.1.routes + weight (onward g own.1) arrivals) (sym (kid-is kid))
  where
    by : (below : Option Wiring) → Beneath NetClaim below → weight g (reach_below (out-WiredKid kid).handle (below_reach below) arrivals)
        ≡ weight g (below_step (out-WiredKid kid).handle (below_inner below)).routes + weight (onward g (below_step (out-WiredKid kid).handle (below_inner below))) arrivals
    by None own_claim =
        weight-map g (ended (out-WiredKid kid).handle) arrivals ∙ weight-same _ _ (λ (arrival : ℕ × Way). sym (add-zero (g (ended (out-WiredKid kid).handle arrival)))) arrivals
        ∙ sym (zero-add _)
    by (Some wiring) own_claim =
        let z : Wiring-F WiredKid Wiring = out-Wiring wiring in
        let kids : List (Name × Inner) = map inner_of_kid z.kids in
        own_claim g (λ port. at_port port arrivals)
        ∙ three _ _ _ _ _ _
        (weight-append g (crossing (within (entry (λ port. at_port port arrivals)) z.boss kids) (links_of wiring)) (flat_map (λ (own : Name × Inner). own.1.routes) kids))
        (entered-crossing g z.boss kids arrivals (links_of wiring))
        (ap (weight g) (inner-routes wiring) ∙ weight-append g (crossing (within no_ways z.boss kids) (links_of wiring)) (flat_map (λ (own : Name × Inner). own.1.routes) kids))
        ∙ ap (λ (inner : Inner). weight g (inner_of wiring).routes + weight (onward g inner) arrivals) (sym (inner-is wiring))

-- over one link: to the executive, or to a component
module _ (g : Route → ℕ) (boss : Handle) (around : Around) (link : Numbered) (befores : List Way) where
  to-kid : (port : ℕ) (wanted : Name) (kid : WiredKid) →
      weight (λ before. weight (λ after. g (met (extended Out link before) after)) (of_kid Into wanted port (inner_of_kid kid))) befores
      ≡ weight (onward g (inner_of_kid kid).1) (if is_same_name (out-WiredKid kid).name wanted then map (λ way. (port, extended Out link way)) befores else [])
  to-kid port wanted kid =
      ap (λ (own : Name). weight (λ before. weight (λ after. g (met (extended Out link before) after)) (if is_same_name own wanted then (inner_of_kid kid).1.ways Into port else [])) befores) (ap (λ (own : Name × Inner). own.0) (kid-is kid))
      ∙ by (is_same_name (out-WiredKid kid).name wanted)
    where
      by : (same : Bool) → weight (λ before. weight (λ after. g (met (extended Out link before) after)) (if same then (inner_of_kid kid).1.ways Into port else [])) befores
          ≡ weight (onward g (inner_of_kid kid).1) (if same then map (λ way. (port, extended Out link way)) befores else [])
      by true = sym (weight-map (onward g (inner_of_kid kid).1) (λ way. (port, extended Out link way)) befores)
      by false = weight-zero (λ _. 0) (λ _. refl) befores

  to-part : (ins : ℕ → List Way) (kids : List WiredKid) (port : ℕ) (own_part : Part) →
      weight g (crossed link befores (at_part Into (within (entry ins) boss (map inner_of_kid kids)) own_part port))
      ≡ weight (λ arrival. g (ended boss arrival)) (if is_part part.Boss own_part then map (λ way. (port, extended Out link way)) befores else [])
      + weight (λ kid. weight (onward g (inner_of_kid kid).1) (if is_part (part.Kid (out-WiredKid kid).name) own_part then map (λ way. (port, extended Out link way)) befores else [])) kids
  to-part ins kids port part.Net = nothing-crosses g link befores ∙ sym (weight-zero (λ (kid : WiredKid). 0) (λ kid. refl) kids) ∙ sym (zero-add _)
  to-part ins kids port part.Boss =
      crossed-weight g link befores (own boss Into port)
      ∙ weight-same _ _ (λ before. add-zero (g (ended boss (port, extended Out link before)))) befores
      ∙ sym (weight-map (λ arrival. g (ended boss arrival)) (λ way. (port, extended Out link way)) befores)
      ∙ sym (add-zero _) ∙ ap (λ n. weight (λ arrival. g (ended boss arrival)) (map (λ way. (port, extended Out link way)) befores) + n) (sym (weight-zero (λ (kid : WiredKid). 0) (λ kid. refl) kids))
  to-part ins kids port (part.Kid wanted) =
      let over : Way → Way → ℕ = λ before after. g (met (extended Out link before) after) in
      crossed-weight g link befores (flat_map (of_kid Into wanted port) (map inner_of_kid kids))
      ∙ weight-same _ _ (λ before. weight-flat (over before) (of_kid Into wanted port) (map inner_of_kid kids) ∙ weight-map (λ kid. weight (over before) (of_kid Into wanted port kid)) inner_of_kid kids) befores
      ∙ weight-swap (λ before kid. weight (over before) (of_kid Into wanted port (inner_of_kid kid))) befores kids
      ∙ weight-same _ _ (to-kid port wanted) kids
      ∙ sym (zero-add _)

kids-claim : (g : Route → ℕ) (arrivals : Name → Arrivals) (kids : List WiredKid) → AllByRecursion (λ kid. Beneath NetClaim (out-WiredKid kid).below) kids →
    weight g (flat_map (λ kid. kid_reach kid (arrivals (out-WiredKid kid).name)) kids)
    ≡ weight g (flat_map (λ (kid : Name × Inner). kid.1.routes) (map inner_of_kid kids)) + weight (λ kid. weight (onward g (inner_of_kid kid).1) (arrivals (out-WiredKid kid).name)) kids
kids-claim g arrivals [] claims = refl
kids-claim g arrivals (kid ∷ kids) claims =
    five _ _ _ _ _ _ _ _
    (weight-append g (kid_reach kid (arrivals (out-WiredKid kid).name)) (flat_map (λ kid. kid_reach kid (arrivals (out-WiredKid kid).name)) kids))
    (weight-append g (inner_of_kid kid).1.routes (flat_map (λ (kid : Name × Inner). kid.1.routes) (map inner_of_kid kids)))
    (kid-claim kid claims.0 g (arrivals (out-WiredKid kid).name))
    (kids-claim g arrivals kids claims.1)
  where
    five : (x xs yy a c b bs xx : ℕ) → xx ≡ x + xs → yy ≡ a + c → x ≡ a + b → xs ≡ c + bs → xx ≡ yy + (b + bs)
    five x xs yy a c b bs xx p q r s = omega arith

net-claim : (wiring : Wiring) → AllByRecursion (λ kid. Beneath NetClaim (out-WiredKid kid).below) (out-Wiring wiring).kids → NetClaim wiring
net-claim wiring claims g ins =
    let y : Wiring-F WiredKid Wiring = out-Wiring wiring in
    let A : Around = entered ins wiring in
    let links : List Numbered = links_of wiring in
    let kids : List (Name × Inner) = map inner_of_kid y.kids in
    let to_boss : Numbered → ℕ = λ link. weight (λ arrival. g (ended y.boss arrival)) (arriving_by A part.Boss link) in
    let to_kid : Numbered → WiredKid → ℕ = λ link kid. weight (onward g (inner_of_kid kid).1) (arriving_by A (part.Kid (out-WiredKid kid).name) link) in
    let crosses : weight g (crossing A links) ≡ weight to_boss links + weight (λ link. weight (to_kid link) y.kids) links =
    weight-flat g (crossed_by A) links ∙ weight-adds (λ link. weight g (crossed_by A link)) to_boss (λ link. weight (to_kid link) y.kids)
    (λ link. to-part g y.boss A link (at_end Out A link.1.from) ins y.kids link.1.to.port link.1.to.part) links in
    let bosses : weight g (map (ended y.boss) (arriving A links part.Boss)) ≡ weight to_boss links =
    weight-map g (ended y.boss) (arriving A links part.Boss) ∙ weight-flat (λ arrival. g (ended y.boss arrival)) (arriving_by A part.Boss) links in
    let swapped : weight (λ kid. weight (onward g (inner_of_kid kid).1) (arriving A links (part.Kid (out-WiredKid kid).name))) y.kids ≡ weight (λ link. weight (to_kid link) y.kids) links =
    weight-same _ _ (λ kid. weight-flat (onward g (inner_of_kid kid).1) (arriving_by A (part.Kid (out-WiredKid kid).name)) links) y.kids
    ∙ weight-swap (λ kid link. to_kid link kid) y.kids links in
    ap (weight g) (reach-opened wiring ins)
    ∙ six _ _ _ _ _ _ _ _ _
    (weight-append g (map (ended y.boss) (arriving A links part.Boss)) (flat_map (λ kid. kid_reach kid (arriving A links (part.Kid (out-WiredKid kid).name))) y.kids))
    bosses (kids-claim g (λ name. arriving A links (part.Kid name)) y.kids claims) swapped crosses
    (weight-append g (crossing A links) (flat_map (λ (kid : Name × Inner). kid.1.routes) kids))
  where
    six : (all b k bs r o os c whole : ℕ) → all ≡ b + k → b ≡ bs → k ≡ r + o → o ≡ os → c ≡ bs + os → whole ≡ c + r → all ≡ whole
    six all b k bs r o os c whole p q s t u v = omega arith

pub each-claim : (wiring : Wiring) → NetClaim wiring
each-claim = each_wiring NetClaim net-claim

-- the whole: the root's own ports
pub routes-gathered : (g : Route → ℕ) (wiring : Wiring) → weight g (routes wiring) ≡ weight g (gathered wiring)
routes-gathered g wiring =
    let y : Wiring-F WiredKid Wiring = out-Wiring wiring in
    let links : List Numbered = links_of wiring in
    let kids : List (Name × Inner) = map inner_of_kid y.kids in
    let W : Around = within (own y.me) y.boss kids in
    let A : Around = entered (own y.me Out) wiring in
    let to_net : Numbered → ℕ = λ link. weight (λ arrival. g (ended y.me arrival)) (arriving_by A part.Net link) in
    last _ _ _ _ _ _ _ _ _
    (weight-append g (crossing W links) (flat_map (λ (kid : Name × Inner). kid.1.routes) kids))
    (weight-flat g (crossed_by W) links ∙ weight-adds (λ link. weight g (crossed_by W link)) (λ link. weight g (crossed_by A link)) to_net
    (λ link. ap (λ befores. weight g (crossed link befores (at_end Into W link.1.to))) (from-same link.1.from.part link.1.from.port)
    ∙ to-end link (at_end Out A link.1.from) link.1.to.part link.1.to.port) links
    ∙ ap (λ n. n + weight to_net links) (sym (weight-flat g (crossed_by A) links)))
    (weight-append g (crossing A links) (flat_map (λ (kid : Name × Inner). kid.1.routes) kids))
    (each-claim wiring g (own y.me Out))
    (weight-map g (ended y.me) (arriving A links part.Net) ∙ weight-flat (λ arrival. g (ended y.me arrival)) (arriving_by A part.Net) links)
    (weight-append g (reach wiring (own y.me Out)) (map (ended y.me) (arriving A links part.Net)))
  where
    me : Handle
    me = (out-Wiring wiring).me

    kids : List (Name × Inner)
    kids = map inner_of_kid (out-Wiring wiring).kids

    from-same : (own_part : Part) (port : ℕ) → at_part Out (within (own me) (out-Wiring wiring).boss kids) own_part port ≡ at_part Out (entered (own me Out) wiring) own_part port
    from-same part.Net port = refl
    from-same part.Boss port = refl
    from-same (part.Kid wanted) port = refl

    to-end : (link : Numbered) (befores : List Way) (own_part : Part) (port : ℕ) → weight g (crossed link befores (at_part Into (within (own me) (out-Wiring wiring).boss kids) own_part port))
        ≡ weight g (crossed link befores (at_part Into (entered (own me Out) wiring) own_part port)) + weight (λ arrival. g (ended me arrival)) (if is_part part.Net own_part then map (λ way. (port, extended Out link way)) befores else [])
    to-end link befores part.Net port =
        crossed-weight g link befores (own me Into port) ∙ weight-same _ _ (λ before. add-zero (g (ended me (port, extended Out link before)))) befores
        ∙ sym (weight-map (λ arrival. g (ended me arrival)) (λ way. (port, extended Out link way)) befores) ∙ sym (zero-add _)
        ∙ ap (λ n. n + weight (λ arrival. g (ended me arrival)) (map (λ way. (port, extended Out link way)) befores)) (sym (nothing-crosses g link befores))
    to-end link befores part.Boss port = sym (add-zero _)
    to-end link befores (part.Kid wanted) port = sym (add-zero _)

    last : (x cw cr ca n z r e all : ℕ) → x ≡ cw + cr → cw ≡ ca + n → z ≡ ca + cr → r ≡ z → e ≡ n → all ≡ r + e → x ≡ all
    last x cw cr ca n z r e all p q s t u v = omega arith
