-- No two routes to one port have one rank, and so no two routes are one row.
use Rattle.std.proofs.Common.{◌≡◌, ℕ, ◌+◌, ◌≤◌, ◌<◌, ◌==◌, ◌&&◌, Bool, true, false, if◌then◌else◌, List, [], ◌∷◌, map, refl, sym, ap, ◌∙◌, subst, arith, zero-add, add-zero, Option, Some, None, eqb-true, ne_eqb, lt_irrefl, le_refl}
use Rattle.std.specs.List.{flat_map, AllByRecursion, enumerate_from}
use Rattle.dsde_bank.specs.declared.handle.Handle.{Handle}
use Rattle.dsde_values.specs.declared.name.Name.{Name}
use Rattle.dsde_routes_wiring.specs.given.structure.plan_End.{End}
use Rattle.dsde_routes_wiring.specs.given.structure.plan_Link.{Link}
use Rattle.dsde_routes_wiring.specs.given.structure.plan_Part.{Part}
use Rattle.dsde_routes_wiring.specs.given.structure.plan_Part_TheVariants as part
use Rattle.dsde_routes_wiring.specs.given.structure.Gather.{is_same_name, is_part}
use Rattle.dsde_routes_wiring.specs.declared.side.Side.TheVariants.{Out}
use Rattle.dsde_routes_wiring.specs.declared.wiring.WiredKid.{WiredKid}
use Rattle.dsde_routes_wiring.specs.declared.wiring.Wiring.{Wiring}
use Rattle.dsde_routes_wiring.specs.declared.wiring.WiredKid.TheOpen.{Wiring-F}
use Rattle.dsde_routes_wiring.specs.declared.wiring.WiredKid.TheViews.{out-Wiring, out-WiredKid}
use Rattle.dsde_routes_wiring.specs.Routes.{Way, Route, Ways, Around, Inner, Numbered, step_from, rank_of, own, no_ways, links_of, numbered, within, is_border, extended, ways_by, net_ways, routes, at_part, at_end, of_kid, inner_of, inner_of_kid, below_step}
use Rattle.dsde_routes_wiring.specs.Gathered.{Arrivals, arrived, arriving_by, arriving, ended, at_port, entry, reach_below, reach, kid_reach}
use Rattle.dsde_routes_wiring.specs.Wired.{is_same_handle, Wired}
use Rattle.dsde_routes_wiring.specs.Touched.{handles_of, handles_of_kid}
use Rattle.dsde_routes_wiring.specs.Keys.{is_same_rank, has_key}
use Rattle.dsde_repair_walks.specs.Weights.{weight, weight-append, weight-flat, weight-map, weight-same, weight-zero}
use Rattle.dsde_repair_walks.specs.Bounds.{counted, count, IsNamed, AreNamed}
use Rattle.dsde_repair_walks.proofs.Opens.{below_inner, inner-is, kid-is}
use Rattle.dsde_routes_wiring.specs.Opened.{Beneath, each_wiring}
use Rattle.dsde_repair_walks.proofs.Handles.{below_known, handles-is, kid-handles}
use Rattle.dsde_repair_walks.proofs.Gathers.{below_reach, kid-reach-is, entered, reach-opened, routes-gathered}
use Rattle.dsde_repair_walks.proofs.Shapes.{wired_of, net-here, net-below}

pub weight-le : {X : Type 0} (f g : X → ℕ) → ((x : X) → f x ≤ g x) → (xs : List X) → weight f xs ≤ weight g xs
weight-le f g le [] = omega arith
weight-le f g le (x ∷ xs) = let here = le x in let others = weight-le f g le xs in omega arith

-- a way has a rank
abbrev ranked : List ℕ → Way → Bool
ranked rank way = is_same_rank rank (rank_of way.steps)

abbrev pub AreFew : List Way → Type 0
AreFew ways = (rank : List ℕ) → count (ranked rank) ways ≤ 1

-- whether a rank begins with the number of a link
abbrev begins : List ℕ → Numbered → ℕ
begins [] link = 0
begins (number ∷ rank) link = if number == link.0.number then 1 else 0

late : (number first : ℕ) (rank : List ℕ) (net : Handle) (links : List Link) → number < first → weight (begins (number ∷ rank)) (map (step_from net) (enumerate_from first links)) ≡ 0
late number first rank net [] lt = refl
late number first rank net (link ∷ links) lt =
    ap (λ (b : Bool). (if b then 1 else 0) + weight (begins (number ∷ rank)) (map (step_from net) (enumerate_from (first + 1) links))) (ne_eqb number first (λ is. lt_irrefl number (subst (λ n. number < n) (sym is) lt)))
    ∙ zero-add _ ∙ late number (first + 1) rank net links (omega arith)

one-link : (number first : ℕ) (rank : List ℕ) (net : Handle) (links : List Link) → weight (begins (number ∷ rank)) (map (step_from net) (enumerate_from first links)) ≤ 1
one-link number first rank net [] = omega arith
one-link number first rank net (link ∷ links) = by (number == first) refl (one-link number (first + 1) rank net links) where
  by : (b : Bool) → (number == first) ≡ b → weight (begins (number ∷ rank)) (map (step_from net) (enumerate_from (first + 1) links)) ≤ 1 →
      (if b then 1 else 0) + weight (begins (number ∷ rank)) (map (step_from net) (enumerate_from (first + 1) links)) ≤ 1
  by true is others =
      let same : number ≡ first = eqb-true number first is in
      let none = late number (first + 1) rank net links (omega arith) in omega arith
  by false is others = omega arith

begins-once : (rank : List ℕ) (net : Handle) (links : List Link) → weight (begins rank) (numbered net links) ≤ 1
begins-once [] net links = let none = weight-zero (begins []) (λ link. refl) (numbered net links) in omega arith
begins-once (number ∷ rank) net links = one-link number 0 rank net links

-- over one link
over-link : (link : Numbered) (befores : List Way) → AreFew befores → (rank : List ℕ) → weight (λ before. counted (ranked rank) (extended Out link before)) befores ≤ begins rank link
over-link link befores few [] = let none = weight-zero (λ (before : Way). counted (ranked []) (extended Out link before)) (λ before. refl) befores in omega arith
over-link link befores few (number ∷ rank) = by (number == link.0.number) where
  by : (b : Bool) → weight (λ (before : Way). if b && is_same_rank rank (rank_of before.steps) then 1 else 0) befores ≤ (if b then 1 else 0)
  by true = few rank
  by false = let none = weight-zero (λ (before : Way). 0) (λ before. refl) befores in omega arith

-- over the links of a network to some end
abbrev FewAround : Around → Type 0
FewAround around = (end : End) → AreFew (at_end Out around end)

ways-few : (around : Around) → FewAround around → (net : Handle) (links : List Link) (port : ℕ) → AreFew (net_ways around (numbered net links) Out port)
ways-few around few net links port rank =
    let sum = weight-flat (counted (ranked rank)) (ways_by Out around port) (numbered net links) in
    let each = weight-le (λ link. weight (counted (ranked rank)) (ways_by Out around port link)) (begins rank) (λ link. by link (is_border port link.1.to)) (numbered net links) in
    let once = begins-once rank net links in
    omega arith
  where
    by : (link : Numbered) (test : Bool) → weight (counted (ranked rank)) (if test then map (extended Out link) (at_end Out around link.1.from) else []) ≤ begins rank link
    by link true = let own = over-link link (at_end Out around link.1.from) (few link.1.from) rank in let is = weight-map (counted (ranked rank)) (extended Out link) (at_end Out around link.1.from) in omega arith
    by link false = omega arith

-- arrivals at one port with one rank
abbrev arrives : ℕ → List ℕ → ℕ × Way → Bool
arrives port rank arrival = port == arrival.0 && is_same_rank rank (rank_of arrival.1.steps)

abbrev FewArrivals : Arrivals → Type 0
FewArrivals arrivals = (port : ℕ) (rank : List ℕ) → count (arrives port rank) arrivals ≤ 1

arrivals-few : (around : Around) → FewAround around → (net : Handle) (links : List Link) (own_part : Part) → FewArrivals (arriving around (numbered net links) own_part)
arrivals-few around few net links own_part port rank =
    let sum = weight-flat (counted (arrives port rank)) (arriving_by around own_part) (numbered net links) in
    let each = weight-le (λ link. weight (counted (arrives port rank)) (arriving_by around own_part link)) (begins rank) (λ link. by link (is_part own_part link.1.to.part)) (numbered net links) in
    let once = begins-once rank net links in
    omega arith
  where
    under : (a b : Bool) → (if a && b then 1 else 0) ≤ (if b then 1 else 0)
    under true b = le_refl _
    under false true = omega arith
    under false false = omega arith

    by : (link : Numbered) (test : Bool) → weight (counted (arrives port rank)) (if test then map (arrived link) (at_end Out around link.1.from) else []) ≤ begins rank link
    by link true =
        let own = over-link link (at_end Out around link.1.from) (few link.1.from) rank in
        let is = weight-map (counted (arrives port rank)) (arrived link) (at_end Out around link.1.from) in
        let le = weight-le (λ before. counted (arrives port rank) (arrived link before)) (λ before. counted (ranked rank) (extended Out link before)) (λ before. under (port == link.1.to.port) (ranked rank (extended Out link before))) (at_end Out around link.1.from) in
        omega arith
    by link false = omega arith

port-few : (port : ℕ) (arrivals : Arrivals) → FewArrivals arrivals → AreFew (at_port port arrivals)
port-few port arrivals few rank =
    let most = few port rank in
    let is = weight-flat (counted (ranked rank)) (λ (arrival : ℕ × Way). if port == arrival.0 then arrival.1 ∷ [] else []) arrivals in
    let same = weight-same (λ (arrival : ℕ × Way). weight (counted (ranked rank)) (if port == arrival.0 then arrival.1 ∷ [] else [])) (counted (arrives port rank)) (λ (arrival : ℕ × Way). by arrival.1 (port == arrival.0)) arrivals in
    omega arith
  where
    by : (way : Way) (here : Bool) → weight (counted (ranked rank)) (if here then way ∷ [] else []) ≡ (if here && ranked rank way then 1 else 0)
    by way true = add-zero _
    by way false = refl

one-way : (rank : List ℕ) (handle : Handle) (port : ℕ) → count (ranked rank) (own handle Out port) ≤ 1
one-way rank handle port = by (is_same_rank rank []) where
  by : (b : Bool) → (if b then 1 else 0) + 0 ≤ 1
  by true = omega arith
  by false = omega arith

-- of the components of a named network
abbrev pub KidNamed : WiredKid → Type 0
KidNamed kid = Beneath AreNamed (out-WiredKid kid).below

abbrev pub OneName : List WiredKid → Type 0
OneName kids = (name : Name) → weight (λ kid. if is_same_name (out-WiredKid kid).name name then 1 else 0) kids ≤ 1

pub named-names : (name : Name) (kids : List WiredKid) → count (λ own. is_same_name own name) (map (λ (kid : Wired). kid.name) (map wired_of kids)) ≡ weight (λ kid. if is_same_name (out-WiredKid kid).name name then 1 else 0) kids
named-names name [] = refl
named-names name (kid ∷ kids) = ap (λ n. (if is_same_name (out-WiredKid kid).name name then 1 else 0) + n) (named-names name kids)

pub record IsNetNamed (wiring : Wiring) : Type 0 where
  pub here : OneName (out-Wiring wiring).kids
  pub below : AllByRecursion KidNamed (out-Wiring wiring).kids

pub net-named : (wiring : Wiring) → AreNamed wiring → IsNetNamed wiring
net-named wiring named = record {
  here = λ name. subst (λ n. n ≤ 1) (named-names name (out-Wiring wiring).kids) (net-here IsNamed wiring named name);
  below = net-below IsNamed wiring named;
}

-- the ways of each part
abbrev Few : Wiring → Type 0
Few wiring = AreNamed wiring → (port : ℕ) → AreFew ((inner_of wiring).ways Out port)

kid-few : (kid : WiredKid) → Beneath Few (out-WiredKid kid).below → KidNamed kid → (port : ℕ) → AreFew ((inner_of_kid kid).1.ways Out port)
kid-few kid few named port = subst (λ (own : Name × Inner). AreFew (own.1.ways Out port)) (sym (kid-is kid)) (by (out-WiredKid kid).below few named) where
  by : (below : Option Wiring) → Beneath Few below → Beneath AreNamed below → AreFew ((below_step (out-WiredKid kid).handle (below_inner below)).ways Out port)
  by None claim is = λ rank. one-way rank (out-WiredKid kid).handle port
  by (Some wiring) claim is = claim is port

kids-few : (name : Name) (port : ℕ) (rank : List ℕ) (kids : List WiredKid) → AllByRecursion (λ kid. Beneath Few (out-WiredKid kid).below) kids → AllByRecursion KidNamed kids →
    weight (counted (ranked rank)) (flat_map (of_kid Out name port) (map inner_of_kid kids)) ≤ weight (λ kid. if is_same_name (out-WiredKid kid).name name then 1 else 0) kids
kids-few name port rank [] few named = omega arith
kids-few name port rank (kid ∷ kids) few named =
    let others = kids-few name port rank kids few.1 named.1 in
    let sum = weight-append (counted (ranked rank)) (of_kid Out name port (inner_of_kid kid)) (flat_map (of_kid Out name port) (map inner_of_kid kids)) in
    let own_ways : List Way = (inner_of_kid kid).1.ways Out port in
    let here : weight (counted (ranked rank)) (of_kid Out name port (inner_of_kid kid)) ≤ (if is_same_name (out-WiredKid kid).name name then 1 else 0) =
    subst (λ (own : Name). weight (counted (ranked rank)) (if is_same_name own name then (inner_of_kid kid).1.ways Out port else []) ≤ (if is_same_name (out-WiredKid kid).name name then 1 else 0)) (sym (ap (λ (own : Name × Inner). own.0) (kid-is kid)))
    (by (is_same_name (out-WiredKid kid).name name) (kid-few kid few.0 named.0 port rank)) in
    omega arith
  where
    by : (same : Bool) → count (ranked rank) ((inner_of_kid kid).1.ways Out port) ≤ 1 → weight (counted (ranked rank)) (if same then (inner_of_kid kid).1.ways Out port else []) ≤ (if same then 1 else 0)
    by true most = most
    by false most = omega arith

around-few : (net : Ways) (boss : Handle) (kids : List WiredKid) → ((port : ℕ) → AreFew (net Out port)) → AllByRecursion (λ kid. Beneath Few (out-WiredKid kid).below) kids → AllByRecursion KidNamed kids → OneName kids →
    FewAround (within net boss (map inner_of_kid kids))
around-few net boss kids ins few named one end = by end.part where
  by : (own_part : Part) → AreFew (at_part Out (within net boss (map inner_of_kid kids)) own_part end.port)
  by part.Net = ins end.port
  by part.Boss = λ rank. one-way rank boss end.port
  by (part.Kid wanted) = λ rank. let most = kids-few wanted end.port rank kids few named in let names = one wanted in omega arith

net-few : (wiring : Wiring) → AllByRecursion (λ kid. Beneath Few (out-WiredKid kid).below) (out-Wiring wiring).kids → Few wiring
net-few wiring few named port =
    let y : Wiring-F WiredKid Wiring = out-Wiring wiring in
    let own_named : IsNetNamed wiring = net-named wiring named in
    subst (λ (inner : Inner). AreFew (inner.ways Out port)) (sym (inner-is wiring))
    (ways-few (within no_ways y.boss (map inner_of_kid y.kids)) (around-few no_ways y.boss y.kids (λ port rank. omega arith) few own_named.below own_named.here) y.me y.links port)

pub each-few : (wiring : Wiring) → Few wiring
each-few = each_wiring Few net-few

all-few : (kids : List WiredKid) → AllByRecursion (λ kid. Beneath Few (out-WiredKid kid).below) kids
all-few [] = tt
all-few (kid ∷ kids) = (by (out-WiredKid kid).below, all-few kids) where
  by : (below : Option Wiring) → Beneath Few below
  by None = tt
  by (Some wiring) = each-few wiring

-- the routes to one port with one rank: no more than the handle stands in the wiring
module _ (target : Handle) (port : ℕ) (rank : List ℕ) where
  abbrev keyed : Route → ℕ
  keyed = counted (has_key target port rank)

  abbrev standing : List Handle → ℕ
  standing handles = count (is_same_handle target) handles

  ended-few : (handle : Handle) (arrivals : Arrivals) → FewArrivals arrivals → weight keyed (map (ended handle) arrivals) ≤ (if is_same_handle target handle then 1 else 0)
  ended-few handle arrivals few =
      let is = weight-map keyed (ended handle) arrivals in
      let le = by (is_same_handle target handle) in
      omega arith
    where
      by : (same : Bool) → weight (λ (arrival : ℕ × Way). if same && arrives port rank arrival then 1 else 0) arrivals ≤ (if same then 1 else 0)
      by true = few port rank
      by false = let none = weight-zero (λ (arrival : ℕ × Way). 0) (λ arrival. refl) arrivals in omega arith

  abbrev Once : Wiring → Type 0
  Once wiring = AreNamed wiring → (ins : ℕ → List Way) → ((own_port : ℕ) → AreFew (ins own_port)) → weight keyed (reach wiring ins) ≤ standing ((out-Wiring wiring).boss ∷ flat_map handles_of_kid (out-Wiring wiring).kids)

  kid-once : (kid : WiredKid) → Beneath Once (out-WiredKid kid).below → KidNamed kid → (arrivals : Arrivals) → FewArrivals arrivals → weight keyed (kid_reach kid arrivals) ≤ standing (handles_of_kid kid)
  kid-once kid once named arrivals few =
      subst (λ handles. weight keyed (kid_reach kid arrivals) ≤ standing handles) (sym (kid-handles kid))
      (subst (λ (own : Arrivals → List Route). weight keyed (own arrivals) ≤ standing (below_known (out-WiredKid kid).handle (out-WiredKid kid).below)) (sym (kid-reach-is kid))
      (by (out-WiredKid kid).below once named))
    where
      by : (below : Option Wiring) → Beneath Once below → Beneath AreNamed below → weight keyed (reach_below (out-WiredKid kid).handle (below_reach below) arrivals) ≤ standing (below_known (out-WiredKid kid).handle below)
      by None own is = let le = ended-few (out-WiredKid kid).handle arrivals few in omega arith
      by (Some wiring) own is =
          let le = own is (λ own_port. at_port own_port arrivals) (λ own_port. port-few own_port arrivals few) in
          let handles = ap standing (handles-is wiring) in
          omega arith

  kids-once : (arrivals : Name → Arrivals) (kids : List WiredKid) → ((name : Name) → FewArrivals (arrivals name)) → AllByRecursion (λ kid. Beneath Once (out-WiredKid kid).below) kids → AllByRecursion KidNamed kids →
      weight keyed (flat_map (λ kid. kid_reach kid (arrivals (out-WiredKid kid).name)) kids) ≤ standing (flat_map handles_of_kid kids)
  kids-once arrivals [] few once named = omega arith
  kids-once arrivals (kid ∷ kids) few once named =
      let here = kid-once kid once.0 named.0 (arrivals (out-WiredKid kid).name) (few (out-WiredKid kid).name) in
      let others = kids-once arrivals kids few once.1 named.1 in
      let sum = weight-append keyed (kid_reach kid (arrivals (out-WiredKid kid).name)) (flat_map (λ own. kid_reach own (arrivals (out-WiredKid own).name)) kids) in
      let handles = weight-append (counted (is_same_handle target)) (handles_of_kid kid) (flat_map handles_of_kid kids) in
      omega arith

  net-once : (wiring : Wiring) → AllByRecursion (λ kid. Beneath Once (out-WiredKid kid).below) (out-Wiring wiring).kids → Once wiring
  net-once wiring once named ins few =
      let y : Wiring-F WiredKid Wiring = out-Wiring wiring in
      let own_named : IsNetNamed wiring = net-named wiring named in
      let A : Around = entered ins wiring in
      let links : List Numbered = links_of wiring in
      let around : FewAround A = around-few (entry ins) y.boss y.kids few (all-few y.kids) own_named.below own_named.here in
      let bosses = ended-few y.boss (arriving A links part.Boss) (arrivals-few A around y.me y.links part.Boss) in
      let kids = kids-once (λ name. arriving A links (part.Kid name)) y.kids (λ name. arrivals-few A around y.me y.links (part.Kid name)) once own_named.below in
      let is = ap (weight keyed) (reach-opened wiring ins) in
      let sum = weight-append keyed (map (ended y.boss) (arriving A links part.Boss)) (flat_map (λ kid. kid_reach kid (arriving A links (part.Kid (out-WiredKid kid).name))) y.kids) in
      omega arith

  each-once : (wiring : Wiring) → Once wiring
  each-once = each_wiring Once net-once

  pub routes-once : (wiring : Wiring) → AreNamed wiring → weight keyed (routes wiring) ≤ standing (handles_of wiring)
  routes-once wiring named =
      let y : Wiring-F WiredKid Wiring = out-Wiring wiring in
      let own_named : IsNetNamed wiring = net-named wiring named in
      let ins : ℕ → List Way = own y.me Out in
      let few : (own_port : ℕ) → AreFew (ins own_port) = λ own_port own_rank. one-way own_rank y.me own_port in
      let A : Around = entered ins wiring in
      let around : FewAround A = around-few (entry ins) y.boss y.kids few (all-few y.kids) own_named.below own_named.here in
      let inner = each-once wiring named ins few in
      let outer = ended-few y.me (arriving A (links_of wiring) part.Net) (arrivals-few A around y.me y.links part.Net) in
      let is = routes-gathered keyed wiring in
      let sum = weight-append keyed (reach wiring ins) (map (ended y.me) (arriving A (links_of wiring) part.Net)) in
      let handles = ap standing (handles-is wiring) in
      omega arith
