-- Ways with steps, and ways with ranks alone.
use Rattle.std.proofs.Common.{◌≡◌, ℕ, ◌+◌, ◌≤◌, ◌==◌, ◌&&◌, Bool, true, false, if◌then◌else◌, List, [], ◌∷◌, ◌++◌, map, refl, sym, ap, ap₂, ◌∙◌, arith, add-zero, append-nil, append_assoc, eqb-true, eq-eqb, ne_eqb, true≢false, Option, Some, None}
use Rattle.std.proofs.lemmas.List.{map-append}
use Rattle.std.specs.List.{flat_map, enumerate_from, AllByRecursion}
use Rattle.std.proofs.lemmas.Cmp.{eq_by_cmp_equiv}
use Rattle.std.specs.Cmp.{IsTotalOrder}
use Rattle.dsde_values.specs.Path.{name_cmp}
use Rattle.dsde_bank.specs.declared.handle.Handle.{Handle}
use Rattle.dsde_values.specs.declared.name.Name.{Name}
use Rattle.dsde_routes_wiring.specs.given.structure.plan_End.{End}
use Rattle.dsde_routes_wiring.specs.given.structure.plan_Link.{Link}
use Rattle.dsde_routes_wiring.specs.given.structure.plan_Part.{Part}
use Rattle.dsde_routes_wiring.specs.given.structure.plan_Part_TheVariants as part
use Rattle.dsde_routes_wiring.specs.given.structure.Gather.{is_same_name, is_part, is_end}
use Rattle.dsde_routes_wiring.specs.declared.row.Row.{Row}
use Rattle.dsde_routes_wiring.specs.declared.side.Side.TheVariants.{Out}
use Rattle.dsde_routes_wiring.specs.declared.wiring.WiredKid.{WiredKid}
use Rattle.dsde_routes_wiring.specs.declared.wiring.Wiring.{Wiring}
use Rattle.dsde_routes_wiring.specs.declared.wiring.WiredKid.TheFolds.{fold-roll-Wiring, fold-roll-WiredKid}
use Rattle.dsde_routes_wiring.specs.declared.wiring.WiredKid.TheOpen.{Wiring-F}
use Rattle.dsde_routes_wiring.specs.declared.wiring.WiredKid.TheViews.{out-Wiring, out-WiredKid, roll-WiredKid, roll-out-Wiring, roll-out-WiredKid}
use Rattle.dsde_routes_wiring.specs.Routes.{Way, Route, Ways, Around, Inner, Numbered, own, no_ways, step_from, numbered, links_of, within, extended, row_of, rank_of, at_part, at_end, of_kid, inner_of, inner_of_kid, below_step, routes, routed}
use Rattle.dsde_routes_wiring.specs.Gathered.{Arrivals, arrived, arriving_by, arriving, ended, at_port, entry, reach_below, reach, kid_reach}
use Rattle.dsde_repair_walks.specs.Weights.{weight, weight-append, weight-flat, weight-map}
use Rattle.dsde_repair_walks.specs.Bounds.{AreNamed}
use Rattle.dsde_repair_walks.proofs.Opens.{below_inner, inner-is, kid-is}
use Rattle.dsde_routes_wiring.specs.Opened.{Beneath, each_wiring}
use Rattle.dsde_repair_walks.proofs.Distinct.{KidNamed, OneName, net-named}
use Rattle.dsde_repair_walks.proofs.Gathers.{below_reach, kid-reach-is, entered, reach-opened, routes-gathered}
use Rattle.dsde_routes_wiring.specs.declared.row.Way as way
use Rattle.dsde_routes_wiring.specs.Ways as ways
use Rattle.dsde_routes_wiring.specs.Ways.{begin, onward, Sent, Sources, nowhere, sent_by, from_part, over, coming}
use Rattle.dsde_routes_wiring.specs.Flatten as flat
use Rattle.dsde_routes_wiring.specs.Flatten.{Site, ways_at, rows_into, rows_at, NetFlow, KidFlow, kid_step, net_step, flow, flow_of_kid, sites, rows}

abbrev Flat : Type 0
Flat = way.Way

abbrev Ends : Type 0
Ends = ways.Ways

-- a way with the numbers of its links alone
abbrev pub plain : Way → Flat
plain way = record { source = way.handle; port = way.port; rank = rank_of way.steps; chain = way.chain }

abbrev from_ways : Ends → Handle → List KidFlow → Sources
from_ways come boss kids = flat.sources_of boss kids come

abbrev net_flow : Handle → Handle → List Link → List KidFlow → NetFlow
net_flow me boss links kids = net_step (record { me = me; boss = boss; links = links; kids = kids })

abbrev below_flow : Name → Handle → Option NetFlow → KidFlow
below_flow name handle below = kid_step (record { name = name; handle = handle; below = below })

flow-is : (wiring : Wiring) → flow wiring ≡ net_flow (out-Wiring wiring).me (out-Wiring wiring).boss (out-Wiring wiring).links (map flow_of_kid (out-Wiring wiring).kids)
flow-is wiring = ap flow (sym (roll-out-Wiring wiring)) ∙ fold-roll-Wiring KidFlow NetFlow kid_step net_step (out-Wiring wiring)

abbrev flow_below : Option Wiring → Option NetFlow
flow_below None = None
flow_below (Some wiring) = Some (flow wiring)

kid-flow-below : (name : Name) (handle : Handle) (below : Option Wiring) → flow_of_kid (roll-WiredKid (record { name = name; handle = handle; below = below })) ≡ below_flow name handle (flow_below below)
kid-flow-below name handle None = fold-roll-WiredKid KidFlow NetFlow kid_step net_step (record { name = name; handle = handle; below = None })
kid-flow-below name handle (Some wiring) = fold-roll-WiredKid KidFlow NetFlow kid_step net_step (record { name = name; handle = handle; below = Some wiring })

kid-flow-is : (kid : WiredKid) → flow_of_kid kid ≡ below_flow (out-WiredKid kid).name (out-WiredKid kid).handle (flow_below (out-WiredKid kid).below)
kid-flow-is kid = ap flow_of_kid (sym (roll-out-WiredKid kid)) ∙ kid-flow-below (out-WiredKid kid).name (out-WiredKid kid).handle (out-WiredKid kid).below

-- sources and what stands around, alike
abbrev Alike : Sources → Around → Type 0
Alike sources around = (own_part : Part) (port : ℕ) → from_part sources own_part port ≡ map plain (at_part Out around own_part port)

flat-extended : (me : Handle) (number : ℕ) (link : Link) (ways : List Way) → map (onward number link) (map plain ways) ≡ map plain (map (extended Out (step_from me (number, link))) ways)
flat-extended me number link [] = refl
flat-extended me number link (way ∷ ways) = ap (λ others. onward number link (plain way) ∷ others) (flat-extended me number link ways)

over-flat : (sources : Sources) (around : Around) → Alike sources around → (me : Handle) (number : ℕ) (link : Link) → over sources number link ≡ map plain (map (extended Out (step_from me (number, link))) (at_end Out around link.from))
over-flat sources around alike me number link = ap (map (onward number link)) (alike link.from.part link.from.port) ∙ flat-extended me number link (at_end Out around link.from)

-- the ways that come to an end
abbrev coming_by : Around → End → Numbered → List Way
coming_by around end link = if is_end link.1.to end then map (extended Out link) (at_end Out around link.1.from) else []

if-map : {X Y : Type 0} (f : X → Y) (test : Bool) (xs : List X) → (if test then map f xs else []) ≡ map f (if test then xs else [])
if-map f true xs = refl
if-map f false xs = refl

pub coming-flat : (sources : Sources) (around : Around) → Alike sources around → (me : Handle) (number : ℕ) (links : List Link) (end : End) →
    coming sources number links end ≡ map plain (flat_map (coming_by around end) (map (step_from me) (enumerate_from number links)))
coming-flat sources around alike me number [] end = refl
coming-flat sources around alike me number (link ∷ links) end =
    ap₂ (λ (xs ys : List Flat). xs ++ ys)
    (ap (λ own_ways. if is_end link.to end then own_ways else []) (over-flat sources around alike me number link)
    ∙ if-map plain (is_end link.to end) (map (extended Out (step_from me (number, link))) (at_end Out around link.from)))
    (coming-flat sources around alike me (number + 1) links end)
    ∙ sym (map-append plain (coming_by around end (step_from me (number, link))) (flat_map (coming_by around end) (map (step_from me) (enumerate_from (number + 1) links))))

-- a kid's name and its ways
sent-name : (kid : WiredKid) → (flow_of_kid kid).sent.name ≡ (out-WiredKid kid).name
sent-name kid = ap (λ (own_flow : KidFlow). own_flow.sent.name) (kid-flow-is kid) ∙ by (out-WiredKid kid).below where
  by : (below : Option Wiring) → (below_flow (out-WiredKid kid).name (out-WiredKid kid).handle (flow_below below)).sent.name ≡ (out-WiredKid kid).name
  by None = refl
  by (Some wiring) = refl

abbrev WaysClaim : Wiring → Type 0
WaysClaim wiring = AreNamed wiring → (port : ℕ) → ways_at (flow wiring).out port ≡ map plain ((inner_of wiring).ways Out port)

abbrev KidWays : WiredKid → Type 0
KidWays kid = (port : ℕ) → (flow_of_kid kid).sent.ways port ≡ map plain ((inner_of_kid kid).1.ways Out port)

kid-ways : (kid : WiredKid) → Beneath WaysClaim (out-WiredKid kid).below → KidNamed kid → KidWays kid
kid-ways kid claim named port =
    ap (λ (own_flow : KidFlow). own_flow.sent.ways port) (kid-flow-is kid) ∙ by (out-WiredKid kid).below claim named
    ∙ ap (λ (own_inner : Name × Inner). map plain (own_inner.1.ways Out port)) (sym (kid-is kid))
  where
    by : (below : Option Wiring) → Beneath WaysClaim below → Beneath AreNamed below →
        (below_flow (out-WiredKid kid).name (out-WiredKid kid).handle (flow_below below)).sent.ways port ≡ map plain ((below_step (out-WiredKid kid).handle (below_inner below)).ways Out port)
    by None own_claim own_named = refl
    by (Some wiring) own_claim own_named = own_claim own_named port

abbrev named : Name → WiredKid → ℕ
named name kid = if is_same_name (out-WiredKid kid).name name then 1 else 0

of-is : (name : Name) (port : ℕ) (kid : WiredKid) → of_kid Out name port (inner_of_kid kid) ≡ (if is_same_name (out-WiredKid kid).name name then (inner_of_kid kid).1.ways Out port else [])
of-is name port kid = ap (λ (own_name : Name). if is_same_name own_name name then (inner_of_kid kid).1.ways Out port else []) (ap (λ (own_inner : Name × Inner). own_inner.0) (kid-is kid))

none-of : (name : Name) (port : ℕ) (kids : List WiredKid) → weight (named name) kids ≡ 0 → flat_map (of_kid Out name port) (map inner_of_kid kids) ≡ []
none-of name port [] none = refl
none-of name port (kid ∷ kids) none =
    ap₂ (λ (xs ys : List Way). xs ++ ys) (of-is name port kid ∙ by (is_same_name (out-WiredKid kid).name name) none) (none-of name port kids (rest (is_same_name (out-WiredKid kid).name name) none))
  where
    by : (same : Bool) → (if same then 1 else 0) + weight (named name) kids ≡ 0 → (if same then (inner_of_kid kid).1.ways Out port else []) ≡ []
    by true sum = absurd (omega arith)
    by false sum = refl

    rest : (same : Bool) → (if same then 1 else 0) + weight (named name) kids ≡ 0 → weight (named name) kids ≡ 0
    rest true sum = absurd (omega arith)
    rest false sum = omega arith

kids-alike : (name : Name) (port : ℕ) (kids : List WiredKid) → weight (named name) kids ≤ 1 → AllByRecursion KidWays kids →
    sent_by (map (λ (own_flow : KidFlow). own_flow.sent) (map flow_of_kid kids)) name port ≡ map plain (flat_map (of_kid Out name port) (map inner_of_kid kids))
kids-alike name port [] one ways = refl
kids-alike name port (kid ∷ kids) one ways =
    ap (λ (own_name : Name). (if is_same_name own_name name then (flow_of_kid kid).sent.ways else sent_by (map (λ (own_flow : KidFlow). own_flow.sent) (map flow_of_kid kids)) name) port) (sent-name kid)
    ∙ by (is_same_name (out-WiredKid kid).name name) one (λ less. kids-alike name port kids less ways.1)
    ∙ ap (λ first. map plain (first ++ flat_map (of_kid Out name port) (map inner_of_kid kids))) (sym (of-is name port kid))
  where
    by : (same : Bool) → (if same then 1 else 0) + weight (named name) kids ≤ 1 →
        (weight (named name) kids ≤ 1 → sent_by (map (λ (own_flow : KidFlow). own_flow.sent) (map flow_of_kid kids)) name port ≡ map plain (flat_map (of_kid Out name port) (map inner_of_kid kids))) →
        (if same then (flow_of_kid kid).sent.ways else sent_by (map (λ (own_flow : KidFlow). own_flow.sent) (map flow_of_kid kids)) name) port
        ≡ map plain ((if same then (inner_of_kid kid).1.ways Out port else []) ++ flat_map (of_kid Out name port) (map inner_of_kid kids))
    by true sum others =
        ways.0 port ∙ ap (map plain) (sym (append-nil ((inner_of_kid kid).1.ways Out port)) ∙ ap (λ later. (inner_of_kid kid).1.ways Out port ++ later) (sym (none-of name port kids (omega arith))))
    by false sum others = others (omega arith)

alike-kids : (come : Ends) (ins : ℕ → List Way) (net : Ways) (boss : Handle) (kids : List WiredKid) → ((port : ℕ) → come port ≡ map plain (net Out port)) → OneName kids → AllByRecursion KidWays kids →
    Alike (from_ways come boss (map flow_of_kid kids)) (within net boss (map inner_of_kid kids))
alike-kids come ins net boss kids same one ways part.Net port = same port
alike-kids come ins net boss kids same one ways part.Boss port = refl
alike-kids come ins net boss kids same one ways (part.Kid name) port = kids-alike name port kids (one name) ways

each-kid : (P : WiredKid → Type 0) (kids : List WiredKid) → AllByRecursion (λ kid. Beneath WaysClaim (out-WiredKid kid).below) kids → AllByRecursion KidNamed kids → AllByRecursion KidWays kids
each-kid P [] claims own_named = tt
each-kid P (kid ∷ kids) claims own_named = (kid-ways kid claims.0 own_named.0, each-kid P kids claims.1 own_named.1)

ways-claim : (wiring : Wiring) → AllByRecursion (λ kid. Beneath WaysClaim (out-WiredKid kid).below) (out-Wiring wiring).kids → WaysClaim wiring
ways-claim wiring claims own_named port =
    let y : Wiring-F WiredKid Wiring = out-Wiring wiring in
    ap (λ (own_flow : NetFlow). ways_at own_flow.out port) (flow-is wiring)
    ∙ coming-flat (from_ways nowhere y.boss (map flow_of_kid y.kids)) (within no_ways y.boss (map inner_of_kid y.kids))
    (alike-kids nowhere (λ _. []) no_ways y.boss y.kids (λ _. refl) (net-named wiring own_named).here (each-kid (λ _. Unit {0}) y.kids claims (net-named wiring own_named).below)) y.me 0 y.links (record { part = part.Net; port = port })
    ∙ ap (λ (inner : Inner). map plain (inner.ways Out port)) (sym (inner-is wiring))

pub each-ways : (wiring : Wiring) → WaysClaim wiring
each-ways = each_wiring WaysClaim ways-claim

all-ways : (kids : List WiredKid) → AllByRecursion KidNamed kids → AllByRecursion KidWays kids
all-ways [] own_named = tt
all-ways (kid ∷ kids) own_named = (kid-ways kid (by (out-WiredKid kid).below) own_named.0, all-ways kids own_named.1) where
  by : (below : Option Wiring) → Beneath WaysClaim below
  by None = tt
  by (Some wiring) = each-ways wiring

same-number : (a b : ℕ) → (a == b) ≡ (b == a)
same-number a b = by (a == b) refl where
  by : (test : Bool) → (a == b) ≡ test → (a == b) ≡ (b == a)
  by true is = is ∙ sym (eq-eqb b a (sym (eqb-true a b is)))
  by false is = is ∙ sym (ne_eqb b a (λ back. true≢false (sym (eq-eqb a b (sym back)) ∙ is)))

module _ (total : IsTotalOrder name_cmp) where
  same-name-sym : (a b : Name) → is_same_name a b ≡ is_same_name b a
  same-name-sym a b = (eq_by_cmp_equiv total).symm a b

  same-part : (a b : Part) → is_part a b ≡ is_part b a
  same-part part.Net part.Net = refl
  same-part part.Net part.Boss = refl
  same-part part.Net (part.Kid b) = refl
  same-part part.Boss part.Net = refl
  same-part part.Boss part.Boss = refl
  same-part part.Boss (part.Kid b) = refl
  same-part (part.Kid a) part.Net = refl
  same-part (part.Kid a) part.Boss = refl
  same-part (part.Kid a) (part.Kid b) = same-name-sym a b

  -- rows at a target
  flat-ended : (target : Handle) (link : Numbered) (befores : List Way) → map (flat.row_of target link.1.to.port) (map plain (map (extended Out link) befores)) ≡ map row_of (map (ended target) (map (arrived link) befores))
  flat-ended target link [] = refl
  flat-ended target link (before ∷ befores) =
      let way : Way = extended Out link before in
      ap₂ (λ (own_row : Row) (others : List Row). own_row ∷ others)
      (ap (λ chain. flat.row_of target link.1.to.port (record { source = way.handle; port = way.port; rank = rank_of way.steps; chain = chain })) (sym (append-nil way.chain)))
      (flat-ended target link befores)

  rows-into : (sources : Sources) (around : Around) → Alike sources around → (me target : Handle) (own_part : Part) (number : ℕ) (links : List Link) →
      rows_into target own_part sources number links ≡ map row_of (map (ended target) (flat_map (arriving_by around own_part) (map (step_from me) (enumerate_from number links))))
  rows-into sources around alike me target own_part number [] = refl
  rows-into sources around alike me target own_part number (link ∷ links) =
      let step : Numbered = step_from me (number, link) in
      let first : Arrivals = arriving_by around own_part step in
      let later : Arrivals = flat_map (arriving_by around own_part) (map (step_from me) (enumerate_from (number + 1) links)) in
      ap₂ (λ (xs ys : List Row). xs ++ ys)
      (ap (λ own_ways. if is_part link.to.part own_part then map (flat.row_of target link.to.port) own_ways else []) (over-flat sources around alike me number link)
      ∙ ap (λ (test : Bool). if test then map (flat.row_of target link.to.port) (map plain (map (extended Out step) (at_end Out around link.from))) else []) (same-part link.to.part own_part)
      ∙ by step (is_part own_part link.to.part))
      (rows-into sources around alike me target own_part (number + 1) links)
      ∙ sym (ap (map row_of) (map-append (ended target) first later) ∙ map-append row_of (map (ended target) first) (map (ended target) later))
    where
      by : (step : Numbered) (test : Bool) → (if test then map (flat.row_of target step.1.to.port) (map plain (map (extended Out step) (at_end Out around step.1.from))) else [])
          ≡ map row_of (map (ended target) (if test then map (arrived step) (at_end Out around step.1.from) else []))
      by step true = flat-ended target step (at_end Out around step.1.from)
      by step false = refl

  -- what arrives at a port
  port-arrived : (port : ℕ) (link : Numbered) (befores : List Way) → at_port port (map (arrived link) befores) ≡ (if port == link.1.to.port then map (extended Out link) befores else [])
  port-arrived port link [] = by [] (port == link.1.to.port) where
    by : (none : List Way) (test : Bool) → none ≡ (if test then none else none)
    by none true = refl
    by none false = refl
  port-arrived port link (before ∷ befores) =
      ap (λ later. (if port == link.1.to.port then extended Out link before ∷ [] else []) ++ later) (port-arrived port link befores) ∙ by (port == link.1.to.port)
    where
      by : (test : Bool) → (if test then extended Out link before ∷ [] else []) ++ (if test then map (extended Out link) befores else []) ≡ (if test then extended Out link before ∷ map (extended Out link) befores else [])
      by true = refl
      by false = refl

  port-flat : (port : ℕ) (xs ys : Arrivals) → at_port port (xs ++ ys) ≡ at_port port xs ++ at_port port ys
  port-flat port [] ys = refl
  port-flat port (x ∷ xs) ys = ap (λ later. (if port == x.0 then x.1 ∷ [] else []) ++ later) (port-flat port xs ys) ∙ sym (append_assoc (if port == x.0 then x.1 ∷ [] else []) (at_port port xs) (at_port port ys))

  at-port : (port : ℕ) (around : Around) (own_part : Part) (links : List Numbered) → at_port port (flat_map (arriving_by around own_part) links) ≡ flat_map (coming_by around (record { part = own_part; port = port })) links
  at-port port around own_part [] = refl
  at-port port around own_part (link ∷ links) =
      port-flat port (arriving_by around own_part link) (flat_map (arriving_by around own_part) links)
      ∙ ap₂ (λ (xs ys : List Way). xs ++ ys) (here (is_part own_part link.1.to.part) (is_part link.1.to.part own_part) (same-part own_part link.1.to.part)) (at-port port around own_part links)
    where
      ports : (test : Bool) → (port == link.1.to.port) ≡ test → (if port == link.1.to.port then map (extended Out link) (at_end Out around link.1.from) else []) ≡ (if link.1.to.port == port then map (extended Out link) (at_end Out around link.1.from) else [])
      ports test is = ap (λ (b : Bool). if b then map (extended Out link) (at_end Out around link.1.from) else []) (same-number port link.1.to.port)

      here : (test other : Bool) → test ≡ other → at_port port (if test then map (arrived link) (at_end Out around link.1.from) else []) ≡ (if other && link.1.to.port == port then map (extended Out link) (at_end Out around link.1.from) else [])
      here true true is = port-arrived port link (at_end Out around link.1.from) ∙ ports (port == link.1.to.port) refl
      here false false is = refl
      here true false is = absurd (true≢false is)
      here false true is = absurd (true≢false (sym is))

  abbrev weigh : (Row → ℕ) → Route → ℕ
  weigh g route = g (row_of route)

  abbrev ReachClaim : Wiring → Type 0
  ReachClaim wiring = AreNamed wiring → (g : Row → ℕ) (come : Ends) (ins : ℕ → List Way) → ((port : ℕ) → come port ≡ map plain (ins port)) →
      weight g (flat_map rows_at ((flow wiring).sites come)) ≡ weight (weigh g) (reach wiring ins)

  kid-reaches : (sources : Sources) (around : Around) → Alike sources around → (me : Handle) (links : List Link) (g : Row → ℕ) (kid : WiredKid) → Beneath ReachClaim (out-WiredKid kid).below → KidNamed kid →
      weight g (flat_map rows_at ((flow_of_kid kid).sites links sources)) ≡ weight (weigh g) (kid_reach kid (arriving around (numbered me links) (part.Kid (out-WiredKid kid).name)))
  kid-reaches sources around alike me links g kid claim own_named =
      ap (λ (own_flow : KidFlow). weight g (flat_map rows_at (own_flow.sites links sources))) (kid-flow-is kid) ∙ by (out-WiredKid kid).below claim own_named
      ∙ ap (λ (own_reach : Arrivals → List Route). weight (weigh g) (own_reach (arriving around (numbered me links) (part.Kid (out-WiredKid kid).name)))) (sym (kid-reach-is kid))
    where
      name : Name
      name = (out-WiredKid kid).name

      by : (below : Option Wiring) → Beneath ReachClaim below → Beneath AreNamed below →
          weight g (flat_map rows_at ((below_flow (out-WiredKid kid).name (out-WiredKid kid).handle (flow_below below)).sites links sources))
          ≡ weight (weigh g) (reach_below (out-WiredKid kid).handle (below_reach below) (arriving around (numbered me links) (part.Kid (out-WiredKid kid).name)))
      by None own_claim is =
          ap (weight g) (append-nil (rows_into (out-WiredKid kid).handle (part.Kid (out-WiredKid kid).name) sources 0 links) ∙ rows-into sources around alike me (out-WiredKid kid).handle (part.Kid (out-WiredKid kid).name) 0 links)
          ∙ weight-map g row_of (map (ended (out-WiredKid kid).handle) (arriving around (numbered me links) (part.Kid (out-WiredKid kid).name)))
      by (Some wiring) own_claim is =
          own_claim is g (λ port. coming sources 0 links (record { part = part.Kid (out-WiredKid kid).name; port = port })) (λ port. at_port port (arriving around (numbered me links) (part.Kid (out-WiredKid kid).name)))
          (λ port. coming-flat sources around alike me 0 links (record { part = part.Kid (out-WiredKid kid).name; port = port })
          ∙ ap (map plain) (sym (at-port port around (part.Kid (out-WiredKid kid).name) (numbered me links))))

  kids-reach : (sources : Sources) (around : Around) → Alike sources around → (me : Handle) (links : List Link) (g : Row → ℕ) (kids : List WiredKid) → AllByRecursion (λ kid. Beneath ReachClaim (out-WiredKid kid).below) kids → AllByRecursion KidNamed kids →
      weight g (flat_map rows_at (flat_map (λ (own_flow : KidFlow). own_flow.sites links sources) (map flow_of_kid kids)))
      ≡ weight (weigh g) (flat_map (λ kid. kid_reach kid (arriving around (numbered me links) (part.Kid (out-WiredKid kid).name))) kids)
  kids-reach sources around alike me links g [] claims own_named = refl
  kids-reach sources around alike me links g (kid ∷ kids) claims own_named =
      let first = (flow_of_kid kid).sites links sources in
      let later = flat_map (λ (own_flow : KidFlow). own_flow.sites links sources) (map flow_of_kid kids) in
      let rows_of : Site → ℕ = λ site. weight g (rows_at site) in
      weight-flat g rows_at (first ++ later) ∙ weight-append rows_of first later
      ∙ ap₂ (λ a b. a + b) (sym (weight-flat g rows_at first) ∙ kid-reaches sources around alike me links g kid claims.0 own_named.0) (sym (weight-flat g rows_at later) ∙ kids-reach sources around alike me links g kids claims.1 own_named.1)
      ∙ sym (weight-append (weigh g) (kid_reach kid (arriving around (numbered me links) (part.Kid (out-WiredKid kid).name))) (flat_map (λ own_kid. kid_reach own_kid (arriving around (numbered me links) (part.Kid (out-WiredKid own_kid).name))) kids))

  flipped : (a b c d all : ℕ) → a ≡ c → b ≡ d → all ≡ d + c → a + b ≡ all
  flipped a b c d all p q r = omega arith

  reach-claim : (wiring : Wiring) → AllByRecursion (λ kid. Beneath ReachClaim (out-WiredKid kid).below) (out-Wiring wiring).kids → ReachClaim wiring
  reach-claim wiring claims own_named g come ins same =
      let y : Wiring-F WiredKid Wiring = out-Wiring wiring in
      let S : Sources = from_ways come y.boss (map flow_of_kid y.kids) in
      let A : Around = entered ins wiring in
      let alike : Alike S A = alike-kids come ins (entry ins) y.boss y.kids same (net-named wiring own_named).here (all-ways y.kids (net-named wiring own_named).below) in
      let kids : List Site = flat_map (λ (own_flow : KidFlow). own_flow.sites y.links S) (map flow_of_kid y.kids) in
      let boss : Site = record { part = y.boss; end = part.Boss; links = y.links; sources = S } in
      let rows_of : Site → ℕ = λ site. weight g (rows_at site) in
      let came : List Route = map (ended y.boss) (arriving A (links_of wiring) part.Boss) in
      let below : List Route = flat_map (λ kid. kid_reach kid (arriving A (links_of wiring) (part.Kid (out-WiredKid kid).name))) y.kids in
      ap (λ (own_flow : NetFlow). weight g (flat_map rows_at (own_flow.sites come))) (flow-is wiring)
      ∙ weight-flat g rows_at (kids ++ boss ∷ []) ∙ weight-append rows_of kids (boss ∷ [])
      ∙ flipped _ _ _ _ _
      (sym (weight-flat g rows_at kids) ∙ kids-reach S A alike y.me y.links g y.kids claims (net-named wiring own_named).below)
      (add-zero (rows_of boss) ∙ ap (weight g) (rows-into S A alike y.me y.boss part.Boss 0 y.links) ∙ weight-map g row_of came)
      (ap (weight (weigh g)) (reach-opened wiring ins) ∙ weight-append (weigh g) came below)

  pub each-reach : (wiring : Wiring) → ReachClaim wiring
  each-reach = each_wiring ReachClaim reach-claim

  -- what comes to the root's own ports, where no link leads from them to them
  abbrev IsNoLoop : Link → Type 0
  IsNoLoop link = is_part link.from.part part.Net && is_part link.to.part part.Net ≡ false

  loop-free : (net : Ways) (boss : Handle) (kids : List (Name × Inner)) (own_part to : Part) (port : ℕ) → is_part own_part part.Net && is_part to part.Net ≡ false → is_part part.Net to ≡ true →
      at_part Out (within no_ways boss kids) own_part port ≡ at_part Out (within net boss kids) own_part port
  loop-free net boss kids part.Net part.Net port is here = absurd (true≢false is)
  loop-free net boss kids part.Net part.Boss port is here = absurd (true≢false (sym here))
  loop-free net boss kids part.Net (part.Kid name) port is here = absurd (true≢false (sym here))
  loop-free net boss kids part.Boss to port is here = refl
  loop-free net boss kids (part.Kid name) to port is here = refl

  arrives-same : (net : Ways) (boss : Handle) (kids : List (Name × Inner)) (link : Numbered) → IsNoLoop link.1 → arriving_by (within no_ways boss kids) part.Net link ≡ arriving_by (within net boss kids) part.Net link
  arrives-same net boss kids link is = by (is_part part.Net link.1.to.part) refl where
    by : (test : Bool) → is_part part.Net link.1.to.part ≡ test →
        (if test then map (arrived link) (at_end Out (within no_ways boss kids) link.1.from) else []) ≡ (if test then map (arrived link) (at_end Out (within net boss kids) link.1.from) else [])
    by true here = ap (map (arrived link)) (loop-free net boss kids link.1.from.part link.1.to.part link.1.from.port is here)
    by false here = refl

  all-arrive : (net : Ways) (boss : Handle) (kids : List (Name × Inner)) (me : Handle) (number : ℕ) (links : List Link) → AllByRecursion IsNoLoop links →
      flat_map (arriving_by (within no_ways boss kids) part.Net) (map (step_from me) (enumerate_from number links)) ≡ flat_map (arriving_by (within net boss kids) part.Net) (map (step_from me) (enumerate_from number links))
  all-arrive net boss kids me number [] free = refl
  all-arrive net boss kids me number (link ∷ links) free =
      ap₂ (λ (xs ys : Arrivals). xs ++ ys) (arrives-same net boss kids (step_from me (number, link)) free.0) (all-arrive net boss kids me (number + 1) links free.1)

  pub rows-routes : (g : Row → ℕ) (wiring : Wiring) → AreNamed wiring → AllByRecursion IsNoLoop (out-Wiring wiring).links → weight g (rows wiring) ≡ weight g (routed wiring)
  rows-routes g wiring own_named free =
      let y : Wiring-F WiredKid Wiring = out-Wiring wiring in
      let kids : List (Name × Inner) = map inner_of_kid y.kids in
      let came : List Route = map (ended y.me) (arriving (within (entry (own y.me Out)) y.boss kids) (links_of wiring) part.Net) in
      let rows_of : Site → ℕ = λ site. weight g (rows_at site) in
      let S : Sources = from_ways nowhere y.boss (map flow_of_kid y.kids) in
      let alike : Alike S (within no_ways y.boss kids) = alike-kids nowhere (λ _. []) no_ways y.boss y.kids (λ _. refl) (net-named wiring own_named).here (all-ways y.kids (net-named wiring own_named).below) in
      let outer : rows_of (flow wiring).out ≡ weight (weigh g) came =
      ap (λ (own_flow : NetFlow). rows_of own_flow.out) (flow-is wiring) ∙ ap (weight g) (rows-into S (within no_ways y.boss kids) alike y.me y.me part.Net 0 y.links
      ∙ ap (λ arrivals. map row_of (map (ended y.me) arrivals)) (all-arrive (entry (own y.me Out)) y.boss kids y.me 0 y.links free)) ∙ weight-map g row_of came in
      ap (λ (own_flow : NetFlow). weight g (flat_map rows_at ((flow wiring).sites (begin own_flow.out.part) ++ (flow wiring).out ∷ []))) (flow-is wiring)
      ∙ weight-flat g rows_at ((flow wiring).sites (begin y.me) ++ (flow wiring).out ∷ [])
      ∙ weight-append rows_of ((flow wiring).sites (begin y.me)) ((flow wiring).out ∷ [])
      ∙ ap₂ (λ a b. a + b) (sym (weight-flat g rows_at ((flow wiring).sites (begin y.me))) ∙ each-reach wiring own_named g (begin y.me) (own y.me Out) (λ port. refl)) (add-zero (rows_of (flow wiring).out) ∙ outer)
      ∙ sym (weight-append (weigh g) (reach wiring (own y.me Out)) came)
      ∙ sym (weight-map g row_of (routes wiring) ∙ routes-gathered (weigh g) wiring)
