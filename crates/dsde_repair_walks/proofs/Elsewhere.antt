-- The routes of a wiring whose links are all of other networks than one use none of its links; such a wiring is left where one
-- is made bare that alone has its handle.
use Rattle.std.proofs.Common.{◌≡◌, ℕ, ◌+◌, ◌≤◌, Bool, true, false, if◌then◌else◌, List, [], ◌∷◌, ◌++◌, map, length, length-append, refl, sym, ◌∙◌, subst, arith, Option, Some, None}
use Rattle.std.specs.List.{flat_map, AllByRecursion, enumerate_from}
use Rattle.dsde_bank.specs.declared.handle.Handle.{Handle}
use Rattle.dsde_values.specs.declared.name.Name.{Name}
use Rattle.dsde_routes_wiring.specs.given.structure.plan_Link.{Link}
use Rattle.dsde_routes_wiring.specs.given.structure.Gather.{is_same_name}
use Rattle.dsde_routes_wiring.specs.declared.side.Side.{Side}
use Rattle.dsde_routes_wiring.specs.declared.side.Side.TheVariants.{Out, Into}
use Rattle.dsde_routes_wiring.specs.declared.wiring.WiredKid.{WiredKid}
use Rattle.dsde_routes_wiring.specs.declared.wiring.Wiring.{Wiring}
use Rattle.dsde_routes_wiring.specs.declared.wiring.WiredKid.TheOpen.{Wiring-F, WiredKid-F}
use Rattle.dsde_routes_wiring.specs.declared.wiring.WiredKid.TheViews.{out-Wiring, out-WiredKid, roll-WiredKid, roll-out-Wiring, out-roll-WiredKid}
use Rattle.dsde_routes_wiring.specs.Opened.{Beneath, each_wiring}
use Rattle.dsde_routes_wiring.specs.Routes.{Step, Way, Route, Ways, Inner, Numbered, step_from, links_of, extended, met, routes_in, inner_of, inner_of_kid, below_step}
use Rattle.dsde_routes_wiring.specs.Places.{changed, kid_changed, below_changed, bared, nets_at, kid_at, below_at, inside}
use Rattle.dsde_routes_wiring.specs.Wired.{is_same_handle, Shape}
use Rattle.dsde_routes_wiring.specs.Touched.{passes, handles_of, handles_of_kid}
use Rattle.dsde_repair_walks.specs.Weights.{weight-append}
use Rattle.dsde_repair_walks.specs.Bounds.{count}
use Rattle.dsde_repair_walks.proofs.Opens.{below_inner, inner-is, kid-is}
use Rattle.dsde_repair_walks.proofs.Each.{each-flat, each-of, each-front, each-back, none-head, none-append}
use Rattle.dsde_repair_walks.proofs.Keeping.{Keeps, routes-keep, net-keeps}
use Rattle.dsde_repair_walks.proofs.Counting.{same-handles}
use Rattle.dsde_repair_walks.proofs.Handles.{below_known, handles-is, kid-handles}
use Rattle.dsde_repair_walks.proofs.Shapes.{Each, KidEach, net-here, net-below, net-of}

module _ (h : Handle) where
  abbrev test : Step → Bool
  test step = is_same_handle step.net h

  abbrev WayAvoids : Way → Type 0
  WayAvoids way = passes h way.steps ≡ false

  abbrev pub RouteAvoids : Route → Type 0
  RouteAvoids route = passes h route.steps ≡ false

  abbrev OfOthers : Numbered → Type 0
  OfOthers link = test link.0 ≡ false

  goes-on : (side : Side) (link : Numbered) (way : Way) → OfOthers link → WayAvoids way → WayAvoids (extended side link way)
  goes-on Out link way is avoids = none-head test link.0 way.steps is avoids
  goes-on Into link way is avoids = none-append test way.steps (link.0 ∷ []) avoids (none-head test link.0 [] is refl)

  meets : (before after : Way) → WayAvoids before → WayAvoids after → RouteAvoids (met before after)
  meets before after is also = none-append test after.steps before.steps also is

  -- each link of a network is one of another network
  abbrev pub IsElsewhere : Shape → Type 0
  IsElsewhere net = AllByRecursion (λ (link : Link). is_same_handle net.me h ≡ false) net.links

  all-others : (net : Handle) (number : ℕ) (links : List Link) → AllByRecursion (λ (link : Link). is_same_handle net h ≡ false) links → AllByRecursion OfOthers (map (step_from net) (enumerate_from number links))
  all-others net number [] are = tt
  all-others net number (link ∷ links) are = (are.0, all-others net (number + 1) links are.1)

  -- the routes of such a wiring
  abbrev IsPast : Inner → Type 0
  IsPast inner = Keeps WayAvoids RouteAvoids inner

  abbrev Avoids : Wiring → Type 0
  Avoids wiring = Each IsElsewhere wiring → IsPast (inner_of wiring)

  abbrev BelowAvoids : WiredKid → Type 0
  BelowAvoids kid = Beneath Avoids (out-WiredKid kid).below

  abbrev KidPast : Name × Inner → Type 0
  KidPast kid = IsPast kid.1

  kid-avoids : (kid : WiredKid) → BelowAvoids kid → KidEach IsElsewhere kid → IsPast (inner_of_kid kid).1
  kid-avoids kid avoids each = subst (λ (own : Name × Inner). IsPast own.1) (sym (kid-is kid)) (by (out-WiredKid kid).below avoids each) where
    by : (below : Option Wiring) → Beneath Avoids below → Beneath (Each IsElsewhere) below → IsPast (below_step (out-WiredKid kid).handle (below_inner below))
    by None own are = record { ways = λ side port. (refl, tt); routes = tt }
    by (Some wiring) own are = own are

  kids-avoid : (kids : List WiredKid) → AllByRecursion BelowAvoids kids → AllByRecursion (KidEach IsElsewhere) kids → AllByRecursion KidPast (map inner_of_kid kids)
  kids-avoid [] avoid each = tt
  kids-avoid (kid ∷ kids) avoid each = (kid-avoids kid avoid.0 each.0, kids-avoid kids avoid.1 each.1)

  links-others : (wiring : Wiring) → Each IsElsewhere wiring → AllByRecursion OfOthers (links_of wiring)
  links-others wiring each = all-others (out-Wiring wiring).me 0 (out-Wiring wiring).links (net-here IsElsewhere wiring each)

  net-avoids : (wiring : Wiring) → AllByRecursion BelowAvoids (out-Wiring wiring).kids → Avoids wiring
  net-avoids wiring avoid each =
      subst IsPast (sym (inner-is wiring))
      (net-keeps WayAvoids RouteAvoids OfOthers goes-on meets (out-Wiring wiring).boss (map inner_of_kid (out-Wiring wiring).kids) (links_of wiring) (λ side port. (refl, tt))
      (kids-avoid (out-Wiring wiring).kids avoid (net-below IsElsewhere wiring each)) (links-others wiring each))

  wiring-avoids : (wiring : Wiring) → Avoids wiring
  wiring-avoids = each_wiring Avoids net-avoids

  all-avoid : (kids : List WiredKid) → AllByRecursion BelowAvoids kids
  all-avoid kids = each-of BelowAvoids (λ kid. by (out-WiredKid kid).below) kids where
    by : (below : Option Wiring) → Beneath Avoids below
    by None = tt
    by (Some wiring) = wiring-avoids wiring

  pub open-avoids : (net : Ways) (wiring : Wiring) → ((side : Side) (port : ℕ) → AllByRecursion WayAvoids (net side port)) → Each IsElsewhere wiring → AllByRecursion RouteAvoids (routes_in net wiring)
  open-avoids net wiring outside each =
      routes-keep WayAvoids RouteAvoids OfOthers goes-on meets net (out-Wiring wiring).boss (map inner_of_kid (out-Wiring wiring).kids) (links_of wiring) outside (λ side port. (refl, tt))
      (kids-avoid (out-Wiring wiring).kids (all-avoid (out-Wiring wiring).kids) (net-below IsElsewhere wiring each)) (links-others wiring each)

  pub inside-avoids : (kids : List WiredKid) → AllByRecursion (KidEach IsElsewhere) kids → AllByRecursion RouteAvoids (inside kids)
  inside-avoids kids each = each-flat RouteAvoids (λ kid. (inner_of_kid kid).1.routes) kids (by kids each) where
    below-avoids : (below : Option Wiring) → Beneath Avoids below
    below-avoids None = tt
    below-avoids (Some wiring) = wiring-avoids wiring

    by : (own_kids : List WiredKid) → AllByRecursion (KidEach IsElsewhere) own_kids → AllByRecursion (λ kid. AllByRecursion RouteAvoids (inner_of_kid kid).1.routes) own_kids
    by [] own = tt
    by (kid ∷ others) own = ((kid-avoids kid (below-avoids (out-WiredKid kid).below) own.0).routes, by others own.1)

  -- how often the handle stands among others
  abbrev stands : List Handle → ℕ
  stands handles = count (is_same_handle h) handles

  is-other : (me : Handle) (rest most : ℕ) → (if is_same_handle h me then 1 else 0) + rest ≤ most → most ≤ rest → is_same_handle me h ≡ false
  is-other me rest most few more = same-handles.symm me h ∙ by (is_same_handle h me) few where
    by : (b : Bool) → (if b then 1 else 0) + rest ≤ most → b ≡ false
    by true own_few = absurd (omega arith)
    by false own_few = refl

  -- where it does not stand, no network has it
  abbrev Absent : Wiring → Type 0
  Absent wiring = stands (handles_of wiring) ≤ 0 → Each IsElsewhere wiring

  kid-absent : (kid : WiredKid) → Beneath Absent (out-WiredKid kid).below → stands (handles_of_kid kid) ≤ 0 → KidEach IsElsewhere kid
  kid-absent kid absent none = by (out-WiredKid kid).below absent (subst (λ handles. stands handles ≤ 0) (kid-handles kid) none) where
    by : (below : Option Wiring) → Beneath Absent below → stands (below_known (out-WiredKid kid).handle below) ≤ 0 → Beneath (Each IsElsewhere) below
    by None own few = tt
    by (Some wiring) own few = own few

  kids-absent : (kids : List WiredKid) → AllByRecursion (λ kid. Beneath Absent (out-WiredKid kid).below) kids → stands (flat_map handles_of_kid kids) ≤ 0 → AllByRecursion (KidEach IsElsewhere) kids
  kids-absent [] absent none = tt
  kids-absent (kid ∷ kids) absent none =
      let sum : stands (handles_of_kid kid ++ flat_map handles_of_kid kids) ≡ stands (handles_of_kid kid) + stands (flat_map handles_of_kid kids) = weight-append _ (handles_of_kid kid) (flat_map handles_of_kid kids) in
      (kid-absent kid absent.0 (omega arith), kids-absent kids absent.1 (omega arith))

  net-absent : (wiring : Wiring) → AllByRecursion (λ kid. Beneath Absent (out-WiredKid kid).below) (out-Wiring wiring).kids → Absent wiring
  net-absent wiring absent none =
      let y : Wiring-F WiredKid Wiring = out-Wiring wiring in
      let counts : stands (y.me ∷ y.boss ∷ flat_map handles_of_kid y.kids) ≤ 0 = subst (λ handles. stands handles ≤ 0) (handles-is wiring) none in
      let kids : stands (flat_map handles_of_kid y.kids) ≤ 0 = omega arith in
      subst (Each IsElsewhere) (roll-out-Wiring wiring)
      (net-of IsElsewhere y (each-of (λ (link : Link). is_same_handle y.me h ≡ false) (λ link. is-other y.me (stands (y.boss ∷ flat_map handles_of_kid y.kids)) 0 counts (omega arith)) y.links)
      (kids-absent y.kids absent kids))

  absent : (wiring : Wiring) → Absent wiring
  absent = each_wiring Absent net-absent

  below-absent : (below : Option Wiring) → Beneath Absent below
  below-absent None = tt
  below-absent (Some wiring) = absent wiring

  pub none-stand : (kids : List WiredKid) → stands (flat_map handles_of_kid kids) ≤ 0 → AllByRecursion (KidEach IsElsewhere) kids
  none-stand kids none = kids-absent kids (each-of (λ kid. Beneath Absent (out-WiredKid kid).below) (λ kid. below-absent (out-WiredKid kid).below) kids) none

  -- it stands for each network at a place that has it
  abbrev pub IsHere : Wiring → Type 0
  IsHere wiring = is_same_handle (out-Wiring wiring).me h ≡ true

  abbrev FewAt : List Name → Type 0
  FewAt place = (wiring : Wiring) → AllByRecursion IsHere (nets_at place wiring) → length (nets_at place wiring) ≤ stands (handles_of wiring)

  abbrev nets_of_kid : Name → List Name → WiredKid → List Wiring
  nets_of_kid name place kid = kid_at name (nets_at place) kid

  kid-few : (name : Name) (place : List Name) → FewAt place → (kid : WiredKid) → AllByRecursion IsHere (nets_of_kid name place kid) → length (nets_of_kid name place kid) ≤ stands (handles_of_kid kid)
  kid-few name place at kid are = subst (λ handles. length (nets_of_kid name place kid) ≤ stands handles) (sym (kid-handles kid)) (by (is_same_name (out-WiredKid kid).name name) (out-WiredKid kid).below are) where
    by : (same : Bool) (below : Option Wiring) → AllByRecursion IsHere (if same then below_at (nets_at place) below else []) → length (if same then below_at (nets_at place) below else []) ≤ stands (below_known (out-WiredKid kid).handle below)
    by false below own = omega arith
    by true None own = omega arith
    by true (Some wiring) own = at wiring own

  kids-few : (name : Name) (place : List Name) → FewAt place → (kids : List WiredKid) → AllByRecursion IsHere (flat_map (nets_of_kid name place) kids) → length (flat_map (nets_of_kid name place) kids) ≤ stands (flat_map handles_of_kid kids)
  kids-few name place at [] are = omega arith
  kids-few name place at (kid ∷ kids) are =
      let own : List Wiring = nets_of_kid name place kid in
      let others : List Wiring = flat_map (nets_of_kid name place) kids in
      let here = kid-few name place at kid (each-front IsHere own others are) in
      let later = kids-few name place at kids (each-back IsHere own others are) in
      let lengths : length (own ++ others) ≡ length own + length others = length-append own others in
      let sum : stands (handles_of_kid kid ++ flat_map handles_of_kid kids) ≡ stands (handles_of_kid kid) + stands (flat_map handles_of_kid kids) = weight-append _ (handles_of_kid kid) (flat_map handles_of_kid kids) in
      omega arith

  pub few-at : (place : List Name) → FewAt place
  few-at [] wiring are =
      let y : Wiring-F WiredKid Wiring = out-Wiring wiring in
      subst (λ handles. 1 ≤ stands handles) (sym (handles-is wiring)) (by (is_same_handle h y.me) (same-handles.symm h y.me ∙ are.0))
    where
      by : (b : Bool) → b ≡ true → 1 ≤ (if b then 1 else 0) + stands ((out-Wiring wiring).boss ∷ flat_map handles_of_kid (out-Wiring wiring).kids)
      by true own = omega arith
      by false own = absurd (cc)
  few-at (name ∷ place) wiring are =
      let y : Wiring-F WiredKid Wiring = out-Wiring wiring in
      let kids = kids-few name place (few-at place) y.kids are in
      subst (λ handles. length (nets_at (name ∷ place) wiring) ≤ stands handles) (sym (handles-is wiring)) (omega arith)

  -- where it stands for these networks alone, all links are of others once these are bare
  abbrev BareAt : List Name → Type 0
  BareAt place = (wiring : Wiring) → AllByRecursion IsHere (nets_at place wiring) → stands (handles_of wiring) ≤ length (nets_at place wiring) → Each IsElsewhere (changed place bared wiring)

  kid-bare : (name : Name) (place : List Name) → BareAt place → (kid : WiredKid) → AllByRecursion IsHere (nets_of_kid name place kid) → stands (handles_of_kid kid) ≤ length (nets_of_kid name place kid) →
      KidEach IsElsewhere (kid_changed name (changed place bared) kid)
  kid-bare name place at kid are few = by (is_same_name (out-WiredKid kid).name name) are few where
    belows : (below : Option Wiring) → AllByRecursion IsHere (below_at (nets_at place) below) → stands (below_known (out-WiredKid kid).handle below) ≤ length (below_at (nets_at place) below) → Beneath (Each IsElsewhere) (below_changed (changed place bared) below)
    belows None own own_few = tt
    belows (Some wiring) own own_few = at wiring own own_few

    by : (same : Bool) → AllByRecursion IsHere (if same then below_at (nets_at place) (out-WiredKid kid).below else []) → stands (handles_of_kid kid) ≤ length (if same then below_at (nets_at place) (out-WiredKid kid).below else []) →
        KidEach IsElsewhere (if same then roll-WiredKid (record (out-WiredKid kid) { below = below_changed (changed place bared) (out-WiredKid kid).below }) else kid)
    by true own own_few =
        subst (λ (z : WiredKid-F WiredKid Wiring). Beneath (Each IsElsewhere) z.below) (sym (out-roll-WiredKid (record (out-WiredKid kid) { below = below_changed (changed place bared) (out-WiredKid kid).below })))
        (belows (out-WiredKid kid).below own (subst (λ handles. stands handles ≤ length (below_at (nets_at place) (out-WiredKid kid).below)) (kid-handles kid) own_few))
    by false own own_few = kid-absent kid (below-absent (out-WiredKid kid).below) own_few

  kids-bare : (name : Name) (place : List Name) → BareAt place → (kids : List WiredKid) → AllByRecursion IsHere (flat_map (nets_of_kid name place) kids) → stands (flat_map handles_of_kid kids) ≤ length (flat_map (nets_of_kid name place) kids) →
      AllByRecursion (KidEach IsElsewhere) (map (kid_changed name (changed place bared)) kids)
  kids-bare name place at [] are few = tt
  kids-bare name place at (kid ∷ kids) are few =
      let own : List Wiring = nets_of_kid name place kid in
      let others : List Wiring = flat_map (nets_of_kid name place) kids in
      let here = kid-few name place (few-at place) kid (each-front IsHere own others are) in
      let later = kids-few name place (few-at place) kids (each-back IsHere own others are) in
      let lengths : length (own ++ others) ≡ length own + length others = length-append own others in
      let sum : stands (handles_of_kid kid ++ flat_map handles_of_kid kids) ≡ stands (handles_of_kid kid) + stands (flat_map handles_of_kid kids) = weight-append _ (handles_of_kid kid) (flat_map handles_of_kid kids) in
      let here_few : stands (handles_of_kid kid) ≤ length own = omega arith in
      let later_few : stands (flat_map handles_of_kid kids) ≤ length others = omega arith in
      (kid-bare name place at kid (each-front IsHere own others are) here_few, kids-bare name place at kids (each-back IsHere own others are) later_few)

  pub bare-at : (place : List Name) → BareAt place
  bare-at [] wiring are few = net-of IsElsewhere (record (out-Wiring wiring) { links = []; kids = [] }) tt tt
  bare-at (name ∷ place) wiring are few =
      let y : Wiring-F WiredKid Wiring = out-Wiring wiring in
      let counts : stands (y.me ∷ y.boss ∷ flat_map handles_of_kid y.kids) ≤ length (flat_map (nets_of_kid name place) y.kids) = subst (λ handles. stands handles ≤ length (nets_at (name ∷ place) wiring)) (handles-is wiring) few in
      let most = kids-few name place (few-at place) y.kids are in
      let kids : stands (flat_map handles_of_kid y.kids) ≤ length (flat_map (nets_of_kid name place) y.kids) = omega arith in
      net-of IsElsewhere (record y { kids = map (kid_changed name (changed place bared)) y.kids })
      (each-of (λ (link : Link). is_same_handle y.me h ≡ false) (λ link. is-other y.me (stands (y.boss ∷ flat_map handles_of_kid y.kids)) (length (flat_map (nets_of_kid name place) y.kids)) counts (omega arith)) y.links)
      (kids-bare name place (bare-at place) y.kids are kids)
