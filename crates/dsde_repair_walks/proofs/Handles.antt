-- The handles of a wiring: those of its routes, and how a change changes them.
use Rattle.std.proofs.Common.{◌≡◌, ℕ, ◌+◌, Bool, true, false, ◌&&◌, ap₂, eq-eqb, if◌then◌else◌, List, [], ◌∷◌, ◌++◌, map, refl, sym, ap, ◌∙◌, subst, arith, zero-add, Option, Some, None}
use Rattle.std.specs.List.{flat_map, AllByRecursion}
use Rattle.dsde_bank.specs.declared.handle.Handle.{Handle}
use Rattle.dsde_values.specs.declared.name.Name.{Name}
use Rattle.dsde_routes_wiring.specs.given.structure.Gather.{is_same_name}
use Rattle.dsde_routes_wiring.specs.declared.side.Side.{Side}
use Rattle.dsde_routes_wiring.specs.declared.side.Side.TheVariants.{Out, Into}
use Rattle.dsde_routes_wiring.specs.declared.wiring.WiredKid.{WiredKid}
use Rattle.dsde_routes_wiring.specs.declared.wiring.Wiring.{Wiring}
use Rattle.dsde_routes_wiring.specs.declared.wiring.WiredKid.TheFolds.{fold-roll-Wiring, fold-roll-WiredKid}
use Rattle.dsde_routes_wiring.specs.declared.wiring.WiredKid.TheOpen.{Wiring-F, WiredKid-F}
use Rattle.dsde_routes_wiring.specs.declared.wiring.WiredKid.TheViews.{out-Wiring, out-WiredKid, roll-Wiring, roll-WiredKid, roll-out-Wiring, roll-out-WiredKid}
use Rattle.dsde_routes_wiring.specs.Routes.{Way, Route, Ways, Inner, Numbered, links_of, within, extended, met, routes_by, routes_in, inner_of, inner_of_kid, inner_net, below_step}
use Rattle.dsde_routes_wiring.specs.Places.{changed, kid_changed, below_changed, bared, kids_at, kid_at, below_at, inside}
use Rattle.dsde_routes_wiring.specs.Wired.{is_same_handle}
use Rattle.dsde_routes_wiring.specs.Touched.{knows, kid_handles, net_handles, handles_of, handles_of_kid}
use Rattle.dsde_repair_walks.specs.Weights.{weight, weight-append, weight-flat}
use Rattle.dsde_repair_walks.proofs.Opens.{below_inner, inner-is, kid-is}
use Rattle.dsde_routes_wiring.specs.Opened.{Beneath, each_wiring}
use Rattle.dsde_repair_walks.proofs.Each.{each-flat, each-of, each-weaker, any-left, any-right, any-head, any-tail}
use Rattle.dsde_repair_walks.proofs.Keeping.{Keeps, routes-keep, net-keeps}

flat-map-id : {X Y : Type 0} (f : X → List Y) (xs : List X) → flat_map (λ ys. ys) (map f xs) ≡ flat_map f xs
flat-map-id f [] = refl
flat-map-id f (x ∷ xs) = ap (λ ys. f x ++ ys) (flat-map-id f xs)

pub handles-roll : (y : Wiring-F WiredKid Wiring) → handles_of (roll-Wiring y) ≡ y.me ∷ y.boss ∷ flat_map handles_of_kid y.kids
handles-roll y = fold-roll-Wiring (List Handle) (List Handle) kid_handles net_handles y ∙ ap (λ handles. y.me ∷ y.boss ∷ handles) (flat-map-id handles_of_kid y.kids)

pub handles-is : (wiring : Wiring) → handles_of wiring ≡ (out-Wiring wiring).me ∷ (out-Wiring wiring).boss ∷ flat_map handles_of_kid (out-Wiring wiring).kids
handles-is wiring = ap handles_of (sym (roll-out-Wiring wiring)) ∙ handles-roll (out-Wiring wiring)

abbrev pub below_known : Handle → Option Wiring → List Handle
below_known handle None = handle ∷ []
below_known handle (Some wiring) = handles_of wiring

kid-below : (name : Name) (handle : Handle) (below : Option Wiring) → handles_of_kid (roll-WiredKid (record { name = name; handle = handle; below = below })) ≡ below_known handle below
kid-below name handle None = fold-roll-WiredKid (List Handle) (List Handle) kid_handles net_handles (record { name = name; handle = handle; below = None })
kid-below name handle (Some wiring) = fold-roll-WiredKid (List Handle) (List Handle) kid_handles net_handles (record { name = name; handle = handle; below = Some wiring })

pub kid-handles-roll : (y : WiredKid-F WiredKid Wiring) → handles_of_kid (roll-WiredKid y) ≡ below_known y.handle y.below
kid-handles-roll y = kid-below y.name y.handle y.below

pub kid-handles : (kid : WiredKid) → handles_of_kid kid ≡ below_known (out-WiredKid kid).handle (out-WiredKid kid).below
kid-handles kid = ap handles_of_kid (sym (roll-out-WiredKid kid)) ∙ kid-handles-roll (out-WiredKid kid)

-- handles at a place, and those elsewhere
abbrev SplitsAt : List Name → Type 0
SplitsAt place = (g : Handle → ℕ) (wiring : Wiring) → weight g (handles_of wiring) ≡ weight g (handles_of (changed place bared wiring)) + weight g (flat_map handles_of_kid (kids_at place wiring))

kid-splits : (name : Name) (place : List Name) → SplitsAt place → (g : Handle → ℕ) (kid : WiredKid) →
    weight g (handles_of_kid kid) ≡ weight g (handles_of_kid (kid_changed name (changed place bared) kid)) + weight g (flat_map handles_of_kid (kid_at name (kids_at place) kid))
kid-splits name place at g kid = by (is_same_name (out-WiredKid kid).name name) where
  y : WiredKid-F WiredKid Wiring
  y = out-WiredKid kid

  alone : (n : ℕ) → n ≡ n + 0
  alone n = omega arith

  belows : (below : Option Wiring) → weight g (below_known y.handle below) ≡ weight g (below_known y.handle (below_changed (changed place bared) below)) + weight g (flat_map handles_of_kid (below_at (kids_at place) below))
  belows None = alone (weight g (y.handle ∷ []))
  belows (Some wiring) = at g wiring

  by : (same : Bool) → weight g (handles_of_kid kid)
      ≡ weight g (handles_of_kid (if same then roll-WiredKid (record y { below = below_changed (changed place bared) y.below }) else kid)) + weight g (flat_map handles_of_kid (if same then below_at (kids_at place) y.below else []))
  by true = ap (weight g) (kid-handles kid) ∙ belows y.below ∙ ap (λ handles. weight g handles + weight g (flat_map handles_of_kid (below_at (kids_at place) y.below))) (sym (kid-handles-roll (record y { below = below_changed (changed place bared) y.below })))
  by false = alone (weight g (handles_of_kid kid))

four : (a b c x y z v w : ℕ) → x ≡ y + z → a ≡ b + c → v ≡ x + a → w ≡ y + b → v ≡ w + (z + c)
four a b c x y z v w p q r s = omega arith

kids-splits : (name : Name) (place : List Name) → SplitsAt place → (g : Handle → ℕ) (kids : List WiredKid) →
    weight g (flat_map handles_of_kid kids) ≡ weight g (flat_map handles_of_kid (map (kid_changed name (changed place bared)) kids)) + weight g (flat_map handles_of_kid (flat_map (kid_at name (kids_at place)) kids))
kids-splits name place at g [] = refl
kids-splits name place at g (kid ∷ kids) =
    let less : WiredKid → WiredKid = kid_changed name (changed place bared) in
    let f : WiredKid → List WiredKid = kid_at name (kids_at place) in
    four _ _ _ _ _ _ _ _ (kid-splits name place at g kid) (kids-splits name place at g kids)
    (weight-append g (handles_of_kid kid) (flat_map handles_of_kid kids))
    (weight-append g (handles_of_kid (less kid)) (flat_map handles_of_kid (map less kids)))
    ∙ ap (λ n. weight g (flat_map handles_of_kid (map less (kid ∷ kids))) + n)
    (sym (weight-flat g handles_of_kid (f kid ++ flat_map f kids) ∙ weight-append (λ own. weight g (handles_of_kid own)) (f kid) (flat_map f kids)
    ∙ ap (λ n. n + weight (λ own. weight g (handles_of_kid own)) (flat_map f kids)) (sym (weight-flat g handles_of_kid (f kid)))
    ∙ ap (λ n. weight g (flat_map handles_of_kid (f kid)) + n) (sym (weight-flat g handles_of_kid (flat_map f kids)))))

two : (a b n m k : ℕ) → n ≡ m + k → a + (b + n) ≡ a + (b + m) + k
two a b n m k p = omega arith

pub handles-split : (place : List Name) → SplitsAt place
handles-split [] g wiring =
    let y : Wiring-F WiredKid Wiring = out-Wiring wiring in
    ap (weight g) (handles-is wiring) ∙ two (g y.me) (g y.boss) (weight g (flat_map handles_of_kid y.kids)) 0 (weight g (flat_map handles_of_kid y.kids)) (sym (zero-add _))
    ∙ ap (λ handles. weight g handles + weight g (flat_map handles_of_kid y.kids)) (sym (handles-roll (record y { links = []; kids = [] })))
handles-split (name ∷ place) g wiring =
    let y : Wiring-F WiredKid Wiring = out-Wiring wiring in
    ap (weight g) (handles-is wiring)
    ∙ two (g y.me) (g y.boss) (weight g (flat_map handles_of_kid y.kids)) _ _ (kids-splits name place (handles-split place) g y.kids)
    ∙ ap (λ handles. weight g handles + weight g (flat_map handles_of_kid (kids_at (name ∷ place) wiring))) (sym (handles-roll (record y { kids = map (kid_changed name (changed place bared)) y.kids })))

-- a part whose ways and routes have known handles
abbrev pub WayKnown : List Handle → Way → Type 0
WayKnown handles way = knows handles way.handle ≡ true

abbrev pub RouteKnown : List Handle → Route → Type 0
RouteKnown handles route = (knows handles route.source ≡ true) × (knows handles route.target ≡ true)

abbrev IsKnown : List Handle → Inner → Type 0
IsKnown handles inner = Keeps (WayKnown handles) (RouteKnown handles) inner

abbrev pub Wider : List Handle → List Handle → Type 0
Wider handles others = (handle : Handle) → knows handles handle ≡ true → knows others handle ≡ true

pub route-wider : (handles others : List Handle) → Wider handles others → (own_routes : List Route) → AllByRecursion (RouteKnown handles) own_routes → AllByRecursion (RouteKnown others) own_routes
route-wider handles others wider own_routes known = each-weaker (RouteKnown handles) (RouteKnown others) (λ route is. (wider route.source is.0, wider route.target is.1)) own_routes known

known-wider : (handles others : List Handle) (inner : Inner) → Wider handles others → IsKnown handles inner → IsKnown others inner
known-wider handles others inner wider known = record {
  ways = λ side port. each-weaker (WayKnown handles) (WayKnown others) (λ way is. wider way.handle is) (inner.ways side port) (known.ways side port);
  routes = route-wider handles others wider inner.routes known.routes;
}

pub same-self : (handle : Handle) → is_same_handle handle handle ≡ true
same-self handle = ap₂ (λ (a b : Bool). a && b) (eq-eqb handle.birth handle.birth refl) (eq-eqb handle.slot handle.slot refl)

module _ (handles : List Handle) where
  abbrev AnyLink : Numbered → Type 0
  AnyLink link = Unit {0}

  any-links : (links : List Numbered) → AllByRecursion AnyLink links
  any-links links = each-of AnyLink (λ link. tt) links

  goes-on : (side : Side) (link : Numbered) (way : Way) → AnyLink link → WayKnown handles way → WayKnown handles (extended side link way)
  goes-on Out link way any is = is
  goes-on Into link way any is = is

  meets : (before after : Way) → WayKnown handles before → WayKnown handles after → RouteKnown handles (met before after)
  meets before after is also = (is, also)

  abbrev KidKnown : Name × Inner → Type 0
  KidKnown kid = IsKnown handles kid.1

  net-known : (boss : Handle) (kids : List (Name × Inner)) (links : List Numbered) → knows handles boss ≡ true → AllByRecursion KidKnown kids → IsKnown handles (inner_net boss kids links)
  net-known boss kids links is known = net-keeps (WayKnown handles) (RouteKnown handles) AnyLink goes-on meets boss kids links (λ side port. (is, tt)) known (any-links links)

  around-known : (net : Ways) (boss : Handle) (kids : List (Name × Inner)) (links : List Numbered) → ((side : Side) (port : ℕ) → AllByRecursion (WayKnown handles) (net side port)) → knows handles boss ≡ true → AllByRecursion KidKnown kids →
      AllByRecursion (RouteKnown handles) (routes_by (within net boss kids) links)
  around-known net boss kids links outside is known = routes-keep (WayKnown handles) (RouteKnown handles) AnyLink goes-on meets net boss kids links outside (λ side port. (is, tt)) known (any-links links)

abbrev Known : Wiring → Type 0
Known wiring = IsKnown (handles_of wiring) (inner_of wiring)

abbrev BelowKnown : WiredKid → Type 0
BelowKnown kid = Beneath Known (out-WiredKid kid).below

kid-known : (kid : WiredKid) → BelowKnown kid → IsKnown (handles_of_kid kid) (inner_of_kid kid).1
kid-known kid known =
    let y : WiredKid-F WiredKid Wiring = out-WiredKid kid in
    subst (λ handles. IsKnown handles (inner_of_kid kid).1) (sym (kid-handles kid))
    (subst (λ (own : Name × Inner). IsKnown (below_known y.handle y.below) own.1) (sym (kid-is kid)) (by y.below known))
  where
    by : (below : Option Wiring) → Beneath Known below → IsKnown (below_known (out-WiredKid kid).handle below) (below_step (out-WiredKid kid).handle (below_inner below))
    by None own = record { ways = λ side port. (any-head (is_same_handle (out-WiredKid kid).handle) (out-WiredKid kid).handle [] (same-self (out-WiredKid kid).handle), tt); routes = tt }
    by (Some wiring) own = own

kids-known : (handles : List Handle) (kids : List WiredKid) → Wider (flat_map handles_of_kid kids) handles → AllByRecursion BelowKnown kids → AllByRecursion (KidKnown handles) (map inner_of_kid kids)
kids-known handles [] wider known = tt
kids-known handles (kid ∷ kids) wider known = (
  known-wider (handles_of_kid kid) handles (inner_of_kid kid).1 (λ handle is. wider handle (any-left (is_same_handle handle) (handles_of_kid kid) (flat_map handles_of_kid kids) is)) (kid-known kid known.0),
  kids-known handles kids (λ handle is. wider handle (any-right (is_same_handle handle) (handles_of_kid kid) (flat_map handles_of_kid kids) is)) known.1,
)

-- a wiring knows its own handle, that of its executive, and those of its components
pub me-known : (wiring : Wiring) → knows (handles_of wiring) (out-Wiring wiring).me ≡ true
me-known wiring =
    let y : Wiring-F WiredKid Wiring = out-Wiring wiring in
    subst (λ handles. knows handles y.me ≡ true) (sym (handles-is wiring)) (any-head (is_same_handle y.me) y.me (y.boss ∷ flat_map handles_of_kid y.kids) (same-self y.me))

boss-known : (wiring : Wiring) → knows (handles_of wiring) (out-Wiring wiring).boss ≡ true
boss-known wiring =
    let y : Wiring-F WiredKid Wiring = out-Wiring wiring in
    subst (λ handles. knows handles y.boss ≡ true) (sym (handles-is wiring))
    (any-tail (is_same_handle y.boss) y.me (y.boss ∷ flat_map handles_of_kid y.kids) (any-head (is_same_handle y.boss) y.boss (flat_map handles_of_kid y.kids) (same-self y.boss)))

kids-wider : (wiring : Wiring) → Wider (flat_map handles_of_kid (out-Wiring wiring).kids) (handles_of wiring)
kids-wider wiring handle is =
    let y : Wiring-F WiredKid Wiring = out-Wiring wiring in
    subst (λ handles. knows handles handle ≡ true) (sym (handles-is wiring))
    (any-tail (is_same_handle handle) y.me (y.boss ∷ flat_map handles_of_kid y.kids) (any-tail (is_same_handle handle) y.boss (flat_map handles_of_kid y.kids) is))

-- all routes inside a wiring have its handles
inner-known : (wiring : Wiring) → Known wiring
inner-known = each_wiring Known (λ wiring known.
    subst (IsKnown (handles_of wiring)) (sym (inner-is wiring))
    (net-known (handles_of wiring) (out-Wiring wiring).boss (map inner_of_kid (out-Wiring wiring).kids) (links_of wiring) (boss-known wiring) (kids-known (handles_of wiring) (out-Wiring wiring).kids (kids-wider wiring) known)))

each-known : (kids : List WiredKid) → AllByRecursion BelowKnown kids
each-known kids = each-of BelowKnown (λ kid. by (out-WiredKid kid).below) kids where
  by : (below : Option Wiring) → Beneath Known below
  by None = tt
  by (Some wiring) = inner-known wiring

-- and so do those where ways outside begin and end at known handles
pub open-known : (net : Ways) (wiring : Wiring) → ((side : Side) (port : ℕ) → AllByRecursion (WayKnown (handles_of wiring)) (net side port)) → AllByRecursion (RouteKnown (handles_of wiring)) (routes_in net wiring)
open-known net wiring outside =
    around-known (handles_of wiring) net (out-Wiring wiring).boss (map inner_of_kid (out-Wiring wiring).kids) (links_of wiring) outside (boss-known wiring)
    (kids-known (handles_of wiring) (out-Wiring wiring).kids (kids-wider wiring) (each-known (out-Wiring wiring).kids))

-- of components
pub inside-known : (kids : List WiredKid) → AllByRecursion (RouteKnown (flat_map handles_of_kid kids)) (inside kids)
inside-known kids =
    each-flat (RouteKnown (flat_map handles_of_kid kids)) (λ kid. (inner_of_kid kid).1.routes) kids (by kids (λ handle is. is) (each-known kids))
  where
    by : (own_kids : List WiredKid) → Wider (flat_map handles_of_kid own_kids) (flat_map handles_of_kid kids) → AllByRecursion BelowKnown own_kids → AllByRecursion (λ kid. AllByRecursion (RouteKnown (flat_map handles_of_kid kids)) (inner_of_kid kid).1.routes) own_kids
    by [] wider known = tt
    by (kid ∷ others) wider known = (
      route-wider (handles_of_kid kid) (flat_map handles_of_kid kids) (λ handle is. wider handle (any-left (is_same_handle handle) (handles_of_kid kid) (flat_map handles_of_kid others) is)) (inner_of_kid kid).1.routes (kid-known kid known.0).routes,
      by others (λ handle is. wider handle (any-right (is_same_handle handle) (handles_of_kid kid) (flat_map handles_of_kid others) is)) known.1,
    )
