-- How many routes a change touches.
use Rattle.std.proofs.Common.{◌≡◌, ℕ, ◌+◌, ◌≤◌, Bool, true, false, ◌||◌, not, if◌then◌else◌, List, [], ◌∷◌, ◌++◌, length, refl, sym, ap, ◌∙◌, subst, arith, zero-add}
use Rattle.std.specs.List.{flat_map, AllByRecursion, list_any}
use Rattle.dsde_bank.specs.declared.handle.Handle.{Handle}
use Rattle.dsde_values.specs.declared.name.Name.{Name}
use Rattle.dsde_routes_wiring.specs.given.structure.plan_Link.{Link}
use Rattle.dsde_routes_wiring.specs.declared.wiring.WiredKid.{WiredKid}
use Rattle.dsde_routes_wiring.specs.declared.wiring.Wiring.{Wiring}
use Rattle.dsde_routes_wiring.specs.declared.wiring.WiredKid.TheViews.{out-Wiring}
use Rattle.dsde_routes_wiring.specs.Routes.{Route, Ways, own, routes, routes_in}
use Rattle.dsde_routes_wiring.specs.Places.{changed, bared, renewed, nets_at, has_name, going, staying, inside, touched, left, through}
use Rattle.dsde_routes_wiring.specs.Wired.{is_same_handle}
use Rattle.dsde_routes_wiring.specs.Touched.{knows, uses, is_touched, handles_of, handles_of_kid}
use Rattle.dsde_repair_walks.specs.Weights.{weight, weight-append, weight-flat}
use Rattle.dsde_repair_walks.specs.Bounds.{counted, count, AreDistinct}
use Rattle.dsde_repair_walks.proofs.Each.{each-append, each-weaker}
use Rattle.dsde_repair_walks.proofs.Changes.{changed-chain, bared-renewed, kids-there, kids-given, nets-given, me-changed, me-renewed, me-bared, me-after}
use Rattle.dsde_repair_walks.proofs.Touches.{weight-filter, touched-before, touched-after}
use Rattle.dsde_repair_walks.proofs.Uses.{through-passes, RoutePasses}
use Rattle.dsde_repair_walks.proofs.Handles.{RouteKnown, Wider, handles-split, route-wider, me-known, open-known, inside-known, same-self}
use Rattle.dsde_repair_walks.proofs.Elsewhere.{IsElsewhere, IsHere, RouteAvoids, open-avoids, inside-avoids, none-stand, few-at, bare-at}
use Rattle.dsde_repair_walks.proofs.Shapes.{Each, KidEach}

at-least-one : {X : Type 0} (test : X → Bool) (xs : List X) → list_any test xs ≡ true → 1 ≤ count test xs
at-least-one test [] is = cc
at-least-one test (x ∷ xs) is = by (test x) is (at-least-one test xs) where
  by : (b : Bool) → b || list_any test xs ≡ true → (list_any test xs ≡ true → 1 ≤ count test xs) → 1 ≤ (if b then 1 else 0) + count test xs
  by true h others = omega arith
  by false h others = let more : 1 ≤ count test xs = others h in omega arith

none-at-all : {X : Type 0} (test : X → Bool) (xs : List X) → count test xs ≡ 0 → list_any test xs ≡ false
none-at-all test [] is = refl
none-at-all test (x ∷ xs) is = by (test x) is (none-at-all test xs) where
  by : (b : Bool) → (if b then 1 else 0) + count test xs ≡ 0 → (count test xs ≡ 0 → list_any test xs ≡ false) → b || list_any test xs ≡ false
  by true h others = absurd (omega arith)
  by false h others = others (omega arith)

all-counted : {X : Type 0} (test : X → Bool) (xs : List X) → AllByRecursion (λ x. test x ≡ true) xs → count test xs ≡ length xs
all-counted test [] each = refl
all-counted test (x ∷ xs) each = ap (λ (b : Bool). (if b then 1 else 0) + count test xs) each.0 ∙ ap (λ n. 1 + n) (all-counted test xs each.1) ∙ omega arith

touched-uses : (net : Handle) (others : List Handle) (route : Route) → uses net route ≡ true → is_touched net others route ≡ true
touched-uses net others route is = ap (λ (b : Bool). b || not (knows others route.source) || not (knows others route.target)) is ∙ refl

-- where an item passes, some do
some-pass : {X : Type 0} (test : X → Bool) (xs : List X) → 1 ≤ count test xs → list_any test xs ≡ true
some-pass test [] is = absurd (omega arith)
some-pass test (x ∷ xs) is = by (test x) is (some-pass test xs) where
  by : (b : Bool) → 1 ≤ (if b then 1 else 0) + count test xs → (1 ≤ count test xs → list_any test xs ≡ true) → b || list_any test xs ≡ true
  by true h others = refl
  by false h others = let more : 1 ≤ count test xs = omega arith in others more

none-counted : {X : Type 0} (test : X → Bool) (xs : List X) → AllByRecursion (λ x. test x ≡ false) xs → count test xs ≡ 0
none-counted test [] each = refl
none-counted test (x ∷ xs) each = ap (λ (b : Bool). (if b then 1 else 0) + count test xs) each.0 ∙ zero-add (count test xs) ∙ none-counted test xs each.1

touched-source : (net : Handle) (others : List Handle) (route : Route) → knows others route.source ≡ false → is_touched net others route ≡ true
touched-source net others route is = ap (λ (b : Bool). uses net route || not b || not (knows others route.target)) is ∙ by (uses net route) where
  by : (b : Bool) → b || true || not (knows others route.target) ≡ true
  by true = refl
  by false = refl

untouched : (net : Handle) (others : List Handle) (route : Route) → uses net route ≡ false → (knows others route.source ≡ true) × (knows others route.target ≡ true) → is_touched net others route ≡ false
untouched net others route avoids known =
    ap (λ (b : Bool). b || not (knows others route.source) || not (knows others route.target)) avoids
    ∙ ap (λ (b : Bool). false || not b || not (knows others route.target)) known.0
    ∙ ap (λ (b : Bool). false || not true || not b) known.1

both-hold : {X : Type 0} (P Q R : X → Type 0) → ((x : X) → P x → Q x → R x) → (xs : List X) → AllByRecursion P xs → AllByRecursion Q xs → AllByRecursion R xs
both-hold P Q R gives [] first second = tt
both-hold P Q R gives (x ∷ xs) first second = (gives x first.0 second.0, both-hold P Q R gives xs first.1 second.1)

part-of : (t whole first rest : ℕ) → whole ≡ first + rest → first ≡ t → t ≤ whole
part-of t whole first rest p q = omega arith

module _ (place : List Name) (gone : List Name) (links : List Link) (kids fresh : List WiredKid) (wiring here : Wiring)
    (is : nets_at place wiring ≡ here ∷ []) (both : (h : WiredKid → ℕ) → weight h kids ≡ weight h fresh + weight h (staying gone (out-Wiring here).kids))
    (distinct : AreDistinct (handles_of wiring ++ flat_map handles_of_kid fresh)) where
  abbrev olds : List WiredKid
  olds = (out-Wiring here).kids

  abbrev after : Wiring
  after = changed place (renewed links kids) wiring

  abbrev H : List WiredKid → List Handle
  H = flat_map handles_of_kid

  abbrev stay : List WiredKid
  stay = staying gone olds

  abbrev bare : Wiring
  bare = changed place bared wiring

  sums : (w a b n m : ℕ) → w ≡ a + n → n ≡ b + m → w ≡ a + (b + m)
  sums w a b n m p q = omega arith

  old-counts : (g : Handle → ℕ) → weight g (handles_of wiring) ≡ weight g (handles_of bare) + (weight g (H (going gone olds)) + weight g (H stay))
  old-counts g =
      let own : WiredKid → ℕ = λ kid. weight g (handles_of_kid kid) in
      sums _ _ _ _ _
      (handles-split place g wiring ∙ ap (λ kids. weight g (handles_of bare) + weight g (H kids)) (kids-there place wiring here is))
      (weight-flat g handles_of_kid olds ∙ weight-filter own (has_name gone) olds ∙ ap (λ n. n + weight own stay) (sym (weight-flat g handles_of_kid (going gone olds))) ∙ ap (λ n. weight g (H (going gone olds)) + n) (sym (weight-flat g handles_of_kid stay)))

  new-counts : (g : Handle → ℕ) → weight g (handles_of after) ≡ weight g (handles_of bare) + (weight g (H fresh) + weight g (H stay))
  new-counts g =
      let own : WiredKid → ℕ = λ kid. weight g (handles_of_kid kid) in
      sums _ _ _ _ _
      (handles-split place g after ∙ ap (λ kids. weight g (handles_of (changed place bared after)) + weight g (H kids)) (kids-given links kids place wiring here is)
      ∙ ap (λ own_bare. weight g (handles_of own_bare) + weight g (H kids)) (changed-chain bared (renewed links kids) bared (bared-renewed links kids) place wiring))
      (weight-flat g handles_of_kid kids ∙ both own ∙ ap (λ n. n + weight own stay) (sym (weight-flat g handles_of_kid fresh)) ∙ ap (λ n. weight g (H fresh) + n) (sym (weight-flat g handles_of_kid stay)))

  at-most-one : (handle : Handle) → count (is_same_handle handle) (handles_of wiring) + count (is_same_handle handle) (H fresh) ≤ 1
  at-most-one handle = subst (λ n. n ≤ 1) (weight-append (counted (is_same_handle handle)) (handles_of wiring) (H fresh)) (distinct handle)

  gone-unknown : (handle : Handle) → knows (H (going gone olds)) handle ≡ true → knows (handles_of after) handle ≡ false
  gone-unknown handle known =
      let one : 1 ≤ count (is_same_handle handle) (H (going gone olds)) = at-least-one (is_same_handle handle) (H (going gone olds)) known in
      let old = old-counts (counted (is_same_handle handle)) in
      let new = new-counts (counted (is_same_handle handle)) in
      let most = at-most-one handle in
      none-at-all (is_same_handle handle) (handles_of after) (omega arith)

  fresh-unknown : (handle : Handle) → knows (H fresh) handle ≡ true → knows (handles_of wiring) handle ≡ false
  fresh-unknown handle known =
      let one : 1 ≤ count (is_same_handle handle) (H fresh) = at-least-one (is_same_handle handle) (H fresh) known in
      let most = at-most-one handle in
      none-at-all (is_same_handle handle) (handles_of wiring) (omega arith)

  abbrev me : Handle
  me = (out-Wiring here).me

  net-before : AllByRecursion (λ (own : Wiring). is_same_handle (out-Wiring own).me me ≡ true) (nets_at place wiring)
  net-before = subst (AllByRecursion (λ (own : Wiring). is_same_handle (out-Wiring own).me me ≡ true)) (sym is) (same-self me, tt)

  net-after : AllByRecursion (λ (own : Wiring). is_same_handle (out-Wiring own).me me ≡ true) (nets_at place after)
  net-after =
      subst (AllByRecursion (λ (own : Wiring). is_same_handle (out-Wiring own).me me ≡ true)) (sym (nets-given (renewed links kids) place wiring here is))
      (ap (λ (own_me : Handle). is_same_handle own_me me) (me-renewed links kids here) ∙ same-self me, tt)

  abbrev touched_then : Ways → List Route
  touched_then net = touched net place (going gone olds) wiring

  abbrev touched_now : Ways → List Route
  touched_now net = touched net place fresh after

  all-before : (net : Ways) → count (is_touched me (handles_of after)) (touched_then net) ≡ length (touched_then net)
  all-before net =
      all-counted (is_touched me (handles_of after)) (touched_then net)
      (each-append _ (through net place wiring) (inside (going gone olds))
      (each-weaker (RoutePasses me) _ (λ route uses. touched-uses me (handles_of after) route uses) (through net place wiring) (through-passes me net place wiring net-before))
      (each-weaker _ _ (λ route known. touched-source me (handles_of after) route (gone-unknown route.source known.0)) (inside (going gone olds)) (inside-known (going gone olds))))

  all-after : (net : Ways) → count (is_touched me (handles_of wiring)) (touched_now net) ≡ length (touched_now net)
  all-after net =
      all-counted (is_touched me (handles_of wiring)) (touched_now net)
      (each-append _ (through net place after) (inside fresh)
      (each-weaker (RoutePasses me) _ (λ route uses. touched-uses me (handles_of wiring) route uses) (through net place after) (through-passes me net place after net-after))
      (each-weaker _ _ (λ route known. touched-source me (handles_of wiring) route (fresh-unknown route.source known.0)) (inside fresh) (inside-known fresh)))

  pub bound-before : (net : Ways) → length (touched_then net) ≤ count (is_touched me (handles_of after)) (routes_in net wiring)
  bound-before net = part-of _ _ _ _ (touched-before (counted (is_touched me (handles_of after))) net place gone wiring here is) (all-before net)

  pub bound-after : (net : Ways) → length (touched_now net) ≤ count (is_touched me (handles_of wiring)) (routes_in net after)
  bound-after net = part-of _ _ _ _ (touched-after (counted (is_touched me (handles_of wiring))) net place links kids stay fresh wiring here is both) (all-after net)

  -- What is left is not touched: it is of handles that both wirings have, and uses no link of the changed network, whose
  -- handle is its own.
  more-known : (xs ys : List Handle) → ((handle : Handle) → count (is_same_handle handle) xs ≤ count (is_same_handle handle) ys) → Wider xs ys
  more-known xs ys more handle known =
      let one : 1 ≤ count (is_same_handle handle) xs = at-least-one (is_same_handle handle) xs known in
      let most = more handle in
      let other : 1 ≤ count (is_same_handle handle) ys = omega arith in
      some-pass (is_same_handle handle) ys other

  abbrev root : Handle
  root = (out-Wiring wiring).me

  root-known : knows (handles_of bare) root ≡ true
  root-known = subst (λ handle. knows (handles_of bare) handle ≡ true) (me-changed bared me-bared place wiring) (me-known bare)

  left-known : (others : List Handle) → Wider (handles_of bare) others → Wider (H stay) others → AllByRecursion (RouteKnown others) (left (own root) place stay wiring)
  left-known others bare_known stay_known =
      each-append (RouteKnown others) (routes_in (own root) bare) (inside stay)
      (route-wider (handles_of bare) others bare_known (routes_in (own root) bare) (open-known (own root) bare (λ side port. (root-known, tt))))
      (route-wider (H stay) others stay_known (inside stay) (inside-known stay))

  bare-here : AllByRecursion (IsHere me) (nets_at place bare)
  bare-here = subst (AllByRecursion (IsHere me)) (sym (nets-given bared place wiring here is)) (ap (λ (own_me : Handle). is_same_handle own_me me) (me-bared here) ∙ same-self me, tt)

  bare-elsewhere : Each (IsElsewhere me) bare
  bare-elsewhere =
      let most = at-most-one me in
      let one : length (nets_at place wiring) ≡ 1 = ap length is in
      let few : count (is_same_handle me) (handles_of wiring) ≤ length (nets_at place wiring) = omega arith in
      bare-at me place wiring net-before few

  stay-elsewhere : AllByRecursion (KidEach (IsElsewhere me)) stay
  stay-elsewhere =
      let most = at-most-one me in
      let old = old-counts (counted (is_same_handle me)) in
      let one : length (nets_at place bare) ≡ 1 = ap length (nets-given bared place wiring here is) in
      let some = few-at me place bare bare-here in
      let none : count (is_same_handle me) (H stay) ≤ 0 = omega arith in
      none-stand me stay none

  left-avoids : AllByRecursion (RouteAvoids me) (left (own root) place stay wiring)
  left-avoids =
      each-append (RouteAvoids me) (routes_in (own root) bare) (inside stay)
      (open-avoids me (own root) bare (λ side port. (refl, tt)) bare-elsewhere) (inside-avoids me stay stay-elsewhere)

  none-left : (others : List Handle) → Wider (handles_of bare) others → Wider (H stay) others → count (is_touched me others) (left (own root) place stay wiring) ≡ 0
  none-left others bare_known stay_known =
      none-counted (is_touched me others) (left (own root) place stay wiring)
      (both-hold (RouteAvoids me) (RouteKnown others) _ (λ route avoids known. untouched me others route avoids known) (left (own root) place stay wiring) left-avoids (left-known others bare_known stay_known))

  whole : (t w first rest : ℕ) → w ≡ first + rest → first ≡ t → rest ≡ 0 → t ≡ w
  whole t w first rest p q r = omega arith

  -- so the routes that are touched are as many as are said to be
  pub exact-before : length (touched_then (own root)) ≡ count (is_touched me (handles_of after)) (routes wiring)
  exact-before =
      whole _ _ _ _ (touched-before (counted (is_touched me (handles_of after))) (own root) place gone wiring here is) (all-before (own root))
      (none-left (handles_of after)
      (more-known (handles_of bare) (handles_of after) (λ handle. let new = new-counts (counted (is_same_handle handle)) in omega arith))
      (more-known (H stay) (handles_of after) (λ handle. let new = new-counts (counted (is_same_handle handle)) in omega arith)))

  pub exact-after : length (touched_now (own root)) ≡ count (is_touched me (handles_of wiring)) (routes after)
  exact-after =
      whole _ _ _ _ (touched-after (counted (is_touched me (handles_of wiring))) (own root) place links kids stay fresh wiring here is both) (all-after (own root))
      (none-left (handles_of wiring)
      (more-known (handles_of bare) (handles_of wiring) (λ handle. let old = old-counts (counted (is_same_handle handle)) in omega arith))
      (more-known (H stay) (handles_of wiring) (λ handle. let old = old-counts (counted (is_same_handle handle)) in omega arith)))
      ∙ ap (λ (handle : Handle). count (is_touched me (handles_of wiring)) (routes_in (own handle) after)) (sym (me-after place links kids wiring))

  -- handles are distinct after the change, too
  pub distinct-after : AreDistinct (handles_of after)
  distinct-after handle =
      let old = old-counts (counted (is_same_handle handle)) in
      let new = new-counts (counted (is_same_handle handle)) in
      let most = at-most-one handle in
      omega arith
