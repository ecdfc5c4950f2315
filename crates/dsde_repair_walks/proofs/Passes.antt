-- The routes of a wiring, by those that pass a place.
use Rattle.std.proofs.Common.{◌≡◌, ℕ, ◌+◌, Bool, true, false, if◌then◌else◌, List, [], ◌∷◌, ◌++◌, map, refl, sym, ap, ◌∙◌, arith, zero-add, add-zero, subst, Option, Some, None}
use Rattle.std.specs.List.{flat_map}
use Rattle.dsde_bank.specs.declared.handle.Handle.{Handle}
use Rattle.dsde_values.specs.declared.name.Name.{Name}
use Rattle.dsde_routes_wiring.specs.given.structure.plan_Part.{Part}
use Rattle.dsde_routes_wiring.specs.given.structure.plan_Part_TheVariants as part
use Rattle.dsde_routes_wiring.specs.given.structure.Gather.{is_same_name}
use Rattle.dsde_routes_wiring.specs.declared.side.Side.{Side}
use Rattle.dsde_routes_wiring.specs.declared.wiring.WiredKid.{WiredKid}
use Rattle.dsde_routes_wiring.specs.declared.wiring.Wiring.{Wiring}
use Rattle.dsde_routes_wiring.specs.declared.wiring.WiredKid.TheOpen.{Wiring-F}
use Rattle.dsde_routes_wiring.specs.declared.wiring.WiredKid.TheViews.{out-Wiring, out-WiredKid, roll-WiredKid, out-roll-Wiring}
use Rattle.dsde_routes_wiring.specs.Routes.{Way, Route, numbered, links_of, Ways, Around, Inner, within, around_of, no_ways, own, of_kid, at_part, crossing, routes_by, routes_in, inner_net, inner_of, inner_of_kid, below_step}
use Rattle.dsde_routes_wiring.specs.Places.{changed, kid_changed, below_changed, bared, kids_at, kid_at, below_at, nothing, only, passing, passing_kid, passing_below, routes_passing, through}
use Rattle.dsde_repair_walks.specs.Weights.{weight, weight-append, weight-flat}
use Rattle.dsde_repair_walks.proofs.Opens.{below_inner, inner-roll, inner-is, kid-roll, kid-is}
use Rattle.dsde_repair_walks.proofs.Adding.{passing-splits, Adds, AddsAround, ways-add, rows-add, tested-add}

abbrev pub rows_of : WiredKid → List Route
rows_of kid = (inner_of_kid kid).1.routes

-- a part is what passes a place in it, what is left where that is bare, and the components there
abbrev Splits : Inner → Inner → Inner → List WiredKid → Type 0
Splits whole pass rest inside =
    Adds whole.ways pass.ways rest.ways
    × ((g : Route → ℕ) → weight g whole.routes ≡ weight g pass.routes + weight g rest.routes + weight g (flat_map rows_of inside))

abbrev SplitsAt : List Name → Type 0
SplitsAt place = (wiring : Wiring) → Splits (inner_of wiring) (passing place wiring) (inner_of (changed place bared wiring)) (kids_at place wiring)

alone : (n : ℕ) → n ≡ 0 + n + 0
alone n = omega arith

-- of a component: whether it has the name, and what is below it
below-splits : (place : List Name) → SplitsAt place → (same : Bool) (handle : Handle) (below : Option Wiring) →
    Splits (below_step handle (below_inner below)) (if same then passing_below (passing place) below else nothing)
    (below_step handle (below_inner (if same then below_changed (changed place bared) below else below))) (if same then below_at (kids_at place) below else [])
below-splits place at false handle below = (
  λ g side port. sym (zero-add (weight g ((below_step handle (below_inner below)).ways side port))),
  λ g. alone (weight g (below_step handle (below_inner below)).routes),
)
below-splits place at true handle None = (λ g side port. sym (zero-add (weight g (own handle side port))), λ g. refl)
below-splits place at true handle (Some wiring) = at wiring

rest-is : (name : Name) (change : Wiring → Wiring) (kid : WiredKid) → inner_of_kid (kid_changed name change kid)
    ≡ ((out-WiredKid kid).name, below_step (out-WiredKid kid).handle (below_inner (if is_same_name (out-WiredKid kid).name name then below_changed change (out-WiredKid kid).below else (out-WiredKid kid).below)))
rest-is name change kid = by (is_same_name (out-WiredKid kid).name name) where
  by : (same : Bool) → inner_of_kid (if same then roll-WiredKid (record (out-WiredKid kid) { below = below_changed change (out-WiredKid kid).below }) else kid)
      ≡ ((out-WiredKid kid).name, below_step (out-WiredKid kid).handle (below_inner (if same then below_changed change (out-WiredKid kid).below else (out-WiredKid kid).below)))
  by true = kid-roll (record (out-WiredKid kid) { below = below_changed change (out-WiredKid kid).below })
  by false = kid-is kid

-- of one component and what it becomes
record KidSplits (name : Name) (whole pass rest : Name × Inner) (inside : List WiredKid) : Type 0 where
  whole_name : whole.0 ≡ name
  pass_name : pass.0 ≡ name
  rest_name : rest.0 ≡ name
  splits : Splits whole.1 pass.1 rest.1 inside

kid-splits : (name : Name) (place : List Name) → SplitsAt place → (kid : WiredKid) →
    KidSplits (out-WiredKid kid).name (inner_of_kid kid) (passing_kid name (passing place) kid) (inner_of_kid (kid_changed name (changed place bared) kid)) (kid_at name (kids_at place) kid)
kid-splits name place at kid =
    let own_name : Name = (out-WiredKid kid).name in
    let P : Name × Inner → Type 0 = λ whole. KidSplits own_name whole (passing_kid name (passing place) kid) (inner_of_kid (kid_changed name (changed place bared) kid)) (kid_at name (kids_at place) kid) in
    let whole : Name × Inner = (own_name, below_step (out-WiredKid kid).handle (below_inner (out-WiredKid kid).below)) in
    let Q : Name × Inner → Type 0 = λ rest. KidSplits own_name whole (passing_kid name (passing place) kid) rest (kid_at name (kids_at place) kid) in
    subst P (sym (kid-is kid)) (subst Q (sym (rest-is name (changed place bared) kid)) (record {
      whole_name = refl;
      pass_name = refl;
      rest_name = refl;
      splits = below-splits place at (is_same_name own_name name) (out-WiredKid kid).handle (out-WiredKid kid).below;
    }))

of-named : (g : Way → ℕ) (side : Side) (name : Name) (port : ℕ) (kid : Name × Inner) (own_name : Name) → kid.0 ≡ own_name →
    weight g (of_kid side name port kid) ≡ weight g (if is_same_name own_name name then kid.1.ways side port else [])
of-named g side name port kid own_name is = ap (λ (n : Name). weight g (if is_same_name n name then kid.1.ways side port else [])) is

four : (a b c x y z : ℕ) → x ≡ y + z → a ≡ b + c → x + a ≡ (y + b) + (z + c)
four a b c x y z p q = omega arith

-- the components of a network, each with what passes in it and what is left
module _ (name : Name) (place : List Name) (at : SplitsAt place) where
  abbrev pass : WiredKid → Name × Inner
  pass = passing_kid name (passing place)

  abbrev less : WiredKid → WiredKid
  less = kid_changed name (changed place bared)

  kid-adds : (g : Way → ℕ) (side : Side) (wanted : Name) (port : ℕ) (kid : WiredKid) →
      weight g (of_kid side wanted port (inner_of_kid kid)) ≡ weight g (of_kid side wanted port (pass kid)) + weight g (of_kid side wanted port (inner_of_kid (less kid)))
  kid-adds g side wanted port kid =
      let own_name : Name = (out-WiredKid kid).name in
      let splits : KidSplits own_name (inner_of_kid kid) (pass kid) (inner_of_kid (less kid)) (kid_at name (kids_at place) kid) = kid-splits name place at kid in
      let whole : weight g (of_kid side wanted port (inner_of_kid kid)) ≡ weight g (if is_same_name own_name wanted then (inner_of_kid kid).1.ways side port else []) = of-named g side wanted port (inner_of_kid kid) own_name splits.whole_name in
      let passes : weight g (of_kid side wanted port (pass kid)) ≡ weight g (if is_same_name own_name wanted then (pass kid).1.ways side port else []) = of-named g side wanted port (pass kid) own_name splits.pass_name in
      let rest : weight g (of_kid side wanted port (inner_of_kid (less kid))) ≡ weight g (if is_same_name own_name wanted then (inner_of_kid (less kid)).1.ways side port else []) = of-named g side wanted port (inner_of_kid (less kid)) own_name splits.rest_name in
      let adds = tested-add g (is_same_name own_name wanted) ((inner_of_kid kid).1.ways side port) ((pass kid).1.ways side port) ((inner_of_kid (less kid)).1.ways side port) (splits.splits.0 g side port) in
      cc

  kids-add : (g : Way → ℕ) (side : Side) (wanted : Name) (port : ℕ) (kids : List WiredKid) →
      weight g (flat_map (of_kid side wanted port) (map inner_of_kid kids))
      ≡ weight g (flat_map (of_kid side wanted port) (map pass kids)) + weight g (flat_map (of_kid side wanted port) (map inner_of_kid (map less kids)))
  kids-add g side wanted port [] = refl
  kids-add g side wanted port (kid ∷ kids) =
      let here = kid-adds g side wanted port kid in
      let others = kids-add g side wanted port kids in
      let f = of_kid side wanted port in
      weight-append g (f (inner_of_kid kid)) (flat_map f (map inner_of_kid kids))
      ∙ four _ _ _ _ _ _ here others
      ∙ ap (λ n. n + (weight g (f (inner_of_kid (less kid))) + weight g (flat_map f (map inner_of_kid (map less kids))))) (sym (weight-append g (f (pass kid)) (flat_map f (map pass kids))))
      ∙ ap (λ n. weight g (flat_map f (map pass (kid ∷ kids))) + n) (sym (weight-append g (f (inner_of_kid (less kid))) (flat_map f (map inner_of_kid (map less kids)))))

  around-adds : (net : Ways) (boss : Handle) (kids : List WiredKid) →
      AddsAround (within net boss (map inner_of_kid kids)) (only (map pass kids)) (within net boss (map inner_of_kid (map less kids)))
  around-adds net boss kids g side end = by end.part where
    by : (own_part : Part) → weight g (at_part side (within net boss (map inner_of_kid kids)) own_part end.port)
        ≡ weight g (at_part side (only (map pass kids)) own_part end.port) + weight g (at_part side (within net boss (map inner_of_kid (map less kids))) own_part end.port)
    by part.Net = sym (zero-add (weight g (net side end.port)))
    by part.Boss = sym (zero-add (weight g (own boss side end.port)))
    by (part.Kid wanted) = kids-add g side wanted end.port kids

  kid-rows : (g : Route → ℕ) (kids : List WiredKid) →
      weight g (flat_map (λ kid. kid.1.routes) (map inner_of_kid kids))
      ≡ weight g (flat_map (λ kid. kid.1.routes) (map pass kids)) + weight g (flat_map (λ kid. kid.1.routes) (map inner_of_kid (map less kids))) + weight g (flat_map rows_of (flat_map (kid_at name (kids_at place)) kids))
  kid-rows g [] = refl
  kid-rows g (kid ∷ kids) =
      let inside = kid_at name (kids_at place) in
      let here = (kid-splits name place at kid).splits.1 g in
      let others = kid-rows g kids in
      let a = weight-append g (inner_of_kid kid).1.routes (flat_map (λ (own : Name × Inner). own.1.routes) (map inner_of_kid kids)) in
      let b = weight-append g (pass kid).1.routes (flat_map (λ (own : Name × Inner). own.1.routes) (map pass kids)) in
      let d = weight-append g (inner_of_kid (less kid)).1.routes (flat_map (λ (own : Name × Inner). own.1.routes) (map inner_of_kid (map less kids))) in
      let e = weight-flat g rows_of (inside kid ++ flat_map inside kids) ∙ weight-append (λ own. weight g (rows_of own)) (inside kid) (flat_map inside kids) in
      let f = weight-flat g rows_of (inside kid) in
      let h = weight-flat g rows_of (flat_map inside kids) in
      eight _ _ _ _ _ _ _ _ _ _ _ _ _ _ a b d e f h here others
    where
      eight : (x xs y ys z zs w ws xx yy zz ww f h : ℕ) → xx ≡ x + xs → yy ≡ y + ys → zz ≡ z + zs → ww ≡ w + ws → f ≡ w → h ≡ ws → x ≡ y + z + f → xs ≡ ys + zs + h → xx ≡ yy + zz + ww
      eight x xs y ys z zs w ws xx yy zz ww f h p q r s t u v o = omega arith

  -- a network's rows, with these ways beyond its own ports
  step-rows : (net : Ways) (wiring : Wiring) (g : Route → ℕ) →
      weight g (routes_in net wiring) ≡ weight g (through net (name ∷ place) wiring) + weight g (routes_in net (changed (name ∷ place) bared wiring)) + weight g (flat_map rows_of (kids_at (name ∷ place) wiring))
  step-rows net wiring g =
      let y : Wiring-F WiredKid Wiring = out-Wiring wiring in
      let after : Wiring-F WiredKid Wiring = record y { kids = map less y.kids } in
      let passes : List (Name × Inner) = map pass y.kids in
      let W : Around = within net y.boss (map inner_of_kid y.kids) in
      let R : Around = within net y.boss (map inner_of_kid (map less y.kids)) in
      let F : Wiring-F WiredKid Wiring → Type 0 = λ z. weight g (routes_in net wiring)
      ≡ weight g (routes_passing passes (around_of net wiring) (within net z.boss (map inner_of_kid z.kids)) (links_of wiring)) + weight g (routes_by (within net z.boss (map inner_of_kid z.kids)) (numbered z.me z.links)) + weight g (flat_map rows_of (kids_at (name ∷ place) wiring)) in
      subst F (sym (out-roll-Wiring after)) (seven _ _ _ _ _ _ _ _ _ _
      (weight-append g (crossing W (links_of wiring)) (flat_map (λ (own : Name × Inner). own.1.routes) (map inner_of_kid y.kids)))
      (passing-splits g (only passes) W R (links_of wiring) (flat_map (λ (own : Name × Inner). own.1.routes) passes))
      (weight-append g (crossing R (links_of wiring)) (flat_map (λ (own : Name × Inner). own.1.routes) (map inner_of_kid (map less y.kids))))
      (rows-add W (only passes) R (around-adds net y.boss y.kids) g (links_of wiring))
      (kid-rows g y.kids))
    where
      seven : (x xs y ys z zs xx yy zz w : ℕ) → xx ≡ x + xs → yy ≡ y + ys → zz ≡ z + zs → x ≡ y + z → xs ≡ ys + zs + w → xx ≡ yy + zz + w
      seven x xs y ys z zs xx yy zz w p q r s t = omega arith

  step-ways : (wiring : Wiring) → Adds (inner_of wiring).ways (passing (name ∷ place) wiring).ways (inner_of (changed (name ∷ place) bared wiring)).ways
  step-ways wiring =
      let y : Wiring-F WiredKid Wiring = out-Wiring wiring in
      let after : Wiring-F WiredKid Wiring = record y { kids = map less y.kids } in
      let F : Inner → Type 0 = λ whole. Adds whole.ways (passing (name ∷ place) wiring).ways (inner_of (changed (name ∷ place) bared wiring)).ways in
      let G : Inner → Type 0 = λ rest. Adds (inner_net y.boss (map inner_of_kid y.kids) (links_of wiring)).ways (passing (name ∷ place) wiring).ways rest.ways in
      subst F (sym (inner-is wiring)) (subst G (sym (inner-roll after))
      (ways-add (within no_ways y.boss (map inner_of_kid y.kids)) (only (map pass y.kids)) (within no_ways y.boss (map inner_of_kid (map less y.kids))) (around-adds no_ways y.boss y.kids) (links_of wiring)))

flat-kids : (g : Route → ℕ) (kids : List WiredKid) → weight g (flat_map (λ (own : Name × Inner). own.1.routes) (map inner_of_kid kids)) ≡ weight g (flat_map rows_of kids)
flat-kids g [] = refl
flat-kids g (kid ∷ kids) =
    weight-append g (rows_of kid) (flat_map (λ (own : Name × Inner). own.1.routes) (map inner_of_kid kids))
    ∙ ap (λ n. weight g (rows_of kid) + n) (flat-kids g kids)
    ∙ sym (weight-append g (rows_of kid) (flat_map rows_of kids))

bare : (a b c x : ℕ) → x ≡ a + b → b ≡ c → x ≡ a + 0 + c
bare a b c x p q = omega arith

-- a network's rows where the place is the network itself
here-rows : (net : Ways) (wiring : Wiring) (g : Route → ℕ) →
    weight g (routes_in net wiring) ≡ weight g (through net [] wiring) + weight g (routes_in net (bared wiring)) + weight g (flat_map rows_of (out-Wiring wiring).kids)
here-rows net wiring g =
    let y : Wiring-F WiredKid Wiring = out-Wiring wiring in
    let F : Wiring-F WiredKid Wiring → Type 0 = λ z. weight g (routes_in net wiring)
    ≡ weight g (through net [] wiring) + weight g (routes_by (within net z.boss (map inner_of_kid z.kids)) (numbered z.me z.links)) + weight g (flat_map rows_of y.kids) in
    subst F (sym (out-roll-Wiring (record y { links = []; kids = [] }))) (bare _ _ _ _
    (weight-append g (crossing (around_of net wiring) (links_of wiring)) (flat_map (λ (own : Name × Inner). own.1.routes) (map inner_of_kid y.kids)))
    (flat-kids g y.kids))

inner-rows : (wiring : Wiring) → (inner_of wiring).routes ≡ routes_in no_ways wiring
inner-rows wiring = ap (λ (inner : Inner). inner.routes) (inner-is wiring)

as-inner : (g : Route → ℕ) (wiring after : Wiring) (a b : ℕ) → weight g (routes_in no_ways wiring) ≡ a + weight g (routes_in no_ways after) + b → weight g (inner_of wiring).routes ≡ a + weight g (inner_of after).routes + b
as-inner g wiring after a b is = ap (weight g) (inner-rows wiring) ∙ is ∙ ap (λ rows. a + weight g rows + b) (sym (inner-rows after))

splits-at : (place : List Name) → SplitsAt place
splits-at [] wiring = (
  λ g side port. sym (ap (λ (inner : Inner). weight g ((inner_of wiring).ways side port) + weight g (inner.ways side port)) (inner-roll (record (out-Wiring wiring) { links = []; kids = [] })) ∙ add-zero (weight g ((inner_of wiring).ways side port))),
  λ g. as-inner g wiring (bared wiring) _ _ (here-rows no_ways wiring g),
)
splits-at (name ∷ place) wiring = (
  step-ways name place (splits-at place) wiring,
  λ g. as-inner g wiring (changed (name ∷ place) bared wiring) _ _ (step-rows name place (splits-at place) no_ways wiring g),
)

pub rows-split : (g : Route → ℕ) (net : Ways) (place : List Name) (wiring : Wiring) →
    weight g (routes_in net wiring) ≡ weight g (through net place wiring) + weight g (routes_in net (changed place bared wiring)) + weight g (flat_map rows_of (kids_at place wiring))
rows-split g net [] wiring = here-rows net wiring g
rows-split g net (name ∷ place) wiring = step-rows name place (splits-at place) net wiring g
