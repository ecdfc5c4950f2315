-- The handles of a wiring's networks, opened, and behind a change at one place.
use Rattle.std.proofs.Common.{◌≡◌, Bool, true, false, cond, List, [], ◌∷◌, ◌++◌, map, filter, Option, Some, None, refl, sym, ap, subst, ◌∙◌}
use Rattle.std.specs.List.{flat_map, AllByRecursion}
use Rattle.dsde_bank.specs.declared.handle.Handle.{Handle}
use Rattle.dsde_values.specs.declared.name.Name.{Name}
use Rattle.dsde_values.specs.declared.path.Path.{Path}
use Rattle.dsde_routes_wiring.specs.given.structure.Gather.{is_same_name}
use Rattle.dsde_sim_tree.specs.Told.{below}
use Rattle.dsde_routes_wiring.specs.declared.wiring.Wiring.{Wiring}
use Rattle.dsde_routes_wiring.specs.declared.wiring.WiredKid.{WiredKid}
use Rattle.dsde_routes_wiring.specs.declared.wiring.WiredKid.TheOpen.{Wiring-F, WiredKid-F}
use Rattle.dsde_routes_wiring.specs.declared.wiring.WiredKid.TheFolds.{fold-roll-WiredKid, fold-roll-Wiring, map-WiredKid}
use Rattle.dsde_routes_wiring.specs.declared.wiring.WiredKid.TheViews.{out-Wiring, out-WiredKid, roll-Wiring, roll-WiredKid, roll-out-WiredKid, roll-out-Wiring, out-roll-Wiring, out-roll-WiredKid}
use Rattle.dsde_core_flat.specs.Change.{wired_kid, wired_kid_with, wired_with, Standing, found_kid, found}
use Rattle.dsde_core_flat.specs.Handles.{Called, kid_called_step, net_called_step, net_called, kid_called, part_called, IsItself, AreThemselves, KidsAreThemselves}
use Rattle.dsde_core_flat.specs.lemmas.Frame.{all-left, all-right, all-join}

abbrev called : WiredKid-F WiredKid Wiring → WiredKid-F (List Called) (Handle → List Called)
called = map-WiredKid WiredKid Wiring (List Called) (Handle → List Called) kid_called net_called

kid-layer : (name : Name) (handle : Handle) (own : Option Wiring) →
    kid_called_step (called (record { name = name; handle = handle; below = own })) ≡ part_called handle own
kid-layer name handle None = refl
kid-layer name handle (Some net) = refl

-- the networks of a component are those of its part
pub kid-calls : (kid : WiredKid) → kid_called kid ≡ part_called (out-WiredKid kid).handle (out-WiredKid kid).below
kid-calls kid =
    ap kid_called (sym (roll-out-WiredKid kid))
    ∙ fold-roll-WiredKid (List Called) (Handle → List Called) kid_called_step net_called_step (out-WiredKid kid)
    ∙ kid-layer (out-WiredKid kid).name (out-WiredKid kid).handle (out-WiredKid kid).below

at-once : (kids : List WiredKid) → flat_map (λ (inner : List Called). inner) (map kid_called kids) ≡ flat_map kid_called kids
at-once [] = refl
at-once (kid ∷ kids) = ap (λ (others : List Called). kid_called kid ++ others) (at-once kids)

-- the networks of a network: itself, and those of its components
pub net-calls : (net : Wiring) (handle : Handle) →
    net_called net handle ≡ (handle, (out-Wiring net).me) ∷ flat_map kid_called (out-Wiring net).kids
net-calls net handle =
    ap (λ (w : Wiring). net_called w handle) (sym (roll-out-Wiring net))
    ∙ ap (λ (at : Handle → List Called). at handle) (fold-roll-Wiring (List Called) (Handle → List Called) kid_called_step net_called_step (out-Wiring net))
    ∙ ap (λ (others : List Called). (handle, (out-Wiring net).me) ∷ others) (at-once (out-Wiring net).kids)

-- a network that has its own handle, as have those of its components
pub net-itself : (net : Wiring) (handle : Handle) → AreThemselves handle (Some net) → (handle ≡ (out-Wiring net).me) × KidsAreThemselves (out-Wiring net).kids
net-itself net handle all = subst (AllByRecursion IsItself) (net-calls net handle) all

pub net-is : (net : Wiring) (handle : Handle) → handle ≡ (out-Wiring net).me → KidsAreThemselves (out-Wiring net).kids → AreThemselves handle (Some net)
net-is net handle is kids = subst (AllByRecursion IsItself) (sym (net-calls net handle)) (is, kids)

pub kid-is : (name : Name) (handle : Handle) (own : Option Wiring) → AreThemselves handle own → AllByRecursion IsItself (kid_called (wired_kid name handle own))
kid-is name handle own all =
    let made : WiredKid-F WiredKid Wiring = record { name = name; handle = handle; below = own } in
    subst (AllByRecursion IsItself) (sym (kid-calls (roll-WiredKid made) ∙ ap (λ (k : WiredKid-F WiredKid Wiring). part_called k.handle k.below) (out-roll-WiredKid made))) all

-- a network that is put together of a handle and of components that have theirs
pub made-is : (made : Wiring-F WiredKid Wiring) (handle : Handle) → handle ≡ made.me → KidsAreThemselves made.kids → AreThemselves handle (Some (roll-Wiring made))
made-is made handle is kids =
    let opened = out-roll-Wiring made in
    net-is (roll-Wiring made) handle (is ∙ ap (λ (w : Wiring-F WiredKid Wiring). w.me) (sym opened)) (subst (λ (w : Wiring-F WiredKid Wiring). KidsAreThemselves w.kids) (sym opened) kids)

pub first-itself : (kid : WiredKid) (kids : List WiredKid) → KidsAreThemselves (kid ∷ kids) → AreThemselves (out-WiredKid kid).handle (out-WiredKid kid).below
first-itself kid kids all = subst (AllByRecursion IsItself) (kid-calls kid) (all-left IsItself (kid_called kid) (flat_map kid_called kids) all)

pub later-itself : (kid : WiredKid) (kids : List WiredKid) → KidsAreThemselves (kid ∷ kids) → KidsAreThemselves kids
later-itself kid kids all = all-right IsItself (kid_called kid) (flat_map kid_called kids) all

-- The parts where names lead have their handles.
abbrev pub IsAtItself : Standing → Type 0
IsAtItself at = AreThemselves at.handle at.own

module _ (name : Name) (names : List Name) (known : (handle : Handle) (path : Path) (own : Option Wiring) → AreThemselves handle own → AllByRecursion IsAtItself (found names handle path own)) where
  found-one : (kid : WiredKid) (path : Path) (b : Bool) → AreThemselves (out-WiredKid kid).handle (out-WiredKid kid).below →
      AllByRecursion IsAtItself (cond b (found names (out-WiredKid kid).handle (below path (out-WiredKid kid).name) (out-WiredKid kid).below) [])
  found-one kid path true own = known (out-WiredKid kid).handle (below path (out-WiredKid kid).name) (out-WiredKid kid).below own
  found-one kid path false own = tt

  found-kids : (kids : List WiredKid) (path : Path) → KidsAreThemselves kids → AllByRecursion IsAtItself (flat_map (found_kid name (found names) path) kids)
  found-kids [] path all = tt
  found-kids (kid ∷ kids) path all =
      all-join IsAtItself (found_kid name (found names) path kid) (flat_map (found_kid name (found names) path) kids)
      (found-one kid path (is_same_name (out-WiredKid kid).name name) (first-itself kid kids all))
      (found-kids kids path (later-itself kid kids all))

pub found-itself : (names : List Name) (handle : Handle) (path : Path) (own : Option Wiring) → AreThemselves handle own → AllByRecursion IsAtItself (found names handle path own)
found-itself [] handle path own all = (all, tt)
found-itself (name ∷ names) handle path None all = tt
found-itself (name ∷ names) handle path (Some net) all = found-kids name names (found-itself names) (out-Wiring net).kids path (net-itself net handle all).1

module _ (wired : Option Wiring → Option Wiring) where
  -- a part that is found has its handles behind the change
  abbrev pub StaysItself : Standing → Type 0
  StaysItself at = AreThemselves at.handle (wired at.own)

  abbrev Keeps : List Name → Type 0
  Keeps names =
      (handle : Handle) (path : Path) (own : Option Wiring) → AreThemselves handle own → AllByRecursion StaysItself (found names handle path own) →
      AreThemselves handle (wired_with names wired own)

  one-with : (name : Name) (names : List Name) → Keeps names → (kid : WiredKid) (path : Path) (b : Bool) → AreThemselves (out-WiredKid kid).handle (out-WiredKid kid).below →
      AllByRecursion StaysItself (cond b (found names (out-WiredKid kid).handle (below path (out-WiredKid kid).name) (out-WiredKid kid).below) []) →
      AllByRecursion IsItself (kid_called (cond b (wired_kid (out-WiredKid kid).name (out-WiredKid kid).handle (wired_with names wired (out-WiredKid kid).below)) kid))
  one-with name names known kid path true own those =
      kid-is (out-WiredKid kid).name (out-WiredKid kid).handle (wired_with names wired (out-WiredKid kid).below)
      (known (out-WiredKid kid).handle (below path (out-WiredKid kid).name) (out-WiredKid kid).below own those)
  one-with name names known kid path false own those = subst (AllByRecursion IsItself) (sym (kid-calls kid)) own

  kids-with : (name : Name) (names : List Name) → Keeps names → (kids : List WiredKid) (path : Path) → KidsAreThemselves kids →
      AllByRecursion StaysItself (flat_map (found_kid name (found names) path) kids) → KidsAreThemselves (map (wired_kid_with name (wired_with names wired)) kids)
  kids-with name names known [] path all those = tt
  kids-with name names known (kid ∷ kids) path all those =
      all-join IsItself (kid_called (wired_kid_with name (wired_with names wired) kid)) (flat_map kid_called (map (wired_kid_with name (wired_with names wired)) kids))
      (one-with name names known kid path (is_same_name (out-WiredKid kid).name name) (first-itself kid kids all)
      (all-left StaysItself (found_kid name (found names) path kid) (flat_map (found_kid name (found names) path) kids) those))
      (kids-with name names known kids path (later-itself kid kids all)
      (all-right StaysItself (found_kid name (found names) path kid) (flat_map (found_kid name (found names) path) kids) those))

  -- Where those that are found have their handles behind a change, all have them.
  pub themselves-with : (names : List Name) → Keeps names
  themselves-with [] handle path own all those = those.0
  themselves-with (name ∷ names) handle path None all those = tt
  themselves-with (name ∷ names) handle path (Some net) all those =
      let made : Wiring-F WiredKid Wiring = record (out-Wiring net) { kids = map (wired_kid_with name (wired_with names wired)) (out-Wiring net).kids } in
      let opened = net-itself net handle all in
      made-is made handle opened.0 (kids-with name names (themselves-with names) (out-Wiring net).kids path opened.1 those)

-- Of components that have their handles, those that pass a test have them.
module _ (test : WiredKid → Bool) where
  kept-one : (kid : WiredKid) (kids : List WiredKid) (b : Bool) → AllByRecursion IsItself (kid_called kid) → KidsAreThemselves kids → KidsAreThemselves (cond b (kid ∷ kids) kids)
  kept-one kid kids true one all = all-join IsItself (kid_called kid) (flat_map kid_called kids) one all
  kept-one kid kids false one all = all

  pub kept-themselves : (kids : List WiredKid) → KidsAreThemselves kids → KidsAreThemselves (filter test kids)
  kept-themselves [] all = tt
  kept-themselves (kid ∷ kids) all =
      kept-one kid (filter test kids) (test kid) (all-left IsItself (kid_called kid) (flat_map kid_called kids) all) (kept-themselves kids (later-itself kid kids all))

pub both-themselves : (kids more : List WiredKid) → KidsAreThemselves kids → KidsAreThemselves more → KidsAreThemselves (kids ++ more)
both-themselves [] more one other = other
both-themselves (kid ∷ kids) more one other =
    all-join IsItself (kid_called kid) (flat_map kid_called (kids ++ more)) (all-left IsItself (kid_called kid) (flat_map kid_called kids) one) (both-themselves kids more (later-itself kid kids one) other)
