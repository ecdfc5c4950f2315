-- What a change beneath one place leaves standing.
use Rattle.std.proofs.Common.{◌≡◌, ◌⊎◌, inl, inr, ◌==◌, ℕ, Bool, true, false, cond, List, [], ◌∷◌, ◌++◌, map, Option, Some, None, option_and_then, refl, sym, ap, subst, ◌∙◌, append_assoc}
use Rattle.std.specs.Option.{option_map}
use Rattle.std.specs.List.{flat_map, AllByRecursion}
use Rattle.std.specs.FinMap as map
use Rattle.std.proofs.lemmas.List.{append-nil}
use Rattle.dsde_bank.specs.declared.handle.Handle.{Handle}
use Rattle.dsde_values.specs.declared.name.Name.{Name}
use Rattle.dsde_values.specs.declared.path.Path.{Path}
use Rattle.dsde_values.specs.Path.{root}
use Rattle.dsde_sim_tree.specs.Told.{below}
use Rattle.dsde_routes_wiring.specs.given.structure.Gather.{is_same_name}
use Rattle.dsde_grove.specs.Grove as grove
use Rattle.dsde_grove.specs.Grove.{Grove, spot, value_of, in_slot}
use Rattle.dsde_sim_tree.specs.declared.sim.Sim.{Sim}
use Rattle.dsde_core_flat.specs.declared.spot.Spot.{Spot}
use Rattle.dsde_routes_wiring.specs.declared.wiring.Wiring.{Wiring}
use Rattle.dsde_routes_wiring.specs.declared.wiring.WiredKid.{WiredKid}
use Rattle.dsde_routes_wiring.specs.declared.wiring.WiredKid.TheOpen.{Wiring-F}
use Rattle.dsde_routes_wiring.specs.declared.wiring.WiredKid.TheViews.{out-Wiring, out-WiredKid, roll-Wiring, roll-out-Wiring, roll-out-WiredKid}
use Rattle.dsde_core_flat.specs.Places.{Place, part_places}
use Rattle.dsde_core_flat.specs.lemmas.Frame.{all-join, Agrees}
use Rattle.dsde_core_flat.specs.Change.{changed_at, wired_kid, wired_kid_with, wired_with, Standing, found_kid, found, outside}
use Rattle.dsde_core_flat.specs.lemmas.Context.{Shows, part-changes}
use Rattle.dsde_core_flat.specs.lemmas.Names.{name-exact, name-apart}
use Rattle.dsde_core_flat.specs.lemmas.Beneath.{IsBeneath, IsApart, IsNoBoss, places-beneath, outside-apart}
use Rattle.dsde_core_flat.specs.Stands.{StandsAt, HasBirth, StandsFor, Leads, ChangesBeneath}
use Rattle.dsde_core_flat.specs.lemmas.Called.{StaysItself, themselves-with}
use Rattle.dsde_core_flat.specs.lemmas.Mixing.{Mixes, all-mixed, all-one, all-other, births-apart, births-one, births-other, places_with, places-mixed}

-- a wiring with what it has
abbrev pub same : Option Wiring → Option Wiring
same own = own

kid-same-at : (names : List Name) → ((own : Option Wiring) → wired_with names same own ≡ own) → (kid : WiredKid) (b : Bool) →
    cond b (wired_kid (out-WiredKid kid).name (out-WiredKid kid).handle (wired_with names same (out-WiredKid kid).below)) kid ≡ kid
kid-same-at names known kid true =
    ap (λ (own : Option Wiring). wired_kid (out-WiredKid kid).name (out-WiredKid kid).handle own) (known (out-WiredKid kid).below)
    ∙ roll-out-WiredKid kid
kid-same-at names known kid false = refl

kids-same : (name : Name) (names : List Name) → ((own : Option Wiring) → wired_with names same own ≡ own) → (kids : List WiredKid) →
    map (wired_kid_with name (wired_with names same)) kids ≡ kids
kids-same name names known [] = refl
kids-same name names known (kid ∷ kids) =
    ap (λ (k : WiredKid). k ∷ map (wired_kid_with name (wired_with names same)) kids) (kid-same-at names known kid (is_same_name (out-WiredKid kid).name name))
    ∙ ap (λ (ks : List WiredKid). kid ∷ ks) (kids-same name names known kids)

pub wired-same : (names : List Name) (own : Option Wiring) → wired_with names same own ≡ own
wired-same [] own = refl
wired-same (name ∷ names) None = refl
wired-same (name ∷ names) (Some net) =
    ap (λ (kids : List WiredKid). let made : Wiring-F WiredKid Wiring = record (out-Wiring net) { kids = kids } in let own : Option Wiring = Some (roll-Wiring made) in own)
    (kids-same name names (wired-same names) (out-Wiring net).kids)
    ∙ ap (λ (w : Wiring). let own : Option Wiring = Some w in own) (roll-out-Wiring net)

-- the places of a tree without a change
pub old-mixed : (names : List Name) (handle : Handle) (path : Path) (own : Option Wiring) →
    Mixes (outside names handle path own) (flat_map (places_with same) (found names handle path own)) (part_places handle path own)
old-mixed names handle path own =
    subst (λ (w : Option Wiring). Mixes (outside names handle path own) (flat_map (places_with same) (found names handle path own)) (part_places handle path w))
    (wired-same names own) (places-mixed same names handle path own)

-- what is found stands beneath
module _ (wired : Option Wiring → Option Wiring) where
  flat-append : (xs ys : List Standing) → flat_map (places_with wired) (xs ++ ys) ≡ flat_map (places_with wired) xs ++ flat_map (places_with wired) ys
  flat-append [] ys = refl
  flat-append (x ∷ xs) ys =
      ap (λ (zs : List Place). places_with wired x ++ zs) (flat-append xs ys)
      ∙ sym (append_assoc (places_with wired x) (flat_map (places_with wired) xs) (flat_map (places_with wired) ys))

  abbrev AreFound : List Name → Type 0
  AreFound names = (handle : Handle) (path : Path) (own : Option Wiring) → AllByRecursion (IsBeneath (path.names ++ names)) (flat_map (places_with wired) (found names handle path own))

  kid-found : (name : Name) (names : List Name) → AreFound names → (kid : WiredKid) (path : Path) (b : Bool) → is_same_name (out-WiredKid kid).name name ≡ b →
      AllByRecursion (IsBeneath (path.names ++ name ∷ names)) (flat_map (places_with wired) (cond b (found names (out-WiredKid kid).handle (below path (out-WiredKid kid).name) (out-WiredKid kid).below) []))
  kid-found name names known kid path true is =
      subst (λ (all : List Name). AllByRecursion (IsBeneath all) (flat_map (places_with wired) (found names (out-WiredKid kid).handle (below path (out-WiredKid kid).name) (out-WiredKid kid).below)))
      (append_assoc path.names ((out-WiredKid kid).name ∷ []) names ∙ ap (λ (n : Name). path.names ++ n ∷ names) (name-exact (out-WiredKid kid).name name is))
      (known (out-WiredKid kid).handle (below path (out-WiredKid kid).name) (out-WiredKid kid).below)
  kid-found name names known kid path false is = tt

  kids-found : (name : Name) (names : List Name) → AreFound names → (kids : List WiredKid) (path : Path) →
      AllByRecursion (IsBeneath (path.names ++ name ∷ names)) (flat_map (places_with wired) (flat_map (found_kid name (found names) path) kids))
  kids-found name names known [] path = tt
  kids-found name names known (kid ∷ kids) path =
      subst (AllByRecursion (IsBeneath (path.names ++ name ∷ names)))
      (sym (flat-append (found_kid name (found names) path kid) (flat_map (found_kid name (found names) path) kids)))
      (all-join (IsBeneath (path.names ++ name ∷ names)) (flat_map (places_with wired) (found_kid name (found names) path kid)) (flat_map (places_with wired) (flat_map (found_kid name (found names) path) kids))
      (kid-found name names known kid path (is_same_name (out-WiredKid kid).name name) refl)
      (kids-found name names known kids path))

  pub found-beneath : (names : List Name) → AreFound names
  found-beneath [] handle path own =
      subst (AllByRecursion (IsBeneath (path.names ++ []))) (sym (append-nil (part_places handle path (wired own))))
      (subst (λ (all : List Name). AllByRecursion (IsBeneath all) (part_places handle path (wired own))) (sym (append-nil path.names)) (places-beneath handle path (wired own)))
  found-beneath (name ∷ names) handle path None = tt
  found-beneath (name ∷ names) handle path (Some net) = kids-found name names (found-beneath names) (out-Wiring net).kids path

-- names lead to a path, or not
leads-on : (name : Name) (names : List Name) (one : Name) (path : List Name) → one ≡ name → Leads names path → Leads (name ∷ names) (one ∷ path)
leads-on name names one path same leads = record { rest = leads.rest; is = ap (λ (n : Name). n ∷ path) same ∙ ap (λ (p : List Name). name ∷ p) leads.is }

leads-at : (name : Name) (names : List Name) (one : Name) (path : List Name) (b : Bool) → is_same_name one name ≡ b →
    (Leads names path ⊎ (¬ Leads names path)) → (Leads (name ∷ names) (one ∷ path) ⊎ (¬ Leads (name ∷ names) (one ∷ path)))
leads-at name names one path true is (inl leads) = inl (leads-on name names one path (name-exact one name is) leads)
leads-at name names one path true is (inr apart) = inr (λ leads. apart (record { rest = leads.rest; is = let e : one ∷ path ≡ name ∷ (names ++ leads.rest) = leads.is in let tail : path ≡ names ++ leads.rest = cc in tail }))
leads-at name names one path false is known = inr (λ leads. name-apart one name is (let e : one ∷ path ≡ name ∷ (names ++ leads.rest) = leads.is in let head : one ≡ name = cc in head))

pub leads-or-not : (names path : List Name) → Leads names path ⊎ (¬ Leads names path)
leads-or-not [] path = inl (record { rest = path; is = refl })
leads-or-not (name ∷ names) [] = inr (λ leads. let e : [] ≡ name ∷ (names ++ leads.rest) = leads.is in absurd (cc e))
leads-or-not (name ∷ names) (one ∷ path) = leads-at name names one path (is_same_name one name) refl (leads-or-not names path)

module _ {T : Type 0} where
  in-slot : (slot : ℕ) (own part : grove.Spot T) (b : Bool) → (let r : Option (grove.Spot T) = cond b (Some own) None in r) ≡ Some part → own ≡ part
  in-slot slot own part true is = cc
  in-slot slot own part false is = absurd (cc is)

  got-at : (slot : ℕ) (held : Option (grove.Spot T)) (part : grove.Spot T) → option_and_then (in_slot slot) held ≡ Some part → held ≡ Some part
  got-at slot None part is = absurd (cc is)
  got-at slot (Some own) part is = ap (λ (p : grove.Spot T). let r : Option (grove.Spot T) = Some p in r) (in-slot slot own part (own.slot == slot) is)

  -- a live part is the one of its birth
  pub spot-got : (own : Grove T) (handle : Handle) (part : grove.Spot T) → spot own handle ≡ Some part → map.get own.parts handle.birth ≡ Some part
  spot-got own handle part is = got-at handle.slot (map.get own.parts handle.birth) part is

  -- where the part of a birth is the same, its handle finds the same
  pub spot-same : (old new : Grove T) (handle : Handle) (part : grove.Spot T) → spot old handle ≡ Some part → map.get new.parts handle.birth ≡ Some part → spot new handle ≡ spot old handle
  spot-same old new handle part live is = ap (option_and_then (in_slot handle.slot)) (is ∙ sym (spot-got old handle part live))

module _ (old new : Grove Spot) (names : List Name) (changes : ChangesBeneath names old new) where
  lead-beneath : (at : Place) (part : grove.Spot Spot) → part.path ≡ at.path.names → Leads names part.path → IsBeneath names at
  lead-beneath at part is leads = record { rest = leads.rest; is = sym is ∙ leads.is }

  pub spot-kept : (at : Place) (stands : StandsAt old at) → IsApart names at → spot new at.handle ≡ spot old at.handle
  spot-kept at stands apart =
      spot-same old new at.handle stands.part stands.live
      (changes.kept at.handle.birth stands.part (spot-got old at.handle stands.part stands.live) (λ leads. apart (lead-beneath at stands.part stands.path leads)))

  pub stand-keeps : (at : Place) → StandsAt old at → IsApart names at → StandsAt new at
  stand-keeps at stands apart = record { part = stands.part; live = spot-kept at stands apart ∙ stands.live; path = stands.path; kind = stands.kind }

  pub all-stand : (ats : List Place) → AllByRecursion (StandsAt old) ats → AllByRecursion (IsApart names) ats → AllByRecursion (StandsAt new) ats
  all-stand [] stands apart = tt
  all-stand (at ∷ ats) stands apart = (stand-keeps at stands.0 apart.0, all-stand ats stands.1 apart.1)

  pub all-agree : (ats : List Place) → AllByRecursion (StandsAt old) ats → AllByRecursion (IsApart names) ats → AllByRecursion (Agrees (value_of old) (value_of new)) ats
  all-agree [] stands apart = tt
  all-agree (at ∷ ats) stands apart = (ap (option_map (λ (part : grove.Spot Spot). part.value)) (spot-kept at stands.0 apart.0), all-agree ats stands.1 apart.1)

-- a birth that stands beneath has a path that does
born-beneath : (own : Grove Spot) (names : List Name) (birth : ℕ) (part : grove.Spot Spot) → map.get own.parts birth ≡ Some part → (ats : List Place) →
    AllByRecursion (StandsAt own) ats → AllByRecursion (IsBeneath names) ats → HasBirth birth ats → Leads names part.path
born-beneath own names birth part is [] stands beneath has = absurd has
born-beneath own names birth part is (at ∷ ats) stands beneath (inl here) =
    let live : map.get own.parts birth ≡ Some stands.0.part = ap (map.get own.parts) (sym here) ∙ spot-got own at.handle stands.0.part stands.0.live in
    let one : part ≡ stands.0.part = cc in
    record { rest = beneath.0.rest; is = ap (λ (p : grove.Spot Spot). p.path) one ∙ stands.0.path ∙ beneath.0.is }
born-beneath own names birth part is (at ∷ ats) stands beneath (inr later) = born-beneath own names birth part is ats stands.1 beneath.1 later

-- What is beneath one place changes in the grove, in the wiring and in the tree: the flat state stands for the changed tree.
module _ (old new : Grove Spot) (top : Handle) (wiring : Option Wiring) (tree : Sim) (names : List Name) (wired : Option Wiring → Option Wiring) (change : Sim → Sim) where
  abbrev there : List Place
  there = flat_map (places_with wired) (found names top root wiring)

  pub stays : StandsFor old top wiring tree → AllByRecursion IsNoBoss names → ChangesBeneath (root.names ++ names) old new →
      AllByRecursion (Shows (value_of old) (value_of new) wired change) (found names top root wiring) →
      AllByRecursion (StandsAt new) there →
      AllByRecursion (StaysItself wired) (found names top root wiring) →
      ((birth : ℕ) (part : grove.Spot Spot) → map.get new.parts birth ≡ Some part → Leads (root.names ++ names) part.path → HasBirth birth there) →
      StandsFor new top (wired_with names wired wiring) (changed_at names change tree)
  stays stands none changes shows live itself only =
      let before = old-mixed names top root wiring in
      let after = places-mixed wired names top root wiring in
      let apart = outside-apart names none top root wiring in
      let others : AllByRecursion (StandsAt old) (outside names top root wiring) = all-one (StandsAt old) before stands.live in
      let its : AllByRecursion (StandsAt old) (flat_map (places_with same) (found names top root wiring)) = all-other (StandsAt old) before stands.live in
      record {
        shows =
            part-changes (value_of old) (value_of new) wired change names top root wiring
            (all-agree old new (root.names ++ names) changes (outside names top root wiring) others apart) shows
            ∙ ap (changed_at names change) stands.shows;
        itself = themselves-with wired names top root wiring stands.itself itself;
        live = all-mixed (StandsAt new) after (all-stand old new (root.names ++ names) changes (outside names top root wiring) others apart) live;
        only = λ birth part is. elim (leads-or-not (root.names ++ names) part.path) [
          | inl leads ↦ births-other birth after (only birth part is leads)
          | inr not ↦ elim (births-apart birth before (stands.only birth part (changes.only birth part is not))) [
            | inl one ↦ births-one birth after one
            | inr other ↦ absurd (not (born-beneath old (root.names ++ names) birth part (changes.only birth part is not) (flat_map (places_with same) (found names top root wiring)) its (found-beneath same names top root wiring) other))
          ]
        ];
      }
