-- The parts of one network, while its structure changes.
use Rattle.std.proofs.Common.{◌≡◌, ◌≢◌, ◌⊎◌, inl, inr, ℕ, Bool, true, false, not, cond, List, [], ◌∷◌, ◌++◌, map, filter, Some, None, refl, sym, ap, subst, ◌∙◌}
use Rattle.std.specs.List.{AllByRecursion}
use Rattle.std.specs.FinMap as map
use Rattle.std.proofs.lemmas.List.{append-nil}
use Rattle.dsde_bank.specs.declared.handle.Handle.{Handle}
use Rattle.dsde_values.specs.declared.name.Name.{Name}
use Rattle.dsde_values.specs.declared.path.Path.{Path}
use Rattle.dsde_values.specs.Path.{EXEC}
use Rattle.dsde_sim_tree.specs.Told.{below, to_boss}
use Rattle.dsde_routes_wiring.specs.given.structure.Gather.{is_same_name}
use Rattle.dsde_grove.specs.Grove as grove
use Rattle.dsde_grove.specs.Grove.{Grove, IsTree, DropsSubtree, spot, value_of, with_value}
use Rattle.dsde_sim_tree.specs.declared.sim.Kid.{Kid}
use Rattle.dsde_core_flat.specs.declared.spot.Spot.{Spot}
use Rattle.dsde_routes_wiring.specs.declared.wiring.WiredKid.{WiredKid}
use Rattle.dsde_routes_wiring.specs.declared.wiring.WiredKid.TheViews.{out-WiredKid}
use Rattle.dsde_core_flat.specs.Shown.{kid_under}
use Rattle.dsde_core_flat.specs.Places.{places_of, Place, place, kid_places, part_places}
use Rattle.dsde_core_flat.specs.lemmas.Opened.{kid-stands}
use Rattle.dsde_core_flat.specs.lemmas.Frame.{all-left, all-right, all-join, Agrees, kid-keeps}
use Rattle.dsde_core_flat.specs.lemmas.Names.{name-exact, name-apart}
use Rattle.dsde_core_flat.specs.lemmas.Beneath.{all-map, IsBeneath, IsApart, places-beneath}
use Rattle.dsde_core_flat.specs.Stands.{NetStands, StandsAt, HasBirth, Leads, ChangesBeneath}
use Rattle.dsde_core_flat.specs.lemmas.Keeping.{all-stand, all-agree, stand-keeps}
use Rattle.dsde_core_flat.specs.lemmas.Groves.{drop-changes}
use Rattle.dsde_core_flat.specs.lemmas.Called.{both-themselves, kept-themselves}
use Rattle.dsde_core_flat.specs.Grafts.{AreGrafted}
use Rattle.dsde_core_flat.specs.lemmas.Grafting.{stand-kept, all-kept, birth-left, birth-right, flat-join}
use Rattle.dsde_core_flat.specs.lemmas.Growing.{among, heads-alike, longer}

-- the components that do not have this name
abbrev pub unnamed : Name → List WiredKid → List WiredKid
unnamed name kids = filter (λ kid. not (is_same_name (out-WiredKid kid).name name)) kids

-- a component comes to those of a network
pub graft-stands : (own new : Grove Spot) (handle boss : Handle) (path : Path) (kids : List WiredKid) (sims : List Kid) (more : List WiredKid) →
    NetStands own handle boss path kids → AreGrafted own new path sims more → NetStands new handle boss path (kids ++ more)
graft-stands own new handle boss path kids sims more stands grafted = record {
  itself = stand-kept own new grafted.kept (place handle path true) stands.itself;
  executive = stand-kept own new grafted.kept (place boss (to_boss path) false) stands.executive;
  components = subst (AllByRecursion (StandsAt new)) (sym (flat-join (λ (kid : WiredKid). kid_places kid path) kids more))
      (all-join (StandsAt new) (places_of path kids) (places_of path more) (all-kept own new grafted.kept (places_of path kids) stands.components) grafted.live);
  themselves = both-themselves kids more stands.themselves grafted.themselves;
  only = λ birth part is leads. elim (grafted.only birth part is) [
    | inl before ↦ elim (stands.only birth part before leads) [
      | inl here ↦ inl here
      | inr other ↦ elim other [
        | inl last ↦ inr (inl last)
        | inr kid ↦ inr (inr (subst (HasBirth birth) (sym (flat-join (λ (k : WiredKid). kid_places k path) kids more)) (birth-left birth (places_of path kids) (places_of path more) kid)))
      ]
    ]
    | inr fresh ↦ inr (inr (subst (HasBirth birth) (sym (flat-join (λ (k : WiredKid). kid_places k path) kids more)) (birth-right birth (places_of path kids) (places_of path more) fresh)))
  ];
}

-- what stands under another name is apart
pub apart-there : (path : Path) (name : Name) (kid : WiredKid) → (out-WiredKid kid).name ≢ name → AllByRecursion (IsApart (path.names ++ name ∷ [])) (kid_places kid path)
apart-there path name kid apart =
    subst (AllByRecursion (IsApart (path.names ++ name ∷ []))) (sym (kid-stands kid path))
    (all-map (IsBeneath (path.names ++ (out-WiredKid kid).name ∷ [])) (IsApart (path.names ++ name ∷ []))
    (λ at under over. apart (heads-alike path.names (out-WiredKid kid).name name under.rest over.rest at.path.names under.is over.is))
    (part_places (out-WiredKid kid).handle (below path (out-WiredKid kid).name) (out-WiredKid kid).below)
    (places-beneath (out-WiredKid kid).handle (below path (out-WiredKid kid).name) (out-WiredKid kid).below))

pub beneath-there : (path : Path) (kid : WiredKid) → AllByRecursion (IsBeneath (path.names ++ (out-WiredKid kid).name ∷ [])) (kid_places kid path)
beneath-there path kid = subst (AllByRecursion (IsBeneath (path.names ++ (out-WiredKid kid).name ∷ []))) (sym (kid-stands kid path))
    (places-beneath (out-WiredKid kid).handle (below path (out-WiredKid kid).name) (out-WiredKid kid).below)

module _ (own : Grove Spot) (path : Path) (name : Name) where
  abbrev others : Bool → WiredKid → List WiredKid → List WiredKid
  others b kid kids = cond (not b) (kid ∷ unnamed name kids) (unnamed name kids)

  live-at : (kid : WiredKid) (kids : List WiredKid) (b : Bool) → AllByRecursion (StandsAt own) (places_of path (kid ∷ kids)) → AllByRecursion (StandsAt own) (places_of path (unnamed name kids)) →
      AllByRecursion (StandsAt own) (places_of path (others b kid kids))
  live-at kid kids true all later = later
  live-at kid kids false all later = all-join (StandsAt own) (kid_places kid path) (places_of path (unnamed name kids)) (all-left (StandsAt own) (kid_places kid path) (places_of path kids) all) later

  -- of the places of components, those under other names
  live-others : (kids : List WiredKid) → AllByRecursion (StandsAt own) (places_of path kids) → AllByRecursion (StandsAt own) (places_of path (unnamed name kids))
  live-others [] all = tt
  live-others (kid ∷ kids) all =
      live-at kid kids (is_same_name (out-WiredKid kid).name name) all (live-others kids (all-right (StandsAt own) (kid_places kid path) (places_of path kids) all))

apart-at : (path : Path) (name : Name) (kid : WiredKid) (kids : List WiredKid) (b : Bool) → is_same_name (out-WiredKid kid).name name ≡ b →
    AllByRecursion (IsApart (path.names ++ name ∷ [])) (places_of path (unnamed name kids)) →
    AllByRecursion (IsApart (path.names ++ name ∷ [])) (places_of path (cond (not b) (kid ∷ unnamed name kids) (unnamed name kids)))
apart-at path name kid kids true is later = later
apart-at path name kid kids false is later =
    all-join (IsApart (path.names ++ name ∷ [])) (kid_places kid path) (places_of path (unnamed name kids)) (apart-there path name kid (name-apart (out-WiredKid kid).name name is)) later

apart-others : (path : Path) (name : Name) (kids : List WiredKid) → AllByRecursion (IsApart (path.names ++ name ∷ [])) (places_of path (unnamed name kids))
apart-others path name [] = tt
apart-others path name (kid ∷ kids) = apart-at path name kid kids (is_same_name (out-WiredKid kid).name name) refl (apart-others path name kids)

-- what is not under a name stands among the components that do not have it
module _ (own : Grove Spot) (path : Path) (name : Name) (birth : ℕ) (part : grove.Spot Spot) (is : map.get own.parts birth ≡ Some part) (out : ¬ Leads (path.names ++ name ∷ []) part.path) where
  other-at : (kid : WiredKid) (kids : List WiredKid) (b : Bool) → is_same_name (out-WiredKid kid).name name ≡ b → AllByRecursion (StandsAt own) (kid_places kid path) →
      HasBirth birth (kid_places kid path) → HasBirth birth (places_of path (cond (not b) (kid ∷ unnamed name kids) (unnamed name kids)))
  other-at kid kids true same_name stands has =
      let here = among own (path.names ++ (out-WiredKid kid).name ∷ []) birth part is (kid_places kid path) stands (beneath-there path kid) has in
      absurd (out (subst (λ (n : Name). Leads (path.names ++ n ∷ []) part.path) (name-exact (out-WiredKid kid).name name same_name) here))
  other-at kid kids false apart stands has = birth-left birth (kid_places kid path) (places_of path (unnamed name kids)) has

  later-at : (kid : WiredKid) (kids : List WiredKid) (b : Bool) → HasBirth birth (places_of path (unnamed name kids)) → HasBirth birth (places_of path (cond (not b) (kid ∷ unnamed name kids) (unnamed name kids)))
  later-at kid kids true has = has
  later-at kid kids false has = birth-right birth (kid_places kid path) (places_of path (unnamed name kids)) has

  split : (xs ys : List Place) → HasBirth birth (xs ++ ys) → HasBirth birth xs ⊎ HasBirth birth ys
  split [] ys has = inr has
  split (x ∷ xs) ys (inl here) = inl (inl here)
  split (x ∷ xs) ys (inr later) = elim (split xs ys later) [ inl one ↦ inl (inr one) | inr other ↦ inr other ]

  pub among-others : (kids : List WiredKid) → AllByRecursion (StandsAt own) (places_of path kids) → HasBirth birth (places_of path kids) → HasBirth birth (places_of path (unnamed name kids))
  among-others [] stands has = absurd has
  among-others (kid ∷ kids) stands has = elim (split (kid_places kid path) (places_of path kids) has) [
    | inl here ↦ other-at kid kids (is_same_name (out-WiredKid kid).name name) refl (all-left (StandsAt own) (kid_places kid path) (places_of path kids) stands) here
    | inr later ↦ later-at kid kids (is_same_name (out-WiredKid kid).name name) (among-others kids (all-right (StandsAt own) (kid_places kid path) (places_of path kids) stands) later)
  ]

pub longer-here : (path : Path) (name : Name) (handle : Handle) (b : Bool) → IsApart (path.names ++ name ∷ []) (place handle path b)
longer-here path name handle b over = longer path.names name over.rest over.is

-- components show the same where all that they have keeps
pub keeps-showing : (own new : Grove Spot) (path : Path) (those : List WiredKid) → AllByRecursion (Agrees (value_of own) (value_of new)) (places_of path those) → map (kid_under (value_of new)) those ≡ map (kid_under (value_of own)) those
keeps-showing own new path [] agree = refl
keeps-showing own new path (kid ∷ those) agree =
    ap (λ (k : Kid). k ∷ map (kid_under (value_of new)) those) (kid-keeps (value_of own) (value_of new) kid path (all-left (Agrees (value_of own) (value_of new)) (kid_places kid path) (places_of path those) agree))
    ∙ ap (λ (ks : List Kid). kid_under (value_of own) kid ∷ ks) (keeps-showing own new path those (all-right (Agrees (value_of own) (value_of new)) (kid_places kid path) (places_of path those) agree))

-- A component leaves a network with all beneath it.
module _ (own new : Grove Spot) (top handle boss : Handle) (path : Path) (name : Name) (kids : List WiredKid) (stands : NetStands own handle boss path kids) (apart : EXEC ≢ name)
    (drops : DropsSubtree own new top) (at : drops.part.path ≡ path.names ++ name ∷ []) where
  pub drop-there : ChangesBeneath (path.names ++ name ∷ []) own new
  drop-there = subst (λ (names : List Name). ChangesBeneath names own new) at (drop-changes own new top drops)

  boss-apart : IsApart (path.names ++ name ∷ []) (place boss (to_boss path) false)
  boss-apart over = apart (heads-alike path.names EXEC name [] over.rest (path.names ++ EXEC ∷ []) (sym (append-nil (path.names ++ EXEC ∷ []))) over.is)

  gone-there : (birth : ℕ) (part : grove.Spot Spot) → map.get new.parts birth ≡ Some part → ¬ Leads (path.names ++ name ∷ []) part.path
  gone-there birth part is leads = elim (drops.either birth) [
    | inl under ↦ let gone : map.get new.parts birth ≡ None = under.1 in let wrong : None ≡ Some part = sym gone ∙ is in cc
    | inr kept ↦ kept.0 (record { part = part; live = sym kept.1 ∙ is; rest = leads.rest; path = leads.is ∙ ap (λ (names : List Name). names ++ leads.rest) (sym at) })
  ]

  pub drop-stands : NetStands new handle boss path (unnamed name kids)
  drop-stands = record {
    itself = stand-keeps own new (path.names ++ name ∷ []) drop-there (place handle path true) stands.itself (longer-here path name handle true);
    executive = stand-keeps own new (path.names ++ name ∷ []) drop-there (place boss (to_boss path) false) stands.executive boss-apart;
    components = all-stand own new (path.names ++ name ∷ []) drop-there (places_of path (unnamed name kids)) (live-others own path name kids stands.components) (apart-others path name kids);
    themselves = kept-themselves (λ kid. not (is_same_name (out-WiredKid kid).name name)) kids stands.themselves;
    only = λ birth part is leads.
        let out = gone-there birth part is in
        let before = drop-there.only birth part is out in
        elim (stands.only birth part before leads) [
          | inl here ↦ inl here
          | inr other ↦ elim other [
            | inl last ↦ inr (inl last)
            | inr kid ↦ inr (inr (among-others own path name birth part before out kids stands.components kid))
          ]
        ];
  }

  -- the other components show what they did
  pub drop-shows : map (kid_under (value_of new)) (unnamed name kids) ≡ map (kid_under (value_of own)) (unnamed name kids)
  drop-shows = keeps-showing own new path (unnamed name kids)
      (all-agree own new (path.names ++ name ∷ []) drop-there (places_of path (unnamed name kids)) (live-others own path name kids stands.components) (apart-others path name kids))
