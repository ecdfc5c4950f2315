-- What handles show, and where they stand, at a network and at a component.
use Rattle.std.proofs.Common.{◌≡◌, false, List, [], ◌∷◌, ◌++◌, map, Option, Some, None, refl, sym, ap, ◌∙◌}
use Rattle.std.specs.List.{flat_map}
use Rattle.dsde_bank.specs.declared.handle.Handle.{Handle}
use Rattle.dsde_values.specs.declared.name.Name.{Name}
use Rattle.dsde_values.specs.declared.path.Path.{Path}
use Rattle.dsde_sim_tree.specs.Told.{below, to_boss}
use Rattle.dsde_sim_tree.specs.declared.sim.Kid.{Kid}
use Rattle.dsde_sim_tree.specs.declared.sim.Net.{Net}
use Rattle.dsde_sim_tree.specs.Start.{kid_of, net_of}
use Rattle.dsde_routes_wiring.specs.declared.wiring.Wiring.{Wiring}
use Rattle.dsde_routes_wiring.specs.declared.wiring.WiredKid.{WiredKid}
use Rattle.dsde_routes_wiring.specs.declared.wiring.WiredKid.TheOpen.{WiredKid-F}
use Rattle.dsde_routes_wiring.specs.declared.wiring.WiredKid.TheFolds.{fold-roll-WiredKid, fold-roll-Wiring, map-WiredKid}
use Rattle.dsde_routes_wiring.specs.declared.wiring.WiredKid.TheViews.{out-Wiring, out-WiredKid, roll-out-WiredKid, roll-out-Wiring}
use Rattle.dsde_routes_wiring.specs.Opened.{Beneath}
use Rattle.dsde_core_flat.specs.Shown.{Look, leaf_in, model_in, args_in, net_step, kid_step, net_under, kid_under, part_under}
use Rattle.dsde_core_flat.specs.Places.{Place, place, net_places_step, kid_places_step, net_places, kid_places, part_places}

module _ (look : Look) where
  abbrev mapped : WiredKid-F WiredKid Wiring → WiredKid-F Kid (Handle → Net)
  mapped = map-WiredKid WiredKid Wiring Kid (Handle → Net) (kid_under look) (net_under look)

  kid-layer : (name : Name) (handle : Handle) (own : Option Wiring) →
      kid_step look (mapped (record { name = name; handle = handle; below = own })) ≡ kid_of name (part_under look handle own)
  kid-layer name handle None = refl
  kid-layer name handle (Some net) = refl

  -- what a component shows is what its handle does, under its name
  pub kid-shows : (kid : WiredKid) →
      kid_under look kid ≡ kid_of (out-WiredKid kid).name (part_under look (out-WiredKid kid).handle (out-WiredKid kid).below)
  kid-shows kid =
      ap (kid_under look) (sym (roll-out-WiredKid kid))
      ∙ fold-roll-WiredKid Kid (Handle → Net) (kid_step look) (net_step look) (out-WiredKid kid)
      ∙ kid-layer (out-WiredKid kid).name (out-WiredKid kid).handle (out-WiredKid kid).below

  -- what a network shows
  pub net-shows : (net : Wiring) (handle : Handle) →
      net_under look net handle
      ≡ net_of (model_in (look handle)) (args_in (look handle)) (leaf_in (look (out-Wiring net).boss)) (map (kid_under look) (out-Wiring net).kids) (out-Wiring net).links
  net-shows net handle =
      ap (λ (w : Wiring). net_under look w handle) (sym (roll-out-Wiring net))
      ∙ ap (λ (made : Handle → Net). made handle) (fold-roll-Wiring Kid (Handle → Net) (kid_step look) (net_step look) (out-Wiring net))

abbrev placed : WiredKid-F WiredKid Wiring → WiredKid-F (Path → List Place) (Path → List Place)
placed = map-WiredKid WiredKid Wiring (Path → List Place) (Path → List Place) kid_places net_places

kid-places-layer : (name : Name) (handle : Handle) (own : Option Wiring) (path : Path) →
    kid_places_step (placed (record { name = name; handle = handle; below = own })) path ≡ part_places handle (below path name) own
kid-places-layer name handle None path = refl
kid-places-layer name handle (Some net) path = refl

-- where a component stands
pub kid-stands : (kid : WiredKid) (path : Path) →
    kid_places kid path ≡ part_places (out-WiredKid kid).handle (below path (out-WiredKid kid).name) (out-WiredKid kid).below
kid-stands kid path =
    ap (λ (k : WiredKid). kid_places k path) (sym (roll-out-WiredKid kid))
    ∙ ap (λ (at : Path → List Place). at path) (fold-roll-WiredKid (Path → List Place) (Path → List Place) kid_places_step net_places_step (out-WiredKid kid))
    ∙ kid-places-layer (out-WiredKid kid).name (out-WiredKid kid).handle (out-WiredKid kid).below path

at-once : (kids : List WiredKid) (path : Path) →
    flat_map (λ (at : Path → List Place). at path) (map kid_places kids) ≡ flat_map (λ (kid : WiredKid). kid_places kid path) kids
at-once [] path = refl
at-once (kid ∷ kids) path = ap (λ (others : List Place). kid_places kid path ++ others) (at-once kids path)

-- where what is beneath a network stands
pub net-stands : (net : Wiring) (path : Path) →
    net_places net path
    ≡ flat_map (λ (kid : WiredKid). kid_places kid path) (out-Wiring net).kids ++ place (out-Wiring net).boss (to_boss path) false ∷ []
net-stands net path =
    ap (λ (w : Wiring). net_places w path) (sym (roll-out-Wiring net))
    ∙ ap (λ (at : Path → List Place). at path) (fold-roll-Wiring (Path → List Place) (Path → List Place) kid_places_step net_places_step (out-Wiring net))
    ∙ ap (λ (others : List Place). others ++ place (out-Wiring net).boss (to_boss path) false ∷ []) (at-once (out-Wiring net).kids path)

-- a fact of what is beneath a component
abbrev pub OfKid : (Wiring → Type 0) → WiredKid → Type 0
OfKid P kid = Beneath P (out-WiredKid kid).below
