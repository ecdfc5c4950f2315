-- How long the paths of the places of a tree are.
use Rattle.std.proofs.Common.{◌≡◌, inl, inr, false, ℕ, suc, ◌+◌, ◌≤◌, max, List, [], ◌∷◌, ◌++◌, length, map, Option, Some, None, refl, sym, ap, subst, ◌∙◌, length-append, arith}
use Rattle.std.specs.Option.{option_map_or}
use Rattle.std.specs.FinMap as finmap
use Rattle.std.specs.List.{flat_map, AllByRecursion}
use Rattle.dsde_bank.specs.declared.handle.Handle.{Handle}
use Rattle.dsde_values.specs.declared.path.Path.{Path}
use Rattle.dsde_values.specs.Path.{EXEC, root}
use Rattle.dsde_sim_tree.specs.Told.{below, to_boss}
use Rattle.dsde_grove.specs.Grove as grove
use Rattle.dsde_grove.specs.Grove.{Grove, spot, value_of}
use Rattle.dsde_sim_tree.specs.declared.sim.Kid.{Kid}
use Rattle.dsde_sim_tree.specs.declared.sim.Net.{Net}
use Rattle.dsde_sim_tree.specs.declared.sim.Sim.{Sim}
use Rattle.dsde_sim_tree.specs.declared.sim.Sim.TheVariants as sim
use Rattle.dsde_sim_tree.specs.declared.sim.Sim.TheOpen.{Net-F}
use Rattle.dsde_sim_tree.specs.declared.sim.Sim.TheViews.{out-Kid, out-Net, out-roll-Net}
use Rattle.dsde_sim_tree.specs.declared.sim.TheConstants.{DEEPEST}
use Rattle.dsde_sim_movers.specs.Stands.{deepest, depth, depth_of_kid}
use Rattle.dsde_sim_movers.specs.lemmas.Opened.{depth-Leaf, depth-Net, depth-kid}
use Rattle.dsde_routes_wiring.specs.declared.wiring.Wiring.{Wiring}
use Rattle.dsde_routes_wiring.specs.declared.wiring.WiredKid.{WiredKid}
use Rattle.dsde_routes_wiring.specs.declared.wiring.WiredKid.TheViews.{out-Wiring, out-WiredKid}
use Rattle.dsde_routes_wiring.specs.Opened.{each_wiring, Beneath}
use Rattle.dsde_core_flat.specs.declared.spot.Spot.{Spot}
use Rattle.dsde_core_flat.specs.Shown.{Look, leaf_in, model_in, args_in, net_under, kid_under, part_under}
use Rattle.dsde_core_flat.specs.Places.{Place, place, net_places, kid_places, part_places, places_of}
use Rattle.dsde_core_flat.specs.Stands.{StandsAt, HasBirth, StandsFor, IsShallow}
use Rattle.dsde_core_flat.specs.lemmas.Opened.{net-shows, kid-stands, net-stands, OfKid}
use Rattle.dsde_core_flat.specs.lemmas.Frame.{all-join}
use Rattle.dsde_core_flat.specs.lemmas.Beneath.{all-map}
use Rattle.dsde_core_flat.specs.lemmas.Apart.{sim-shown}
use Rattle.dsde_core_flat.specs.lemmas.Keeping.{spot-got}

-- so many names at most
abbrev HasAtMost : ℕ → Place → Type 0
HasAtMost most at = suc (length at.path.names) ≤ most

more-names : (less most : ℕ) → less ≤ most → (at : Place) → HasAtMost less at → HasAtMost most at
more-names less most fewer at has = omega (arith, fewer, has)

deepest-first : (first : ℕ) (depths : List ℕ) → first ≤ deepest (first ∷ depths)
deepest-first first depths = omega arith

deepest-later : (first : ℕ) (depths : List ℕ) → deepest depths ≤ deepest (first ∷ depths)
deepest-later first depths = omega arith

deepest-some : (depths : List ℕ) → 1 ≤ deepest depths
deepest-some [] = omega arith
deepest-some (depth ∷ depths) = omega (arith, deepest-some depths, deepest-later depth depths)

module _ (look : Look) where
  abbrev Reaches : Wiring → Type 0
  Reaches net = (handle : Handle) (path : Path) → AllByRecursion (HasAtMost (length path.names + depth (sim.Net (net_under look net handle)))) (net_places net path)

  part-reaches : (handle : Handle) (path : Path) (own : Option Wiring) → Beneath Reaches own →
      AllByRecursion (HasAtMost (length path.names + depth (part_under look handle own))) (part_places handle path own)
  part-reaches handle path None known = (omega (arith, depth-Leaf (leaf_in (look handle))), tt)
  part-reaches handle path (Some net) known = (omega (arith, depth-Net (net_under look net handle)), known handle path)

  kid-reaches : (kid : WiredKid) (path : Path) → OfKid Reaches kid →
      AllByRecursion (HasAtMost (suc (length path.names) + depth_of_kid (kid_under look kid))) (kid_places kid path)
  kid-reaches kid path known =
      let at = below path (out-WiredKid kid).name in
      let own = depth (part_under look (out-WiredKid kid).handle (out-WiredKid kid).below) in
      let is : depth_of_kid (kid_under look kid) ≡ own = depth-kid (kid_under look kid) ∙ ap depth (sim-shown look kid) in
      let more : length at.names + own ≤ suc (length path.names) + depth_of_kid (kid_under look kid) = omega (arith, is, length-append path.names ((out-WiredKid kid).name ∷ [])) in
      subst (AllByRecursion (HasAtMost (suc (length path.names) + depth_of_kid (kid_under look kid)))) (sym (kid-stands kid path))
      (all-map (HasAtMost (length at.names + own)) (HasAtMost (suc (length path.names) + depth_of_kid (kid_under look kid))) (more-names (length at.names + own) (suc (length path.names) + depth_of_kid (kid_under look kid)) more)
      (part_places (out-WiredKid kid).handle at (out-WiredKid kid).below) (part-reaches (out-WiredKid kid).handle at (out-WiredKid kid).below known))

  kids-reach : (kids : List WiredKid) (path : Path) → AllByRecursion (OfKid Reaches) kids →
      AllByRecursion (HasAtMost (suc (length path.names) + deepest (map depth_of_kid (map (kid_under look) kids)))) (places_of path kids)
  kids-reach [] path known = tt
  kids-reach (kid ∷ kids) path known =
      let first = depth_of_kid (kid_under look kid) in
      let depths = map depth_of_kid (map (kid_under look) kids) in
      let front = suc (length path.names) in
      let all = front + deepest (first ∷ depths) in
      all-join (HasAtMost all) (kid_places kid path) (places_of path kids)
      (all-map (HasAtMost (front + first)) (HasAtMost all) (more-names (front + first) all (omega (arith, deepest-first first depths))) (kid_places kid path) (kid-reaches kid path known.0))
      (all-map (HasAtMost (front + deepest depths)) (HasAtMost all) (more-names (front + deepest depths) all (omega (arith, deepest-later first depths))) (places_of path kids) (kids-reach kids path known.1))

  net-reaches : (net : Wiring) → Reaches net
  net-reaches = each_wiring Reaches (λ net known handle path.
      let own : Net-F Sim Kid Net = record { model = model_in (look handle); args = args_in (look handle); boss = leaf_in (look (out-Wiring net).boss); kids = map (kid_under look) (out-Wiring net).kids; links = (out-Wiring net).links } in
      let depths = map depth_of_kid (map (kid_under look) (out-Wiring net).kids) in
      let is : depth (sim.Net (net_under look net handle)) ≡ suc (deepest depths) =
      depth-Net (net_under look net handle) ∙ ap (λ (n : Net-F Sim Kid Net). suc (deepest (map depth_of_kid n.kids))) (ap out-Net (net-shows look net handle) ∙ out-roll-Net own) in
      let all = length path.names + depth (sim.Net (net_under look net handle)) in
      let kids = places_of path (out-Wiring net).kids in
      let last = place (out-Wiring net).boss (to_boss path) false in
      subst (AllByRecursion (HasAtMost all)) (sym (net-stands net path))
      (all-join (HasAtMost all) kids (last ∷ [])
      (all-map (HasAtMost (suc (length path.names) + deepest depths)) (HasAtMost all) (more-names (suc (length path.names) + deepest depths) all (omega (arith, is))) kids (kids-reach (out-Wiring net).kids path known))
      (omega (arith, is, deepest-some depths, length-append path.names (EXEC ∷ [])), tt)))

  every : (own : Option Wiring) → Beneath Reaches own
  every None = tt
  every (Some net) = net-reaches net

-- who is live under a handle stands at a place
deep-at : (own : Grove Spot) (most : ℕ) (handle : Handle) (part : grove.Spot Spot) → spot own handle ≡ Some part → (ats : List Place) → AllByRecursion (StandsAt own) ats → AllByRecursion (HasAtMost (suc most)) ats →
    HasBirth handle.birth ats → length part.path ≤ most
deep-at own most handle part live [] stands deep has = absurd has
deep-at own most handle part live (at ∷ ats) stands deep (inl here) =
    let one : finmap.get own.parts handle.birth ≡ Some stands.0.part = ap (finmap.get own.parts) (sym here) ∙ spot-got own at.handle stands.0.part stands.0.live in
    let two : finmap.get own.parts handle.birth ≡ Some part = spot-got own handle part live in
    let same : stands.0.part ≡ part = cc in
    omega (arith, deep.0, ap length (sym (ap (λ (s : grove.Spot Spot). s.path) same) ∙ stands.0.path))
deep-at own most handle part live (at ∷ ats) stands deep (inr later) = deep-at own most handle part live ats stands.1 deep.1 later

module _ (own : Grove Spot) (top : Handle) (wiring : Option Wiring) (tree : Sim) (stands : StandsFor own top wiring tree) (deep : depth tree ≤ DEEPEST) where
  reach : AllByRecursion (HasAtMost (suc DEEPEST)) (part_places top root wiring)
  reach =
      let all = 1 + depth (part_under (value_of own) top wiring) in
      let less : all ≤ suc DEEPEST = omega (arith, deep, ap depth stands.shows) in
      all-map (HasAtMost all) (HasAtMost (suc DEEPEST)) (more-names all (suc DEEPEST) less) (part_places top root wiring)
      (part-reaches (value_of own) top root wiring (every (value_of own) wiring))

  short-at : (handle : Handle) (held : Option (grove.Spot Spot)) → spot own handle ≡ held → option_map_or (λ (part : grove.Spot Spot). length part.path) held 0 ≤ DEEPEST
  short-at handle None is = omega arith
  short-at handle (Some part) is = deep-at own DEEPEST handle part is (part_places top root wiring) stands.live reach (stands.only handle.birth part (spot-got own handle part is))

  pub are-short : IsShallow own
  are-short handle = short-at handle (spot own handle) refl
