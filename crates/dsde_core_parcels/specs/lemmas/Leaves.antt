-- The paths of the components and the executives of the tree that handles show are those of their places.
use Rattle.std.proofs.Common.{◌≡◌, not, Bool, true, false, cond, List, [], ◌∷◌, ◌++◌, map, filter, Option, Some, None, refl, sym, ap, ◌∙◌, inl, inr}
use Rattle.std.specs.List.{AllByRecursion, flat_map}
use Rattle.std.proofs.lemmas.List.{map-append}
use Rattle.std.proofs.lemmas.List.Elements.{filter-append}
use Rattle.dsde_bank.specs.declared.handle.Handle.{Handle}
use Rattle.dsde_values.specs.declared.path.Path.{Path}
use Rattle.dsde_sim_tree.specs.Told.{below, to_boss}
use Rattle.dsde_sim_tree.specs.declared.sim.Kid.{Kid}
use Rattle.dsde_sim_tree.specs.declared.sim.Sim.{Sim}
use Rattle.dsde_sim_tree.specs.declared.sim.Sim.TheVariants as sim
use Rattle.dsde_sim_tree.specs.declared.sim.Sim.TheOpen.{Net-F}
use Rattle.dsde_sim_tree.specs.declared.sim.Net.{Net}
use Rattle.dsde_sim_tree.specs.declared.sim.Sim.TheViews.{out-Net, out-roll-Net}
use Rattle.dsde_routes_pushing.specs.given.sim_movers.Places.{leaves_from, leaves_of_kid}
use Rattle.dsde_routes_pushing.specs.given.sim_movers.lemmas_Opens.{leaves-Leaf, leaves-Net, leaves-kid}
use Rattle.dsde_routes_wiring.specs.declared.wiring.Wiring.{Wiring}
use Rattle.dsde_routes_wiring.specs.declared.wiring.WiredKid.{WiredKid}
use Rattle.dsde_routes_wiring.specs.declared.wiring.WiredKid.TheViews.{out-Wiring, out-WiredKid}
use Rattle.dsde_routes_wiring.specs.Opened.{Beneath, each_wiring}
use Rattle.dsde_routes_pushing.specs.lemmas.Lists.{Among}
use Rattle.dsde_core_moves.specs.given.core_flat.Places.{Place, place, kid_places, net_places, part_places}
use Rattle.dsde_core_moves.specs.given.core_flat.Shown.{Look, args_in, kid_under, leaf_in, model_in, net_under, part_under}
use Rattle.dsde_core_moves.specs.given.core_flat.lemmas_Apart.{name-shown, sim-shown}
use Rattle.dsde_core_moves.specs.given.core_flat.lemmas_Opened.{kid-stands, net-shows, net-stands, OfKid}

-- a place of a component or an executive
abbrev is_seat : Place → Bool
is_seat at = not at.is_net

-- the paths of those places
abbrev pub paths_at : List Place → List Path
paths_at ats = map (λ (at : Place). at.path) (filter is_seat ats)

paths-append : (xs ys : List Place) → paths_at (xs ++ ys) ≡ paths_at xs ++ paths_at ys
paths-append xs ys = ap (map (λ (at : Place). at.path)) (filter-append is_seat xs ys) ∙ map-append (λ (at : Place). at.path) (filter is_seat xs) (filter is_seat ys)

-- a place with one of these paths
pub record HasPlace (path : Path) (ats : List Place) : Type 0 where
  pub at : Place
  pub among : Among at ats
  pub kind : at.is_net ≡ false
  pub is : at.path ≡ path

not-net : (b : Bool) → not b ≡ true → b ≡ false
not-net true is = absurd (let wrong : false ≡ true = is in cc)
not-net false is = refl

pub place-with : (path : Path) (ats : List Place) → Among path (paths_at ats) → HasPlace path ats
place-with path [] there = absurd there
place-with path (first ∷ ats) there = by (is_seat first) refl there (place-with path ats)
  where
    further : HasPlace path ats → HasPlace path (first ∷ ats)
    further found = record { at = found.at; among = inr found.among; kind = found.kind; is = found.is }

    by : (b : Bool) → is_seat first ≡ b → Among path (map (λ (at : Place). at.path) (cond b (first ∷ filter is_seat ats) (filter is_seat ats))) → (Among path (paths_at ats) → HasPlace path ats) → HasPlace path (first ∷ ats)
    by true is (inl same) later = record { at = first; among = inl refl; kind = not-net first.is_net is; is = sym same }
    by true is (inr among) later = further (later among)
    by false is among later = further (later among)

module _ (look : Look) where
  abbrev AreLeaves : Wiring → Type 0
  AreLeaves net = (handle : Handle) (path : Path) → leaves_from (sim.Net (net_under look net handle)) path ≡ paths_at (net_places net path)

  part-leaves : (handle : Handle) (path : Path) (own : Option Wiring) → Beneath AreLeaves own → leaves_from (part_under look handle own) path ≡ paths_at (part_places handle path own)
  part-leaves handle path None known = leaves-Leaf (leaf_in (look handle)) path
  part-leaves handle path (Some net) known = known handle path

  kid-leaves : (kid : WiredKid) (path : Path) → OfKid AreLeaves kid → leaves_of_kid (kid_under look kid) path ≡ paths_at (kid_places kid path)
  kid-leaves kid path known =
      leaves-kid (kid_under look kid) path
      ∙ (λ i. leaves_from (sim-shown look kid i) (below path (name-shown look kid i)))
      ∙ part-leaves (out-WiredKid kid).handle (below path (out-WiredKid kid).name) (out-WiredKid kid).below known
      ∙ sym (ap paths_at (kid-stands kid path))

  kids-leaves : (kids : List WiredKid) (path : Path) → AllByRecursion (OfKid AreLeaves) kids →
      flat_map (λ (kid : Kid). leaves_of_kid kid path) (map (kid_under look) kids) ≡ paths_at (flat_map (λ (kid : WiredKid). kid_places kid path) kids)
  kids-leaves [] path known = refl
  kids-leaves (kid ∷ kids) path known =
      (λ i. kid-leaves kid path known.0 i ++ kids-leaves kids path known.1 i)
      ∙ sym (paths-append (kid_places kid path) (flat_map (λ (own : WiredKid). kid_places own path) kids))

  net-leaves : (net : Wiring) → AllByRecursion (OfKid AreLeaves) (out-Wiring net).kids → AreLeaves net
  net-leaves net known handle path =
      let inside = out-Wiring net in
      let made : Net-F Sim Kid Net = record { model = model_in (look handle); args = args_in (look handle); boss = leaf_in (look inside.boss); kids = map (kid_under look) inside.kids; links = inside.links } in
      let opens : out-Net (net_under look net handle) ≡ made = ap out-Net (net-shows look net handle) ∙ out-roll-Net made in
      let last = place inside.boss (to_boss path) false in
      leaves-Net (net_under look net handle) path
      ∙ ap (λ (own : Net-F Sim Kid Net). flat_map (λ (kid : Kid). leaves_of_kid kid path) own.kids ++ to_boss path ∷ []) opens
      ∙ ap (λ (paths : List Path). paths ++ to_boss path ∷ []) (kids-leaves inside.kids path known)
      ∙ sym (paths-append (flat_map (λ (kid : WiredKid). kid_places kid path) inside.kids) (last ∷ []))
      ∙ sym (ap paths_at (net-stands net path))

  every : (own : Option Wiring) → Beneath AreLeaves own
  every None = tt
  every (Some net) = each_wiring AreLeaves net-leaves net

  pub tree-leaves : (handle : Handle) (path : Path) (own : Option Wiring) → leaves_from (part_under look handle own) path ≡ paths_at (part_places handle path own)
  tree-leaves handle path own = part-leaves handle path own (every own)
