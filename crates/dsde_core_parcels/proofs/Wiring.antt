-- The wiring of a flat state is that of its tree, under the handles of its places.
use Rattle.std.proofs.Common.{◌≡◌, ◌≢◌, Bool, true, false, cond, List, [], ◌∷◌, map, Option, Some, None, is_eq, refl, sym, ap, subst, ◌∙◌}
use Rattle.std.specs.List.{AllByRecursion, flat_map}
use Rattle.std.proofs.lemmas.Cmp.{tied_itself}
use Rattle.dsde_bank.specs.declared.handle.Handle.{Handle}
use Rattle.dsde_values.specs.declared.name.Name.{Name}
use Rattle.dsde_values.specs.declared.path.Path.{Path}
use Rattle.dsde_sim_tree.specs.Told.{below, to_boss}
use Rattle.dsde_sim_tree.specs.declared.sim.Kid.{Kid}
use Rattle.dsde_sim_tree.specs.declared.sim.Net.{Net}
use Rattle.dsde_sim_tree.specs.declared.sim.Sim.{Sim}
use Rattle.dsde_sim_tree.specs.declared.sim.Sim.TheOpen.{Net-F}
use Rattle.dsde_sim_tree.specs.declared.sim.Sim.TheViews.{out-Kid, out-Net, out-roll-Net}
use Rattle.dsde_routes_pushing.specs.given.sim_movers.Deliveries.{is_same_path}
use Rattle.dsde_routes_wiring.specs.declared.wiring.Wiring.{Wiring}
use Rattle.dsde_routes_wiring.specs.declared.wiring.WiredKid.{WiredKid}
use Rattle.dsde_routes_wiring.specs.declared.wiring.WiredKid.TheViews.{out-Wiring, out-WiredKid, roll-Wiring, roll-WiredKid, roll-out-Wiring, roll-out-WiredKid}
use Rattle.dsde_routes_wiring.specs.Opened.{Beneath, each_wiring}
use Rattle.dsde_routes_pushing.specs.Wire.{WiredAt, wired, wired_kid, wired_net}
use Rattle.dsde_routes_pushing.specs.lemmas.Wires.{wired-Leaf, wired-Net, wired_kid-opens, wired_net-opens}
use Rattle.dsde_core_moves.specs.given.core_flat.Handles.{AreThemselves, IsItself, KidsAreThemselves, kid_called}
use Rattle.dsde_core_moves.specs.given.core_flat.Places.{Place, place, kid_places, net_places, part_places}
use Rattle.dsde_core_moves.specs.given.core_flat.Shown.{Look, args_in, kid_under, leaf_in, model_in, net_under, part_under}
use Rattle.dsde_core_moves.specs.given.core_flat.lemmas_Apart.{PathsApart, name-shown, sim-shown}
use Rattle.dsde_core_moves.specs.given.core_flat.lemmas_Called.{kid-calls, net-itself}
use Rattle.dsde_core_moves.specs.given.core_flat.lemmas_Frame.{all-left, all-right}
use Rattle.dsde_core_moves.specs.given.core_flat.lemmas_Names.{path-exact, paths-total}
use Rattle.dsde_core_moves.specs.given.core_flat.lemmas_Opened.{OfKid, kid-stands, net-shows, net-stands}
use Rattle.dsde_core_parcels.specs.Traffic.{handle_at}

-- the handle of a place is that of its path
abbrev pub IsTold : (Path → Handle) → Place → Type 0
IsTold handle at = handle at.path ≡ at.handle

path-itself : (path : Path) → is_same_path path path ≡ true
path-itself path = ap is_eq (tied_itself paths-total path)

told-behind : (first : Place) (ats others : List Place) → AllByRecursion (λ (other : Place). first.path.names ≢ other.path.names) others → AllByRecursion (IsTold (handle_at ats)) others → AllByRecursion (IsTold (handle_at (first ∷ ats))) others
told-behind first ats [] apart told = tt
told-behind first ats (at ∷ others) apart told = (by (is_same_path first.path at.path) refl, told-behind first ats others apart.1 told.1)
  where
    by : (b : Bool) → is_same_path first.path at.path ≡ b → cond b first.handle (handle_at ats at.path) ≡ at.handle
    by false is = told.0
    by true is = absurd (apart.0 (ap (λ (path : Path). path.names) (path-exact first.path at.path is)))

-- places with paths of their own are told by them
pub all-told : (ats : List Place) → PathsApart ats → AllByRecursion (IsTold (handle_at ats)) ats
all-told [] apart = tt
all-told (at ∷ ats) apart =
    (ap (λ (b : Bool). cond b at.handle (handle_at ats at.path)) (path-itself at.path), told-behind at ats ats apart.0 (all-told ats apart.1))

module _ (look : Look) (handle : Path → Handle) where
  abbrev Claim : Wiring → Type 0
  Claim net = (at : Handle) (path : Path) → handle path ≡ at → AreThemselves at (Some net) → AllByRecursion (IsTold handle) (net_places net path) → wired_net handle (net_under look net at) path ≡ net

  part-wired : (at : Handle) (path : Path) (own : Option Wiring) → Beneath Claim own → handle path ≡ at → AreThemselves at own → AllByRecursion (IsTold handle) (part_places at path own) → wired handle (part_under look at own) path ≡ own
  part-wired at path None claim is itself told = wired-Leaf handle (leaf_in (look at)) path
  part-wired at path (Some net) claim is itself told = wired-Net handle (net_under look net at) path ∙ ap (λ (own : Wiring). Some own) (claim at path is itself told.1)

  -- the first place of a part is its own
  part-told : (at : Handle) (path : Path) (own : Option Wiring) → AllByRecursion (IsTold handle) (part_places at path own) → handle path ≡ at
  part-told at path None told = told.0
  part-told at path (Some net) told = told.0

  kid-wired : (kid : WiredKid) (path : Path) → OfKid Claim kid → AllByRecursion IsItself (kid_called kid) → AllByRecursion (IsTold handle) (kid_places kid path) → wired_kid handle (kid_under look kid) path ≡ kid
  kid-wired kid path claim itself told =
      let opened = out-WiredKid kid in
      let shown = kid_under look kid in
      let at = below path opened.name in
      let all = subst (AllByRecursion (IsTold handle)) (kid-stands kid path) told in
      let own = subst (AllByRecursion IsItself) (kid-calls kid) itself in
      let here : handle at ≡ opened.handle = part-told opened.handle at opened.below all in
      let inner : wired handle (part_under look opened.handle opened.below) at ≡ opened.below = part-wired opened.handle at opened.below claim here own all in
      let name = name-shown look kid in
      let sim : wired handle (out-Kid shown).sim (below path (out-Kid shown).name) ≡ opened.below = (λ i. wired handle (sim-shown look kid i) (below path (name i))) ∙ inner in
      let is : out-WiredKid (wired_kid handle shown path) ≡ opened =
      wired_kid-opens handle shown path
      ∙ (λ i. record { name = name i; handle = (ap (λ (n : Name). handle (below path n)) name ∙ here) i; below = sim i }) in
      sym (roll-out-WiredKid (wired_kid handle shown path)) ∙ ap roll-WiredKid is ∙ roll-out-WiredKid kid

  kids-wired : (kids : List WiredKid) (path : Path) → AllByRecursion (OfKid Claim) kids → KidsAreThemselves kids → AllByRecursion (IsTold handle) (flat_map (λ (kid : WiredKid). kid_places kid path) kids) →
      map (λ (kid : WiredAt). kid path) (map (wired_kid handle) (map (kid_under look) kids)) ≡ kids
  kids-wired [] path claims itself told = refl
  kids-wired (kid ∷ kids) path claims itself told =
      let others = flat_map (λ (kid : WiredKid). kid_places kid path) kids in
      λ i. kid-wired kid path claims.0 (all-left IsItself (kid_called kid) (flat_map kid_called kids) itself) (all-left (IsTold handle) (kid_places kid path) others told) i
      ∷ kids-wired kids path claims.1 (all-right IsItself (kid_called kid) (flat_map kid_called kids) itself) (all-right (IsTold handle) (kid_places kid path) others told) i

  net-wired : (net : Wiring) → AllByRecursion (OfKid Claim) (out-Wiring net).kids → Claim net
  net-wired net claims at path here itself told =
      let opened = out-Wiring net in
      let shown = net_under look net at in
      let made : Net-F Sim Kid Net = record { model = model_in (look at); args = args_in (look at); boss = leaf_in (look opened.boss); kids = map (kid_under look) opened.kids; links = opened.links } in
      let opens : out-Net shown ≡ made = ap out-Net (net-shows look net at) ∙ out-roll-Net made in
      let own = net-itself net at itself in
      let places = flat_map (λ (kid : WiredKid). kid_places kid path) opened.kids in
      let last = place opened.boss (to_boss path) false in
      let all = subst (AllByRecursion (IsTold handle)) (net-stands net path) told in
      let kids = kids-wired opened.kids path claims own.1 (all-left (IsTold handle) places (last ∷ []) all) in
      let boss : handle (to_boss path) ≡ opened.boss = (all-right (IsTold handle) places (last ∷ []) all).0 in
      let is : out-Wiring (wired_net handle shown path) ≡ opened =
      wired_net-opens handle shown path
      ∙ (λ i. record { me = (here ∙ own.0) i; boss = boss i; links = (opens i).links; kids = (ap (λ (own : Net-F Sim Kid Net). map (λ (kid : WiredAt). kid path) (map (wired_kid handle) own.kids)) opens ∙ kids) i }) in
      sym (roll-out-Wiring (wired_net handle shown path)) ∙ ap roll-Wiring is ∙ roll-out-Wiring net

  pub wiring-is : (net : Wiring) → Claim net
  wiring-is = each_wiring Claim net-wired
