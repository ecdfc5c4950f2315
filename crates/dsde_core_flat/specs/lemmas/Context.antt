-- A change at one place changes the tree at that place.
use Rattle.std.proofs.Common.{◌≡◌, Bool, true, false, cond, List, [], ◌∷◌, map, Option, Some, None, refl, sym, ap, ◌∙◌}
use Rattle.std.specs.List.{flat_map, AllByRecursion}
use Rattle.dsde_bank.specs.declared.handle.Handle.{Handle}
use Rattle.dsde_values.specs.declared.name.Name.{Name}
use Rattle.dsde_values.specs.declared.path.Path.{Path}
use Rattle.dsde_sim_tree.specs.given.formalism.leaf_Leaf.{Leaf}
use Rattle.dsde_sim_tree.specs.Told.{below, to_boss}
use Rattle.dsde_routes_wiring.specs.given.structure.Gather.{is_same_name}
use Rattle.dsde_sim_tree.specs.declared.sim.Kid.{Kid}
use Rattle.dsde_sim_tree.specs.declared.sim.Net.{Net}
use Rattle.dsde_sim_tree.specs.declared.sim.Sim.{Sim}
use Rattle.dsde_sim_tree.specs.declared.sim.Sim.TheVariants as sim
use Rattle.dsde_sim_tree.specs.declared.sim.Sim.TheOpen as layer
use Rattle.dsde_sim_tree.specs.declared.sim.Sim.TheOpen.{Sim-F, Kid-F, Net-F}
use Rattle.dsde_sim_tree.specs.declared.sim.Sim.TheViews.{out-Sim, out-Kid, out-Net, out-roll-Sim, out-roll-Kid, out-roll-Net, rolls-Leaf, rolls-Net}
use Rattle.dsde_sim_tree.specs.Start.{kid_of, net_of}
use Rattle.dsde_core_flat.specs.declared.spot.Spot.{Spot}
use Rattle.dsde_routes_wiring.specs.declared.wiring.Wiring.{Wiring}
use Rattle.dsde_routes_wiring.specs.declared.wiring.WiredKid.{WiredKid}
use Rattle.dsde_routes_wiring.specs.declared.wiring.WiredKid.TheOpen.{Wiring-F, WiredKid-F}
use Rattle.dsde_routes_wiring.specs.declared.wiring.WiredKid.TheViews.{out-Wiring, out-WiredKid, roll-Wiring, roll-WiredKid, out-roll-Wiring, out-roll-WiredKid}
use Rattle.dsde_core_flat.specs.Shown.{Look, leaf_in, model_in, args_in, net_under, kid_under, part_under}
use Rattle.dsde_core_flat.specs.Places.{place, kid_places}
use Rattle.dsde_core_flat.specs.lemmas.Opened.{kid-shows, net-shows}
use Rattle.dsde_core_flat.specs.lemmas.Frame.{all-left, all-right, Agrees, kid-keeps}
use Rattle.dsde_core_flat.specs.Change.{kid_changed, with_kids, changed_at, wired_kid, wired_kid_with, wired_with, Standing, found_kid, found, kid_outside, outside}

pub out-Leaf : (leaf : Leaf) → out-Sim (sim.Leaf leaf) ≡ layer.Leaf leaf
out-Leaf leaf = ap out-Sim (sym (rolls-Leaf leaf)) ∙ out-roll-Sim (layer.Leaf leaf)

pub out-Network : (net : Net) → out-Sim (sim.Net net) ≡ layer.Net net
out-Network net = ap out-Sim (sym (rolls-Net net)) ∙ out-roll-Sim (layer.Net net)

-- what `changed_at` makes of what an opened part is
abbrev changed_in : Name → (Sim → Sim) → Sim → Sim-F Sim Kid Net → Sim
changed_in name change own (layer.Leaf leaf) = own
changed_in name change own (layer.Net net) = sim.Net (with_kids (map (kid_changed name change) (out-Net net).kids) net)

part-opens : (name : Name) (names : List Name) (change : Sim → Sim) (own : Sim) (opened : Sim-F Sim Kid Net) → out-Sim own ≡ opened →
    changed_at (name ∷ names) change own ≡ changed_in name (changed_at names change) own opened
part-opens name names change own opened is = ap (changed_in name (changed_at names change) own) is

module _ (look other : Look) (wired : Option Wiring → Option Wiring) (change : Sim → Sim) where
  -- what is found shows the changed part
  abbrev pub Shows : Standing → Type 0
  Shows at = part_under other at.handle (wired at.own) ≡ change (part_under look at.handle at.own)

  abbrev Moves : List Name → Type 0
  Moves names =
      (handle : Handle) (path : Path) (own : Option Wiring) →
      AllByRecursion (Agrees look other) (outside names handle path own) → AllByRecursion Shows (found names handle path own) →
      part_under other handle (wired_with names wired own) ≡ changed_at names change (part_under look handle own)

  -- what a component shows behind a change, whether it has the name or not
  one-kid : (name : Name) (names : List Name) → Moves names → (kid : WiredKid) (path : Path) (b : Bool) →
      AllByRecursion (Agrees look other) (cond b (outside names (out-WiredKid kid).handle (below path (out-WiredKid kid).name) (out-WiredKid kid).below) (kid_places kid path)) →
      AllByRecursion Shows (cond b (found names (out-WiredKid kid).handle (below path (out-WiredKid kid).name) (out-WiredKid kid).below) []) →
      kid_under other (cond b (wired_kid (out-WiredKid kid).name (out-WiredKid kid).handle (wired_with names wired (out-WiredKid kid).below)) kid)
      ≡ cond b (kid_of (out-WiredKid kid).name (changed_at names change (part_under look (out-WiredKid kid).handle (out-WiredKid kid).below))) (kid_under look kid)
  one-kid name names known kid path true agree shows =
      let own : WiredKid-F WiredKid Wiring = record { name = (out-WiredKid kid).name; handle = (out-WiredKid kid).handle; below = wired_with names wired (out-WiredKid kid).below } in
      kid-shows other (roll-WiredKid own)
      ∙ ap (λ (k : WiredKid-F WiredKid Wiring). kid_of k.name (part_under other k.handle k.below)) (out-roll-WiredKid own)
      ∙ ap (kid_of (out-WiredKid kid).name) (known (out-WiredKid kid).handle (below path (out-WiredKid kid).name) (out-WiredKid kid).below agree shows)
  one-kid name names known kid path false agree shows = kid-keeps look other kid path agree

  -- a component that is seen opened
  abbrev seen : Name → List Name → Kid-F Sim Kid Net → Kid → Kid
  seen name names opened own = cond (is_same_name opened.name name) (kid_of opened.name (changed_at names change opened.sim)) own

  kid-moves : (name : Name) (names : List Name) → Moves names → (kid : WiredKid) (path : Path) →
      AllByRecursion (Agrees look other) (kid_outside name (outside names) path kid) →
      AllByRecursion Shows (found_kid name (found names) path kid) →
      kid_under other (wired_kid_with name (wired_with names wired) kid) ≡ kid_changed name (changed_at names change) (kid_under look kid)
  kid-moves name names known kid path agree shows =
      let opened : Kid-F Sim Kid Net = record { name = (out-WiredKid kid).name; sim = part_under look (out-WiredKid kid).handle (out-WiredKid kid).below } in
      one-kid name names known kid path (is_same_name (out-WiredKid kid).name name) agree shows
      ∙ ap (λ (k : Kid-F Sim Kid Net). seen name names k (kid_under look kid)) (sym (ap out-Kid (kid-shows look kid) ∙ out-roll-Kid opened))

  kids-move : (name : Name) (names : List Name) → Moves names → (kids : List WiredKid) (path : Path) →
      AllByRecursion (Agrees look other) (flat_map (kid_outside name (outside names) path) kids) →
      AllByRecursion Shows (flat_map (found_kid name (found names) path) kids) →
      map (kid_under other) (map (wired_kid_with name (wired_with names wired)) kids) ≡ map (kid_changed name (changed_at names change)) (map (kid_under look) kids)
  kids-move name names known [] path agree shows = refl
  kids-move name names known (kid ∷ kids) path agree shows =
      let first = kid-moves name names known kid path
      (all-left (Agrees look other) (kid_outside name (outside names) path kid) (flat_map (kid_outside name (outside names) path) kids) agree)
      (all-left Shows (found_kid name (found names) path kid) (flat_map (found_kid name (found names) path) kids) shows) in
      let others = kids-move name names known kids path
      (all-right (Agrees look other) (kid_outside name (outside names) path kid) (flat_map (kid_outside name (outside names) path) kids) agree)
      (all-right Shows (found_kid name (found names) path kid) (flat_map (found_kid name (found names) path) kids) shows) in
      ap (λ (k : Kid). k ∷ map (kid_under other) (map (wired_kid_with name (wired_with names wired)) kids)) first
      ∙ ap (λ (ks : List Kid). kid_changed name (changed_at names change) (kid_under look kid) ∷ ks) others

  abbrev shown : List Kid → Option Spot → Option Spot → Wiring → Net
  shown kids own boss net = net_of (model_in own) (args_in own) (leaf_in boss) kids (out-Wiring net).links

  -- a network shows the changed part, and all else as it was
  net-moves : (name : Name) (names : List Name) → Moves names → (handle : Handle) (path : Path) (net : Wiring) →
      AllByRecursion (Agrees look other) (outside (name ∷ names) handle path (Some net)) →
      AllByRecursion Shows (found (name ∷ names) handle path (Some net)) →
      part_under other handle (wired_with (name ∷ names) wired (Some net)) ≡ changed_at (name ∷ names) change (part_under look handle (Some net))
  net-moves name names known handle path net agree shows =
      let made : Wiring-F WiredKid Wiring = record (out-Wiring net) { kids = map (wired_kid_with name (wired_with names wired)) (out-Wiring net).kids } in
      let old : Net-F Sim Kid Net = record { model = model_in (look handle); args = args_in (look handle); boss = leaf_in (look (out-Wiring net).boss); kids = map (kid_under look) (out-Wiring net).kids; links = (out-Wiring net).links } in
      let each = flat_map (kid_outside name (outside names) path) (out-Wiring net).kids in
      let last = place (out-Wiring net).boss (to_boss path) false ∷ [] in
      let kids = kids-move name names known (out-Wiring net).kids path (all-left (Agrees look other) each last agree.1) shows in
      let boss = all-right (Agrees look other) each last agree.1 in
      ap sim.Net (
      net-shows other (roll-Wiring made) handle
      ∙ ap (λ (w : Wiring-F WiredKid Wiring). net_of (model_in (other handle)) (args_in (other handle)) (leaf_in (other w.boss)) (map (kid_under other) w.kids) w.links) (out-roll-Wiring made)
      ∙ ap (λ (ks : List Kid). shown ks (other handle) (other (out-Wiring net).boss) net) kids
      ∙ ap (λ (held : Option Spot). shown (map (kid_changed name (changed_at names change)) (map (kid_under look) (out-Wiring net).kids)) held (other (out-Wiring net).boss) net) agree.0
      ∙ ap (λ (held : Option Spot). shown (map (kid_changed name (changed_at names change)) (map (kid_under look) (out-Wiring net).kids)) (look handle) held net) boss.0
      ∙ ap (λ (n : Net-F Sim Kid Net). net_of n.model n.args n.boss (map (kid_changed name (changed_at names change)) n.kids) n.links) (sym (ap out-Net (net-shows look net handle) ∙ out-roll-Net old)))
      ∙ sym (part-opens name names change (sim.Net (net_under look net handle)) (layer.Net (net_under look net handle)) (out-Network (net_under look net handle)))

  -- Where all other parts keep what they hold, and those that are found show the changed part, the tree is changed there.
  pub part-changes : (names : List Name) → Moves names
  part-changes [] handle path own agree shows = shows.0
  part-changes (name ∷ names) handle path None agree shows =
      ap (λ (held : Option Spot). sim.Leaf (leaf_in held)) agree.0
      ∙ sym (part-opens name names change (sim.Leaf (leaf_in (look handle))) (layer.Leaf (leaf_in (look handle))) (out-Leaf (leaf_in (look handle))))
  part-changes (name ∷ names) handle path (Some net) agree shows = net-moves name names (part-changes names) handle path net agree shows
