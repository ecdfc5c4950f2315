-- Where handles hold the same, a wiring shows the same.
use Rattle.std.proofs.Common.{◌≡◌, false, List, [], ◌∷◌, ◌++◌, map, Option, Some, None, refl, sym, ap, subst, ◌∙◌}
use Rattle.std.specs.List.{flat_map, AllByRecursion}
use Rattle.dsde_bank.specs.declared.handle.Handle.{Handle}
use Rattle.dsde_values.specs.declared.path.Path.{Path}
use Rattle.dsde_sim_tree.specs.Told.{below, to_boss}
use Rattle.dsde_sim_tree.specs.declared.sim.Kid.{Kid}
use Rattle.dsde_sim_tree.specs.declared.sim.Net.{Net}
use Rattle.dsde_sim_tree.specs.declared.sim.Sim.TheVariants as sim
use Rattle.dsde_sim_tree.specs.Start.{kid_of, net_of}
use Rattle.dsde_core_flat.specs.declared.spot.Spot.{Spot}
use Rattle.dsde_routes_wiring.specs.declared.wiring.Wiring.{Wiring}
use Rattle.dsde_routes_wiring.specs.declared.wiring.WiredKid.{WiredKid}
use Rattle.dsde_routes_wiring.specs.declared.wiring.WiredKid.TheViews.{out-Wiring, out-WiredKid}
use Rattle.dsde_core_flat.specs.Shown.{Look, leaf_in, model_in, args_in, net_under, kid_under, part_under}
use Rattle.dsde_core_flat.specs.Places.{Place, place, net_places, kid_places, part_places}
use Rattle.dsde_core_flat.specs.lemmas.Opened.{kid-shows, net-shows, kid-stands, net-stands, OfKid}
use Rattle.dsde_routes_wiring.specs.Opened.{each_wiring, Beneath}

pub all-left : {A : Type 0} (P : A → Type 0) (xs ys : List A) → AllByRecursion P (xs ++ ys) → AllByRecursion P xs
all-left P [] ys all = tt
all-left P (x ∷ xs) ys all = (all.0, all-left P xs ys all.1)

pub all-right : {A : Type 0} (P : A → Type 0) (xs ys : List A) → AllByRecursion P (xs ++ ys) → AllByRecursion P ys
all-right P [] ys all = all
all-right P (x ∷ xs) ys all = all-right P xs ys all.1

pub all-join : {A : Type 0} (P : A → Type 0) (xs ys : List A) → AllByRecursion P xs → AllByRecursion P ys → AllByRecursion P (xs ++ ys)
all-join P [] ys front back = back
all-join P (x ∷ xs) ys front back = (front.0, all-join P xs ys front.1 back)

-- the same lies under the handle of a place
abbrev pub Agrees : Look → Look → Place → Type 0
Agrees look other at = other at.handle ≡ look at.handle

module _ (look other : Look) where
  abbrev IsSame : Wiring → Type 0
  IsSame net =
      (handle : Handle) (path : Path) → other handle ≡ look handle → AllByRecursion (Agrees look other) (net_places net path) →
      net_under other net handle ≡ net_under look net handle

  same-part : (handle : Handle) (path : Path) (own : Option Wiring) → Beneath IsSame own →
      AllByRecursion (Agrees look other) (part_places handle path own) → part_under other handle own ≡ part_under look handle own
  same-part handle path None known all = ap (λ (held : Option Spot). sim.Leaf (leaf_in held)) all.0
  same-part handle path (Some net) known all = ap sim.Net (known handle path all.0 all.1)

  same-kid : (kid : WiredKid) (path : Path) → OfKid IsSame kid →
      AllByRecursion (Agrees look other) (kid_places kid path) → kid_under other kid ≡ kid_under look kid
  same-kid kid path known all =
      kid-shows other kid
      ∙ ap (kid_of (out-WiredKid kid).name)
      (same-part (out-WiredKid kid).handle (below path (out-WiredKid kid).name) (out-WiredKid kid).below known
      (subst (AllByRecursion (Agrees look other)) (kid-stands kid path) all))
      ∙ sym (kid-shows look kid)

  same-kids : (kids : List WiredKid) (path : Path) → AllByRecursion (OfKid IsSame) kids →
      AllByRecursion (Agrees look other) (flat_map (λ (kid : WiredKid). kid_places kid path) kids) → map (kid_under other) kids ≡ map (kid_under look) kids
  same-kids [] path known all = refl
  same-kids (kid ∷ kids) path known all =
      let first = same-kid kid path known.0 (all-left (Agrees look other) (kid_places kid path) (flat_map (λ (k : WiredKid). kid_places k path) kids) all) in
      let others = same-kids kids path known.1 (all-right (Agrees look other) (kid_places kid path) (flat_map (λ (k : WiredKid). kid_places k path) kids) all) in
      ap (λ (k : Kid). k ∷ map (kid_under other) kids) first ∙ ap (λ (ks : List Kid). kid_under look kid ∷ ks) others

  abbrev from_parts : List Kid → Option Spot → Option Spot → Wiring → Net
  from_parts kids own boss net = net_of (model_in own) (args_in own) (leaf_in boss) kids (out-Wiring net).links

  same-net : (net : Wiring) → IsSame net
  same-net = each_wiring IsSame (λ net known handle path own all.
      let places = subst (AllByRecursion (Agrees look other)) (net-stands net path) all in
      let each = flat_map (λ (kid : WiredKid). kid_places kid path) (out-Wiring net).kids in
      let boss = place (out-Wiring net).boss (to_boss path) false ∷ [] in
      let kids = same-kids (out-Wiring net).kids path known (all-left (Agrees look other) each boss places) in
      let last = all-right (Agrees look other) each boss places in
      net-shows other net handle
      ∙ ap (λ (ks : List Kid). from_parts ks (other handle) (other (out-Wiring net).boss) net) kids
      ∙ ap (λ (held : Option Spot). from_parts (map (kid_under look) (out-Wiring net).kids) held (other (out-Wiring net).boss) net) own
      ∙ ap (λ (held : Option Spot). from_parts (map (kid_under look) (out-Wiring net).kids) (look handle) held net) last.0
      ∙ sym (net-shows look net handle))

  every : (own : Option Wiring) → Beneath IsSame own
  every None = tt
  every (Some net) = same-net net

  -- a part shows the same where the same lies under all its handles
  pub part-keeps : (handle : Handle) (path : Path) (own : Option Wiring) →
      AllByRecursion (Agrees look other) (part_places handle path own) → part_under other handle own ≡ part_under look handle own
  part-keeps handle path own all = same-part handle path own (every own) all

  pub kid-keeps : (kid : WiredKid) (path : Path) →
      AllByRecursion (Agrees look other) (kid_places kid path) → kid_under other kid ≡ kid_under look kid
  kid-keeps kid path all = same-kid kid path (every (out-WiredKid kid).below) all
