-- How many parts there are.
use Rattle.std.proofs.Common.{◌≡◌, ◌≢◌, inl, inr, ℕ, ◌+◌, false, cond, List, [], ◌∷◌, length, map, Option, Some, None, is_some, refl, sym, ap, ◌∙◌, length-append, arith}
use Rattle.std.specs.Ordering.{nat_cmp}
use Rattle.std.specs.List.{flat_map, AllByRecursion}
use Rattle.std.specs.FinMap as map
use Rattle.std.specs.FinMap.{len-insert, same_map, nat_cmp-IsAntisymmetric}
use Rattle.std.specs.Cmp.{nat_cmp_total}
use Rattle.dsde_bank.specs.declared.handle.Handle.{Handle}
use Rattle.dsde_values.specs.declared.name.Name.{Name}
use Rattle.dsde_values.specs.declared.path.Path.{Path}
use Rattle.dsde_sim_tree.specs.Told.{below, to_boss}
use Rattle.dsde_sim_tree.specs.declared.sim.Kid.{Kid}
use Rattle.dsde_sim_tree.specs.declared.sim.Net.{Net}
use Rattle.dsde_sim_tree.specs.declared.sim.Sim.{Sim}
use Rattle.dsde_sim_tree.specs.declared.sim.Sim.TheVariants as sim
use Rattle.dsde_sim_tree.specs.declared.sim.Sim.TheOpen as layer
use Rattle.dsde_sim_tree.specs.declared.sim.Sim.TheOpen.{Net-F, Kid-F}
use Rattle.dsde_sim_tree.specs.declared.sim.Sim.TheFolds.{fold-roll-Sim, fold-roll-Kid, fold-roll-Net}
use Rattle.dsde_sim_tree.specs.declared.sim.Sim.TheViews.{rolls-Leaf, rolls-Net}
use Rattle.dsde_sim_tree.specs.Start.{kid_of}
use Rattle.dsde_sim_tree.specs.Tree.{parts, parts_of_kid, parts_of_net, parts_of_kids, parts_step, kid_parts, net_parts}
use Rattle.dsde_routes_wiring.specs.declared.wiring.Wiring.{Wiring}
use Rattle.dsde_routes_wiring.specs.declared.wiring.WiredKid.{WiredKid}
use Rattle.dsde_routes_wiring.specs.declared.wiring.WiredKid.TheViews.{out-Wiring, out-WiredKid}
use Rattle.dsde_core_flat.specs.Shown.{Look, leaf_in, model_in, args_in, net_under, kid_under, part_under}
use Rattle.dsde_core_flat.specs.Places.{Place, place, net_places, kid_places, part_places}
use Rattle.dsde_core_flat.specs.lemmas.Opened.{kid-shows, net-shows, kid-stands, net-stands, OfKid}
use Rattle.dsde_routes_wiring.specs.Opened.{each_wiring, Beneath}
use Rattle.dsde_core_flat.specs.lemmas.Groves.{same-or-not, get-there, get-other}
use Rattle.dsde_core_flat.specs.lemmas.Grafting.{parts-cons}

-- as many places as parts
module _ (look : Look) where
  pub parts-kid : (name : Name) (own : Sim) → parts_of_kid (kid_of name own) ≡ parts own
  parts-kid name own = fold-roll-Kid ℕ ℕ ℕ parts_step kid_parts net_parts (record { name = name; sim = own })

  abbrev AsMany : Wiring → Type 0
  AsMany net = (handle : Handle) (path : Path) → length (net_places net path) + 1 ≡ parts_of_net (net_under look net handle)

  part-count : (handle : Handle) (path : Path) (own : Option Wiring) → Beneath AsMany own → length (part_places handle path own) ≡ parts (part_under look handle own)
  part-count handle path None known = sym (ap parts (sym (rolls-Leaf (leaf_in (look handle)))) ∙ fold-roll-Sim ℕ ℕ ℕ parts_step kid_parts net_parts (layer.Leaf (leaf_in (look handle))))
  part-count handle path (Some net) known =
      let is : parts (sim.Net (net_under look net handle)) ≡ parts_of_net (net_under look net handle) =
      ap parts (sym (rolls-Net (net_under look net handle))) ∙ fold-roll-Sim ℕ ℕ ℕ parts_step kid_parts net_parts (layer.Net (net_under look net handle)) in
      omega (arith, known handle path, is)

  kid-count : (kid : WiredKid) (path : Path) → OfKid AsMany kid → length (kid_places kid path) ≡ parts_of_kid (kid_under look kid)
  kid-count kid path known =
      ap length (kid-stands kid path)
      ∙ part-count (out-WiredKid kid).handle (below path (out-WiredKid kid).name) (out-WiredKid kid).below known
      ∙ sym (ap parts_of_kid (kid-shows look kid) ∙ parts-kid (out-WiredKid kid).name (part_under look (out-WiredKid kid).handle (out-WiredKid kid).below))

  kids-count : (kids : List WiredKid) (path : Path) → AllByRecursion (OfKid AsMany) kids → length (flat_map (λ (kid : WiredKid). kid_places kid path) kids) ≡ parts_of_kids (map (kid_under look) kids)
  kids-count [] path known = refl
  kids-count (kid ∷ kids) path known =
      omega (arith, kid-count kid path known.0, kids-count kids path known.1, length-append (kid_places kid path) (flat_map (λ (k : WiredKid). kid_places k path) kids), parts-cons (kid_under look kid) (map (kid_under look) kids))

  net-count : (net : Wiring) → AsMany net
  net-count = each_wiring AsMany (λ net known handle path.
      let own : Net-F Sim Kid Net = record { model = model_in (look handle); args = args_in (look handle); boss = leaf_in (look (out-Wiring net).boss); kids = map (kid_under look) (out-Wiring net).kids; links = (out-Wiring net).links } in
      let is : parts_of_net (net_under look net handle) ≡ 2 + parts_of_kids (map (kid_under look) (out-Wiring net).kids) =
      ap parts_of_net (net-shows look net handle) ∙ fold-roll-Net ℕ ℕ ℕ parts_step kid_parts net_parts own in
      let at = flat_map (λ (kid : WiredKid). kid_places kid path) (out-Wiring net).kids in
      let last = place (out-Wiring net).boss (to_boss path) false ∷ [] in
      omega (arith, is, ap length (net-stands net path), length-append at last, kids-count (out-Wiring net).kids path known))

  every : (own : Option Wiring) → Beneath AsMany own
  every None = tt
  every (Some net) = net-count net

  pub places-count : (handle : Handle) (path : Path) (own : Option Wiring) → length (part_places handle path own) ≡ parts (part_under look handle own)
  places-count handle path own = part-count handle path own (every own)

-- births, each once
abbrev pub births : List Place → List ℕ
births ats = map (λ (at : Place). at.handle.birth) ats

abbrev pub NoTwice : List ℕ → Type 0
NoTwice [] = Unit {0}
NoTwice (birth ∷ others) = AllByRecursion (λ (other : ℕ). birth ≢ other) others × NoTwice others

-- Where parts leave a map whose keys these are, each once, it gets smaller by their number.
module _ (X : Type 0) where
  abbrev M : Type 0
  M = map.FinMap nat_cmp X

  abbrev pub IsHeld : M → ℕ → Type 0
  IsHeld m key = (v : X) × (map.get m key ≡ Some v)

  abbrev pub IsLost : M → ℕ → Type 0
  IsLost m key = map.get m key ≡ None

  still-lost : (new : M) (key : ℕ) (v : X) (keys : List ℕ) → AllByRecursion (λ (other : ℕ). key ≢ other) keys → AllByRecursion (IsLost new) keys → AllByRecursion (IsLost (map.insert new key v)) keys
  still-lost new key v [] apart lost = tt
  still-lost new key v (other ∷ keys) apart lost = (get-other new key other v (λ same. apart.0 (sym same)) ∙ lost.0, still-lost new key v keys apart.1 lost.1)

  pub fewer : (keys : List ℕ) (old new : M) → NoTwice keys → AllByRecursion (IsHeld old) keys → AllByRecursion (IsLost new) keys →
      ((key : ℕ) → AllByRecursion (λ (other : ℕ). other ≢ key) keys → map.get new key ≡ map.get old key) → map.len new + length keys ≡ map.len old
  fewer [] old new once held lost kept =
      let is : new ≡ old = same_map nat_cmp_total nat_cmp-IsAntisymmetric new old (λ key. kept key tt) in
      omega (arith, ap (λ (m : M). map.len m) is)
  fewer (key ∷ keys) old new once held lost kept =
      let v : X = held.0.0 in
      let mid : M = map.insert new key v in
      let rest : map.len mid + length keys ≡ map.len old =
      fewer keys old mid once.1 held.1 (still-lost new key v keys once.0 lost.1)
      (λ other out. elim (same-or-not other key) [
        | inl same ↦ ap (map.get mid) same ∙ get-there new key v ∙ sym (ap (map.get old) same ∙ held.0.1)
        | inr apart ↦ get-other new key other v apart ∙ kept other ((λ here. apart (sym here)), out)
      ]) in
      let more : map.len mid ≡ map.len new + 1 = len-insert nat_cmp_total new key v ∙ ap (λ (o : Option X). cond (is_some o) (map.len new) (map.len new + 1)) lost.0 in
      omega (arith, rest, more)
