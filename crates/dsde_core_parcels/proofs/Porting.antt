-- The links of a flat state's wiring lead to ports that there are.
use Rattle.std.proofs.Common.{◌≡◌, ℕ, zero, suc, ◌<◌, true, false, List, [], ◌∷◌, length, map, Option, Some, None, slice_get, refl, sym, ap, subst, ◌∙◌, arith}
use Rattle.std.specs.Option.{option_map}
use Rattle.std.specs.List.{AllByRecursion, flat_map}
use Rattle.dsde_bank.specs.declared.handle.Handle.{Handle}
use Rattle.dsde_syntax.specs.declared.decl.Model.{Model}
use Rattle.dsde_values.specs.declared.name.Name.{Name}
use Rattle.dsde_values.specs.declared.path.Path.{Path}
use Rattle.dsde_values.specs.declared.types.Field.{Field}
use Rattle.dsde_values.specs.declared.value.Value.{Value}
use Rattle.dsde_language.specs.declared.ids.ModelId.{ModelId}
use Rattle.dsde_language.specs.DeclaredModels.{Own, owns_of}
use Rattle.dsde_routes_wiring.specs.given.structure.plan_Entry.{Entry}
use Rattle.dsde_routes_wiring.specs.given.structure.plan_Link.{Link}
use Rattle.dsde_routes_wiring.specs.given.structure.plan_Part.{Part}
use Rattle.dsde_routes_wiring.specs.given.structure.plan_Part_TheVariants as part
use Rattle.dsde_routes_wiring.specs.given.structure.Survival.{IsInOrder}
use Rattle.dsde_sim_tree.specs.given.formalism.leaf_Leaf.{Leaf}
use Rattle.dsde_sim_tree.specs.given.formalism.System.{System}
use Rattle.dsde_sim_tree.specs.given.formalism.Leaf.{component_of}
use Rattle.dsde_core_moves.specs.given.system.Program.{system, network_at}
use Rattle.dsde_core_moves.specs.given.system.Plans.{ArePortsOf, FitsLink, HasKid, ways, body_ways}
use Rattle.dsde_sim_tree.specs.Told.{below, to_boss}
use Rattle.dsde_core_moves.specs.given.grove.Grove.{Grove, value_of}
use Rattle.dsde_sim_tree.specs.declared.sim.Kid.{Kid}
use Rattle.dsde_sim_tree.specs.declared.sim.Net.{Net}
use Rattle.dsde_sim_tree.specs.declared.sim.Sim.{Sim}
use Rattle.dsde_sim_tree.specs.declared.sim.Sim.TheVariants as sim
use Rattle.dsde_sim_tree.specs.declared.sim.Sim.TheOpen as layer
use Rattle.dsde_sim_tree.specs.declared.sim.Sim.TheOpen.{Net-F, Sim-F}
use Rattle.dsde_sim_tree.specs.declared.sim.Sim.TheViews.{out-Kid, out-Net, out-roll-Net, out-roll-Sim, rolls-Leaf, rolls-Net}
use Rattle.dsde_sim_tree.specs.Move.{ins_of}
use Rattle.dsde_sim_tree.specs.Spots.{shape_of}
use Rattle.dsde_sim_tree.specs.Tree.{entry_of}
use Rattle.dsde_core_moves.specs.given.sim_starting.Fitting.{FitsKid, FitsNet, FitsShape, FitsTree}
use Rattle.dsde_core_moves.specs.given.sim_starting.lemmas_Fits.{kid-tree, net-kids, net-shape, net-tree}
use Rattle.dsde_core_moves.specs.given.sim_starting.lemmas_Stood.{component-ins, stood}
use Rattle.dsde_routes_wiring.specs.declared.wiring.Wiring.{Wiring}
use Rattle.dsde_routes_wiring.specs.declared.wiring.WiredKid.{WiredKid}
use Rattle.dsde_routes_wiring.specs.declared.wiring.WiredKid.TheViews.{out-Wiring, out-WiredKid}
use Rattle.dsde_routes_wiring.specs.Opened.{Beneath, each_wiring, shapes-opens, shapes_kid-opens}
use Rattle.dsde_routes_wiring.specs.Wired as shape
use Rattle.dsde_routes_wiring.specs.Wired.{KidShapes, Shape, Wired, shapes, shapes_of_kid}
use Rattle.dsde_routes_pushing.specs.Carried.{Traffic}
use Rattle.dsde_routes_pushing.specs.Fitting.{HasPorts, HavePorts, LeadWithin}
use Rattle.dsde_routes_pushing.specs.lemmas.Lists.{Among, all-from, contains-from}
use Rattle.dsde_core_moves.specs.given.core_flat.spot_Spot.{Spot}
use Rattle.dsde_core_moves.specs.given.core_flat.Handles.{AreThemselves, IsItself, KidsAreThemselves, kid_called}
use Rattle.dsde_core_moves.specs.given.core_flat.Places.{place, kid_places, part_places}
use Rattle.dsde_core_moves.specs.given.core_flat.Shown.{args_in, kid_under, leaf_in, model_in, net_under, part_under}
use Rattle.dsde_core_moves.specs.given.core_flat.Stands.{StandsAt}
use Rattle.dsde_core_moves.specs.given.core_flat.lemmas_Apart.{name-shown, sim-shown}
use Rattle.dsde_core_moves.specs.given.core_flat.lemmas_Called.{kid-calls, net-itself}
use Rattle.dsde_core_moves.specs.given.core_flat.lemmas_Frame.{all-join, all-left, all-right}
use Rattle.dsde_core_moves.specs.given.core_flat.lemmas_Opened.{OfKid, kid-stands, net-shows, net-stands}
use Rattle.dsde_core_parcels.specs.Traffic.{ins_in, outs_in}
use Rattle.dsde_core_parcels.specs.lemmas.TrafficHeld.{leaf-held, net-held}
use Rattle.dsde_core_parcels.proofs.Flowing.{among-shown}
use Rattle.dsde_core_parcels.proofs.Going.{leads-to}

found-below : {T : Type 0} (xs : List T) (index : ℕ) (x : T) → slice_get xs index ≡ Some x → index < length xs
found-below [] index x found = absurd (cc found)
found-below (y ∷ xs) zero x found = omega arith
found-below (y ∷ xs) (suc index) x found = let later = found-below xs index x found in omega (arith, later)

-- how many out ports a network has
network-outs : (model : Model) (number : ModelId) (args : List Value) (own : Own) → slice_get (owns_of model.decls) number.0 ≡ Some own → ((system model).network number args).outs ≡ length (ways model own true)
unfolding system
network-outs model number args own found = ap (λ (one : Option Own). (network_at model one number.0 args).outs) found

-- how many in ports a part has
abbrev ins_shown : System → Sim-F Sim Kid Net → ℕ
ins_shown system own = elim own [
  | layer.Leaf leaf ↦ (component_of system leaf).ins
  | layer.Net net ↦ (system.network (out-Net net).model (out-Net net).args).ins
]

ins-leaf : (system : System) (leaf : Leaf) → ins_of system (sim.Leaf leaf) ≡ (component_of system leaf).ins
ins-leaf system leaf = ap (ins_of system) (sym (rolls-Leaf leaf)) ∙ ap (ins_shown system) (out-roll-Sim (layer.Leaf leaf))

ins-net : (system : System) (net : Net) → ins_of system (sim.Net net) ≡ (system.network (out-Net net).model (out-Net net).args).ins
ins-net system net = ap (ins_of system) (sym (rolls-Net net)) ∙ ap (ins_shown system) (out-roll-Sim (layer.Net net))

module _ (model : Model) (own : Grove Spot) (traffic : Traffic)
    (ins-are : (handle : Handle) → traffic.ins handle ≡ ins_in (system model) (value_of own handle)) (outs-are : (handle : Handle) → traffic.outs handle ≡ outs_in (system model) (value_of own handle)) where
  module _ (whole : Own) (entries : List Entry) (order : IsInOrder entries) (to : Part) (ports : List Field) (are : ArePortsOf model whole entries false to ports) where
    -- links to a part lead to its ports
    lead-within : (links : List Link) → AllByRecursion (FitsLink model whole entries) links → LeadWithin (length ports) to links
    lead-within [] fits = tt
    lead-within (link ∷ links) fits = (
      (λ is.
          let has = leads-to model whole entries order to ports are link fits.0 is in
          found-below ports link.to.port has.field has.found),
      lead-within links fits.1,
    )

  -- the parts that handles show have as many in ports as there are for links
  part-ins : (handle : Handle) (path : Path) (inner : Option Wiring) → AllByRecursion (StandsAt own) (part_places handle path inner) → traffic.ins handle ≡ ins_of (system model) (part_under (value_of own) handle inner)
  part-ins handle path None stands =
      let held = leaf-held own (place handle path false) stands.0 refl in
      ins-are handle ∙ ap (ins_in (system model)) held.1
      ∙ sym (ap (λ (spot : Option Spot). ins_of (system model) (sim.Leaf (leaf_in spot))) held.1 ∙ ins-leaf (system model) held.0)
  part-ins handle path (Some net) stands =
      let look = value_of own in
      let held = net-held own (place handle path true) stands.0 refl in
      let made : Net-F Sim Kid Net = record { model = model_in (look handle); args = args_in (look handle); boss = leaf_in (look (out-Wiring net).boss); kids = map (kid_under look) (out-Wiring net).kids; links = (out-Wiring net).links } in
      let opens : out-Net (net_under look net handle) ≡ made = ap out-Net (net-shows look net handle) ∙ out-roll-Net made in
      ins-are handle ∙ ap (ins_in (system model)) held.2
      ∙ sym (ins-net (system model) (net_under look net handle) ∙ ap (λ (own : Net-F Sim Kid Net). ((system model).network own.model own.args).ins) opens
      ∙ ap (λ (spot : Option Spot). ((system model).network (model_in spot) (args_in spot)).ins) held.2)

  module _ (whole : Own) (entries : List Entry) (order : IsInOrder entries) (links : List Link) (fits : AllByRecursion (FitsLink model whole entries) links) where
    -- links lead to a component's ports
    kid-within : (kid : WiredKid) (path : Path) → AllByRecursion (StandsAt own) (kid_places kid path) → FitsKid model (kid_under (value_of own) kid) → Among (entry_of (kid_under (value_of own) kid)) entries →
        LeadWithin (traffic.ins (out-WiredKid kid).handle) (part.Kid (out-WiredKid kid).name) links
    kid-within kid path stands fits_kid among =
        let look = value_of own in
        let opened = out-WiredKid kid in
        let shown = kid_under look kid in
        let its_own = stood model (out-Kid shown).sim (kid-tree model shown fits_kid) in
        let its_kid : HasKid model entries opened.name false (ways model its_own.stands false) =
        record { entry = entry_of shown; among = contains-from entries (entry_of shown) among; named = name-shown look kid; own = its_own.stands; found = its_own.found; are = refl } in
        let many : length (ways model its_own.stands false) ≡ traffic.ins opened.handle =
        sym its_own.ins ∙ ap (ins_of (system model)) (sim-shown look kid)
        ∙ sym (part-ins opened.handle (below path opened.name) opened.below (subst (AllByRecursion (StandsAt own)) (kid-stands kid path) stands)) in
        subst (λ (ports : ℕ). LeadWithin ports (part.Kid opened.name) links) many
        (lead-within whole entries order (part.Kid opened.name) (ways model its_own.stands false) its_kid links fits)

    kids-within : (kids : List WiredKid) (path : Path) → AllByRecursion (StandsAt own) (flat_map (λ (kid : WiredKid). kid_places kid path) kids) → AllByRecursion (FitsKid model) (map (kid_under (value_of own)) kids) →
        AllByRecursion (λ kid. Among (entry_of (kid_under (value_of own) kid)) entries) kids →
        AllByRecursion (λ kid. LeadWithin (traffic.ins kid.handle) (part.Kid kid.name) links) (map (λ (kid : KidShapes). kid.wired) (map shapes_of_kid kids))
    kids-within [] path stands fits_kids among = tt
    kids-within (kid ∷ kids) path stands fits_kids among =
        let others = flat_map (λ (kid : WiredKid). kid_places kid path) kids in (
          subst (λ (own : KidShapes). LeadWithin (traffic.ins own.wired.handle) (part.Kid own.wired.name) links) (sym (shapes_kid-opens kid))
              (kid-within kid path (all-left (StandsAt own) (kid_places kid path) others stands) fits_kids.0 among.0),
          kids-within kids path (all-right (StandsAt own) (kid_places kid path) others stands) fits_kids.1 among.1,
        )

  abbrev Claim : Wiring → Type 0
  Claim net = (handle : Handle) (path : Path) → AreThemselves handle (Some net) → AllByRecursion (StandsAt own) (part_places handle path (Some net)) → FitsNet model (net_under (value_of own) net handle) → HavePorts traffic net

  part-have : (name : Name) (handle : Handle) (path : Path) (inner : Option Wiring) → Beneath Claim inner → AreThemselves handle inner → AllByRecursion (StandsAt own) (part_places handle path inner) → FitsTree model (part_under (value_of own) handle inner) →
      AllByRecursion (HasPorts traffic) (shape.kid_step (record { name = name; handle = handle; below = option_map shapes inner })).below
  part-have name handle path None claim itself stands fits = tt
  part-have name handle path (Some net) claim itself stands fits = claim handle path itself stands (net-tree model (net_under (value_of own) net handle) fits)

  kids-have : (kids : List WiredKid) (path : Path) → AllByRecursion (OfKid Claim) kids → KidsAreThemselves kids → AllByRecursion (StandsAt own) (flat_map (λ (kid : WiredKid). kid_places kid path) kids) → AllByRecursion (FitsKid model) (map (kid_under (value_of own)) kids) →
      AllByRecursion (HasPorts traffic) (flat_map (λ (kid : KidShapes). kid.below) (map shapes_of_kid kids))
  kids-have [] path claims itself stands fits = tt
  kids-have (kid ∷ kids) path claims itself stands fits =
      let look = value_of own in
      let opened = out-WiredKid kid in
      let others = flat_map (λ (kid : WiredKid). kid_places kid path) kids in
      let here = part-have opened.name opened.handle (below path opened.name) opened.below claims.0
      (subst (AllByRecursion IsItself) (kid-calls kid) (all-left IsItself (kid_called kid) (flat_map kid_called kids) itself))
      (subst (AllByRecursion (StandsAt own)) (kid-stands kid path) (all-left (StandsAt own) (kid_places kid path) others stands))
      (subst (FitsTree model) (sim-shown look kid) (kid-tree model (kid_under look kid) fits.0)) in
      all-join (HasPorts traffic) (shapes_of_kid kid).below (flat_map (λ (kid : KidShapes). kid.below) (map shapes_of_kid kids))
      (subst (λ (own : KidShapes). AllByRecursion (HasPorts traffic) own.below) (sym (shapes_kid-opens kid)) here)
      (kids-have kids path claims.1 (all-right IsItself (kid_called kid) (flat_map kid_called kids) itself) (all-right (StandsAt own) (kid_places kid path) others stands) fits.1)

  net-have : (net : Wiring) → AllByRecursion (OfKid Claim) (out-Wiring net).kids → Claim net
  net-have net claims handle path itself stands fits =
      let look = value_of own in
      let opened = out-Wiring net in
      let shown = net_under look net handle in
      let kids = opened.kids in
      let last = place opened.boss (to_boss path) false in
      let made : Net-F Sim Kid Net = record { model = model_in (look handle); args = args_in (look handle); boss = leaf_in (look opened.boss); kids = map (kid_under look) kids; links = opened.links } in
      let opens : out-Net shown ≡ made = ap out-Net (net-shows look net handle) ∙ out-roll-Net made in
      let own_shape = subst (λ (own : Net-F Sim Kid Net). FitsShape model (shape_of own.model own.args own.boss own.kids own.links)) opens (net-shape model shown fits) in
      let all = subst (λ (own : Net-F Sim Kid Net). AllByRecursion (FitsKid model) own.kids) opens (net-kids model shown fits) in
      let whole = own_shape.links.own in
      let entries = map entry_of (map (kid_under look) kids) in
      let order = own_shape.links.order in
      let joined = own_shape.links.each in
      let places = flat_map (λ (kid : WiredKid). kid_places kid path) kids in
      let inner = subst (AllByRecursion (StandsAt own)) (net-stands net path) stands.1 in
      let kids_stand = all-left (StandsAt own) places (last ∷ []) inner in
      let boss_held = leaf-held own last (all-right (StandsAt own) places (last ∷ []) inner).0 refl in
      let held = net-held own (place handle path true) stands.0 refl in
      let parts = net-itself net handle itself in
      let among = all-from (λ (kid : WiredKid). Among (entry_of (kid_under look kid)) entries) kids (λ kid there. among-shown own kid kids there) in
      let outs : length (ways model whole true) ≡ traffic.outs opened.me =
      sym (ap traffic.outs (sym parts.0) ∙ outs-are handle ∙ ap (outs_in (system model)) held.2
      ∙ network-outs model held.0 held.1 whole (ap (λ (spot : Option Spot). slice_get (owns_of model.decls) (model_in spot).0) (sym held.2) ∙ own_shape.links.found)) in
      let boss_found : slice_get (owns_of model.decls) boss_held.0.model.0 ≡ Some whole =
      ap (λ (number : ModelId). slice_get (owns_of model.decls) number.0) (sym (ap (λ (spot : Option Spot). (leaf_in spot).model) boss_held.1) ∙ own_shape.boss_is.model) ∙ own_shape.links.found in
      let ins : length (body_ways model whole false) ≡ traffic.ins opened.boss =
      sym (ins-are opened.boss ∙ ap (ins_in (system model)) boss_held.1 ∙ component-ins model boss_held.0.model whole boss_found boss_held.0.args) in
      subst (AllByRecursion (HasPorts traffic)) (sym (shapes-opens net)) (
        (
          subst (λ (ports : ℕ). LeadWithin ports part.Net opened.links) outs (lead-within whole entries order part.Net (ways model whole true) refl opened.links joined),
          subst (λ (ports : ℕ). LeadWithin ports part.Boss opened.links) ins (lead-within whole entries order part.Boss (body_ways model whole false) refl opened.links joined),
          kids-within whole entries order opened.links joined kids path kids_stand all among,
        ),
        kids-have kids path claims parts.1 kids_stand all,
      )

  pub each-has : (net : Wiring) → Claim net
  each-has = each_wiring Claim net-have
