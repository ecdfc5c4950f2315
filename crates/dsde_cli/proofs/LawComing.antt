-- What comes to those that move fits them.
use Rattle.std.proofs.Common.{◌≡◌, ◌∙◌, ℕ, ◌||◌, inl, inr, Bool, true, false, List, [], ◌∷◌, map, Some, Ok, slice_get, sym, ap, subst}
use Rattle.std.specs.Prelude.{if◌then◌else◌}
use Rattle.std.specs.List.{AllByRecursion, Contains, flat_map}
use Rattle.dsde_syntax.specs.declared.decl.Model.{Model}
use Rattle.dsde_values.specs.declared.path.Path.{Path}
use Rattle.dsde_values.specs.When.{IsMoment}
use Rattle.dsde_language.specs.declared.ids.ModelId.{ModelId}
use Rattle.dsde_language.specs.DeclaredModels.{types_of, Own, owns_of}
use Rattle.dsde_structure.specs.declared.plan.Entry.{Entry}
use Rattle.dsde_structure.specs.declared.plan.Link.{Link}
use Rattle.dsde_structure.specs.declared.plan.Part.TheVariants as part
use Rattle.dsde_structure.specs.declared.sources.Sources.{Sources}
use Rattle.dsde_structure.specs.Gather.{gathered}
use Rattle.dsde_structure.specs.Survival.{IsInOrder}
use Rattle.dsde_formalism.specs.declared.leaf.Leaf.{Leaf}
use Rattle.dsde_formalism.specs.System.{Ports}
use Rattle.dsde_formalism.specs.Leaf.{component_of, has_come, is_due}
use Rattle.dsde_sound_runs.specs.given.system.Program.{system}
use Rattle.dsde_sound_runs.specs.given.system.Fitting.{FitsInputs}
use Rattle.dsde_sound_runs.specs.given.system.Plans.{Cover, FitsLink, FitsSources, ways}
use Rattle.dsde_sim_tree.specs.Told.{below, to_boss}
use Rattle.dsde_sim_tree.specs.declared.sim.Kid.{Kid}
use Rattle.dsde_sim_tree.specs.declared.sim.Net.{Net}
use Rattle.dsde_sim_tree.specs.declared.sim.Sim.{Sim}
use Rattle.dsde_sim_tree.specs.declared.sim.Sim.TheVariants as sim
use Rattle.dsde_sim_tree.specs.declared.sim.Sim.TheViews.{out-Kid, out-Net}
use Rattle.dsde_sim_tree.specs.Move.{ins_of}
use Rattle.dsde_sim_tree.specs.Opened.{shape_in}
use Rattle.dsde_sim_tree.specs.Output.{output}
use Rattle.dsde_sim_tree.specs.Spots.{Spot, spots}
use Rattle.dsde_sim_tree.specs.Tree.{entry_of, model_of, name_of}
use Rattle.dsde_sim_tree.specs.lemmas.Trees.{each_tree}
use Rattle.dsde_sound_runs.specs.given.sim_starting.Fitting.{FitsKid, FitsShape, FitsSpot, FitsTree}
use Rattle.dsde_sound_runs.specs.given.sim_starting.lemmas_Fits.{kid-tree, leaf-tree, net-kids, net-shape, net-tree}
use Rattle.dsde_sound_runs.specs.given.sim_starting.lemmas_Stood.{model-leaf, model-net, same-own}
use Rattle.dsde_sim_movers.specs.Deliveries.{Delivery}
use Rattle.dsde_sim_movers.specs.lemmas.Asking.{asked-again}
use Rattle.dsde_sim_movers.specs.lemmas.Events.{each-append, each-weaker}
use Rattle.dsde_sim_movers.specs.Movers.{movers}
use Rattle.dsde_sim_movers.specs.Names.{HasNames, IsNamed}
use Rattle.dsde_sim_movers.specs.lemmas.Named.{entries-named, net-spots}
use Rattle.dsde_sim_movers.specs.Walk.{called_one, kid_movers}
use Rattle.dsde_sound_runs.proofs.Moving.{boss-fits, box-fits}
use Rattle.dsde_sound_runs.proofs.Ports.{Receives, inputs-of}
use Rattle.dsde_sound_runs.proofs.Relied.{Laws}
use Rattle.dsde_sound_runs.proofs.Safe.{Safe}
use Rattle.dsde_sound_runs.proofs.Sending.{contains-here, contains-later, sources-safe}
use Rattle.dsde_cli.proofs.Relied.{Turns}

module _ (model : Model) where
  spot-named : (spot : Spot) → FitsSpot model spot → HasNames spot
  spot-named (inl leaf) fits = tt
  spot-named (inr shape) fits = entries-named shape.entries fits.links.order fits.links.ordinary

  -- a tree that fits has its components by their names
  pub tree-named : (tree : Sim) → FitsTree model tree → IsNamed tree
  tree-named tree fits = each-weaker (FitsSpot model) HasNames spot-named (spots tree) fits.all

  -- What comes to a component or an executive fits its model.
  abbrev pub Serves : Delivery → Type 0
  Serves own = FitsInputs model own.model.0 own.ports

  called-fits : (own : Delivery) (here : Bool) → Serves own → AllByRecursion Serves (if here then own ∷ [] else [])
  called-fits own true serves = (serves, tt)
  called-fits own false serves = tt

module _ (model : Model) (laws : Laws model) (turns : Turns) (time : ℕ) (moment : IsMoment time) where
  -- what comes to each mover of a part fits it
  abbrev pub Comes : Sim → Type 0
  Comes own =
      (path : Path) (got sent : Ports) → IsNamed own → FitsTree model own → Receives model (model_of own).0 got → output (system model) own path time ≡ Ok sent
      → AllByRecursion (Serves model) (movers (system model) own path time got)

  leaf-comes : (leaf : Leaf) → Comes (sim.Leaf leaf)
  leaf-comes leaf path got sent named fits has is =
      subst (AllByRecursion (Serves model)) (sym (turns.leaf (system model) leaf path time got))
      (called-fits model (record { path = path; model = leaf.model; ports = got }) (is_due leaf time || has_come got)
      (inputs-of model leaf got (leaf-tree model leaf fits) (subst (λ (number : ModelId). Receives model number.0 got) (model-leaf leaf) has)))

  abbrev Answers : Path → Kid → Type 0
  Answers path kid = (ports : Ports) × (output (system model) (out-Kid kid).sim (below path (name_of kid)) time ≡ Ok ports)

  module _ (own : Own) (entries : List Entry) (links : List Link) (sources : Sources) (order : IsInOrder entries) (joined : AllByRecursion (FitsLink model own entries) links) (given : FitsSources model own entries sources) where
    kids-come : (path : Path) (kids : List Kid) → AllByRecursion (λ (kid : Kid). Comes (out-Kid kid).sim) kids → AllByRecursion (λ (kid : Kid). IsNamed (out-Kid kid).sim) kids →
        ((other : Entry) → Contains (map entry_of kids) other → Contains entries other) → AllByRecursion (FitsKid model) kids → AllByRecursion (Answers path) kids →
        AllByRecursion (Serves model) (flat_map (kid_movers (system model) links sources path time) kids)
    kids-come path [] each named among fit answers = tt
    kids-come path (kid ∷ kids) each named among fit answers =
        let inner = (out-Kid kid).sim in
        let inside : FitsTree model inner = kid-tree model kid fit.0 in
        let got : Ports = gathered (system model).translate links sources (part.Kid (name_of kid)) (ins_of (system model) inner) in
        each-append (Serves model) (kid_movers (system model) links sources path time kid) (flat_map (kid_movers (system model) links sources path time) kids)
        (each.0 (below path (name_of kid)) got answers.0.0 named.0 inside (box-fits model laws time moment own entries links sources order joined given kid (among (entry_of kid) (contains-here (entry_of kid) (map entry_of kids))) inside) answers.0.1)
        (kids-come path kids each.1 named.1 (λ other there. among other (contains-later (entry_of kid) other (map entry_of kids) there)) fit.1 answers.1)

  net-comes : (net : Net) → AllByRecursion (λ (kid : Kid). Comes (out-Kid kid).sim) (out-Net net).kids → Comes (sim.Net net)
  net-comes net each path got sent named fits has is =
      let whole = out-Net net in
      let shape : FitsShape model (shape_in net) = net-shape model net (net-tree model net fits) in
      let kids : AllByRecursion (FitsKid model) whole.kids = net-kids model net (net-tree model net fits) in
      let entries : List Entry = map entry_of whole.kids in
      let own : Own = shape.links.own in
      let found : slice_get (owns_of model.decls) whole.boss.model.0 ≡ Some own = ap (λ (number : ModelId). slice_get (owns_of model.decls) number.0) shape.boss_is.model ∙ shape.links.found in
      let came : Receives model whole.model.0 got = subst (λ (number : ModelId). Receives model number.0 got) (model-net net) has in
      let cover : Cover (types_of model) (ways model own false) got =
      subst (λ (o : Own). Cover (types_of model) (ways model o false) got) (same-own (slice_get (owns_of model.decls) whole.model.0) came.own own came.found shape.links.found)
      (laws.covers (types_of model) (ways model came.own false) got came.reach) in
      let known = asked-again (system model) net path time got sent is in
      let sources : Sources = known.0 in
      let given : FitsSources model own entries sources = subst (Safe (FitsSources model own entries)) known.1 (sources-safe model laws time own whole.boss whole.kids path got shape.boss found kids cover) in
      let box : Ports = gathered (system model).translate whole.links sources part.Boss (component_of (system model) whole.boss).ins in
      subst (AllByRecursion (Serves model)) (sym (turns.net (system model) net path time got sources named known.1))
      (each-append (Serves model) (flat_map (kid_movers (system model) whole.links sources path time) whole.kids) (called_one whole.boss (to_boss path) time box)
      (kids-come own entries whole.links sources shape.links.order shape.links.each given path whole.kids each (net-spots HasNames net named).1 (λ other there. there) kids known.2)
      (called-fits model (record { path = to_boss path; model = whole.boss.model; ports = box }) (is_due whole.boss time || has_come box)
      (boss-fits model laws time moment own entries whole.links sources shape.links.order shape.links.each given whole.boss found)))

  pub tree-comes : (own : Sim) → Comes own
  tree-comes = each_tree Comes leaf-comes net-comes
