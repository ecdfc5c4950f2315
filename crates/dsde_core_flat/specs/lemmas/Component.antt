-- The step of a component in the flat state is its step in the tree.
use Rattle.std.proofs.Common.{◌≡◌, ℕ, Bool, true, false, List, [], ◌∷◌, ◌++◌, Option, Some, None, refl, sym, ap, subst, ◌∙◌}
use Rattle.std.specs.List.{flat_map, AllByRecursion}
use Rattle.std.proofs.lemmas.List.{append-nil}
use Rattle.dsde_bank.specs.declared.handle.Handle.{Handle}
use Rattle.dsde_values.specs.declared.name.Name.{Name}
use Rattle.dsde_values.specs.Path.{root}
use Rattle.dsde_sim_tree.specs.given.formalism.leaf_Leaf.{Leaf}
use Rattle.dsde_grove.specs.Grove as grove
use Rattle.dsde_grove.specs.Grove.{Grove, IsTree, spot, value_of, with_value}
use Rattle.dsde_sim_tree.specs.declared.sim.Kid.{Kid}
use Rattle.dsde_sim_tree.specs.declared.sim.Net.{Net}
use Rattle.dsde_sim_tree.specs.declared.sim.Sim.{Sim}
use Rattle.dsde_sim_tree.specs.declared.sim.Sim.TheVariants as sim
use Rattle.dsde_sim_tree.specs.declared.sim.Sim.TheOpen as layer
use Rattle.dsde_sim_tree.specs.declared.sim.Sim.TheOpen.{Sim-F}
use Rattle.dsde_sim_tree.specs.declared.sim.Sim.TheViews.{out-Sim}
use Rattle.dsde_sim_movers.specs.Parts as movers
use Rattle.dsde_sim_movers.specs.Names as law
use Rattle.dsde_core_flat.specs.declared.spot.Spot.{Spot}
use Rattle.dsde_core_flat.specs.declared.spot.Spot.TheVariants as variant
use Rattle.dsde_routes_wiring.specs.declared.wiring.Wiring.{Wiring}
use Rattle.dsde_core_flat.specs.Shown.{leaf_in, net_under, part_under}
use Rattle.dsde_core_flat.specs.Places.{Place, place, part_places}
use Rattle.dsde_core_flat.specs.lemmas.Frame.{all-left}
use Rattle.dsde_core_flat.specs.Change.{changed_at, Standing, found, outside}
use Rattle.dsde_core_flat.specs.lemmas.Context.{out-Leaf, out-Network}
use Rattle.dsde_core_flat.specs.lemmas.Beneath.{IsNoBoss}
use Rattle.dsde_core_flat.specs.Stands.{is_net, StandsAt, StandsFor}
use Rattle.dsde_core_flat.specs.lemmas.Mixing.{all-other, places_with}
use Rattle.dsde_core_flat.specs.lemmas.Keeping.{same, old-mixed}
use Rattle.dsde_core_flat.specs.lemmas.Moves.{HasPath, found-path, one-handle-at, leaf-moves}
use Rattle.dsde_core_flat.specs.Named.{HasOwnNames}
use Rattle.dsde_core_flat.specs.lemmas.Meeting.{tree-names, finds, IsOne, parts-agree}

module _ (old : Grove Spot) (top : Handle) (wiring : Option Wiring) (own : Sim) (names : List Name) (handle : Handle) (part : grove.Spot Spot)
    (is_tree : IsTree old) (stands : StandsFor old top wiring own) (named : law.IsNamed own) (live : spot old handle ≡ Some part) (path : part.path ≡ root.names ++ names) where
  -- the head of what stands at a place
  head-stands : (at : Standing) → AllByRecursion (StandsAt old) (places_with same at) → (b : Bool) × StandsAt old (place at.handle at.path b)
  head-stands at all = head at.own all
    where
      head : (wired : Option Wiring) → AllByRecursion (StandsAt old) (part_places at.handle at.path wired) → (b : Bool) × StandsAt old (place at.handle at.path b)
      head None all = (false, all.0)
      head (Some net) all = (true, all.0)

  -- what is found is under this handle
  pub found-handle : (at : Standing) → found names top root wiring ≡ at ∷ [] → at.handle ≡ handle
  found-handle at is =
      let its = all-other (StandsAt old) (old-mixed names top root wiring) stands.live in
      let one : AllByRecursion (StandsAt old) (places_with same at ++ []) = subst (λ (ats : List Standing). AllByRecursion (StandsAt old) (flat_map (places_with same) ats)) is its in
      let head = head-stands at (all-left (StandsAt old) (places_with same at) [] one) in
      let at_path = (subst (AllByRecursion (HasPath (root.names ++ names))) is (found-path names top root wiring)).0 in
      one-handle-at old is_tree at.handle handle head.1.part part head.1.live live (head.1.path ∙ at_path ∙ sym path)

  leaf-under : (at : Handle) (wired : Option Wiring) (leaf : Leaf) → part_under (value_of old) at wired ≡ sim.Leaf leaf → leaf_in (value_of old at) ≡ leaf
  leaf-under at None leaf is =
      let e : layer.Leaf (leaf_in (value_of old at)) ≡ layer.Leaf leaf = sym (out-Leaf (leaf_in (value_of old at))) ∙ ap out-Sim is ∙ out-Leaf leaf in
      cc
  leaf-under at (Some net) leaf is =
      let wrong : layer.Net (net_under (value_of old) net at) ≡ layer.Leaf leaf = sym (out-Network (net_under (value_of old) net at)) ∙ ap out-Sim is ∙ out-Leaf leaf in
      absurd (cc wrong)

  -- The leaf under the handle is the one that stands in the tree.
  pub component-is : (leaf : Leaf) → movers.part_at names own ≡ Some (sim.Leaf leaf) → leaf_in (value_of old handle) ≡ leaf
  component-is leaf is =
      let one = finds (value_of old) names top root wiring (sim.Leaf leaf) (subst HasOwnNames (sym stands.shows) (tree-names own named)) (ap (movers.part_at names) stands.shows ∙ is) in
      ap (λ (h : Handle). leaf_in (value_of old h)) (sym (found-handle one.at one.is)) ∙ leaf-under one.at.handle one.at.own leaf one.shows

  -- With another leaf there, the flat state stands for the tree with that leaf there.
  pub component-stands : AllByRecursion IsNoBoss names → is_net part.value ≡ false → (leaf : Leaf) →
      StandsFor (with_value old handle (variant.Leaf leaf)) top wiring (movers.with_part names (sim.Leaf leaf) own)
  component-stands none kind leaf =
      subst (StandsFor (with_value old handle (variant.Leaf leaf)) top wiring) (parts-agree (sim.Leaf leaf) names own (tree-names own named))
      (leaf-moves old top wiring own names handle leaf part is_tree stands none live path kind)
