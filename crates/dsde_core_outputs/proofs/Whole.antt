-- The tree of a component that is the whole model.
use Rattle.std.proofs.Common.{◌≡◌, ℕ, true, false, Option, Some, None, IsNone, IsSome, refl, sym, ap, subst, ◌∙◌}
use Rattle.dsde_syntax.specs.declared.decl.Model.{Model}
use Rattle.dsde_values.specs.declared.path.Path.{Path}
use Rattle.dsde_values.specs.Path.{root}
use Rattle.dsde_sim_tree.specs.given.formalism.leaf_Leaf.{Leaf}
use Rattle.dsde_sim_tree.specs.given.formalism.Leaf.{component_of}
use Rattle.dsde_sim_tree.specs.given.formalism.System.{System}
use Rattle.dsde_grove.specs.Grove.{value_of}
use Rattle.dsde_sim_tree.specs.Told.{at}
use Rattle.dsde_sim_tree.specs.declared.sim.Kid.{Kid}
use Rattle.dsde_sim_tree.specs.declared.sim.Net.{Net}
use Rattle.dsde_sim_tree.specs.declared.sim.Sim.{Sim}
use Rattle.dsde_sim_tree.specs.declared.sim.Sim.TheFolds.{fold-roll-Sim}
use Rattle.dsde_sim_tree.specs.declared.sim.Sim.TheOpen as layer
use Rattle.dsde_sim_tree.specs.declared.sim.Sim.TheOpen.{Sim-F}
use Rattle.dsde_sim_tree.specs.declared.sim.Sim.TheVariants as sim
use Rattle.dsde_sim_tree.specs.declared.sim.Sim.TheViews.{out-Net, rolls-Leaf}
use Rattle.dsde_sim_tree.specs.Move.{ins_of}
use Rattle.dsde_sim_tree.specs.Output.{output, output_kid, output_net, output_step, sent, Answer, KidAnswer}
use Rattle.dsde_sim_working.specs.given.sim_starting.Fitting.{FitsAtomic, FitsTree}
use Rattle.dsde_sim_working.specs.given.sim_starting.lemmas_Fits.{leaf-tree}
use Rattle.dsde_core_parcels.specs.given.routes_wiring.wiring_Wiring.{Wiring}
use Rattle.dsde_core_parcels.specs.given.core_flat.spot_Spot.{Spot}
use Rattle.dsde_core_parcels.specs.given.core_flat.Places.{place}
use Rattle.dsde_core_parcels.specs.given.core_flat.Scheduled.{held_leaf}
use Rattle.dsde_core_parcels.specs.given.core_flat.Shown.{leaf_in, part_under}
use Rattle.dsde_core_parcels.specs.given.core_flat.Stands.{StandsFor}
use Rattle.dsde_core_parcels.specs.given.core_flat.lemmas_Context.{out-Leaf}
use Rattle.dsde_core_parcels.specs.lemmas.TrafficHeld.{leaf-held}
use Rattle.dsde_core_parcels.specs.given.core_moves.flat_Flat.{Flat}
use Rattle.dsde_core_parcels.specs.given.core_moves.Flat.{tree_of, Stands}
use Rattle.dsde_core_outputs.specs.Alone.{IsAlone}

none-is : (own : Option Wiring) → IsNone own → own ≡ None
none-is None none = refl
none-is (Some wiring) none = absurd (let wrong : true ≡ false = none in cc)

-- what a component sends
output-Leaf : (system : System) (leaf : Leaf) (path : Path) (time : ℕ) → output system (sim.Leaf leaf) path time ≡ at path (sent system leaf time)
output-Leaf system leaf path time =
    ap (λ (tree : Sim). output system tree path time) (sym (rolls-Leaf leaf))
    ∙ ap (λ (answer : Answer). answer path time) (fold-roll-Sim Answer KidAnswer Answer (output_step system) output_kid (output_net system) (layer.Leaf leaf))

-- by how many ports it receives
pub ins-leaf : (system : System) (leaf : Leaf) → ins_of system (sim.Leaf leaf) ≡ (component_of system leaf).ins
ins-leaf system leaf = ap (λ (own : Sim-F Sim Kid Net). let ins : ℕ = elim own [
  | layer.Leaf leaf ↦ (component_of system leaf).ins
  | layer.Net net ↦ (system.network (out-Net net).model (out-Net net).args).ins
] in ins) (out-Leaf leaf)

-- where nothing is wired a component lives under the root's handle
pub lives : (model : Model) (flat : Flat) → Stands model flat → IsNone flat.wiring → IsSome (held_leaf (value_of flat.grove flat.root))
lives model flat stands none =
    let stood : StandsFor flat.grove flat.root None (tree_of flat) = subst (λ (own : Option Wiring). StandsFor flat.grove flat.root own (tree_of flat)) (none-is flat.wiring none) stands.stands in
    let held = leaf-held flat.grove (place flat.root root false) stood.live.0 refl in
    subst (λ (spot : Option Spot). IsSome (held_leaf spot)) (sym held.1) refl

module _ (flat : Flat) (leaf : Leaf) (alone : IsAlone flat leaf) where
  pub tree-is : tree_of flat ≡ sim.Leaf leaf
  tree-is =
      ap (λ (own : Option Wiring). part_under (value_of flat.grove) flat.root own) (none-is flat.wiring alone.none)
      ∙ ap (λ (spot : Option Spot). sim.Leaf (leaf_in spot)) alone.held

  -- what it sends
  pub sends : (system : System) (time : ℕ) → output system (tree_of flat) root time ≡ at root (sent system leaf time)
  sends system time = ap (λ (tree : Sim). output system tree root time) tree-is ∙ output-Leaf system leaf root time

  module _ (model : Model) (stands : Stands model flat) where
    pub stands-alone : StandsFor flat.grove flat.root None (sim.Leaf leaf)
    stands-alone =
        subst (StandsFor flat.grove flat.root None) tree-is
        (subst (λ (own : Option Wiring). StandsFor flat.grove flat.root own (tree_of flat)) (none-is flat.wiring alone.none) stands.stands)

    pub tree-fits : FitsTree model (sim.Leaf leaf)
    tree-fits = subst (FitsTree model) tree-is stands.fits

    -- it is one of the program
    pub fits : FitsAtomic model leaf
    fits = leaf-tree model leaf tree-fits
