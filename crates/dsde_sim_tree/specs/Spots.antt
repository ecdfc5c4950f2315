-- The atomic components and the networks of a tree, each as its simulator has it without what is beneath.
use Rattle.std.specs.Prelude.{◌⊎◌, List, [], ◌∷◌, map}
use Rattle.std.proofs.Common.{inl, inr}
use Rattle.std.specs.List.{flat_map}
use Rattle.dsde_values.specs.declared.value.Value.{Value}
use Rattle.dsde_language.specs.declared.ids.ModelId.{ModelId}
use Rattle.dsde_formalism.specs.declared.leaf.Leaf.{Leaf}
use Rattle.dsde_formalism.specs.given.structure.plan_Entry.{Entry}
use Rattle.dsde_formalism.specs.given.structure.plan_Link.{Link}
use Rattle.dsde_sim_tree.specs.declared.sim.Kid.{Kid}
use Rattle.dsde_sim_tree.specs.declared.sim.Net.{Net}
use Rattle.dsde_sim_tree.specs.declared.sim.Sim.{Sim}
use Rattle.dsde_sim_tree.specs.declared.sim.Sim.TheFolds.{para-Sim, para-Kid, para-Net}
use Rattle.dsde_sim_tree.specs.declared.sim.Sim.TheOpen.{Sim-F, Net-F, Kid-F}
use Rattle.dsde_sim_tree.specs.declared.sim.Sim.TheOpen as layer
use Rattle.dsde_sim_tree.specs.Tree.{entry_of}

-- a network: its model with arguments, its executive, its components by their entries, and its links
pub record Shape : Type 0 where
  pub model : ModelId
  pub args : List Value
  pub boss : Leaf
  pub entries : List Entry
  pub links : List Link

abbrev pub shape_of : ModelId → List Value → Leaf → List Kid → List Link → Shape
shape_of model args boss kids links = record { model = model; args = args; boss = boss; entries = map entry_of kids; links = links }

abbrev pub Spot : Type 0
Spot = Leaf ⊎ Shape

abbrev pub spots_step : Sim-F (Sim × List Spot) (Kid × List Spot) (Net × List Spot) → List Spot
spots_step (layer.Leaf leaf) = inl leaf ∷ []
spots_step (layer.Net net) = net.1

abbrev pub kid_spots : Kid-F (Sim × List Spot) (Kid × List Spot) (Net × List Spot) → List Spot
kid_spots kid = kid.sim.1

abbrev pub net_spots : Net-F (Sim × List Spot) (Kid × List Spot) (Net × List Spot) → List Spot
net_spots net =
    inr (shape_of net.model net.args net.boss (map (λ kid. kid.0) net.kids) net.links) ∷ flat_map (λ kid. kid.1) net.kids

abbrev pub spots : Sim → List Spot
spots = para-Sim (List Spot) (List Spot) (List Spot) spots_step kid_spots net_spots

abbrev pub spots_of_kid : Kid → List Spot
spots_of_kid = para-Kid (List Spot) (List Spot) (List Spot) spots_step kid_spots net_spots

abbrev pub spots_of_net : Net → List Spot
spots_of_net = para-Net (List Spot) (List Spot) (List Spot) spots_step kid_spots net_spots
