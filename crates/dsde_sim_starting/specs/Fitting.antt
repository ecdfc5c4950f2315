-- Trees that fit a program.
use Rattle.std.specs.Prelude.{◌≡◌, ℕ, ◌<◌, ◌^◌, true, false, List, length, Some, slice_get}
use Rattle.std.proofs.Common.{inl, inr}
use Rattle.std.specs.List.{AllByRecursion}
use Rattle.dsde_language.specs.given.syntax.decl_Model.{Model}
use Rattle.dsde_values.specs.declared.value.Value.{Value}
use Rattle.dsde_values.specs.Path.{EXEC}
use Rattle.dsde_language.specs.declared.ids.ModelId.{ModelId}
use Rattle.dsde_language.specs.DeclaredModels.{types_of, Own, owns_of}
use Rattle.dsde_sim_tree.specs.given.formalism.leaf_Leaf.{Leaf}
use Rattle.dsde_sim_tree.specs.given.formalism.System.{Ports}
use Rattle.dsde_sim_tree.specs.given.structure.plan_Entry.{Entry}
use Rattle.dsde_sim_tree.specs.given.structure.plan_Link.{Link}
use Rattle.dsde_sim_tree.specs.given.structure.Gather.{is_same_name}
use Rattle.dsde_sim_tree.specs.given.structure.Survival.{IsInOrder}
use Rattle.dsde_executive.specs.given.system.Program.{system}
use Rattle.dsde_executive.specs.given.system.Fitting.{FitsArgs, FitsLeaf, Reach}
use Rattle.dsde_executive.specs.given.system.Plans.{FitsLink, Cover, ways, body_ways}
use Rattle.dsde_sim_tree.specs.declared.sim.Kid.{Kid}
use Rattle.dsde_sim_tree.specs.declared.sim.Net.{Net}
use Rattle.dsde_sim_tree.specs.declared.sim.Sim.{Sim}
use Rattle.dsde_sim_tree.specs.Spots.{Spot, Shape, spots, spots_of_kid, spots_of_net}

-- An atomic component is one of the program, and no executive.
pub record FitsAtomic (model : Model) (leaf : Leaf) : Type 0 where
  pub fits : FitsLeaf model leaf
  pub atomic : (system model).is_network leaf.model ≡ false
  pub component : leaf.boss ≡ false

-- The executive of a network of this model with these arguments.
pub record IsExecutive (number : ModelId) (values : List Value) (leaf : Leaf) : Type 0 where
  pub model : leaf.model ≡ number
  pub args : leaf.args ≡ values
  pub executive : leaf.boss ≡ true

-- The links of the network with this number, whose components stand in the order of their names, none of
-- them named as an executive.
pub record FitsLinks (model : Model) (number : ModelId) (entries : List Entry) (links : List Link) : Type 0 where
  pub own : Own
  pub found : slice_get (owns_of model.decls) number.0 ≡ Some own
  pub network : (system model).is_network number ≡ true
  pub order : IsInOrder entries
  pub ordinary : AllByRecursion (λ entry. is_same_name EXEC entry.name ≡ false) entries
  pub each : AllByRecursion (FitsLink model own entries) links

-- A network is one of the program: its arguments, its executive, its components and its links.
pub record FitsShape (model : Model) (shape : Shape) : Type 0 where
  pub args : FitsArgs model shape.model.0 shape.args
  pub boss : FitsLeaf model shape.boss
  pub boss_is : IsExecutive shape.model shape.args shape.boss
  pub links : FitsLinks model shape.model shape.entries shape.links

abbrev pub FitsSpot : Model → Spot → Type 0
FitsSpot model (inl leaf) = FitsAtomic model leaf
FitsSpot model (inr shape) = FitsShape model shape

-- Each atomic component and each network of a tree is one of the program.
pub record FitsTree (model : Model) (sim : Sim) : Type 0 where
  pub all : AllByRecursion (FitsSpot model) (spots sim)

pub record FitsKid (model : Model) (kid : Kid) : Type 0 where
  pub all : AllByRecursion (FitsSpot model) (spots_of_kid kid)

pub record FitsNet (model : Model) (net : Net) : Type 0 where
  pub all : AllByRecursion (FitsSpot model) (spots_of_net net)

-- Values come to a part of this model: a list for each of its in ports, of its type.
pub record FitsGot (model : Model) (number : ℕ) (got : Ports) : Type 0 where
  pub own : Own
  pub found : slice_get (owns_of model.decls) number ≡ Some own
  pub reach : Reach (types_of model) (ways model own false) got
  pub few : length got < 2 ^ 32

-- A part of this model sends values of its out ports' types.
pub record FitsSent (model : Model) (number : ℕ) (sent : Ports) : Type 0 where
  pub own : Own
  pub found : slice_get (owns_of model.decls) number ≡ Some own
  pub cover : Cover (types_of model) (ways model own true) sent

-- The body of the model with this number sends values of its out ports' types.
pub record FitsBodySent (model : Model) (number : ℕ) (sent : Ports) : Type 0 where
  pub own : Own
  pub found : slice_get (owns_of model.decls) number ≡ Some own
  pub cover : Cover (types_of model) (body_ways model own true) sent
