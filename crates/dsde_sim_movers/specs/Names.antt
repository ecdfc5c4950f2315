-- Trees whose components are named apart from each other and from executives.
use Rattle.std.specs.Prelude.{◌≡◌, false, List, Ok}
use Rattle.std.specs.List.{AllByRecursion}
use Rattle.std.proofs.Common.{inl, inr}
use Rattle.dsde_values.specs.declared.name.Name.{Name}
use Rattle.dsde_values.specs.declared.value.Value.{Value}
use Rattle.dsde_values.specs.Path.{EXEC}
use Rattle.dsde_sim_tree.specs.given.language.ids_ModelId.{ModelId}
use Rattle.dsde_sim_tree.specs.given.formalism.System.{State, System}
use Rattle.dsde_sim_tree.specs.given.structure.plan_Plan.{Plan}
use Rattle.dsde_sim_tree.specs.given.structure.Gather.{is_same_name}
use Rattle.dsde_sim_tree.specs.given.structure.Survival as entry
use Rattle.dsde_sim_tree.specs.declared.sim.Sim.{Sim}
use Rattle.dsde_sim_tree.specs.Spots.{Spot, spots}

-- Names stand in their order, each once, and none is an executive's.
pub record AreNames (names : List Name) : Type 0 where
  pub order : entry.AreInOrder names
  pub ordinary : AllByRecursion (λ name. is_same_name EXEC name ≡ false) names

-- the names of a network's components
abbrev pub HasNames : Spot → Type 0
HasNames (inl leaf) = Unit {0}
HasNames (inr shape) = AreNames (entry.names shape.entries)

-- of each network of a tree
abbrev pub IsNamed : Sim → Type 0
IsNamed tree = AllByRecursion HasNames (spots tree)

-- so each structure of a system names its components
pub record NamesParts (system : System) : Type 0 where
  pub plans : (model : ModelId) (args : List Value) (state : State) (plan : Plan) → (system.network model args).structure state ≡ Ok plan → AreNames (entry.names plan.entries)
