-- What a network is that has started, and where it fits a program.
use Rattle.std.specs.Prelude.{◌≡◌, List, map}
use Rattle.std.specs.List.{AllByRecursion}
use Rattle.dsde_language.specs.given.syntax.decl_Model.{Model}
use Rattle.dsde_values.specs.declared.value.Value.{Value}
use Rattle.dsde_language.specs.declared.ids.ModelId.{ModelId}
use Rattle.dsde_sim_tree.specs.given.formalism.leaf_Leaf.{Leaf}
use Rattle.dsde_sim_tree.specs.given.structure.plan_Link.{Link}
use Rattle.dsde_executive.specs.given.system.Fitting.{FitsArgs, FitsLeaf}
use Rattle.dsde_sim_tree.specs.declared.sim.Kid.{Kid}
use Rattle.dsde_sim_tree.specs.declared.sim.Net.{Net}
use Rattle.dsde_sim_tree.specs.declared.sim.Sim.TheViews.{out-Net}
use Rattle.dsde_sim_tree.specs.Tree.{entry_of}
use Rattle.dsde_sim_starting.specs.Fitting.{FitsKid, FitsLinks, FitsNet, IsExecutive}

-- A network is of this model with these arguments.
pub record IsNet (number : ModelId) (values : List Value) (net : Net) : Type 0 where
  pub model : (out-Net net).model ≡ number
  pub args : (out-Net net).args ≡ values

-- A network of these parts fits each program that they fit.
abbrev pub FitsWhereItsPartsDo : ModelId → List Value → Leaf → List Kid → List Link → Net → Type 0
FitsWhereItsPartsDo number args boss kids links net =
    (model : Model)
    → FitsArgs model number.0 args → FitsLeaf model boss → IsExecutive number args boss
    → AllByRecursion (FitsKid model) kids → FitsLinks model number (map entry_of kids) links
    → FitsNet model net
