-- Images of trees, and the trees that are restored of rows.
use Rattle.std.specs.Prelude.{ℕ, ◌≡◌, ◌++◌, List, Bool, Some, Ok}
use Rattle.std.proofs.Common.{inl, inr}
use Rattle.std.specs.List.{AllByRecursion}
use Rattle.dsde_values.specs.declared.path.Path.{Path}
use Rattle.dsde_values.specs.declared.value.Value.{Value}
use Rattle.dsde_values.specs.Path.{root}
use Rattle.dsde_sim_movers.specs.given.language.ids_ModelId.{ModelId}
use Rattle.dsde_sim_movers.specs.given.formalism.leaf_Leaf.{Leaf}
use Rattle.dsde_sim_movers.specs.given.formalism.System.{System}
use Rattle.dsde_sim_movers.specs.given.sim_tree.sim_Sim.{Sim}
use Rattle.dsde_sim_movers.specs.given.sim_tree.Spots.{Spot, spots}
use Rattle.dsde_sim_movers.specs.Stands.{Stands}
use Rattle.dsde_image.specs.declared.image.Row.{Row}
use Rattle.dsde_image.specs.declared.image.Version.{Version}
use Rattle.dsde_image_rows.specs.Rows.{Script, texts, rows}
use Rattle.dsde_image_rows.specs.Walk.{Left, restored, tree_of}

-- The state of a component is read again from its texts, and so are the arguments of a part.
abbrev pub StateIsReadAgain : Script → Leaf → Type 0
StateIsReadAgain script leaf = script.state leaf.model (texts script leaf.state) ≡ Some leaf.state

abbrev pub ArgsAreReadAgain : Script → ModelId → List Value → Type 0
ArgsAreReadAgain script model args = script.args model (texts script args) ≡ Some args

abbrev pub SpotIsReadAgain : Script → Spot → Type 0
SpotIsReadAgain script (inl leaf) = StateIsReadAgain script leaf × ArgsAreReadAgain script leaf.model leaf.args
SpotIsReadAgain script (inr shape) = StateIsReadAgain script shape.boss × ArgsAreReadAgain script shape.model shape.args

-- The image of a tree that stands fits, and gives the tree.
abbrev pub ImagesFit : Type 0
ImagesFit =
    (system : System) (script : Script) (version : Version) (time : ℕ) (tree : Sim)
    → Stands system time tree → AllByRecursion (SpotIsReadAgain script) (spots tree)
    → tree_of system script version time (rows script version tree root) ≡ Ok tree

-- Texts that spell values are the texts of these.
pub record IsExact (script : Script) : Type 0 where
  pub args : (model : ModelId) (own : List (List ℕ)) (values : List Value) → script.args model own ≡ Some values → texts script values ≡ own
  pub state : (model : ModelId) (own : List (List ℕ)) (values : List Value) → script.state model own ≡ Some values → texts script values ≡ own

-- What is restored of rows stands at the time, and is what the rows are the image of.
pub record RestoredRight (system : System) (script : Script) (version : Version) (time : ℕ) (listed : List Row) (tree : Sim) : Type 0 where
  pub stands : Stands system time tree
  pub image : listed ≡ rows script version tree root

-- Only images of trees that stand fit.
abbrev pub OnlyImagesFit : Type 0
OnlyImagesFit =
    (system : System) (script : Script) (version : Version) → IsExact script → (time : ℕ) (listed : List Row) (tree : Sim)
    → tree_of system script version time listed ≡ Ok tree → RestoredRight system script version time listed tree

-- What is left behind a part that is restored are the last of the rows.
abbrev pub LeftAreLast : Type 0
LeftAreLast =
    (system : System) (script : Script) (version : Version) (time left : ℕ) (soft : Bool) (model : ModelId) (args : List Value) (path : Path) (here : Left) (one : Sim × Left)
    → restored system script version time left soft model args path here ≡ Ok one → (taken : List Row) × (here.0 ≡ taken ++ one.1.0)
