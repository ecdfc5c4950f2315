-- What the functions that restore a tree answer.
use Rattle.std.specs.Prelude.{◌≡◌, ℕ, Bool, false, List, Result, Ok, Err}
use Rattle.dsde_syntax.specs.declared.decl.Model.{Model}
use Rattle.dsde_values.specs.declared.path.Path.{Path}
use Rattle.dsde_values.specs.declared.value.Value.{Value}
use Rattle.dsde_values.specs.Path.{path_text, root}
use Rattle.dsde_language.specs.declared.ids.ModelId.{ModelId}
use Rattle.dsde_sim_tree.specs.given.formalism.leaf_Leaf.{Leaf}
use Rattle.dsde_sim_tree.specs.given.formalism.System.{System}
use Rattle.dsde_sim_tree.specs.given.structure.plan_Entry.{Entry}
use Rattle.dsde_sound_structures.specs.given.system.Fitting.{FitsLeaf}
use Rattle.dsde_sim_tree.specs.Told.{below}
use Rattle.dsde_sim_tree.specs.declared.sim.Kid.{Kid}
use Rattle.dsde_sim_tree.specs.declared.sim.Sim.{Sim}
use Rattle.dsde_sim_tree.specs.Start.{kid_of}
use Rattle.dsde_sim_tree.specs.declared.step.TheConstants.{MOST_PARTS}
use Rattle.dsde_image.specs.Image.{IsLocation}
use Rattle.dsde_image.specs.declared.image.Row.{Row}
use Rattle.dsde_image.specs.declared.image.Version.{Version}
use Rattle.dsde_image_rows.specs.Rows.{Script}
use Rattle.dsde_image_rows.specs.Walk.{Left, Walked, ◌>>=◌, restored, only_at_end}
use Rattle.dsde_image_rows.specs.declared.ends.RestoreEnd.{RestoreEnd}
use Rattle.dsde_image_rows.specs.declared.ends.RestoreEnd.TheVariants as restore_end

-- The answer is what is restored, or the first path that does not fit, or memory ran out.
abbrev pub Walks : {X A : Type 0} → (X → A) → Result X RestoreEnd → Walked A → Type 0
Walks view (Ok x) expected = expected ≡ Ok (view x)
Walks view (Err (restore_end.DoesNotFit path)) expected = expected ≡ Err (path_text path)
Walks view (Err restore_end.Memory) expected = Unit {0}

-- The same of what is restored, where these rows and this room are left.
abbrev pub WalksOn : {A : Type 0} → Result A RestoreEnd → Left → Walked (A × Left) → Type 0
WalksOn result left = Walks (λ one. (one, left)) result

-- the path does not fit, or memory ran out
abbrev pub Misses : Path → RestoreEnd → Type 0
Misses path (restore_end.DoesNotFit own) = own ≡ path
Misses path restore_end.Memory = Unit {0}

-- the path of this text does not fit, or memory ran out
abbrev pub IsLeftOver : List ℕ → RestoreEnd → Type 0
IsLeftOver text (restore_end.DoesNotFit path) = path_text path ≡ text
IsLeftOver text restore_end.Memory = Unit {0}

-- a row of an image of this version stands somewhere
abbrev pub HasLocation : Version → Row → Type 0
HasLocation version row = IsLocation version row.location

-- the component that an entry wants
abbrev pub restored_kid : (Bool → ModelId → List Value → Path → Left → Walked (Sim × Left)) → Entry → Path → Left → Walked (Kid × Left)
restored_kid walker entry path here = walker entry.soft entry.model entry.args (below path entry.name) here >>= λ one. Ok (kid_of entry.name one.0, one.1)

-- the tree of a root of this model with these arguments, where so many names may stand behind that of the root
abbrev pub whole_tree : System → Script → Version → ℕ → ℕ → ModelId → List Value → List Row → Walked Sim
whole_tree system script version time left model args rows =
    restored system script version time left false model args root (rows, MOST_PARTS) >>= λ one. only_at_end one.0 one.1.0

-- A component or an executive of a program, of this model.
pub record FitsComponent (model : Model) (number : ModelId) (boss : Bool) (leaf : Leaf) : Type 0 where
  pub fits : FitsLeaf model leaf
  pub model_is : leaf.model ≡ number
  pub boss_is : leaf.boss ≡ boss

-- and with these arguments
pub record FitsOwn (model : Model) (number : ModelId) (boss : Bool) (args : List Value) (leaf : Leaf) : Type 0 where
  pub component : FitsComponent model number boss leaf
  pub args_are : leaf.args ≡ args
