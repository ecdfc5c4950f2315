-- The images of the trees of a program.
use Rattle.std.specs.Prelude.{◌≡◌, ℕ, Ok}
use Rattle.std.specs.List.{AllByRecursion}
use Rattle.dsde_syntax.specs.declared.decl.Model.{Model}
use Rattle.dsde_values.specs.Path.{root}
use Rattle.dsde_language.specs.Right.{IsRight}
use Rattle.dsde_sound_structures.specs.given.system.Program.{system}
use Rattle.dsde_sim_starting.specs.Fitting.{FitsTree}
use Rattle.dsde_sim_movers.specs.Stands.{Stands, StandsTree}
use Rattle.dsde_sim_movers.specs.given.sim_tree.sim_Sim.{Sim}
use Rattle.dsde_image.specs.Image.{IsRow}
use Rattle.dsde_image.specs.Written.{IsWrittenRow}
use Rattle.dsde_image.specs.declared.image.Version.{Version}
use Rattle.dsde_image.specs.declared.image.Version.TheVariants.{Two}
use Rattle.dsde_image_rows.specs.Rows.{rows}
use Rattle.dsde_image_rows.specs.Walk.{tree_of}
use Rattle.dsde_image_rows.specs.Script.{script}

-- The texts of the rows of a tree of a program are UTF-8.
abbrev pub ImagesAreWritten : Type 0
ImagesAreWritten =
    (model : Model) → IsRight model → (time : ℕ) (tree : Sim) → FitsTree model tree → StandsTree (system model) time tree
    → AllByRecursion IsWrittenRow (rows (script model) Two tree root)

-- The rows of a tree of a program are rows of an image of either version: each has a path that a model can
-- have, and times of a run.
abbrev pub RowsAreRight : Type 0
RowsAreRight =
    (model : Model) → IsRight model → (version : Version) (time : ℕ) (tree : Sim) → FitsTree model tree → StandsTree (system model) time tree
    → AllByRecursion (IsRow version) (rows (script model) version tree root)

-- A tree of a program that stands is restored of its rows, of either version.
abbrev pub ImagesAreRestored : Type 0
ImagesAreRestored =
    (model : Model) → IsRight model → (version : Version) (time : ℕ) (tree : Sim) → FitsTree model tree → Stands (system model) time tree
    → tree_of (system model) (script model) version time (rows (script model) version tree root) ≡ Ok tree
