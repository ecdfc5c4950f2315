-- Which bytes are the image of an engine, and which engine they are the image of. This project's profile.
use Rattle.std.specs.Prelude.{◌≡◌, ℕ, List, Some, Result, Ok, Err}
use Rattle.dsde_syntax.specs.declared.decl.Model.{Model}
use Rattle.dsde_values.specs.Path.{root, path_text}
use Rattle.dsde_sim_tree.specs.declared.sim.Sim.{Sim}
use Rattle.dsde_sim_tree.specs.Engine.{Engine}
use Rattle.dsde_image_rows.specs.given.system.Program.{system}
use Rattle.dsde_image.specs.declared.image.Image.{Image}
use Rattle.dsde_image.specs.declared.image.Version.{Version}
use Rattle.dsde_image.specs.Image.{IsImage}
use Rattle.dsde_image_rows.specs.Rows.{rows}
use Rattle.dsde_image_rows.specs.Walk.{Walked, tree_of}
use Rattle.dsde_image_rows.specs.Script.{script}
use Rattle.dsde_image.specs.Json.{image_data}
use Rattle.dsde_image.specs.Text.{IsReading}
use Rattle.dsde_image_rows.specs.declared.ends.RestoreEnd.{RestoreEnd}
use Rattle.dsde_image_rows.specs.declared.ends.RestoreEnd.TheVariants as restore_end
use Rattle.dsde_core.specs.given.sim_working.Working.{StandsAt, StandsIf, Working, working}
use Rattle.dsde_core.specs.Standing.{Standing}
use Rattle.dsde_run.specs.declared.restoring.RestoreError.{RestoreError}
use Rattle.dsde_run.specs.declared.restoring.RestoreError.TheVariants as restore_error

-- the image, of this version, of an engine of a program that has this tree
abbrev pub image_of : Model → Version → Engine → Sim → Image
image_of program version engine tree =
    record { version = version; turn = engine.turn; time = engine.time; records = engine.taken; parts = rows (script program) version tree root }

-- the tree of a program that an image says, or the first path at which it does not fit
abbrev pub fitting : Model → Image → Walked Sim
fitting program image = tree_of (system program) (script program) image.version image.time image.parts

-- an engine that has this tree where an image says that it stands
abbrev pub engine_of : Image → Sim → Engine
engine_of image tree = record { tree = Some tree; turn = image.turn; time = image.time; taken = image.records }

-- The bytes say this image.
pub record Says (bytes : List ℕ) (image : Image) : Type 0 where
  pub image_is : IsImage image
  pub reading : IsReading bytes (image_data image)

-- a program and the engine that runs it, however many parts were born in it
abbrev pub at_work : Standing → Working
at_work own = working own.program own.engine

-- The engine is that of an image that fits the program.
pub record IsOf (program : Model) (image : Image) (own : Working) : Type 0 where
  pub tree : Sim
  pub fits : fitting program image ≡ Ok tree
  pub is : own ≡ working program (engine_of image tree)

-- The bytes say an image that fits the program, and the engine is that of this image.
pub record IsRestored (program : Model) (bytes : List ℕ) (own : Working) : Type 0 where
  pub image : Image
  pub says : Says bytes image
  pub engine : IsOf program image own

-- The image does not fit the program, and the path is the first at which it does not, or memory ran out.
abbrev pub IsMisfitOf : Model → Image → RestoreError → Type 0
IsMisfitOf program image (restore_error.DoesNotFit path) = fitting program image ≡ Err (path_text path)
IsMisfitOf program image restore_error.Memory = Unit {0}
IsMisfitOf program image _ = ⊥

-- The answer where the bytes say this image: its engine, or its first path that does not fit, or memory ran out.
abbrev pub Answers : Model → Image → Result Standing RestoreError → Type 0
Answers program image (Ok own) = IsOf program image (at_work own)
Answers program image (Err why) = IsMisfitOf program image why

-- The bytes say an image that does not fit the program, and this is the text of the first path.
pub record Misfits (program : Model) (bytes path : List ℕ) : Type 0 where
  pub image : Image
  pub says : Says bytes image
  pub misfit : fitting program image ≡ Err path

abbrev pub IsMisfit : Model → List ℕ → RestoreError → Type 0
IsMisfit program bytes (restore_error.DoesNotFit path) = Misfits program bytes (path_text path)
IsMisfit program bytes _ = Unit {0}

-- The answer is this engine, or memory ran out.
abbrev pub IsAgain : Working → Result Standing RestoreError → Type 0
IsAgain own (Ok found) = at_work found ≡ own
IsAgain own (Err restore_error.Memory) = Unit {0}
IsAgain own (Err _) = ⊥

-- Where the bytes say the image of an engine at work, of either version, the answer is this engine.
abbrev pub GivesAgain : Model → List ℕ → Result Standing RestoreError → Type 0
GivesAgain program bytes result =
    (version : Version) (engine : Engine) (tree : Sim) → engine.tree ≡ Some tree → StandsIf program engine.tree → StandsAt program engine
    → Says bytes (image_of program version engine tree) → IsAgain (working program engine) result

-- why no tree was restored, as why no engine was
abbrev pub told_as : RestoreEnd → RestoreError
told_as (restore_end.DoesNotFit path) = restore_error.DoesNotFit path
told_as restore_end.Memory = restore_error.Memory
