-- A run that the words ask for, of a model that the shelf tells.
use Rattle.std.specs.Prelude.{ℕ, List, Option, Some, None}
use Rattle.dsde_io.specs.Held.{Bytes}
use Rattle.dsde_input_records.specs.Records.{Records}
use Rattle.dsde_sound_runs.specs.given.run_meaning.Run.{Run}
use Rattle.dsde_sim_tree.specs.Engine.{Engine}
use Rattle.dsde_run_free.specs.given.run.Run.{Running, running}
use Rattle.dsde_cli.specs.declared.load.Runnable.{Runnable}
use Rattle.dsde_cli.specs.Causes.{Holds}
use Rattle.dsde_cli_command.specs.Commands.{Asked, AsksFree, AsksResume, Task, command_of, checks, runs, resumes, counts, draws}
use Rattle.dsde_cli.specs.Asked.{drawn_on, pick_of, tells_on}
use Rattle.dsde_cli.specs.Back.{Restores}
use Rattle.dsde_cli.specs.Loads.{Has}
use Rattle.dsde_cli_status.specs.given.trace.pick_Pick.{Pick}

-- what runs, of what was loaded
abbrev pub own_of : Runnable → Running
own_of loaded = running loaded.model loaded.places

-- The words ask for a run, and the shelf tells that bytes are under its model's name which are
-- accepted, with this model and its places.
pub record Loaded (words : List (List ℕ)) (held : Option Bytes) : Type 0 where
  pub asked : Asked words
  pub own : Running
  pub holds : Holds asked.run.model held own

-- What the run tells on records.
abbrev pub tells_of : {words : List (List ℕ)} {held : Option Bytes} → Loaded words held → Records → Run
tells_of loaded = tells_on loaded.own loaded.asked.run

abbrev pub pick_in : {words : List (List ℕ)} {held : Option Bytes} → Loaded words held → Pick
pick_in loaded = pick_of loaded.asked.run.kept

-- The words ask for a run to be taken up again, and the shelf tells that bytes are under its model's name
-- which are accepted, with this model and its places, and others under the name of its image that are the
-- image of this engine of the model.
pub record TakenUp (words : List (List ℕ)) (held : Option Bytes) : Type 0 where
  pub asked : AsksResume words
  pub own : Running
  pub holds : Holds asked.resume.run.model held own
  pub engine : Engine
  pub saved : Has asked.resume.file held (Restores own.model engine)

abbrev pub pick_back : {words : List (List ℕ)} {held : Option Bytes} → TakenUp words held → Pick
pick_back taken_up = pick_of taken_up.asked.resume.run.kept

-- the most turns that it goes on for
abbrev pub turns_back : {words : List (List ℕ)} {held : Option Bytes} → TakenUp words held → ℕ
turns_back taken_up = taken_up.asked.resume.run.turns

-- The words ask for a run in orders that are drawn, and the shelf tells that bytes are under its model's name
-- which are accepted, with this model and its places.
pub record LoadedFree (words : List (List ℕ)) (held : Option Bytes) : Type 0 where
  pub asked : AsksFree words
  pub own : Running
  pub holds : Holds asked.free.model held own

-- What that run tells on records.
unfoldable pub tells_free : {words : List (List ℕ)} {held : Option Bytes} → LoadedFree words held → Records → Run
tells_free loaded = drawn_on loaded.own loaded.asked.free.seed loaded.asked.free.turns

-- the name under which a task stores the image of its run, if it does
abbrev pub save_in : Option Task → Option (List ℕ)
save_in None = None
save_in (Some (checks check)) = None
save_in (Some (runs run)) = run.save
save_in (Some (resumes resume)) = resume.run.save
save_in (Some (counts big)) = None
save_in (Some (draws free)) = None

-- the name under which the words ask for the image of a run to be stored, if they do
abbrev pub save_of : List (List ℕ) → Option (List ℕ)
save_of words = save_in (command_of words)
