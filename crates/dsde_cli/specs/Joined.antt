-- A run that is cut, stored and taken up again is the whole run. This project's profile.
use Rattle.std.specs.Prelude.{◌≡◌, ◌++◌, ◌+◌, ◌^◌, ◌≤◌, ℕ, List, Some}
use Rattle.dsde_language.specs.Right.{IsRight}
use Rattle.dsde_sim_tree.specs.declared.event.Event.TheVariants as event
use Rattle.dsde_sim_tree.specs.declared.event.Finish.{Finish}
use Rattle.dsde_sim_tree.specs.declared.sim.Sim.{Sim}
use Rattle.dsde_run_free.specs.given.sim_working.Working.{working}
use Rattle.dsde_image.specs.declared.image.Version.{Version}
use Rattle.dsde_cli_status.specs.given.trace.pick_Pick.{Pick}
use Rattle.dsde_sound_runs.specs.given.run_meaning.Run.{Run}
use Rattle.dsde_cli.specs.LawCut.{CanGoOn}
use Rattle.dsde_run_free.specs.given.run.Run.{Running, event_text, kept_text, records_in, run}
use Rattle.dsde_run_free.specs.given.run.Resumed.{resumed}
use Rattle.dsde_run_free.specs.given.run.SavedRuns.{text_left}
use Rattle.dsde_run_free.specs.given.run.Saved.{IsOf, IsRestored, image_of}

-- The first text without its last line, and then the later text, is the whole; and the whole run ends as the
-- later one does, with the same engine.
pub record AreJoined (own : Running) (pick : Pick) (first later whole : Run) : Type 0 where
  pub front : List ℕ
  pub how : Finish
  pub turns : ℕ
  pub time : ℕ
  pub is : kept_text own pick first.events ≡ front ++ event_text own (event.Finish how turns time)
  pub whole_is : kept_text own pick whole.events ≡ front ++ kept_text own pick later.events
  pub end : whole.end ≡ later.end
  pub state : whole.state ≡ later.state

-- The image of the engine with which a run ended, of either version, is restored to that engine; and what this
-- engine tells, where it goes on with the input of the run, is the rest of the whole run.
pub record IsTakenUp (own : Running) (pick : Pick) (bytes : List ℕ) (more : ℕ) (first whole : Run) : Type 0 where
  pub tree : Sim
  pub is : first.state.tree ≡ Some tree
  pub restored : (version : Version) → IsOf own.model (image_of own.model version first.state tree) (working own.model first.state)
  pub joined : AreJoined own pick first (resumed own bytes more first.state) whole

-- It is so of each run of a program on an input that can go on, and of the run of all the turns.
abbrev pub RunsAreTakenUp : Type 0
RunsAreTakenUp =
    (own : Running) (pick : Pick) (bytes : List ℕ) (turns more : ℕ) (first whole : Run)
    → first ≡ run own (records_in own bytes) turns → whole ≡ run own (records_in own bytes) (turns + more)
    → IsRight own.model → CanGoOn first more → IsTakenUp own pick bytes more first whole

-- A text is restored to the engine with which a run ended, and what this engine tells is the rest of the whole run.
pub record IsTakenUpOf (own : Running) (pick : Pick) (bytes text : List ℕ) (more : ℕ) (first whole : Run) : Type 0 where
  pub restored : IsRestored own.model text (working own.model first.state)
  pub joined : AreJoined own pick first (resumed own bytes more first.state) whole

-- It is so of the text that such a run leaves to be stored, if it took at most 2^62 turns.
abbrev pub StoredRunsAreTakenUp : Type 0
StoredRunsAreTakenUp =
    (own : Running) (pick : Pick) (bytes text : List ℕ) (turns more : ℕ) (first whole : Run)
    → first ≡ run own (records_in own bytes) turns → whole ≡ run own (records_in own bytes) (turns + more)
    → IsRight own.model → CanGoOn first more → turns ≤ 2 ^ 62 → text_left own.model first ≡ Some text
    → IsTakenUpOf own pick bytes text more first whole
