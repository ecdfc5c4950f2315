-- A run that is stored, and taken up again from what was stored, is the run of all the turns. This project's
-- profile.
use Rattle.std.specs.Prelude.{◌≡◌, ◌+◌, ◌^◌, ◌≤◌, ℕ, List, Some}
use Rattle.dsde_cli_status.specs.given.trace.pick_Pick.{Pick}
use Rattle.dsde_sound_runs.specs.given.run_meaning.Run.{Run}
use Rattle.dsde_run_free.specs.given.run.Run.{Running, records_in, run}
use Rattle.dsde_cli.specs.LawCut.{CanGoOn}
use Rattle.dsde_cli.specs.Joined.{IsTakenUpOf}
use Rattle.dsde_run_free.specs.given.run.SavedRuns.{text_left}
use Rattle.dsde_cli.specs.Causes.{Runs}

-- For each text that is accepted, with the model and the places that it has, each input, each selection of lines,
-- and all turns of a first run that ended by its bound, or quietly before it goes on for some: the text that this
-- run leaves to be stored is restored to its last engine, and what that tells on the same input is the rest of
-- the run of all the turns.
abbrev pub CutLaw : Type 0
CutLaw =
    (model : List ℕ) (own : Running) (pick : Pick) (bytes text : List ℕ) (turns more : ℕ) (first whole : Run)
    → Runs model own → first ≡ run own (records_in own bytes) turns → whole ≡ run own (records_in own bytes) (turns + more)
    → CanGoOn first more → turns ≤ 2 ^ 62 → text_left own.model first ≡ Some text
    → IsTakenUpOf own pick bytes text more first whole
