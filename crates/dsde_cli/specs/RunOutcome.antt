-- How a call ends that runs a model, and what it leaves.
use Rattle.std.specs.Prelude.{ℕ, ◌≡◌, ◌⊎◌, ⊤, List, [], ◌++◌, take, Option, Some, IsSomeAnd, Result, Ok, Err}
use Rattle.dsde_input_records.specs.Records.{Records}
use Rattle.dsde_sim_tree.specs.declared.event.Finish.{Finish}
use Rattle.dsde_sim_tree.specs.declared.event.Finish.TheVariants as how
use Rattle.dsde_sound_runs.specs.given.run_meaning.Run.{Run}
use Rattle.dsde_sim_tree.specs.Engine.{Engine}
use Rattle.dsde_cli_status.specs.given.trace.pick_Pick.{Pick}
use Rattle.dsde_run_free.specs.given.run.run_Cut.{Cut}
use Rattle.dsde_run_free.specs.given.run.run_Cut_TheVariants as cut
use Rattle.dsde_run_free.specs.given.run.Reading.{IsCutShort}
use Rattle.dsde_run_free.specs.given.run.Run.{Running, records_in, kept_text}
use Rattle.dsde_cli_status.specs.declared.status.Status.{Status}
use Rattle.dsde_cli_status.specs.declared.status.Status.TheVariants.{Done, BadInput, ModelFault, Unread, Unwritten, Memory}
use Rattle.dsde_cli_status.specs.declared.status.What.{What}
use Rattle.dsde_cli_status.specs.declared.status.What.TheVariants as what
use Rattle.dsde_cli_status.specs.declared.status.Why.{Why}
use Rattle.dsde_cli_status.specs.declared.status.Why.TheVariants as why

-- The sink gained the whole trace of the run, or those of its lines that are kept.
abbrev pub Writes : Running → Pick → Run → List ℕ → Option (List ℕ) → Type 0
Writes own pick run written out = out ≡ Some (written ++ kept_text own pick run.events)

-- The sink gained a part of that text, from its front.
pub record WritesFront (own : Running) (pick : Pick) (run : Run) (written : List ℕ) (out : Option (List ℕ)) : Type 0 where
  pub count : ℕ
  pub is : out ≡ Some (written ++ take count (kept_text own pick run.events))

-- The run ended by its bound, or quietly, which is where no byte of the input was left.
abbrev pub EndsWell : Option Finish → Option (List ℕ) → Type 0
EndsWell end left = (end ≡ Some how.Bound) ⊎ ((end ≡ Some how.Quiet) × (left ≡ Some []))

-- The status says how the run ended: well, also where its image could not be stored, or by bad input or a
-- fault.
abbrev pub SaysEnd : Option Finish → Option (List ℕ) → Status → Type 0
SaysEnd end left Done = EndsWell end left
SaysEnd end left (Unwritten what.Save) = EndsWell end left
SaysEnd end left (BadInput kind line) = end ≡ Some (how.Input kind line)
SaysEnd end left (ModelFault fault) = end ≡ Some (how.Fault fault)
SaysEnd end left other = ⊤

-- The whole trace was written, and the status says how the run ended.
abbrev pub ComesWhole : Running → Pick → Run → Option (List ℕ) → List ℕ → Option (List ℕ) → Status → Type 0
ComesWhole own pick whole left written out status = Writes own pick whole written out × SaysEnd whole.end left status

-- What a failed reading leaves: of the input, the lines before the first turn whose head is not
-- whole in the bytes taken, which are the front of the trace; of the model, what was written before.
abbrev pub ComesUnread : Running → Pick → (Records → Run) → Records → List ℕ → Option (List ℕ) → List ℕ → Option (List ℕ) → What → Why → Type 0
ComesUnread own pick tells records input left written out what.Input why.Failed =
    IsSomeAnd left (λ after. (engine : Engine) × IsCutShort own pick tells records engine (Some written) out [] input after)
    × WritesFront own pick (tells records) written out
ComesUnread own pick tells records input left written out what.Model why.Failed = out ≡ Some written
ComesUnread own pick tells records input left written out reading because = ⊥

-- A model was run on the records of an input: `tells` says what a run on records tells, `left` what the
-- source has left, `written` and `out` what the sink had and has, and `pick` which lines are kept. Each
-- status comes exactly where the run ended so, and all these lines of the trace were written. A failed
-- read, a failed write and want of memory cut it short; a failed store comes behind the whole trace.
abbrev pub ComesOn : Running → Pick → (Records → Run) → Records → List ℕ → Option (List ℕ) → List ℕ → Option (List ℕ) → Status → Type 0
ComesOn own pick tells records input left written out Done = ComesWhole own pick (tells records) left written out Done
ComesOn own pick tells records input left written out (BadInput kind line) = ComesWhole own pick (tells records) left written out (BadInput kind line)
ComesOn own pick tells records input left written out (ModelFault fault) = ComesWhole own pick (tells records) left written out (ModelFault fault)
ComesOn own pick tells records input left written out (Unread reading because) = ComesUnread own pick tells records input left written out reading because
ComesOn own pick tells records input left written out (Unwritten what.Output) = WritesFront own pick (tells records) written out
ComesOn own pick tells records input left written out (Unwritten what.Save) = ComesWhole own pick (tells records) left written out (Unwritten what.Save)
ComesOn own pick tells records input left written out Memory = WritesFront own pick (tells records) written out
ComesOn own pick tells records input left written out other = ⊥

-- The same from the start of a run, on all records of the input.
abbrev pub Comes : Running → Pick → (Records → Run) → List ℕ → Option (List ℕ) → List ℕ → Option (List ℕ) → Status → Type 0
Comes own pick tells input = ComesOn own pick tells (records_in own input) input

-- The status of a run that ended so.
abbrev pub status_of : Finish → Status
status_of how.Bound = Done
status_of how.Quiet = Done
status_of (how.Input kind line) = BadInput kind line
status_of (how.Fault fault) = ModelFault fault

-- The status of a run that came to this.
abbrev pub status_by : Result Finish Cut → Status
status_by (Ok answer) = status_of answer
status_by (Err cut.ReadFault) = Unread what.Input why.Failed
status_by (Err cut.Unwritten) = Unwritten what.Output
status_by (Err cut.Memory) = Memory

-- The status is one of a run, and its device failed where it says so.
abbrev pub IsOfRun : (SourceFails SinkFails : Type 0) → Status → Type 0
IsOfRun SourceFails SinkFails Done = ⊤
IsOfRun SourceFails SinkFails (BadInput kind line) = ⊤
IsOfRun SourceFails SinkFails (ModelFault fault) = ⊤
IsOfRun SourceFails SinkFails (Unread what.Input why.Failed) = SourceFails
IsOfRun SourceFails SinkFails (Unwritten what.Output) = SinkFails
IsOfRun SourceFails SinkFails Memory = ⊤
IsOfRun SourceFails SinkFails other = ⊥
