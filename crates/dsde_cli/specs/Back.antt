-- How a call ends that takes a run up again, what it leaves, and why.
use Rattle.std.specs.Prelude.{ℕ, ◌≡◌, ◌≢◌, ◌≤◌, ◌^◌, ◌⊎◌, ⊤, true, is_some, List, length, Option, Some, IfSome, IsSomeAnd, Result, Ok, Err}
use Rattle.serde_json.specs.Data.{Data}
use Rattle.dsde_syntax.specs.declared.decl.Model.{Model}
use Rattle.dsde_values.specs.Path.{path_text}
use Rattle.dsde_sim_tree.specs.declared.event.Finish.{Finish}
use Rattle.dsde_sim_tree.specs.Engine.{Engine}
use Rattle.dsde_run_free.specs.given.sim_working.Working.{working}
use Rattle.dsde_run_free.specs.given.core_engine.Standing.{Standing}
use Rattle.dsde_cli_status.specs.given.trace.pick_Pick.{Pick}
use Rattle.dsde_image.specs.Image.{IsImage}
use Rattle.dsde_image.specs.declared.image.Image.{Image}
use Rattle.dsde_image.specs.Json.{image_data}
use Rattle.dsde_image.specs.Text.{IsReading}
use Rattle.dsde_run_free.specs.given.run.Saved.{IsRestored, Misfits}
use Rattle.dsde_run_free.specs.given.run.restoring_RestoreError.{RestoreError}
use Rattle.dsde_run_free.specs.given.run.restoring_RestoreError_TheVariants as restore_error
use Rattle.dsde_run_free.specs.given.run.Run.{Running}
use Rattle.dsde_run_free.specs.given.run.resuming_Unresumed.{Unresumed}
use Rattle.dsde_run_free.specs.given.run.resuming_Unresumed_TheVariants as unresumed
use Rattle.dsde_run_free.specs.given.run.Resumed.{HasFew, records_for, resumed, resumed_on}
use Rattle.dsde_io.specs.Held.{Bytes}
use Rattle.dsde_io.specs.declared.shelf.ShelfEnd.{ShelfEnd}
use Rattle.dsde_io.specs.declared.shelf.ShelfEnd.TheVariants as shelf_end
use Rattle.dsde_cli_status.specs.Note.{save_text}
use Rattle.dsde_cli_status.specs.declared.status.SaveFault.{SaveFault}
use Rattle.dsde_cli_status.specs.declared.status.SaveFault.TheVariants as save
use Rattle.dsde_cli_status.specs.declared.status.Status.{Status}
use Rattle.dsde_cli_status.specs.declared.status.Status.TheVariants.{Unread, Memory, BadSave}
use Rattle.dsde_cli_status.specs.declared.status.What.TheVariants as what
use Rattle.dsde_cli_status.specs.declared.status.Why.TheVariants as why
use Rattle.dsde_cli.specs.Loads.{CauseUnread, Under}
use Rattle.dsde_cli.specs.RunOutcome.{ComesOn, SaysEnd, status_by, status_of}
use Rattle.dsde_cli.specs.Saved.{IsOfStored}

-- The most bytes of an image that is read.
abbrev pub LONGEST_IMAGE : ℕ
LONGEST_IMAGE = 268_435_456

-- The bytes are the image of this engine of the program, and no more than are read.
pub record Restores (program : Model) (engine : Engine) (bytes : List ℕ) : Type 0 where
  pub short : length bytes ≤ LONGEST_IMAGE
  pub restored : IsRestored program bytes (working program engine)

-- The bytes are the image of an engine of the program.
pub record RestoresSome (program : Model) (bytes : List ℕ) : Type 0 where
  pub engine : Engine
  pub restores : Restores program engine bytes

-- The engine is one of the program that may go on: it has a tree, no more turns than an image has are done, and no more
-- parts were born than may be alive.
pub record IsReady (program : Model) (own : Standing) : Type 0 where
  pub of : own.program ≡ program
  pub fresh : is_some own.engine.tree ≡ true
  pub early : own.engine.turn ≤ 2 ^ 62
  pub young : own.born ≤ 131_072

-- What is wrong with bytes that are the image of no engine of the program: they say no JSON value; they say
-- one, but no image; or they say an image that does not fit, and this is the first path at which it does not.
abbrev pub RefusesSave : Model → SaveFault → List ℕ → Type 0
RefusesSave program save.NotJson bytes = (seen : Data) → ¬ (IsReading bytes seen)
RefusesSave program save.WrongForm bytes = (seen : Data) × IsReading bytes seen × ((image : Image) → IsImage image → seen ≢ image_data image)
RefusesSave program (save.DoesNotFit path) bytes = Misfits program bytes (path_text path)
RefusesSave program save.FewRecords bytes = ⊥

-- This is wrong with the bytes, and they are no more than are read.
pub record IsRefusedFor (program : Model) (fault : SaveFault) (bytes : List ℕ) : Type 0 where
  pub short : length bytes ≤ LONGEST_IMAGE
  pub refuses : RefusesSave program fault bytes

-- What is wrong with bytes of which no engine was restored, unless memory ran out.
abbrev pub unrestored : RestoreError → Status
unrestored restore_error.NotJson = BadSave save.NotJson
unrestored restore_error.WrongForm = BadSave save.WrongForm
unrestored (restore_error.DoesNotFit path) = BadSave (save.DoesNotFit path)
unrestored restore_error.Memory = Memory

-- The status of an image that was not loaded.
abbrev pub unread_save : ShelfEnd → Status
unread_save shelf_end.Absent = Unread what.Save why.Absent
unread_save shelf_end.TooLong = Unread what.Save why.TooLong
unread_save shelf_end.Failed = Unread what.Save why.Failed
unread_save shelf_end.Memory = Memory

-- The status of a run that was taken up again and came to this.
abbrev pub status_back : Result Finish Unresumed → Status
status_back (Ok how) = status_of how
status_back (Err (unresumed.Cut why)) = status_by (Err why)
status_back (Err unresumed.FewRecords) = BadSave save.FewRecords

-- Why there is no engine of the image under this name.
abbrev pub NoSave : Model → List ℕ → Option Bytes → (ShelfFails : Type 0) → Status → Type 0
NoSave program file held ShelfFails (Unread what.Save because) = CauseUnread LONGEST_IMAGE file held ShelfFails because
NoSave program file held ShelfFails (BadSave fault) = Under file held (RefusesSave program fault)
NoSave program file held ShelfFails Memory = ⊤
NoSave program file held ShelfFails other = ⊥

-- Why bytes are the image of no engine, or memory ran out.
abbrev pub NoneRestored : Model → List ℕ → Status → Type 0
NoneRestored program bytes (BadSave fault) = RefusesSave program fault bytes
NoneRestored program bytes Memory = ⊤
NoneRestored program bytes other = ⊥

-- The shelf tells what it holds, and nothing under the name is the image of an engine of the program.
abbrev pub NoneSaved : Model → List ℕ → Option Bytes → Type 0
NoneSaved program file held = IsSomeAnd held (λ map. IfSome (map file) (λ bytes. ¬ (RestoresSome program bytes)))

-- The status tells what is wrong with the image, unless a load failed or memory ran out.
abbrev pub TellsSave : SaveFault → Status → Type 0
TellsSave fault (BadSave told) = save_text told ≡ save_text fault
TellsSave fault (Unread what.Model why.Failed) = ⊤
TellsSave fault (Unread what.Save why.Failed) = ⊤
TellsSave fault Memory = ⊤
TellsSave fault other = ⊥

-- There is no engine, and the status tells what is wrong with its image, unless a load failed or memory ran out.
abbrev pub IsRefused : SaveFault → Result Standing Status → Type 0
IsRefused fault (Ok own) = ⊥
IsRefused fault (Err status) = TellsSave fault status

-- The status is one that may come though there is an image to load.
abbrev pub IsLoadCut : Status → Type 0
IsLoadCut (Unread what.Save why.Failed) = ⊤
IsLoadCut Memory = ⊤
IsLoadCut other = ⊥

-- A run was taken up again with an engine, and went on with an input: `left` says what the source has left,
-- `written` and `out` what the sink had and has, and `pick` which lines are kept. Where the input has too few
-- records, and where its image could not be loaded, nothing was written.
abbrev pub ComesBack : Running → Pick → ℕ → Engine → List ℕ → Option (List ℕ) → List ℕ → Option (List ℕ) → Status → Type 0
ComesBack own pick turns engine input left written out (BadSave save.FewRecords) = HasFew own engine input × (out ≡ Some written)
ComesBack own pick turns engine input left written out (Unread what.Save why.Failed) = out ≡ Some written
ComesBack own pick turns engine input left written out status = ComesOn own pick (resumed_on own turns engine) (records_for own engine input) input left written out status

-- The status says how that run ended, or that there are too few records.
abbrev pub SaysBack : Running → ℕ → Engine → List ℕ → Option (List ℕ) → Status → Type 0
SaysBack own turns engine input left (BadSave save.FewRecords) = HasFew own engine input
SaysBack own turns engine input left status = SaysEnd (resumed own input turns engine).end left status

-- The status is one of a run that was taken up again, and its device failed where it says so.
abbrev pub IsOfBack : Option (List ℕ) → (ShelfFails SourceFails SinkFails : Type 0) → Status → Type 0
IsOfBack name ShelfFails SourceFails SinkFails (BadSave save.FewRecords) = ⊤
IsOfBack name ShelfFails SourceFails SinkFails status = IsOfStored name ShelfFails SourceFails SinkFails status

-- The status is one of a run that is taken up again where there is an image to load.
abbrev pub IsMade : Option (List ℕ) → (ShelfFails SourceFails SinkFails : Type 0) → Status → Type 0
IsMade name ShelfFails SourceFails SinkFails (Unread what.Save why.Failed) = ShelfFails
IsMade name ShelfFails SourceFails SinkFails status = IsOfBack name ShelfFails SourceFails SinkFails status

-- Why a status comes where the run of a program is taken up again with the image under this name.
abbrev pub CauseBack : Model → List ℕ → Option (List ℕ) → Option Bytes → (ShelfFails SourceFails SinkFails : Type 0) → Status → Type 0
CauseBack program file name held ShelfFails SourceFails SinkFails status =
    NoSave program file held ShelfFails status ⊎ (Under file held (RestoresSome program) × IsOfBack name ShelfFails SourceFails SinkFails status)

-- The call ended before anything of the run was read or written.
abbrev pub IsBeforeBack : Status → Type 0
IsBeforeBack (Unread what.Save because) = ⊤
IsBeforeBack (BadSave save.NotJson) = ⊤
IsBeforeBack (BadSave save.WrongForm) = ⊤
IsBeforeBack (BadSave (save.DoesNotFit path)) = ⊤
IsBeforeBack other = ⊥
