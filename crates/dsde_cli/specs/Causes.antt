-- Why a status comes.
use Rattle.std.specs.Prelude.{ℕ, ◌≡◌, ◌<◌, ◌+◌, ◌⊎◌, ⊤, List, [], length, map, Option, IfSome, IsSomeAnd, Result, Ok, Err}
use Rattle.std.specs.List.{range_with_len}
use Rattle.dsde_syntax.specs.declared.decl.Model.{Model}
use Rattle.dsde_syntax.specs.declared.token.Token.{Token}
use Rattle.dsde_lexer.specs.declared.lexer.LexError.{LexError}
use Rattle.dsde_lexer.specs.Lines.{place_of}
use Rattle.dsde_lexer.specs.Tokens.{tokens}
use Rattle.dsde_sound_runs.specs.given.run_meaning.Run.{Spots}
use Rattle.dsde_run_free.specs.given.run.Run.{Running}
use Rattle.dsde_io.specs.declared.shelf.ShelfEnd.{ShelfEnd}
use Rattle.dsde_io.specs.declared.shelf.ShelfEnd.TheVariants as shelf_end
use Rattle.dsde_io.specs.Held.{Bytes}
use Rattle.dsde_cli_status.specs.given.cli_verdict.refusal_Refusal.{Refusal}
use Rattle.dsde_cli_status.specs.given.cli_verdict.Verdict.{Accepts, Refuses}
use Rattle.dsde_cli.specs.Back.{CauseBack, IsBeforeBack}
use Rattle.dsde_cli.specs.Loads.{CauseUnread, Has, Under}
use Rattle.dsde_cli.specs.Saved.{IsOfStored}
use Rattle.dsde_cli_status.specs.declared.status.Status.{Status}
use Rattle.dsde_cli_status.specs.declared.status.Status.TheVariants.{Done, Refused, Usage, Unread, Unwritten, Memory}
use Rattle.dsde_cli_status.specs.declared.status.What.TheVariants as what
use Rattle.dsde_cli_status.specs.declared.status.Why.TheVariants as why

-- The bytes are accepted.
pub record AcceptsSome (bytes : List ℕ) : Type 0 where
  pub model : Model
  pub accepts : Accepts bytes model

-- The line and the column of each place of a text that is cut so: of each token, and of the end.
abbrev pub spots_in : List ℕ → Result (List Token) LexError → Spots
spots_in bytes (Ok cut) = map (place_of bytes cut) (range_with_len 0 (length cut + 1))
spots_in bytes (Err error) = []

-- The line and the column of each place of a text.
abbrev pub spots_of : List ℕ → Spots
spots_of bytes = spots_in bytes (tokens bytes)

-- The bytes are accepted, with this model, which has its places there.
pub record Runs (bytes : List ℕ) (own : Running) : Type 0 where
  pub accepts : Accepts bytes own.model
  pub spots : own.spots ≡ spots_of bytes

-- The bytes are accepted, with some model.
pub record RunsSome (bytes : List ℕ) : Type 0 where
  pub own : Running
  pub runs : Runs bytes own

-- The most bytes of a model's text.
abbrev pub LONGEST_MODEL : ℕ
LONGEST_MODEL = 1_048_576

-- Why a status comes where the words ask for a check of the model of this name.
abbrev pub CauseCheck : List ℕ → Option Bytes → (ShelfFails SinkFails : Type 0) → Status → Type 0
CauseCheck name held ShelfFails SinkFails Done = Under name held AcceptsSome
CauseCheck name held ShelfFails SinkFails (Refused kind line column) = Under name held (λ bytes. Refuses bytes kind line column)
CauseCheck name held ShelfFails SinkFails (Unread what.Model because) = CauseUnread LONGEST_MODEL name held ShelfFails because
CauseCheck name held ShelfFails SinkFails (Unwritten what.Output) = Under name held AcceptsSome × SinkFails
CauseCheck name held ShelfFails SinkFails Memory = ⊤
CauseCheck name held ShelfFails SinkFails other = ⊥

-- The shelf tells that bytes are under the name which are accepted, with this model and its places.
abbrev pub Holds : List ℕ → Option Bytes → Running → Type 0
Holds name held own = Has name held (λ bytes. Runs bytes own)

-- The shelf tells that bytes are under the name which are accepted, with this model.
abbrev pub HoldsModel : List ℕ → Option Bytes → Model → Type 0
HoldsModel name held model = Has name held (λ bytes. Accepts bytes model)

-- The shelf tells what it holds, and nothing under the name is a model that runs.
abbrev pub HoldsNone : List ℕ → Option Bytes → Type 0
HoldsNone name held = IsSomeAnd held (λ map. IfSome (map name) (λ bytes. ¬ (RunsSome bytes)))

-- The shelf tells what it holds, and nothing under the name is accepted.
abbrev pub HoldsNoModel : List ℕ → Option Bytes → Type 0
HoldsNoModel name held = IsSomeAnd held (λ map. IfSome (map name) (λ bytes. ¬ (AcceptsSome bytes)))

-- The status tells this refusal, unless the load failed or memory ran out.
abbrev pub Tells : Refusal → ℕ → ℕ → Status → Type 0
Tells kind line column (Refused told_kind told_line told_column) = (told_kind ≡ kind) × (told_line ≡ line) × (told_column ≡ column)
Tells kind line column (Unread what.Model why.Failed) = ⊤
Tells kind line column Memory = ⊤
Tells kind line column other = ⊥

-- The call ended before anything was run or written.
abbrev pub IsBeforeRun : Status → Type 0
IsBeforeRun Usage = ⊤
IsBeforeRun (Refused kind line column) = ⊤
IsBeforeRun (Unread what.Model because) = ⊤
IsBeforeRun status = IsBeforeBack status

-- Why there is no model, where bytes are refused for this.
abbrev pub NoModel : (List ℕ → Refusal → ℕ → ℕ → Type 0) → List ℕ → Option Bytes → Type 0 → Status → Type 0
NoModel Reason name held ShelfFails (Refused kind line column) = Under name held (λ bytes. Reason bytes kind line column)
NoModel Reason name held ShelfFails (Unread what.Model because) = CauseUnread LONGEST_MODEL name held ShelfFails because
NoModel Reason name held ShelfFails Memory = ⊤
NoModel Reason name held ShelfFails other = ⊥

-- Why bytes give no model, where they are refused for this.
abbrev pub NoneIn : (List ℕ → Refusal → ℕ → ℕ → Type 0) → List ℕ → Status → Type 0
NoneIn Reason bytes (Refused kind line column) = Reason bytes kind line column
NoneIn Reason bytes (Unread what.Model why.TooLong) = LONGEST_MODEL < length bytes
NoneIn Reason bytes Memory = ⊤
NoneIn Reason bytes other = ⊥

-- The status of a model that was not loaded.
abbrev pub unread_model : ShelfEnd → Status
unread_model shelf_end.Absent = Unread what.Model why.Absent
unread_model shelf_end.TooLong = Unread what.Model why.TooLong
unread_model shelf_end.Failed = Unread what.Model why.Failed
unread_model shelf_end.Memory = Memory

-- The status is one of an answer, and the sink failed where it says so.
abbrev pub IsOfAnswer : Type 0 → Status → Type 0
IsOfAnswer SinkFails Done = ⊤
IsOfAnswer SinkFails (Unwritten what.Output) = SinkFails
IsOfAnswer SinkFails Memory = ⊤
IsOfAnswer SinkFails other = ⊥

-- Why a status comes where the words ask for a run of the model of this name, whose image is stored under this
-- one, if one is given: there is no model that runs, for this reason, or there is, and the run came to this.
abbrev pub Cause : List ℕ → Option (List ℕ) → Option Bytes → (ShelfFails SourceFails SinkFails : Type 0) → Status → Type 0
Cause name save held ShelfFails SourceFails SinkFails status =
    NoModel Refuses name held ShelfFails status ⊎ (Under name held RunsSome × IsOfStored save ShelfFails SourceFails SinkFails status)

-- The run of a text that is accepted was taken up again with the image under this name, and came to this.
pub record CauseTakenUp (file : List ℕ) (save : Option (List ℕ)) (held : Option Bytes) (ShelfFails SourceFails SinkFails : Type 0) (status : Status) (text : List ℕ) : Type 0 where
  pub own : Running
  pub runs : Runs text own
  pub cause : CauseBack own.model file save held ShelfFails SourceFails SinkFails status

-- Why a status comes where the words ask for a run of the model of this name to be taken up again.
abbrev pub CauseResume : List ℕ → List ℕ → Option (List ℕ) → Option Bytes → (ShelfFails SourceFails SinkFails : Type 0) → Status → Type 0
CauseResume name file save held ShelfFails SourceFails SinkFails status =
    NoModel Refuses name held ShelfFails status ⊎ Under name held (CauseTakenUp file save held ShelfFails SourceFails SinkFails status)
