-- Runs and checks of accepted models come to their end where no device fails.
use Rattle.std.proofs.Common.{◌≡◌, ◌⊎◌, ℕ, List, Option, Some, None, inl, inr, refl, sym, subst, ◌∙◌}
use Rattle.std.specs.Prelude.{IfSome, IsSomeAnd}
use Rattle.dsde_input_records.specs.Records.{Records}
use Rattle.dsde_io.specs.Held.{Bytes}
use Rattle.dsde_language.specs.Right.{IsRight}
use Rattle.dsde_sim_tree.specs.declared.event.Finish.{Finish}
use Rattle.dsde_sim_tree.specs.declared.event.Finish.TheVariants as how
use Rattle.dsde_sound_runs.specs.given.run_meaning.Run.{Run}
use Rattle.dsde_run_free.specs.given.run.Run.{Running, records_in, run}
use Rattle.dsde_run_free.specs.Free.{free_run}
use Rattle.dsde_sound_runs.specs.Ends.{HasEnd, InputsArrive, RunsEnd}
use Rattle.dsde_cli.specs.Ends.{DrawnRunsEnd}
use Rattle.dsde_cli_status.specs.declared.status.Status.{Status}
use Rattle.dsde_cli_status.specs.declared.status.Status.TheVariants.{Done, Refused, Usage, BadInput, ModelFault, Unread, Unwritten, Memory, BadSave}
use Rattle.dsde_cli_status.specs.declared.status.What.TheVariants as what
use Rattle.dsde_cli_status.specs.declared.status.Why.TheVariants as why
use Rattle.dsde_sim_tree.specs.Engine.{Engine}
use Rattle.dsde_run_free.specs.given.run.Resumed.{resumed}
use Rattle.dsde_cli_status.specs.declared.status.SaveFault.TheVariants as save
use Rattle.dsde_cli.specs.Back.{IsMade, SaysBack}
use Rattle.dsde_cli.specs.RunOutcome.{SaysEnd, status_of}
use Rattle.dsde_cli.specs.Saved.{IsOfStored}
use Rattle.dsde_cli.specs.Causes.{Holds, IsOfAnswer, NoModel, Runs}
use Rattle.dsde_cli.specs.Outcome.{Completes, CompletesBack, CompletesCheck}
use Rattle.dsde_cli_status.specs.given.cli_verdict.Verdict.{Refuses}
use Rattle.dsde_cli.proofs.Loads.{IsCut}

-- what is accepted is right
accepts-right : (bytes : List ℕ) (own : Running) → Runs bytes own → IsRight own.model
accepts-right bytes own runs = record { shaped = runs.accepts.sound.gives.shaped; sound = runs.accepts.sound.sound }

some-right : (found : Option (List ℕ)) (own : Running) → IsSomeAnd found (λ bytes. Runs bytes own) → IsRight own.model
some-right None own runs = absurd runs
some-right (Some bytes) own runs = accepts-right bytes own runs

pub holds-right : (name : List ℕ) (held : Option Bytes) (own : Running) → Holds name held own → IsRight own.model
holds-right name None own holds = absurd holds
holds-right name (Some map) own holds = some-right (map name) own holds

-- where no model was loaded though there is one, and the shelf did not fail, memory ran out
pub cut-memory : (name : List ℕ) (held : Option Bytes) (ShelfFails : Type 0) (status : Status) → NoModel Refuses name held ShelfFails status → IsCut status → ¬ ShelfFails → status ≡ Memory
cut-memory name held ShelfFails (Unread what.Model why.Failed) none cut shelf = absurd (shelf none)
cut-memory name held ShelfFails Memory none cut shelf = refl
cut-memory name held ShelfFails (Unread what.Model why.Absent) none cut shelf = absurd cut
cut-memory name held ShelfFails (Unread what.Model why.TooLong) none cut shelf = absurd cut
cut-memory name held ShelfFails (Unread what.Save because) none cut shelf = absurd cut
cut-memory name held ShelfFails (Unread what.Input because) none cut shelf = absurd cut
cut-memory name held ShelfFails (Unread what.Output because) none cut shelf = absurd cut
cut-memory name held ShelfFails (Refused kind line column) none cut shelf = absurd cut
cut-memory name held ShelfFails Done none cut shelf = absurd cut
cut-memory name held ShelfFails Usage none cut shelf = absurd cut
cut-memory name held ShelfFails (BadInput kind line) none cut shelf = absurd cut
cut-memory name held ShelfFails (ModelFault fault) none cut shelf = absurd cut
cut-memory name held ShelfFails (Unwritten writing) none cut shelf = absurd cut
cut-memory name held ShelfFails (BadSave fault) none cut shelf = absurd cut

module _ (inputs : InputsArrive) (name : List ℕ) (held : Option Bytes) (own : Running) (holds : Holds name held own) where
  right : IsRight own.model
  right = holds-right name held own holds

  -- its runs end, and those in drawn orders
  pub run-ends : RunsEnd → (turns : ℕ) (bytes : List ℕ) → HasEnd (run own (records_in own bytes) turns)
  run-ends ends turns bytes = ends own.model own.spots (records_in own bytes) turns right (inputs own.model bytes right)

  pub drawn-ends : DrawnRunsEnd → (seed turns : ℕ) (bytes : List ℕ) → HasEnd (free_run own seed (records_in own bytes) turns)
  drawn-ends ends seed turns bytes = ends own seed (records_in own bytes) turns right (inputs own.model bytes right)

module _ (own : Running) (tells : Records → Run) (has-end : (bytes : List ℕ) → HasEnd (tells (records_in own bytes))) where
  -- memory ran out
  spent : (input : Option (List ℕ)) → Completes own tells input Memory
  spent None = record { how = how.Bound; end = tt; is = inr refl }
  spent (Some bytes) = let here : HasEnd (tells (records_in own bytes)) = has-end bytes in record { how = here.how; end = here.is; is = inr refl }

  -- where the source does not tell its bytes, it is the end that the status says
  by-end : (end : Finish) (input : Option (List ℕ)) → IfSome input (λ bytes. (tells (records_in own bytes)).end ≡ Some end) → Completes own tells input (status_of end)
  by-end end input is = record { how = end; end = is; is = inl refl }

  done-by : (input left : Option (List ℕ)) → IfSome input (λ bytes. SaysEnd (tells (records_in own bytes)).end left Done) → Completes own tells input Done
  done-by None left says = by-end how.Bound None tt
  done-by (Some bytes) left (inl bound) = by-end how.Bound (Some bytes) bound
  done-by (Some bytes) left (inr quiet) = by-end how.Quiet (Some bytes) quiet.0

  -- a run that was made
  pub run-completes : (name : Option (List ℕ)) (ShelfFails SourceFails SinkFails : Type 0) (input left : Option (List ℕ)) (status : Status) → IsOfStored name ShelfFails SourceFails SinkFails status
      → IfSome input (λ bytes. SaysEnd (tells (records_in own bytes)).end left status) → ¬ ShelfFails → ¬ SourceFails → ¬ SinkFails → Completes own tells input status
  run-completes name ShelfFails SourceFails SinkFails input left Done is says shelf source sink = done-by input left says
  run-completes name ShelfFails SourceFails SinkFails input left (BadInput kind line) is says shelf source sink = by-end (how.Input kind line) input says
  run-completes name ShelfFails SourceFails SinkFails input left (ModelFault fault) is says shelf source sink = by-end (how.Fault fault) input says
  run-completes name ShelfFails SourceFails SinkFails input left (Unread what.Input why.Failed) is says shelf source sink = absurd (source is)
  run-completes name ShelfFails SourceFails SinkFails input left (Unread what.Input why.Absent) is says shelf source sink = absurd is
  run-completes name ShelfFails SourceFails SinkFails input left (Unread what.Input why.TooLong) is says shelf source sink = absurd is
  run-completes name ShelfFails SourceFails SinkFails input left (Unread what.Model because) is says shelf source sink = absurd is
  run-completes name ShelfFails SourceFails SinkFails input left (Unread what.Save because) is says shelf source sink = absurd is
  run-completes name ShelfFails SourceFails SinkFails input left (Unread what.Output because) is says shelf source sink = absurd is
  run-completes name ShelfFails SourceFails SinkFails input left (Unwritten what.Output) is says shelf source sink = absurd (sink is)
  run-completes name ShelfFails SourceFails SinkFails input left (Unwritten what.Input) is says shelf source sink = absurd is
  run-completes name ShelfFails SourceFails SinkFails input left (Unwritten what.Model) is says shelf source sink = absurd is
  run-completes name ShelfFails SourceFails SinkFails input left (Unwritten what.Save) is says shelf source sink = absurd (shelf is.1)
  run-completes name ShelfFails SourceFails SinkFails input left Memory is says shelf source sink = spent input
  run-completes name ShelfFails SourceFails SinkFails input left (Refused kind line column) is says shelf source sink = absurd is
  run-completes name ShelfFails SourceFails SinkFails input left Usage is says shelf source sink = absurd is
  run-completes name ShelfFails SourceFails SinkFails input left (BadSave fault) is says shelf source sink = absurd is

  -- a run of which no model was loaded
  pub none-completes : (name : List ℕ) (held : Option Bytes) (ShelfFails : Type 0) (input : Option (List ℕ)) (status : Status) → NoModel Refuses name held ShelfFails status → IsCut status → ¬ ShelfFails → Completes own tells input status
  none-completes name held ShelfFails input status none cut shelf = subst (Completes own tells input) (sym (cut-memory name held ShelfFails status none cut shelf)) (spent input)

-- The end is told in the report, unless memory ran out.
pub completes-reported : (own : Running) (tells : Records → Run) (input : Option (List ℕ)) (status result : Status) → Completes own tells input status → (result ≡ status) ⊎ (result ≡ Memory) → Completes own tells input result
completes-reported own tells input status result completes (inl same) = subst (Completes own tells input) (sym same) completes
completes-reported own tells input status result completes (inr ended) = record { how = completes.how; end = completes.end; is = inr ended }

-- a check that was answered
pub check-completes : (SinkFails : Type 0) (status : Status) → IsOfAnswer SinkFails status → ¬ SinkFails → CompletesCheck status
check-completes SinkFails Done is sink = inl refl
check-completes SinkFails Memory is sink = inr refl
check-completes SinkFails (Unwritten what.Output) is sink = absurd (sink is)
check-completes SinkFails (Unwritten what.Input) is sink = absurd is
check-completes SinkFails (Unwritten what.Model) is sink = absurd is
check-completes SinkFails (Unwritten what.Save) is sink = absurd is
check-completes SinkFails (Unread reading because) is sink = absurd is
check-completes SinkFails (BadInput kind line) is sink = absurd is
check-completes SinkFails (ModelFault fault) is sink = absurd is
check-completes SinkFails (Refused kind line column) is sink = absurd is
check-completes SinkFails Usage is sink = absurd is
check-completes SinkFails (BadSave fault) is sink = absurd is

pub none-checked : (name : List ℕ) (held : Option Bytes) (ShelfFails : Type 0) (status : Status) → NoModel Refuses name held ShelfFails status → IsCut status → ¬ ShelfFails → CompletesCheck status
none-checked name held ShelfFails status none cut shelf = inr (cut-memory name held ShelfFails status none cut shelf)

pub check-reported : (status result : Status) → CompletesCheck status → (result ≡ status) ⊎ (result ≡ Memory) → CompletesCheck result
check-reported status result (inl is) (inl same) = inl (same ∙ is)
check-reported status result (inr is) (inl same) = inr (same ∙ is)
check-reported status result completes (inr ended) = inr ended

-- A run that was taken up again came to its end.
module _ (own : Running) (turns : ℕ) (engine : Engine) where
  back-end : (answer : Finish) (input : Option (List ℕ)) → IfSome input (λ bytes. (resumed own bytes turns engine).end ≡ Some answer) → CompletesBack own turns engine input (status_of answer)
  back-end answer input is = inl (record { how = answer; end = is; is = refl })

  back-done : (input left : Option (List ℕ)) → IfSome input (λ bytes. SaysBack own turns engine bytes left Done) → CompletesBack own turns engine input Done
  back-done None left says = back-end how.Bound None tt
  back-done (Some bytes) left (inl bound) = back-end how.Bound (Some bytes) bound
  back-done (Some bytes) left (inr quiet) = back-end how.Quiet (Some bytes) quiet.0

  pub back-made : (name : Option (List ℕ)) (ShelfFails SourceFails SinkFails : Type 0) (input left : Option (List ℕ)) (status : Status) → IsMade name ShelfFails SourceFails SinkFails status →
      IfSome input (λ bytes. SaysBack own turns engine bytes left status) → ¬ ShelfFails → ¬ SourceFails → ¬ SinkFails → CompletesBack own turns engine input status
  back-made name ShelfFails SourceFails SinkFails input left Done is says shelf source sink = back-done input left says
  back-made name ShelfFails SourceFails SinkFails input left (BadInput kind line) is says shelf source sink = back-end (how.Input kind line) input says
  back-made name ShelfFails SourceFails SinkFails input left (ModelFault fault) is says shelf source sink = back-end (how.Fault fault) input says
  back-made name ShelfFails SourceFails SinkFails input left (BadSave save.FewRecords) is says shelf source sink = inr (inl (refl, says))
  back-made name ShelfFails SourceFails SinkFails input left (BadSave save.NotJson) is says shelf source sink = absurd is
  back-made name ShelfFails SourceFails SinkFails input left (BadSave save.WrongForm) is says shelf source sink = absurd is
  back-made name ShelfFails SourceFails SinkFails input left (BadSave (save.DoesNotFit path)) is says shelf source sink = absurd is
  back-made name ShelfFails SourceFails SinkFails input left Memory is says shelf source sink = inr (inr refl)
  back-made name ShelfFails SourceFails SinkFails input left (Unread what.Input why.Failed) is says shelf source sink = absurd (source is)
  back-made name ShelfFails SourceFails SinkFails input left (Unread what.Input why.Absent) is says shelf source sink = absurd is
  back-made name ShelfFails SourceFails SinkFails input left (Unread what.Input why.TooLong) is says shelf source sink = absurd is
  back-made name ShelfFails SourceFails SinkFails input left (Unread what.Model because) is says shelf source sink = absurd is
  back-made name ShelfFails SourceFails SinkFails input left (Unread what.Save why.Failed) is says shelf source sink = absurd (shelf is)
  back-made name ShelfFails SourceFails SinkFails input left (Unread what.Save why.Absent) is says shelf source sink = absurd is
  back-made name ShelfFails SourceFails SinkFails input left (Unread what.Save why.TooLong) is says shelf source sink = absurd is
  back-made name ShelfFails SourceFails SinkFails input left (Unread what.Output because) is says shelf source sink = absurd is
  back-made name ShelfFails SourceFails SinkFails input left (Unwritten what.Output) is says shelf source sink = absurd (sink is)
  back-made name ShelfFails SourceFails SinkFails input left (Unwritten what.Save) is says shelf source sink = absurd (shelf is.1)
  back-made name ShelfFails SourceFails SinkFails input left (Unwritten what.Input) is says shelf source sink = absurd is
  back-made name ShelfFails SourceFails SinkFails input left (Unwritten what.Model) is says shelf source sink = absurd is
  back-made name ShelfFails SourceFails SinkFails input left (Refused kind line column) is says shelf source sink = absurd is
  back-made name ShelfFails SourceFails SinkFails input left Usage is says shelf source sink = absurd is

pub back-completed : (own : Running) (turns : ℕ) (engine : Engine) (input : Option (List ℕ)) (status result : Status) → CompletesBack own turns engine input status → (result ≡ status) ⊎ (result ≡ Memory) → CompletesBack own turns engine input result
back-completed own turns engine input status result completes (inl same) = subst (CompletesBack own turns engine input) (sym same) completes
back-completed own turns engine input status result completes (inr ended) = inr (inr ended)
