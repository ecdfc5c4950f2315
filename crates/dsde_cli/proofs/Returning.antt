-- How a run ends that was taken up again, from what its turns come to.
use Rattle.std.proofs.Common.{◌≡◌, ◌≢◌, ℕ, List, [], ◌⊎◌, inl, inr, refl, sym, ap, subst, ◌∙◌}
use Rattle.std.specs.Prelude.{Option, Some, None, IfOk, IfSome, is_some, true, Result, Ok, Err}
use Rattle.std.proofs.lemmas.List.{append-nil}
use Rattle.dsde_syntax.specs.declared.decl.Model.{Model}
use Rattle.dsde_input_records.specs.Records.{Records}
use Rattle.dsde_sim_tree.specs.declared.event.Finish.{Finish}
use Rattle.dsde_sim_tree.specs.declared.event.Finish.TheVariants as how
use Rattle.dsde_run_free.specs.given.core_engine.Standing.{Standing}
use Rattle.dsde_sim_tree.specs.Engine.{Engine}
use Rattle.dsde_run_free.specs.given.run.SavedRuns.{image_at, image_left}
use Rattle.dsde_sound_runs.specs.given.run_meaning.Run.{Run}
use Rattle.dsde_run_free.specs.given.run.run_Cut_TheVariants as cut
use Rattle.dsde_run_free.specs.given.run.Reading.{IsWhole, Told}
use Rattle.dsde_run_free.specs.given.run.Run.{Running}
use Rattle.dsde_run_free.specs.given.run.resuming_Unresumed.{Unresumed}
use Rattle.dsde_run_free.specs.given.run.resuming_Unresumed_TheVariants as unresumed
use Rattle.dsde_run_free.specs.given.run.Resumed.{records_for, resumed, resumed_on}
use Rattle.dsde_run_free.specs.given.run.Resuming as resuming
use Rattle.dsde_cli_status.specs.given.trace.pick_Pick.{Pick}
use Rattle.dsde_io.specs.Held.{Bytes}
use Rattle.dsde_cli_status.specs.declared.status.SaveFault.TheVariants as save
use Rattle.dsde_cli_status.specs.declared.status.Status.{Status}
use Rattle.dsde_cli_status.specs.declared.status.Status.TheVariants.{Done, Refused, Usage, BadInput, ModelFault, Unread, Unwritten, Memory, BadSave}
use Rattle.dsde_cli_status.specs.declared.status.What.TheVariants as what
use Rattle.dsde_cli_status.specs.declared.status.Why.TheVariants as why
use Rattle.dsde_cli.specs.Back.{ComesBack, IsBeforeBack, IsLoadCut, IsMade, IsOfBack, NoSave, SaysBack, status_back}
use Rattle.dsde_cli.specs.RunOutcome.{EndsWell}
use Rattle.dsde_cli.specs.Saved.{IsOfStore, IsOfStored, Leaves, Stores}
use Rattle.dsde_cli.specs.lemmas.Fronts.{front-whole}
use Rattle.dsde_cli.proofs.CliComing.{comes-by, ends-by}
use Rattle.dsde_cli.proofs.CliStoring.{follows, is_done, of-store, stored-by, stored-left}

module _ (own : Running) (pick : Pick) (turns : ℕ) (engine : Engine) where
  abbrev tells : Records → Run
  tells = resumed_on own turns engine

  -- What a run comes to that was taken up again is what the call comes to.
  back-by : (stands : Engine) (input after written : List ℕ) (out : Option (List ℕ)) (result : Result Finish Unresumed) → resuming.ComesBack own pick turns engine stands (Some written) out result input after →
      (result ≡ Ok how.Quiet → after ≡ []) → ComesBack own pick turns engine input (Some after) written out (status_back result)
  back-by stands input after written out (Ok how.Bound) comes quiet = comes-by own pick tells (records_for own engine input) input after written out (Ok how.Bound) (stands, comes) (λ same. absurd (cc same))
  back-by stands input after written out (Ok how.Quiet) comes quiet = comes-by own pick tells (records_for own engine input) input after written out (Ok how.Quiet) (stands, comes) (λ same. quiet refl)
  back-by stands input after written out (Ok (how.Input kind line)) comes quiet = comes-by own pick tells (records_for own engine input) input after written out (Ok (how.Input kind line)) (stands, comes) (λ same. absurd (cc same))
  back-by stands input after written out (Ok (how.Fault fault)) comes quiet = comes-by own pick tells (records_for own engine input) input after written out (Ok (how.Fault fault)) (stands, comes) (λ same. absurd (cc same))
  back-by stands input after written out (Err (unresumed.Cut cut.ReadFault)) comes quiet = comes-by own pick tells (records_for own engine input) input after written out (Err cut.ReadFault) (stands, comes) (λ same. absurd (cc same))
  back-by stands input after written out (Err (unresumed.Cut cut.Unwritten)) comes quiet = comes-by own pick tells (records_for own engine input) input after written out (Err cut.Unwritten) (stands, comes) (λ same. absurd (cc same))
  back-by stands input after written out (Err (unresumed.Cut cut.Memory)) comes quiet = comes-by own pick tells (records_for own engine input) input after written out (Err cut.Memory) (stands, comes) (λ same. absurd (cc same))
  back-by stands input after written out (Err unresumed.FewRecords) comes quiet = (comes.0, comes.1 ∙ ap Some (append-nil written))

  says-by : (stands : Engine) (input after : List ℕ) (before out : Option (List ℕ)) (result : Result Finish Unresumed) → resuming.ComesBack own pick turns engine stands before out result input after →
      (result ≡ Ok how.Quiet → after ≡ []) → SaysBack own turns engine input (Some after) (status_back result)
  says-by stands input after before out (Ok how.Bound) comes quiet = ends-by own pick tells (records_for own engine input) input after before out (Ok how.Bound) (stands, comes) (λ same. absurd (cc same))
  says-by stands input after before out (Ok how.Quiet) comes quiet = ends-by own pick tells (records_for own engine input) input after before out (Ok how.Quiet) (stands, comes) (λ same. quiet refl)
  says-by stands input after before out (Ok (how.Input kind line)) comes quiet = ends-by own pick tells (records_for own engine input) input after before out (Ok (how.Input kind line)) (stands, comes) (λ same. absurd (cc same))
  says-by stands input after before out (Ok (how.Fault fault)) comes quiet = ends-by own pick tells (records_for own engine input) input after before out (Ok (how.Fault fault)) (stands, comes) (λ same. absurd (cc same))
  says-by stands input after before out (Err (unresumed.Cut cut.ReadFault)) comes quiet = tt
  says-by stands input after before out (Err (unresumed.Cut cut.Unwritten)) comes quiet = tt
  says-by stands input after before out (Err (unresumed.Cut cut.Memory)) comes quiet = tt
  says-by stands input after before out (Err unresumed.FewRecords) comes quiet = comes.0

  pub back-told : (stands : Engine) (left left_after before after : Option (List ℕ)) (result : Result Finish Unresumed) →
      Told left left_after (resuming.ComesBack own pick turns engine stands before after result) → (result ≡ Ok how.Quiet → Told left left_after (λ _ rest. rest ≡ [])) →
      IfSome left (λ input. IfSome before (λ written. ComesBack own pick turns engine input left_after written after (status_back result)))
  back-told stands None left_after before after result comes quiet = tt
  back-told stands (Some input) None before after result comes quiet = absurd comes
  back-told stands (Some input) (Some rest) None after result comes quiet = tt
  back-told stands (Some input) (Some rest) (Some written) after result comes quiet = back-by stands input rest written after result comes quiet

  pub says-told : (stands : Engine) (left left_after before after : Option (List ℕ)) (result : Result Finish Unresumed) →
      Told left left_after (resuming.ComesBack own pick turns engine stands before after result) → (result ≡ Ok how.Quiet → Told left left_after (λ _ rest. rest ≡ [])) →
      IfSome left (λ input. SaysBack own turns engine input left_after (status_back result))
  says-told stands None left_after before after result comes quiet = tt
  says-told stands (Some input) None before after result comes quiet = absurd comes
  says-told stands (Some input) (Some rest) before after result comes quiet = says-by stands input rest before after result comes quiet

  -- The same with the store behind it.
  pub back-stored : (left left_after before after : Option (List ℕ)) (name : Option (List ℕ)) (ShelfFails : Type 0) (status result : Status) →
      (status ≢ Done → result ≡ status) → (status ≡ Done → IsOfStore name ShelfFails result) →
      IfSome left (λ input. IfSome before (λ written. ComesBack own pick turns engine input left_after written after status)) →
      IfSome left (λ input. IfSome before (λ written. ComesBack own pick turns engine input left_after written after result))
  back-stored left left_after before after name ShelfFails status result other done comes =
      stored-by (λ status. IfSome left (λ input. IfSome before (λ written. ComesBack own pick turns engine input left_after written after status)))
      name ShelfFails status result other done comes (λ held. held)
      (follows left (λ input. IfSome before (λ written. ComesBack own pick turns engine input left_after written after Done)) (λ input. IfSome before (λ written. ComesBack own pick turns engine input left_after written after Memory))
      (λ input. follows before (λ written. ComesBack own pick turns engine input left_after written after Done) (λ written. ComesBack own pick turns engine input left_after written after Memory)
      (λ written whole. front-whole own pick (tells (records_for own engine input)) written after whole.0)))

  said_nothing : (left : Option (List ℕ)) → IfSome left (λ input. Unit {0})
  said_nothing None = tt
  said_nothing (Some input) = tt

  pub says-stored : (left left_after : Option (List ℕ)) (name : Option (List ℕ)) (ShelfFails : Type 0) (status result : Status) →
      (status ≢ Done → result ≡ status) → (status ≡ Done → IsOfStore name ShelfFails result) →
      IfSome left (λ input. SaysBack own turns engine input left_after status) → IfSome left (λ input. SaysBack own turns engine input left_after result)
  says-stored left left_after name ShelfFails status result other done says =
      stored-by (λ status. IfSome left (λ input. SaysBack own turns engine input left_after status)) name ShelfFails status result other done says (λ held. held) (λ held. said_nothing left)

  -- where the image was not loaded nothing was written
  back-cut : (input : List ℕ) (left : Option (List ℕ)) (written : List ℕ) (out : Option (List ℕ)) (status : Status) → IsLoadCut status → out ≡ Some written → ComesBack own pick turns engine input left written out status
  back-cut input left written out (Unread what.Save why.Failed) is same = same
  back-cut input left written out Memory is same = record { count = 0; is = same ∙ ap Some (sym (append-nil written)) }
  back-cut input left written out (Unread what.Save why.Absent) is same = absurd is
  back-cut input left written out (Unread what.Save why.TooLong) is same = absurd is
  back-cut input left written out (Unread what.Model because) is same = absurd is
  back-cut input left written out (Unread what.Input because) is same = absurd is
  back-cut input left written out (Unread what.Output because) is same = absurd is
  back-cut input left written out (Refused kind line column) is same = absurd is
  back-cut input left written out Done is same = absurd is
  back-cut input left written out Usage is same = absurd is
  back-cut input left written out (BadInput kind line) is same = absurd is
  back-cut input left written out (ModelFault fault) is same = absurd is
  back-cut input left written out (Unwritten writing) is same = absurd is
  back-cut input left written out (BadSave fault) is same = absurd is

  pub back-unloaded : (left out : Option (List ℕ)) (status : Status) → IsLoadCut status → IfSome left (λ input. IfSome out (λ written. ComesBack own pick turns engine input left written out status))
  back-unloaded None out status is = tt
  back-unloaded (Some input) None status is = tt
  back-unloaded (Some input) (Some written) status is = back-cut input (Some input) written (Some written) status is refl

  says-cut : (input : List ℕ) (left : Option (List ℕ)) (status : Status) → IsLoadCut status → SaysBack own turns engine input left status
  says-cut input left (Unread what.Save why.Failed) is = tt
  says-cut input left Memory is = tt
  says-cut input left (Unread what.Save why.Absent) is = absurd is
  says-cut input left (Unread what.Save why.TooLong) is = absurd is
  says-cut input left (Unread what.Model because) is = absurd is
  says-cut input left (Unread what.Input because) is = absurd is
  says-cut input left (Unread what.Output because) is = absurd is
  says-cut input left (Refused kind line column) is = absurd is
  says-cut input left Done is = absurd is
  says-cut input left Usage is = absurd is
  says-cut input left (BadInput kind line) is = absurd is
  says-cut input left (ModelFault fault) is = absurd is
  says-cut input left (Unwritten writing) is = absurd is
  says-cut input left (BadSave fault) is = absurd is

  pub says-unloaded : (left : Option (List ℕ)) (status : Status) → IsLoadCut status → IfSome left (λ input. SaysBack own turns engine input left status)
  says-unloaded None status is = tt
  says-unloaded (Some input) status is = says-cut input (Some input) status is

-- A status of a run and a store is one of a run that was taken up again.
stored-back : (name : Option (List ℕ)) (ShelfFails SourceFails SinkFails : Type 0) (status : Status) → IsOfStored name ShelfFails SourceFails SinkFails status → IsOfBack name ShelfFails SourceFails SinkFails status
stored-back name ShelfFails SourceFails SinkFails Done is = is
stored-back name ShelfFails SourceFails SinkFails (Refused kind line column) is = is
stored-back name ShelfFails SourceFails SinkFails Usage is = is
stored-back name ShelfFails SourceFails SinkFails (BadInput kind line) is = is
stored-back name ShelfFails SourceFails SinkFails (ModelFault fault) is = is
stored-back name ShelfFails SourceFails SinkFails (Unread reading because) is = is
stored-back name ShelfFails SourceFails SinkFails (Unwritten writing) is = is
stored-back name ShelfFails SourceFails SinkFails Memory is = is
stored-back name ShelfFails SourceFails SinkFails (BadSave save.NotJson) is = is
stored-back name ShelfFails SourceFails SinkFails (BadSave save.WrongForm) is = is
stored-back name ShelfFails SourceFails SinkFails (BadSave (save.DoesNotFit path)) is = is
stored-back name ShelfFails SourceFails SinkFails (BadSave save.FewRecords) is = tt

-- The status is one of a run that was taken up again, and its device failed where it says so.
pub of-back : (name : Option (List ℕ)) (ShelfFails SourceFails SinkFails : Type 0) (answer : Result Finish Unresumed) →
    (answer ≡ Err (unresumed.Cut cut.ReadFault) → SourceFails) → (answer ≡ Err (unresumed.Cut cut.Unwritten) → SinkFails) → IsOfBack name ShelfFails SourceFails SinkFails (status_back answer)
of-back name ShelfFails SourceFails SinkFails (Ok how.Bound) unread unwritten = tt
of-back name ShelfFails SourceFails SinkFails (Ok how.Quiet) unread unwritten = tt
of-back name ShelfFails SourceFails SinkFails (Ok (how.Input kind line)) unread unwritten = tt
of-back name ShelfFails SourceFails SinkFails (Ok (how.Fault fault)) unread unwritten = tt
of-back name ShelfFails SourceFails SinkFails (Err (unresumed.Cut cut.ReadFault)) unread unwritten = unread refl
of-back name ShelfFails SourceFails SinkFails (Err (unresumed.Cut cut.Unwritten)) unread unwritten = unwritten refl
of-back name ShelfFails SourceFails SinkFails (Err (unresumed.Cut cut.Memory)) unread unwritten = tt
of-back name ShelfFails SourceFails SinkFails (Err unresumed.FewRecords) unread unwritten = tt

pub cause-back : (name : Option (List ℕ)) (ShelfFails SourceFails SinkFails : Type 0) (status result : Status) → (status ≢ Done → result ≡ status) → (status ≡ Done → IsOfStore name ShelfFails result) →
    IsOfBack name ShelfFails SourceFails SinkFails status → IsOfBack name ShelfFails SourceFails SinkFails result
cause-back name ShelfFails SourceFails SinkFails status result other done is = by (is_done status)
  where
    by : (status ≡ Done) ⊎ (status ≢ Done) → IsOfBack name ShelfFails SourceFails SinkFails result
    by (inl well) = stored-back name ShelfFails SourceFails SinkFails result (of-store name ShelfFails SourceFails SinkFails result (done well))
    by (inr not) = subst (IsOfBack name ShelfFails SourceFails SinkFails) (sym (other not)) is

-- no run that was taken up again ends with a store that failed
pub not-unsaved-back : (answer : Result Finish Unresumed) → status_back answer ≢ Unwritten what.Save
not-unsaved-back (Ok how.Bound) same = cc same
not-unsaved-back (Ok how.Quiet) same = cc same
not-unsaved-back (Ok (how.Input kind line)) same = cc same
not-unsaved-back (Ok (how.Fault fault)) same = cc same
not-unsaved-back (Err (unresumed.Cut cut.ReadFault)) same = cc same
not-unsaved-back (Err (unresumed.Cut cut.Unwritten)) same = cc same
not-unsaved-back (Err (unresumed.Cut cut.Memory)) same = cc same
not-unsaved-back (Err unresumed.FewRecords) same = cc same

-- A run that went on did not end before.
pub not-before : (name : Option (List ℕ)) (ShelfFails SourceFails SinkFails : Type 0) (status : Status) → IsOfBack name ShelfFails SourceFails SinkFails status → IsBeforeBack status → ⊥
not-before name ShelfFails SourceFails SinkFails (Unread what.Save because) is before = is
not-before name ShelfFails SourceFails SinkFails (BadSave save.NotJson) is before = is
not-before name ShelfFails SourceFails SinkFails (BadSave save.WrongForm) is before = is
not-before name ShelfFails SourceFails SinkFails (BadSave (save.DoesNotFit path)) is before = is
not-before name ShelfFails SourceFails SinkFails (BadSave save.FewRecords) is before = before
not-before name ShelfFails SourceFails SinkFails (Unread what.Model because) is before = before
not-before name ShelfFails SourceFails SinkFails (Unread what.Input because) is before = before
not-before name ShelfFails SourceFails SinkFails (Unread what.Output because) is before = before
not-before name ShelfFails SourceFails SinkFails Done is before = before
not-before name ShelfFails SourceFails SinkFails (Refused kind line column) is before = before
not-before name ShelfFails SourceFails SinkFails Usage is before = before
not-before name ShelfFails SourceFails SinkFails (BadInput kind line) is before = before
not-before name ShelfFails SourceFails SinkFails (ModelFault fault) is before = before
not-before name ShelfFails SourceFails SinkFails (Unwritten writing) is before = before
not-before name ShelfFails SourceFails SinkFails Memory is before = before

-- where there is no image the shelf is as it was
pub leaves-unloaded : (name : Option (List ℕ)) (program : Model) (file : List ℕ) (held after : Option Bytes) (ShelfFails : Type 0) (status : Status) → after ≡ held → NoSave program file held ShelfFails status → Leaves name ShelfFails held after status
leaves-unloaded None program file held after ShelfFails status same none = same
leaves-unloaded (Some name) program file held after ShelfFails (Unread what.Save because) same none = same
leaves-unloaded (Some name) program file held after ShelfFails (BadSave fault) same none = same
leaves-unloaded (Some name) program file held after ShelfFails Memory same none = inl same
leaves-unloaded (Some name) program file held after ShelfFails (Unread what.Model because) same none = absurd none
leaves-unloaded (Some name) program file held after ShelfFails (Unread what.Input because) same none = absurd none
leaves-unloaded (Some name) program file held after ShelfFails (Unread what.Output because) same none = absurd none
leaves-unloaded (Some name) program file held after ShelfFails Done same none = absurd none
leaves-unloaded (Some name) program file held after ShelfFails (Refused kind line column) same none = absurd none
leaves-unloaded (Some name) program file held after ShelfFails Usage same none = absurd none
leaves-unloaded (Some name) program file held after ShelfFails (BadInput kind line) same none = absurd none
leaves-unloaded (Some name) program file held after ShelfFails (ModelFault fault) same none = absurd none
leaves-unloaded (Some name) program file held after ShelfFails (Unwritten writing) same none = absurd none

-- What comes of a run that was taken up again where there is an image to load.
pub made-of : (name : Option (List ℕ)) (ShelfFails SourceFails SinkFails : Type 0) (status : Status) → IsOfBack name ShelfFails SourceFails SinkFails status → IsMade name ShelfFails SourceFails SinkFails status
made-of name ShelfFails SourceFails SinkFails (Unread what.Save why.Failed) is = absurd is
made-of name ShelfFails SourceFails SinkFails (Unread what.Save why.Absent) is = is
made-of name ShelfFails SourceFails SinkFails (Unread what.Save why.TooLong) is = is
made-of name ShelfFails SourceFails SinkFails (Unread what.Model because) is = is
made-of name ShelfFails SourceFails SinkFails (Unread what.Input because) is = is
made-of name ShelfFails SourceFails SinkFails (Unread what.Output because) is = is
made-of name ShelfFails SourceFails SinkFails Done is = is
made-of name ShelfFails SourceFails SinkFails (Refused kind line column) is = is
made-of name ShelfFails SourceFails SinkFails Usage is = is
made-of name ShelfFails SourceFails SinkFails (BadInput kind line) is = is
made-of name ShelfFails SourceFails SinkFails (ModelFault fault) is = is
made-of name ShelfFails SourceFails SinkFails (Unwritten writing) is = is
made-of name ShelfFails SourceFails SinkFails Memory is = is
made-of name ShelfFails SourceFails SinkFails (BadSave fault) is = is

pub made-cut : (name : Option (List ℕ)) (program : Model) (file : List ℕ) (held : Option Bytes) (ShelfFails SourceFails SinkFails : Type 0) (status : Status) → NoSave program file held ShelfFails status → IsLoadCut status → IsMade name ShelfFails SourceFails SinkFails status
made-cut name program file held ShelfFails SourceFails SinkFails (Unread what.Save why.Failed) none cut = none
made-cut name program file held ShelfFails SourceFails SinkFails Memory none cut = tt
made-cut name program file held ShelfFails SourceFails SinkFails (Unread what.Save why.Absent) none cut = absurd cut
made-cut name program file held ShelfFails SourceFails SinkFails (Unread what.Save why.TooLong) none cut = absurd cut
made-cut name program file held ShelfFails SourceFails SinkFails (Unread what.Model because) none cut = absurd cut
made-cut name program file held ShelfFails SourceFails SinkFails (Unread what.Input because) none cut = absurd cut
made-cut name program file held ShelfFails SourceFails SinkFails (Unread what.Output because) none cut = absurd cut
made-cut name program file held ShelfFails SourceFails SinkFails Done none cut = absurd cut
made-cut name program file held ShelfFails SourceFails SinkFails (Refused kind line column) none cut = absurd cut
made-cut name program file held ShelfFails SourceFails SinkFails Usage none cut = absurd cut
made-cut name program file held ShelfFails SourceFails SinkFails (BadInput kind line) none cut = absurd cut
made-cut name program file held ShelfFails SourceFails SinkFails (ModelFault fault) none cut = absurd cut
made-cut name program file held ShelfFails SourceFails SinkFails (Unwritten writing) none cut = absurd cut
made-cut name program file held ShelfFails SourceFails SinkFails (BadSave fault) none cut = absurd cut

-- what is cut short did not go well
pub done_is_no_cut : (status : Status) → status ≡ Done → IsLoadCut status → ⊥
done_is_no_cut status well cut = let none : IsLoadCut Done = subst IsLoadCut well cut in none

-- the engine that is there where all went well is not spent
pub fresh-back : (answer : Result Finish Unresumed) (own : Standing) → IfOk answer (λ how. IsWhole how → is_some own.engine.tree ≡ true) → status_back answer ≡ Done → is_some own.engine.tree ≡ true
fresh-back (Ok how.Bound) own unspent well = unspent tt
fresh-back (Ok how.Quiet) own unspent well = unspent tt
fresh-back (Ok (how.Input kind line)) own unspent well = absurd (cc well)
fresh-back (Ok (how.Fault fault)) own unspent well = absurd (cc well)
fresh-back (Err (unresumed.Cut cut.ReadFault)) own unspent well = absurd (cc well)
fresh-back (Err (unresumed.Cut cut.Unwritten)) own unspent well = absurd (cc well)
fresh-back (Err (unresumed.Cut cut.Memory)) own unspent well = absurd (cc well)
fresh-back (Err unresumed.FewRecords) own unspent well = absurd (cc well)

-- what stands where a run ended well, of the state of the run
stands-back : (own : Running) (pick : Pick) (turns : ℕ) (engine stands : Engine) (left left_after before after : Option (List ℕ)) (answer : Result Finish Unresumed) → status_back answer ≡ Done →
    Told left left_after (resuming.ComesBack own pick turns engine stands before after answer) → Told left left_after (λ input rest. stands ≡ (resumed own input turns engine).state)
stands-back own pick turns engine stands None left_after before after answer well comes = tt
stands-back own pick turns engine stands (Some input) None before after answer well comes = absurd comes
stands-back own pick turns engine stands (Some input) (Some rest) before after (Ok how.Bound) well comes = comes.stands tt
stands-back own pick turns engine stands (Some input) (Some rest) before after (Ok how.Quiet) well comes = comes.stands tt
stands-back own pick turns engine stands (Some input) (Some rest) before after (Ok (how.Input kind line)) well comes = absurd (cc well)
stands-back own pick turns engine stands (Some input) (Some rest) before after (Ok (how.Fault fault)) well comes = absurd (cc well)
stands-back own pick turns engine stands (Some input) (Some rest) before after (Err (unresumed.Cut cut.ReadFault)) well comes = absurd (cc well)
stands-back own pick turns engine stands (Some input) (Some rest) before after (Err (unresumed.Cut cut.Unwritten)) well comes = absurd (cc well)
stands-back own pick turns engine stands (Some input) (Some rest) before after (Err (unresumed.Cut cut.Memory)) well comes = absurd (cc well)
stands-back own pick turns engine stands (Some input) (Some rest) before after (Err unresumed.FewRecords) well comes = absurd (cc well)

-- how it ended, where it ended well
well-back : (own : Running) (turns : ℕ) (engine : Engine) (left left_after : Option (List ℕ)) (status : Status) → status ≡ Done → IfSome left (λ input. SaysBack own turns engine input left_after status) →
    IfSome left (λ input. EndsWell (resumed own input turns engine).end left_after)
well-back own turns engine left left_after status well says = subst (λ status. IfSome left (λ input. SaysBack own turns engine input left_after status)) well says

-- What a run stores that was taken up again and ended well.
pub stored-back-told : (own : Running) (pick : Pick) (turns : ℕ) (engine : Engine) (name : Option (List ℕ)) (core : Standing) (held : Option Bytes) (left left_after before after : Option (List ℕ)) (answer : Result Finish Unresumed) →
    status_back answer ≡ Done → core.program ≡ own.model → Told left left_after (resuming.ComesBack own pick turns engine core.engine before after answer) →
    (answer ≡ Ok how.Quiet → Told left left_after (λ _ rest. rest ≡ [])) → Stores name (image_at core.program core.engine) held →
    IfSome left (λ input. Stores name (image_left own.model (resumed own input turns engine)) held)
stored-back-told own pick turns engine name core held left left_after before after answer well of comes quiet stores =
    stored-left name core.program own.model core.engine held (λ input. resumed own input turns engine) left left_after of stores
    (well-back own turns engine left left_after (status_back answer) well (says-told own pick turns engine core.engine left left_after before after answer comes quiet))
    (stands-back own pick turns engine core.engine left left_after before after answer well comes)

-- where there are too few records nothing was stored
few-is : (answer : Result Finish Unresumed) → status_back answer ≡ BadSave save.FewRecords → answer ≡ Err unresumed.FewRecords
few-is (Ok how.Bound) is = absurd (cc is)
few-is (Ok how.Quiet) is = absurd (cc is)
few-is (Ok (how.Input kind line)) is = absurd (cc is)
few-is (Ok (how.Fault fault)) is = absurd (cc is)
few-is (Err (unresumed.Cut cut.ReadFault)) is = absurd (cc is)
few-is (Err (unresumed.Cut cut.Unwritten)) is = absurd (cc is)
few-is (Err (unresumed.Cut cut.Memory)) is = absurd (cc is)
few-is (Err unresumed.FewRecords) is = refl

pub not-few : (name : Option (List ℕ)) (ShelfFails : Type 0) (answer : Result Finish Unresumed) (status result : Status) (P : Type 0) → status ≡ status_back answer → (status ≢ Done → result ≡ status) → (status ≡ Done → IsOfStore name ShelfFails result) →
    result ≡ BadSave save.FewRecords → (answer ≡ Err unresumed.FewRecords → P) → P
not-few name ShelfFails answer status result P of other done few next = by (is_done status)
  where
    by : (status ≡ Done) ⊎ (status ≢ Done) → P
    by (inl well) = let none : IsOfStore name ShelfFails (BadSave save.FewRecords) = subst (IsOfStore name ShelfFails) few (done well) in absurd none
    by (inr not) = next (few-is answer (sym of ∙ sym (other not) ∙ few))
