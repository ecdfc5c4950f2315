-- What failed behind a load failed in the whole call.
use Rattle.std.proofs.Common.{◌≡◌, ℕ, List, inl, inr, refl, subst, sym}
use Rattle.std.specs.Prelude.{Option, Some, None, IsSomeAnd}
use Rattle.dsde_io.specs.Held.{Bytes}
use Rattle.dsde_syntax.specs.declared.decl.Model.{Model}
use Rattle.dsde_cli_status.specs.declared.status.SaveFault.TheVariants as save
use Rattle.dsde_cli_status.specs.declared.status.Status.{Status}
use Rattle.dsde_cli_status.specs.declared.status.Status.TheVariants.{Done, Refused, Usage, BadInput, ModelFault, Unread, Unwritten, Memory, BadSave}
use Rattle.dsde_cli_status.specs.declared.status.What.TheVariants as what
use Rattle.dsde_cli_status.specs.declared.status.Why.TheVariants as why
use Rattle.dsde_cli.specs.Back.{CauseBack, IsBeforeBack, IsMade, NoSave, RestoresSome}
use Rattle.dsde_cli.specs.Loads.{Under}
use Rattle.dsde_cli.specs.lemmas.Later.{back-later}
use Rattle.dsde_cli.specs.RunOutcome.{IsOfRun}
use Rattle.dsde_cli.specs.Saved.{IsOfStored}
use Rattle.dsde_run_free.specs.given.run.Run.{Running}
use Rattle.dsde_cli.specs.Causes.{CauseTakenUp, Holds, IsBeforeRun, Runs, RunsSome}

no-save-later : (program : Model) (file : List ℕ) (held : Option Bytes) (ShelfFails Fails : Type 0) (status : Status) → (ShelfFails → Fails) → NoSave program file held ShelfFails status → NoSave program file held Fails status
no-save-later program file held ShelfFails Fails (Unread what.Save why.Absent) next none = none
no-save-later program file held ShelfFails Fails (Unread what.Save why.TooLong) next none = none
no-save-later program file held ShelfFails Fails (Unread what.Save why.Failed) next none = next none
no-save-later program file held ShelfFails Fails (Unread what.Model because) next none = absurd none
no-save-later program file held ShelfFails Fails (Unread what.Input because) next none = absurd none
no-save-later program file held ShelfFails Fails (Unread what.Output because) next none = absurd none
no-save-later program file held ShelfFails Fails (BadSave fault) next none = none
no-save-later program file held ShelfFails Fails Memory next none = none
no-save-later program file held ShelfFails Fails Done next none = absurd none
no-save-later program file held ShelfFails Fails (Refused kind line column) next none = absurd none
no-save-later program file held ShelfFails Fails Usage next none = absurd none
no-save-later program file held ShelfFails Fails (BadInput kind line) next none = absurd none
no-save-later program file held ShelfFails Fails (ModelFault fault) next none = absurd none
no-save-later program file held ShelfFails Fails (Unwritten writing) next none = absurd none

-- The same shelf told the image, and failed later.
pub cause-later : (program : Model) (file : List ℕ) (name : Option (List ℕ)) (held mid : Option Bytes) (ShelfFails Fails SourceFails SinkFails : Type 0) (status : Status) → mid ≡ held → (ShelfFails → Fails) →
    CauseBack program file name mid ShelfFails SourceFails SinkFails status → CauseBack program file name held Fails SourceFails SinkFails status
cause-later program file name held mid ShelfFails Fails SourceFails SinkFails status same next (inl none) =
    inl (subst (λ held. NoSave program file held Fails status) same (no-save-later program file mid ShelfFails Fails status next none))
cause-later program file name held mid ShelfFails Fails SourceFails SinkFails status same next (inr made) =
    inr (subst (λ held. Under file held (RestoresSome program)) same made.0, back-later name ShelfFails Fails SourceFails SinkFails status next made.1)

-- A run that was made did not end before.
pub run-not-before : (name : Option (List ℕ)) (ShelfFails SourceFails SinkFails : Type 0) (status : Status) → IsOfStored name ShelfFails SourceFails SinkFails status → IsBeforeRun status → ⊥
run-not-before name ShelfFails SourceFails SinkFails (Refused kind line column) is before = is
run-not-before name ShelfFails SourceFails SinkFails Usage is before = is
run-not-before name ShelfFails SourceFails SinkFails (Unread what.Model because) is before = is
run-not-before name ShelfFails SourceFails SinkFails (Unread what.Save because) is before = is
run-not-before name ShelfFails SourceFails SinkFails (Unread what.Input because) is before = before
run-not-before name ShelfFails SourceFails SinkFails (Unread what.Output because) is before = before
run-not-before name ShelfFails SourceFails SinkFails (BadSave fault) is before = is
run-not-before name ShelfFails SourceFails SinkFails Done is before = before
run-not-before name ShelfFails SourceFails SinkFails (BadInput kind line) is before = before
run-not-before name ShelfFails SourceFails SinkFails (ModelFault fault) is before = before
run-not-before name ShelfFails SourceFails SinkFails (Unwritten writing) is before = before
run-not-before name ShelfFails SourceFails SinkFails Memory is before = before

-- A run that was taken up again ended before anything of it only where its image gave no engine.
pub before-back : (program : Model) (file : List ℕ) (name : Option (List ℕ)) (held : Option Bytes) (ShelfFails SourceFails SinkFails : Type 0) (status : Status) → CauseBack program file name held ShelfFails SourceFails SinkFails status → IsBeforeRun status → IsBeforeBack status
before-back program file name held ShelfFails SourceFails SinkFails (Refused kind line column) (inl none) before = absurd none
before-back program file name held ShelfFails SourceFails SinkFails (Refused kind line column) (inr made) before = absurd made.1
before-back program file name held ShelfFails SourceFails SinkFails Usage (inl none) before = absurd none
before-back program file name held ShelfFails SourceFails SinkFails Usage (inr made) before = absurd made.1
before-back program file name held ShelfFails SourceFails SinkFails (Unread what.Model because) (inl none) before = absurd none
before-back program file name held ShelfFails SourceFails SinkFails (Unread what.Model because) (inr made) before = absurd made.1
before-back program file name held ShelfFails SourceFails SinkFails (Unread what.Save because) cause before = before
before-back program file name held ShelfFails SourceFails SinkFails (Unread what.Input because) cause before = before
before-back program file name held ShelfFails SourceFails SinkFails (Unread what.Output because) cause before = before
before-back program file name held ShelfFails SourceFails SinkFails (BadSave fault) cause before = before
before-back program file name held ShelfFails SourceFails SinkFails Done cause before = before
before-back program file name held ShelfFails SourceFails SinkFails (BadInput kind line) cause before = before
before-back program file name held ShelfFails SourceFails SinkFails (ModelFault fault) cause before = before
before-back program file name held ShelfFails SourceFails SinkFails (Unwritten writing) cause before = before
before-back program file name held ShelfFails SourceFails SinkFails Memory cause before = before

pub made-later : (name : Option (List ℕ)) (ShelfFails Fails SourceFails SinkFails : Type 0) (status : Status) → (ShelfFails → Fails) → IsMade name ShelfFails SourceFails SinkFails status → IsMade name Fails SourceFails SinkFails status
made-later name ShelfFails Fails SourceFails SinkFails (Unread what.Save why.Failed) next is = next is
made-later name ShelfFails Fails SourceFails SinkFails (Unwritten what.Save) next is = (is.0, next is.1)
made-later name ShelfFails Fails SourceFails SinkFails (Unread what.Save why.Absent) next is = is
made-later name ShelfFails Fails SourceFails SinkFails (Unread what.Save why.TooLong) next is = is
made-later name ShelfFails Fails SourceFails SinkFails (Unread what.Model because) next is = is
made-later name ShelfFails Fails SourceFails SinkFails (Unread what.Input because) next is = is
made-later name ShelfFails Fails SourceFails SinkFails (Unread what.Output because) next is = is
made-later name ShelfFails Fails SourceFails SinkFails Done next is = is
made-later name ShelfFails Fails SourceFails SinkFails (Refused kind line column) next is = is
made-later name ShelfFails Fails SourceFails SinkFails Usage next is = is
made-later name ShelfFails Fails SourceFails SinkFails (BadInput kind line) next is = is
made-later name ShelfFails Fails SourceFails SinkFails (ModelFault fault) next is = is
made-later name ShelfFails Fails SourceFails SinkFails (Unwritten what.Output) next is = is
made-later name ShelfFails Fails SourceFails SinkFails (Unwritten what.Input) next is = is
made-later name ShelfFails Fails SourceFails SinkFails (Unwritten what.Model) next is = is
made-later name ShelfFails Fails SourceFails SinkFails Memory next is = is
made-later name ShelfFails Fails SourceFails SinkFails (BadSave save.NotJson) next is = is
made-later name ShelfFails Fails SourceFails SinkFails (BadSave save.WrongForm) next is = is
made-later name ShelfFails Fails SourceFails SinkFails (BadSave (save.DoesNotFit path)) next is = is
made-later name ShelfFails Fails SourceFails SinkFails (BadSave save.FewRecords) next is = is

-- The model that was loaded is the one that runs, of those that stand under the name.
pub taken-up-cause : (name file : List ℕ) (store : Option (List ℕ)) (held : Option Bytes) (ShelfFails SourceFails SinkFails : Type 0) (status : Status) (own : Running) → Under name held RunsSome →
    ((other : Running) → Holds name held other → other ≡ own) → CauseBack own.model file store held ShelfFails SourceFails SinkFails status → Under name held (CauseTakenUp file store held ShelfFails SourceFails SinkFails status)
taken-up-cause name file store None ShelfFails SourceFails SinkFails status own runs only cause = tt
taken-up-cause name file store (Some map) ShelfFails SourceFails SinkFails status own runs only cause = by (map name) refl runs
  where
    by : (found : Option (List ℕ)) → found ≡ map name → IsSomeAnd found RunsSome → IsSomeAnd found (CauseTakenUp file store (Some map) ShelfFails SourceFails SinkFails status)
    by None is runs = runs
    by (Some text) is runs =
        let holds : IsSomeAnd (map name) (λ bytes. Runs bytes runs.own) = subst (λ found. IsSomeAnd found (λ bytes. Runs bytes runs.own)) is runs.runs in
        record { own = runs.own; runs = runs.runs; cause = subst (λ (own : Running). CauseBack own.model file store (Some map) ShelfFails SourceFails SinkFails status) (sym (only runs.own holds)) cause }

-- A run in drawn orders stores nothing.
pub drawn-unsaved : (ShelfFails SourceFails SinkFails : Type 0) (status : Status) → IsOfRun SourceFails SinkFails status → IsOfStored None ShelfFails SourceFails SinkFails status
drawn-unsaved ShelfFails SourceFails SinkFails Done is = is
drawn-unsaved ShelfFails SourceFails SinkFails (Refused kind line column) is = is
drawn-unsaved ShelfFails SourceFails SinkFails Usage is = is
drawn-unsaved ShelfFails SourceFails SinkFails (BadInput kind line) is = is
drawn-unsaved ShelfFails SourceFails SinkFails (ModelFault fault) is = is
drawn-unsaved ShelfFails SourceFails SinkFails (Unread reading because) is = is
drawn-unsaved ShelfFails SourceFails SinkFails (Unwritten what.Output) is = is
drawn-unsaved ShelfFails SourceFails SinkFails (Unwritten what.Input) is = is
drawn-unsaved ShelfFails SourceFails SinkFails (Unwritten what.Model) is = is
drawn-unsaved ShelfFails SourceFails SinkFails (Unwritten what.Save) is = absurd is
drawn-unsaved ShelfFails SourceFails SinkFails Memory is = is
drawn-unsaved ShelfFails SourceFails SinkFails (BadSave fault) is = is

-- A run in drawn orders that was made did not end before.
pub drawn-not-before : (SourceFails SinkFails : Type 0) (status : Status) → IsOfRun SourceFails SinkFails status → IsBeforeRun status → ⊥
drawn-not-before SourceFails SinkFails status is before = run-not-before None ⊥ SourceFails SinkFails status (drawn-unsaved ⊥ SourceFails SinkFails status is) before
