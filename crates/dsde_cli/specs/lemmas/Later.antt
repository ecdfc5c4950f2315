-- What failed behind a load failed in the whole call.
use Rattle.std.proofs.Common.{◌≡◌, ◌≤◌, ℕ, List, inl, inr, subst, arith}
use Rattle.std.specs.Prelude.{Option, Some, None}
use Rattle.dsde_io.specs.Fault.{Rose}
use Rattle.dsde_io.specs.Held.{Bytes}
use Rattle.dsde_cli_status.specs.declared.status.SaveFault.TheVariants as save
use Rattle.dsde_cli_status.specs.declared.status.Status.{Status}
use Rattle.dsde_cli_status.specs.declared.status.Status.TheVariants.{Done, Refused, Usage, BadInput, ModelFault, Unread, Unwritten, Memory, BadSave}
use Rattle.dsde_cli_status.specs.declared.status.What.TheVariants as what
use Rattle.dsde_cli.specs.Back.{IsOfBack}
use Rattle.dsde_cli.specs.Saved.{IsOfStored, Leaves}

pub rose-later : (old mid new : ℕ) → old ≤ mid → Rose mid new → Rose old new
rose-later old mid new counted rose = omega (arith, counted, rose)

pub stored-later : (name : Option (List ℕ)) (ShelfFails Fails SourceFails SinkFails : Type 0) (status : Status) → (ShelfFails → Fails) → IsOfStored name ShelfFails SourceFails SinkFails status → IsOfStored name Fails SourceFails SinkFails status
stored-later name ShelfFails Fails SourceFails SinkFails Done next is = is
stored-later name ShelfFails Fails SourceFails SinkFails (Refused kind line column) next is = is
stored-later name ShelfFails Fails SourceFails SinkFails Usage next is = is
stored-later name ShelfFails Fails SourceFails SinkFails (BadInput kind line) next is = is
stored-later name ShelfFails Fails SourceFails SinkFails (ModelFault fault) next is = is
stored-later name ShelfFails Fails SourceFails SinkFails (Unread reading because) next is = is
stored-later name ShelfFails Fails SourceFails SinkFails (Unwritten what.Output) next is = is
stored-later name ShelfFails Fails SourceFails SinkFails (Unwritten what.Input) next is = is
stored-later name ShelfFails Fails SourceFails SinkFails (Unwritten what.Model) next is = is
stored-later name ShelfFails Fails SourceFails SinkFails (Unwritten what.Save) next is = (is.0, next is.1)
stored-later name ShelfFails Fails SourceFails SinkFails Memory next is = is
stored-later name ShelfFails Fails SourceFails SinkFails (BadSave fault) next is = is

pub back-later : (name : Option (List ℕ)) (ShelfFails Fails SourceFails SinkFails : Type 0) (status : Status) → (ShelfFails → Fails) → IsOfBack name ShelfFails SourceFails SinkFails status → IsOfBack name Fails SourceFails SinkFails status
back-later name ShelfFails Fails SourceFails SinkFails Done next is = is
back-later name ShelfFails Fails SourceFails SinkFails (Refused kind line column) next is = is
back-later name ShelfFails Fails SourceFails SinkFails Usage next is = is
back-later name ShelfFails Fails SourceFails SinkFails (BadInput kind line) next is = is
back-later name ShelfFails Fails SourceFails SinkFails (ModelFault fault) next is = is
back-later name ShelfFails Fails SourceFails SinkFails (Unread reading because) next is = is
back-later name ShelfFails Fails SourceFails SinkFails (Unwritten what.Output) next is = is
back-later name ShelfFails Fails SourceFails SinkFails (Unwritten what.Input) next is = is
back-later name ShelfFails Fails SourceFails SinkFails (Unwritten what.Model) next is = is
back-later name ShelfFails Fails SourceFails SinkFails (Unwritten what.Save) next is = (is.0, next is.1)
back-later name ShelfFails Fails SourceFails SinkFails Memory next is = is
back-later name ShelfFails Fails SourceFails SinkFails (BadSave save.NotJson) next is = is
back-later name ShelfFails Fails SourceFails SinkFails (BadSave save.WrongForm) next is = is
back-later name ShelfFails Fails SourceFails SinkFails (BadSave (save.DoesNotFit path)) next is = is
back-later name ShelfFails Fails SourceFails SinkFails (BadSave save.FewRecords) next is = is

leaves-case : (name : Option (List ℕ)) (ShelfFails Fails : Type 0) (held after : Option Bytes) (status : Status) → (ShelfFails → Fails) → Leaves name ShelfFails held after status → Leaves name Fails held after status
leaves-case None ShelfFails Fails held after status next leaves = leaves
leaves-case (Some name) ShelfFails Fails held after Memory next (inl same) = inl same
leaves-case (Some name) ShelfFails Fails held after Memory next (inr changed) = inr (changed.0, next changed.1)
leaves-case (Some name) ShelfFails Fails held after Done next leaves = leaves
leaves-case (Some name) ShelfFails Fails held after (Refused kind line column) next leaves = leaves
leaves-case (Some name) ShelfFails Fails held after Usage next leaves = leaves
leaves-case (Some name) ShelfFails Fails held after (BadInput kind line) next leaves = leaves
leaves-case (Some name) ShelfFails Fails held after (ModelFault fault) next leaves = leaves
leaves-case (Some name) ShelfFails Fails held after (Unread reading because) next leaves = leaves
leaves-case (Some name) ShelfFails Fails held after (Unwritten what.Output) next leaves = leaves
leaves-case (Some name) ShelfFails Fails held after (Unwritten what.Input) next leaves = leaves
leaves-case (Some name) ShelfFails Fails held after (Unwritten what.Model) next leaves = leaves
leaves-case (Some name) ShelfFails Fails held after (Unwritten what.Save) next leaves = (leaves.0, next leaves.1)
leaves-case (Some name) ShelfFails Fails held after (BadSave fault) next leaves = leaves

pub leaves-later : (name : Option (List ℕ)) (ShelfFails Fails : Type 0) (held mid after : Option Bytes) (status : Status) → mid ≡ held → (ShelfFails → Fails) → Leaves name ShelfFails mid after status → Leaves name Fails held after status
leaves-later name ShelfFails Fails held mid after status same next leaves = leaves-case name ShelfFails Fails held after status next (subst (λ held. Leaves name ShelfFails held after status) same leaves)
