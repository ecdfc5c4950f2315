-- What is known of bytes under a name, and where no model was loaded.
use Rattle.std.proofs.Common.{◌≡◌, ℕ, ◌<◌, ◌⊎◌, inl, inr, List, length, Result, Ok, Err, refl, sym, ap, subst, ◌∙◌}
use Rattle.std.specs.Prelude.{Option, Some, None, ⊤, IfSome, IfOk, IsSomeAnd}
use Rattle.std.proofs.lemmas.List.{append-nil}
use Rattle.dsde_syntax.specs.declared.decl.Model.{Model}
use Rattle.dsde_input_records.specs.Records.{Records}
use Rattle.dsde_sound_runs.specs.given.run_meaning.Run.{Run}
use Rattle.dsde_io.specs.Held.{Bytes}
use Rattle.dsde_cli_status.specs.given.trace.pick_Pick.{Pick}
use Rattle.dsde_run_free.specs.given.run.Run.{Running, records_in}
use Rattle.dsde_cli_status.specs.given.cli_verdict.refusal_Refusal.{Refusal}
use Rattle.dsde_cli_status.specs.given.cli_verdict.refusal_ReadModel.{ReadModel}
use Rattle.dsde_cli_status.specs.given.cli_verdict.refusal_ReadModel_TheVariants as read_model
use Rattle.dsde_cli_status.specs.given.cli_verdict.Verdict.{Accepts, Refuses, IsVerdict}
use Rattle.dsde_cli_status.specs.declared.status.Status.{Status}
use Rattle.dsde_cli_status.specs.declared.status.Status.TheVariants.{Done, Refused, Usage, BadInput, ModelFault, Unread, Unwritten, Memory, BadSave}
use Rattle.dsde_cli_status.specs.declared.status.What.TheVariants as what
use Rattle.dsde_cli_status.specs.declared.status.Why.TheVariants as why
use Rattle.dsde_cli.specs.Answer.{Answers}
use Rattle.dsde_cli.specs.declared.load.Runnable.{Runnable}
use Rattle.dsde_cli.specs.Loaded.{own_of}
use Rattle.dsde_cli.specs.Causes.{AcceptsSome, Runs, RunsSome, Holds, HoldsModel, HoldsNone, NoModel, Tells}
use Rattle.dsde_run_free.specs.given.run.Resumed.{records_for, resumed_on}
use Rattle.dsde_sim_tree.specs.Engine.{Engine}
use Rattle.dsde_cli_status.specs.declared.status.SaveFault.{SaveFault}
use Rattle.dsde_cli.specs.Back.{ComesBack, SaysBack, TellsSave}
use Rattle.dsde_cli.specs.Loads.{Has, Under}
use Rattle.dsde_cli.specs.Saved.{Leaves}
use Rattle.dsde_cli.specs.RunOutcome.{Comes}
use Rattle.dsde_cli.specs.lemmas.Fronts.{front-none}

-- no text has two verdicts
abbrev pub OneVerdict : Type 0
OneVerdict = (bytes : List ℕ) (this that : Result Model ReadModel) → IsVerdict bytes this → IsVerdict bytes that → this ≡ that

-- a model is no refusal
apart : (model : Model) (error : ReadModel) → Ok model ≡ Err error → ⊥
apart model error same = cc same

-- what is accepted is not refused
no_refusal : OneVerdict → (bytes : List ℕ) (kind : Refusal) (line column : ℕ) → AcceptsSome bytes → Refuses bytes kind line column → ⊥
no_refusal one bytes kind line column some is =
    apart some.model (read_model.Refused kind line column) (one bytes (Ok some.model) (Err (read_model.Refused kind line column)) some.accepts is)

-- nor is it too long
no_length : OneVerdict → (bytes : List ℕ) → AcceptsSome bytes → 1_048_576 < length bytes → ⊥
no_length one bytes some long = apart some.model read_model.TooLong (one bytes (Ok some.model) (Err read_model.TooLong) some.accepts long)

-- what runs is accepted
accepts_some : (bytes : List ℕ) → RunsSome bytes → AcceptsSome bytes
accepts_some bytes some = record { model = some.own.model; accepts = some.runs.accepts }

-- what holds of the bytes under a name, and what else does
meet : (found : Option (List ℕ)) (P Q : List ℕ → Type 0) → IsSomeAnd found P → IsSomeAnd found Q → (bytes : List ℕ) × P bytes × Q bytes
meet None P Q has other = absurd has
meet (Some bytes) P Q has other = (bytes, has, other)

-- what does not hold of the same bytes does not hold under a name
never_both : (name : List ℕ) (held : Option Bytes) (P Q : List ℕ → Type 0) → ((bytes : List ℕ) → P bytes → Q bytes → ⊥) → Has name held P → Under name held Q → ⊥
never_both name None P Q never has other = has
never_both name (Some map) P Q never has other = let both = meet (map name) P Q has other in never both.0 both.1 both.2

-- a name that has bytes is not absent
never_absent : (name : List ℕ) (held : Option Bytes) (P : List ℕ → Type 0) → Has name held P → IfSome held (λ map. map name ≡ None) → ⊥
never_absent name None P has none = has
never_absent name (Some map) P has none = let gone : IsSomeAnd None P = subst (λ found. IsSomeAnd found P) none has in gone

-- what holds of the bytes under a name holds of those that were loaded
has-told : (name : List ℕ) (held : Option Bytes) (bytes : List ℕ) (P : List ℕ → Type 0) → IfSome held (λ map. map name ≡ Some bytes) → Has name held P → P bytes
has-told name None bytes P told has = absurd has
has-told name (Some map) bytes P told has = let here : IsSomeAnd (Some bytes) P = subst (λ found. IsSomeAnd found P) told has in here

-- what follows from what holds of the bytes under a name holds of them too
has-some : (found : Option (List ℕ)) (P Q : List ℕ → Type 0) → ((bytes : List ℕ) → P bytes → Q bytes) → IsSomeAnd found P → IsSomeAnd found Q
has-some None P Q then has = absurd has
has-some (Some bytes) P Q then has = then bytes has

pub has-then : (name : List ℕ) (held : Option Bytes) (P Q : List ℕ → Type 0) → ((bytes : List ℕ) → P bytes → Q bytes) → Has name held P → Has name held Q
has-then name None P Q then has = absurd has
has-then name (Some map) P Q then has = has-some (map name) P Q then has

-- the status is one that may come though there is a model to load
abbrev pub IsCut : Status → Type 0
IsCut (Unread what.Model why.Failed) = ⊤
IsCut Memory = ⊤
IsCut other = ⊥

-- there is no other reason for no model where bytes are under the name that are not refused
pub cut_short : (Reason : List ℕ → Refusal → ℕ → ℕ → Type 0) (P : List ℕ → Type 0) (name : List ℕ) (held : Option Bytes) (ShelfFails : Type 0) (status : Status) →
    ((bytes : List ℕ) (kind : Refusal) (line column : ℕ) → P bytes → Reason bytes kind line column → ⊥) → ((bytes : List ℕ) → P bytes → 1_048_576 < length bytes → ⊥) →
    NoModel Reason name held ShelfFails status → Has name held P → IsCut status
cut_short Reason P name held ShelfFails (Refused kind line column) never short none has = absurd (never_both name held P (λ bytes. Reason bytes kind line column) (λ bytes. never bytes kind line column) has none)
cut_short Reason P name held ShelfFails (Unread what.Model why.Absent) never short none has = absurd (never_absent name held P has none)
cut_short Reason P name held ShelfFails (Unread what.Model why.TooLong) never short none has = absurd (never_both name held P (λ bytes. 1_048_576 < length bytes) short has none)
cut_short Reason P name held ShelfFails (Unread what.Model why.Failed) never short none has = tt
cut_short Reason P name held ShelfFails Memory never short none has = tt
cut_short Reason P name held ShelfFails Done never short none has = none
cut_short Reason P name held ShelfFails Usage never short none has = none
cut_short Reason P name held ShelfFails (BadInput kind line) never short none has = none
cut_short Reason P name held ShelfFails (ModelFault fault) never short none has = none
cut_short Reason P name held ShelfFails (Unread what.Save because) never short none has = none
cut_short Reason P name held ShelfFails (Unread what.Input because) never short none has = none
cut_short Reason P name held ShelfFails (Unread what.Output because) never short none has = none
cut_short Reason P name held ShelfFails (Unwritten writing) never short none has = none
cut_short Reason P name held ShelfFails (BadSave fault) never short none has = none

-- a check of a model that is under the name is cut short, and nothing was written
pub answers-cut : (answer written : List ℕ) (out : Option (List ℕ)) (status : Status) → IsCut status → out ≡ Some written → Answers answer written out status
answers-cut answer written out (Unread what.Model why.Failed) is same = same
answers-cut answer written out Memory is same = record { count = 0; is = same ∙ ap Some (sym (append-nil written)) }
answers-cut answer written out (Unread what.Model why.Absent) is same = absurd is
answers-cut answer written out (Unread what.Model why.TooLong) is same = absurd is
answers-cut answer written out (Unread what.Save because) is same = absurd is
answers-cut answer written out (Unread what.Input because) is same = absurd is
answers-cut answer written out (Unread what.Output because) is same = absurd is
answers-cut answer written out (Refused kind line column) is same = absurd is
answers-cut answer written out Done is same = absurd is
answers-cut answer written out Usage is same = absurd is
answers-cut answer written out (BadInput kind line) is same = absurd is
answers-cut answer written out (ModelFault fault) is same = absurd is
answers-cut answer written out (Unwritten writing) is same = absurd is
answers-cut answer written out (BadSave fault) is same = absurd is

-- a run of a model that is under the name is cut short, and nothing was written
pub comes-cut : (own : Running) (pick : Pick) (tells : Records → Run) (input : List ℕ) (left : Option (List ℕ)) (written : List ℕ) (out : Option (List ℕ)) (status : Status) →
    IsCut status → out ≡ Some written → Comes own pick tells input left written out status
comes-cut own pick tells input left written out (Unread what.Model why.Failed) is same = same
comes-cut own pick tells input left written out Memory is same = front-none own pick (tells (records_in own input)) written out same
comes-cut own pick tells input left written out (Unread what.Model why.Absent) is same = absurd is
comes-cut own pick tells input left written out (Unread what.Model why.TooLong) is same = absurd is
comes-cut own pick tells input left written out (Unread what.Save because) is same = absurd is
comes-cut own pick tells input left written out (Unread what.Input because) is same = absurd is
comes-cut own pick tells input left written out (Unread what.Output because) is same = absurd is
comes-cut own pick tells input left written out (Refused kind line column) is same = absurd is
comes-cut own pick tells input left written out Done is same = absurd is
comes-cut own pick tells input left written out Usage is same = absurd is
comes-cut own pick tells input left written out (BadInput kind line) is same = absurd is
comes-cut own pick tells input left written out (ModelFault fault) is same = absurd is
comes-cut own pick tells input left written out (Unwritten writing) is same = absurd is
comes-cut own pick tells input left written out (BadSave fault) is same = absurd is

-- what the shelf tells, if it tells anything
pub told_same : (before : Option (List ℕ)) (P : List ℕ → Type 0) → ((written : List ℕ) → before ≡ Some written → P written) → IfSome before P
told_same None P then = tt
told_same (Some written) P then = then written refl

-- where no model that is accepted was loaded though there is one, the load was cut short
pub check_cut : OneVerdict → (name : List ℕ) (held : Option Bytes) (ShelfFails : Type 0) (status : Status) (model : Model) →
    NoModel Refuses name held ShelfFails status → HoldsModel name held model → IsCut status
check_cut one name held ShelfFails status model none holds =
    cut_short Refuses AcceptsSome name held ShelfFails status (no_refusal one) (no_length one) none
    (has-then name held (λ bytes. Accepts bytes model) AcceptsSome (λ bytes accepts. record { model = model; accepts = accepts }) holds)

-- the same of a model that runs
pub run_cut : OneVerdict → (name : List ℕ) (held : Option Bytes) (ShelfFails : Type 0) (status : Status) (own : Running) →
    NoModel Refuses name held ShelfFails status → Holds name held own → IsCut status
run_cut one name held ShelfFails status own none holds =
    check_cut one name held ShelfFails status own.model none (has-then name held (λ bytes. Runs bytes own) (λ bytes. Accepts bytes own.model) (λ bytes runs. runs.accepts) holds)

-- what runs of the bytes that were loaded is what runs of those under the name
pub runs-only : (name : List ℕ) (held : Option Bytes) (bytes : List ℕ) (result : Result Runnable Status) → IfSome held (λ map. map name ≡ Some bytes) →
    IfOk result (λ loaded. (other : Running) → Runs bytes other → other ≡ own_of loaded) → IfOk result (λ loaded. (other : Running) → Holds name held other → other ≡ own_of loaded)
runs-only name held bytes (Ok loaded) told only = λ other holds. only other (has-told name held bytes (λ bytes. Runs bytes other) told holds)
runs-only name held bytes (Err status) told only = tt

-- a text that is read gives one model
pub same_model : (this that : Model) → (◌≡◌ {A = Result Model ReadModel} (Ok this) (Ok that)) ⊎ (◌≡◌ {A = Result Model ReadModel} (Ok this) (Err read_model.Memory)) → that ≡ this
same_model this that (inl same) = cc same
same_model this that (inr other) = absurd (apart this read_model.Memory other)

-- a refusal is one, with its place
same_refusal : (this that : Refusal) (line other_line column other_column : ℕ) →
    ◌≡◌ {A = Result Model ReadModel} (Err (read_model.Refused this line column)) (Err (read_model.Refused that other_line other_column)) → (this ≡ that) × (line ≡ other_line) × (column ≡ other_column)
same_refusal this that line other_line column other_column same = (cc same, cc same, cc same)

-- a text has one refusal
one_refusal : OneVerdict → (bytes : List ℕ) (this that : Refusal) (line other_line column other_column : ℕ) → Refuses bytes this line column → Refuses bytes that other_line other_column →
    (this ≡ that) × (line ≡ other_line) × (column ≡ other_column)
one_refusal one bytes this that line other_line column other_column first other =
    same_refusal this that line other_line column other_column
    (one bytes (Err (read_model.Refused this line column)) (Err (read_model.Refused that other_line other_column)) first other)

-- a text that is refused is not too long
not_long : OneVerdict → (bytes : List ℕ) (kind : Refusal) (line column : ℕ) → Refuses bytes kind line column → 1_048_576 < length bytes → ⊥
not_long one bytes kind line column is long = length_apart (read_model.Refused kind line column) (λ same. cc same) (one bytes (Err (read_model.Refused kind line column)) (Err read_model.TooLong) is long)
  where
    length_apart : (error : ReadModel) → (error ≡ read_model.TooLong → ⊥) → ◌≡◌ {A = Result Model ReadModel} (Err error) (Err read_model.TooLong) → ⊥
    length_apart error other same = other (cc same)

-- where bytes under the name are refused, that is told
tells_refusal : (Reason : List ℕ → Refusal → ℕ → ℕ → Type 0) (name : List ℕ) (held : Option Bytes) (ShelfFails : Type 0) (status : Status) (kind : Refusal) (line column : ℕ) →
    ((bytes : List ℕ) (told : Refusal) (told_line told_column : ℕ) → Reason bytes told told_line told_column → Reason bytes kind line column → (told ≡ kind) × (told_line ≡ line) × (told_column ≡ column)) →
    ((bytes : List ℕ) → Reason bytes kind line column → 1_048_576 < length bytes → ⊥) →
    NoModel Reason name held ShelfFails status → Has name held (λ bytes. Reason bytes kind line column) → Tells kind line column status
tells_refusal Reason name None ShelfFails (Refused told told_line told_column) kind line column one short none has = absurd has
tells_refusal Reason name (Some map) ShelfFails (Refused told told_line told_column) kind line column one short none has =
    let both = meet (map name) (λ bytes. Reason bytes kind line column) (λ bytes. Reason bytes told told_line told_column) has none in
    one both.0 told told_line told_column both.2 both.1
tells_refusal Reason name held ShelfFails (Unread what.Model why.Absent) kind line column one short none has = absurd (never_absent name held (λ bytes. Reason bytes kind line column) has none)
tells_refusal Reason name held ShelfFails (Unread what.Model why.TooLong) kind line column one short none has = absurd (never_both name held (λ bytes. Reason bytes kind line column) (λ bytes. 1_048_576 < length bytes) short has none)
tells_refusal Reason name held ShelfFails (Unread what.Model why.Failed) kind line column one short none has = tt
tells_refusal Reason name held ShelfFails Memory kind line column one short none has = tt
tells_refusal Reason name held ShelfFails Done kind line column one short none has = none
tells_refusal Reason name held ShelfFails Usage kind line column one short none has = none
tells_refusal Reason name held ShelfFails (BadInput bad number) kind line column one short none has = none
tells_refusal Reason name held ShelfFails (ModelFault fault) kind line column one short none has = none
tells_refusal Reason name held ShelfFails (Unread what.Save because) kind line column one short none has = none
tells_refusal Reason name held ShelfFails (Unread what.Input because) kind line column one short none has = none
tells_refusal Reason name held ShelfFails (Unread what.Output because) kind line column one short none has = none
tells_refusal Reason name held ShelfFails (Unwritten writing) kind line column one short none has = none
tells_refusal Reason name held ShelfFails (BadSave fault) kind line column one short none has = none

-- what is told of bytes under the name that are refused
pub refusal_tells : OneVerdict → (name : List ℕ) (held : Option Bytes) (ShelfFails : Type 0) (status : Status) (kind : Refusal) (line column : ℕ) →
    NoModel Refuses name held ShelfFails status → Has name held (λ bytes. Refuses bytes kind line column) → Tells kind line column status
refusal_tells one name held ShelfFails status kind line column none has =
    tells_refusal Refuses name held ShelfFails status kind line column
    (λ bytes told told_line told_column first other. one_refusal one bytes told kind told_line line told_column column first other)
    (λ bytes is. not_long one bytes kind line column is) none has

-- a model that was loaded is not refused
pub check_unrefused : OneVerdict → (name : List ℕ) (held : Option Bytes) (kind : Refusal) (line column : ℕ) → Under name held AcceptsSome → Has name held (λ bytes. Refuses bytes kind line column) → ⊥
check_unrefused one name held kind line column some has =
    never_both name held (λ bytes. Refuses bytes kind line column) AcceptsSome (λ bytes is some. no_refusal one bytes kind line column some is) has some

pub run_unrefused : OneVerdict → (name : List ℕ) (held : Option Bytes) (kind : Refusal) (line column : ℕ) → Under name held RunsSome → Has name held (λ bytes. Refuses bytes kind line column) → ⊥
run_unrefused one name held kind line column some has =
    never_both name held (λ bytes. Refuses bytes kind line column) RunsSome (λ bytes is some. no_refusal one bytes kind line column (accepts_some bytes some) is) has some

-- a model that was loaded is under the name
pub never-none : (name : List ℕ) (held : Option Bytes) → Under name held RunsSome → HoldsNone name held → ⊥
never-none name None some none = none
never-none name (Some map) some none = by (map name) some none
  where
    by : (found : Option (List ℕ)) → IsSomeAnd found RunsSome → IfSome found (λ bytes. ¬ (RunsSome bytes)) → ⊥
    by None some none = some
    by (Some bytes) some none = none some

-- where there is no model the shelf is as it was
pub leaves-unloaded : (Reason : List ℕ → Refusal → ℕ → ℕ → Type 0) (name : Option (List ℕ)) (model : List ℕ) (held after : Option Bytes) (ShelfFails : Type 0) (status : Status) → after ≡ held →
    NoModel Reason model held ShelfFails status → Leaves name ShelfFails held after status
leaves-unloaded Reason None model held after ShelfFails status same none = same
leaves-unloaded Reason (Some name) model held after ShelfFails (Refused kind line column) same none = same
leaves-unloaded Reason (Some name) model held after ShelfFails (Unread reading because) same none = same
leaves-unloaded Reason (Some name) model held after ShelfFails Memory same none = inl same
leaves-unloaded Reason (Some name) model held after ShelfFails Done same none = absurd none
leaves-unloaded Reason (Some name) model held after ShelfFails Usage same none = absurd none
leaves-unloaded Reason (Some name) model held after ShelfFails (BadInput kind line) same none = absurd none
leaves-unloaded Reason (Some name) model held after ShelfFails (ModelFault fault) same none = absurd none
leaves-unloaded Reason (Some name) model held after ShelfFails (Unwritten writing) same none = absurd none
leaves-unloaded Reason (Some name) model held after ShelfFails (BadSave fault) same none = absurd none

-- and where memory ran out
pub leaves-memory : (name : Option (List ℕ)) (held after : Option Bytes) (ShelfFails : Type 0) → after ≡ held → Leaves name ShelfFails held after Memory
leaves-memory None held after ShelfFails same = same
leaves-memory (Some name) held after ShelfFails same = inl same

-- what is cut short did not go well
pub done_is_no_cut : (status : Status) → status ≡ Done → IsCut status → ⊥
done_is_no_cut status well cut = let none : IsCut Done = subst IsCut well cut in none

-- a run of a model that is under the name is not taken up again, and nothing was written
pub back-cut : (own : Running) (pick : Pick) (turns : ℕ) (engine : Engine) (input : List ℕ) (left : Option (List ℕ)) (written : List ℕ) (out : Option (List ℕ)) (status : Status) → IsCut status → out ≡ Some written →
    ComesBack own pick turns engine input left written out status
back-cut own pick turns engine input left written out (Unread what.Model why.Failed) is same = same
back-cut own pick turns engine input left written out Memory is same = front-none own pick (resumed_on own turns engine (records_for own engine input)) written out same
back-cut own pick turns engine input left written out (Unread what.Model why.Absent) is same = absurd is
back-cut own pick turns engine input left written out (Unread what.Model why.TooLong) is same = absurd is
back-cut own pick turns engine input left written out (Unread what.Save because) is same = absurd is
back-cut own pick turns engine input left written out (Unread what.Input because) is same = absurd is
back-cut own pick turns engine input left written out (Unread what.Output because) is same = absurd is
back-cut own pick turns engine input left written out (Refused kind line column) is same = absurd is
back-cut own pick turns engine input left written out Done is same = absurd is
back-cut own pick turns engine input left written out Usage is same = absurd is
back-cut own pick turns engine input left written out (BadInput kind line) is same = absurd is
back-cut own pick turns engine input left written out (ModelFault fault) is same = absurd is
back-cut own pick turns engine input left written out (Unwritten writing) is same = absurd is
back-cut own pick turns engine input left written out (BadSave fault) is same = absurd is

pub back-unloaded : (own : Running) (pick : Pick) (turns : ℕ) (engine : Engine) (left out : Option (List ℕ)) (status : Status) → IsCut status → IfSome left (λ input. IfSome out (λ written. ComesBack own pick turns engine input left written out status))
back-unloaded own pick turns engine None out status is = tt
back-unloaded own pick turns engine (Some input) None status is = tt
back-unloaded own pick turns engine (Some input) (Some written) status is = back-cut own pick turns engine input (Some input) written (Some written) status is refl

says-cut : (own : Running) (turns : ℕ) (engine : Engine) (input : List ℕ) (left : Option (List ℕ)) (status : Status) → IsCut status → SaysBack own turns engine input left status
says-cut own turns engine input left (Unread what.Model why.Failed) is = tt
says-cut own turns engine input left Memory is = tt
says-cut own turns engine input left (Unread what.Model why.Absent) is = absurd is
says-cut own turns engine input left (Unread what.Model why.TooLong) is = absurd is
says-cut own turns engine input left (Unread what.Save because) is = absurd is
says-cut own turns engine input left (Unread what.Input because) is = absurd is
says-cut own turns engine input left (Unread what.Output because) is = absurd is
says-cut own turns engine input left (Refused kind line column) is = absurd is
says-cut own turns engine input left Done is = absurd is
says-cut own turns engine input left Usage is = absurd is
says-cut own turns engine input left (BadInput kind line) is = absurd is
says-cut own turns engine input left (ModelFault fault) is = absurd is
says-cut own turns engine input left (Unwritten writing) is = absurd is
says-cut own turns engine input left (BadSave fault) is = absurd is

pub says-unloaded : (own : Running) (turns : ℕ) (engine : Engine) (left : Option (List ℕ)) (status : Status) → IsCut status → IfSome left (λ input. SaysBack own turns engine input left status)
says-unloaded own turns engine None status is = tt
says-unloaded own turns engine (Some input) status is = says-cut own turns engine input (Some input) status is

pub tells-cut : (fault : SaveFault) (status : Status) → IsCut status → TellsSave fault status
tells-cut fault (Unread what.Model why.Failed) is = tt
tells-cut fault Memory is = tt
tells-cut fault (Unread what.Model why.Absent) is = absurd is
tells-cut fault (Unread what.Model why.TooLong) is = absurd is
tells-cut fault (Unread what.Save because) is = absurd is
tells-cut fault (Unread what.Input because) is = absurd is
tells-cut fault (Unread what.Output because) is = absurd is
tells-cut fault (Refused kind line column) is = absurd is
tells-cut fault Done is = absurd is
tells-cut fault Usage is = absurd is
tells-cut fault (BadInput kind line) is = absurd is
tells-cut fault (ModelFault found) is = absurd is
tells-cut fault (Unwritten writing) is = absurd is
tells-cut fault (BadSave told) is = absurd is
