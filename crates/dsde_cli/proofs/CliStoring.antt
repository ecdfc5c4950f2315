-- What a store makes of the status of a run.
use Rattle.std.proofs.Common.{◌≡◌, ◌≢◌, ◌≤◌, ◌^◌, ℕ, List, ◌⊎◌, inl, inr, refl, sym, ap, subst, ◌∙◌}
use Rattle.std.specs.Prelude.{Option, Some, None, IfOk, IfSome, IsSomeAnd, is_some, true, if◌then◌else◌, Result, Ok, Err}
use Rattle.std.specs.Option.{option_map}
use Rattle.serde_json.specs.Written.{compact_text}
use Rattle.dsde_syntax.specs.declared.decl.Model.{Model}
use Rattle.dsde_sim_tree.specs.declared.sim.Sim.{Sim}
use Rattle.dsde_run_free.specs.given.core_engine.Standing.{Standing}
use Rattle.dsde_sim_tree.specs.Engine.{Engine}
use Rattle.dsde_sim_tree.specs.declared.event.Finish.{Finish}
use Rattle.dsde_sim_tree.specs.declared.event.Finish.TheVariants as how
use Rattle.dsde_input_records.specs.Records.{Records}
use Rattle.dsde_sound_runs.specs.given.run_meaning.Run.{Run}
use Rattle.dsde_run_free.specs.given.run.run_Cut.{Cut}
use Rattle.dsde_run_free.specs.given.run.run_Cut_TheVariants as cut
use Rattle.dsde_run_free.specs.given.run.Run.{Running}
use Rattle.dsde_cli_status.specs.given.trace.pick_Pick.{Pick}
use Rattle.dsde_run_free.specs.given.run.Reading.{IsWhole, Told}
use Rattle.dsde_run_free.specs.given.run.SavedRuns.{image_at, image_left, is_stored}
use Rattle.dsde_run_free.specs.given.run.Saved.{Says, image_of}
use Rattle.dsde_image.specs.declared.image.Image.{Image}
use Rattle.dsde_image.specs.declared.image.Version.TheVariants.{Two}
use Rattle.dsde_image.specs.Json.{image_data}
use Rattle.dsde_image.specs.Text.{IsReading}
use Rattle.dsde_io.specs.Held.{Bytes, ChangesOnly}
use Rattle.dsde_io.specs.declared.shelf.ShelfEnd.{ShelfEnd}
use Rattle.dsde_io.specs.declared.shelf.ShelfEnd.TheVariants as shelf_end
use Rattle.dsde_cli_status.specs.declared.status.Status.{Status}
use Rattle.dsde_cli_status.specs.declared.status.Status.TheVariants.{Done, Refused, Usage, BadInput, ModelFault, Unread, Unwritten, Memory, BadSave}
use Rattle.dsde_cli_status.specs.declared.status.What.TheVariants as what
use Rattle.dsde_cli.specs.RunOutcome.{EndsWell, SaysEnd, ComesOn, IsOfRun, status_by}
use Rattle.dsde_cli.specs.Saved.{IsOfStore, IsOfStored, IsTextOf, Leaves, Stores, unstored}
use Rattle.dsde_cli.specs.lemmas.Fronts.{front-whole}

-- all went well, or it did not
pub is_done : (status : Status) → (status ≡ Done) ⊎ (status ≢ Done)
is_done Done = inl refl
is_done (Refused kind line column) = inr (λ same. cc same)
is_done Usage = inr (λ same. cc same)
is_done (BadInput kind line) = inr (λ same. cc same)
is_done (ModelFault fault) = inr (λ same. cc same)
is_done (Unread reading because) = inr (λ same. cc same)
is_done (Unwritten writing) = inr (λ same. cc same)
is_done Memory = inr (λ same. cc same)
is_done (BadSave fault) = inr (λ same. cc same)

-- What holds of the status of a run holds of what a store makes of it, where it then holds of the store's own
-- statuses too.
stored-case : (P : Status → Type 0) (name : Option (List ℕ)) (ShelfFails : Type 0) (result : Status) → IsOfStore name ShelfFails result → P Done → (P Done → P (Unwritten what.Save)) → (P Done → P Memory) → P result
stored-case P name ShelfFails Done is held save memory = held
stored-case P name ShelfFails (Unwritten what.Save) is held save memory = save held
stored-case P name ShelfFails Memory is held save memory = memory held
stored-case P name ShelfFails (Unwritten what.Output) is held save memory = absurd is
stored-case P name ShelfFails (Unwritten what.Input) is held save memory = absurd is
stored-case P name ShelfFails (Unwritten what.Model) is held save memory = absurd is
stored-case P name ShelfFails (Refused kind line column) is held save memory = absurd is
stored-case P name ShelfFails Usage is held save memory = absurd is
stored-case P name ShelfFails (BadInput kind line) is held save memory = absurd is
stored-case P name ShelfFails (ModelFault fault) is held save memory = absurd is
stored-case P name ShelfFails (Unread reading because) is held save memory = absurd is
stored-case P name ShelfFails (BadSave fault) is held save memory = absurd is

pub stored-by : (P : Status → Type 0) (name : Option (List ℕ)) (ShelfFails : Type 0) (status result : Status) → (status ≢ Done → result ≡ status) → (status ≡ Done → IsOfStore name ShelfFails result) →
    P status → (P Done → P (Unwritten what.Save)) → (P Done → P Memory) → P result
stored-by P name ShelfFails status result other done held save memory = by (is_done status)
  where
    by : (status ≡ Done) ⊎ (status ≢ Done) → P result
    by (inl is) = stored-case P name ShelfFails result (done is) (subst P is held) save memory
    by (inr not) = subst P (sym (other not)) held

-- what follows of what there is, if there is any
pub follows : {A : Type 0} (found : Option A) (P Q : A → Type 0) → ((one : A) → P one → Q one) → IfSome found P → IfSome found Q
follows None P Q next is = tt
follows (Some one) P Q next is = next one is

-- What a run comes to, with the store behind it.
pub comes-stored : (own : Running) (pick : Pick) (tells : Records → Run) (records : List ℕ → Records) (left left_after before after : Option (List ℕ)) (name : Option (List ℕ)) (ShelfFails : Type 0) (status result : Status) →
    (status ≢ Done → result ≡ status) → (status ≡ Done → IsOfStore name ShelfFails result) →
    IfSome left (λ input. IfSome before (λ written. ComesOn own pick tells (records input) input left_after written after status)) →
    IfSome left (λ input. IfSome before (λ written. ComesOn own pick tells (records input) input left_after written after result))
comes-stored own pick tells records left left_after before after name ShelfFails status result other done comes =
    stored-by (λ status. IfSome left (λ input. IfSome before (λ written. ComesOn own pick tells (records input) input left_after written after status)))
    name ShelfFails status result other done comes (λ held. held)
    (follows left (λ input. IfSome before (λ written. ComesOn own pick tells (records input) input left_after written after Done)) (λ input. IfSome before (λ written. ComesOn own pick tells (records input) input left_after written after Memory))
    (λ input. follows before (λ written. ComesOn own pick tells (records input) input left_after written after Done) (λ written. ComesOn own pick tells (records input) input left_after written after Memory)
    (λ written whole. front-whole own pick (tells (records input)) written after whole.0)))

-- nothing is said
said_nothing : (left : Option (List ℕ)) → IfSome left (λ input. Unit {0})
said_nothing None = tt
said_nothing (Some input) = tt

pub ends-stored : (tells : List ℕ → Run) (left left_after : Option (List ℕ)) (name : Option (List ℕ)) (ShelfFails : Type 0) (status result : Status) →
    (status ≢ Done → result ≡ status) → (status ≡ Done → IsOfStore name ShelfFails result) →
    IfSome left (λ input. SaysEnd (tells input).end left_after status) → IfSome left (λ input. SaysEnd (tells input).end left_after result)
ends-stored tells left left_after name ShelfFails status result other done ends =
    stored-by (λ status. IfSome left (λ input. SaysEnd (tells input).end left_after status)) name ShelfFails status result other done ends (λ held. held) (λ held. said_nothing left)

-- a status of a run is one of a run and a store
pub of-run-stored : (name : Option (List ℕ)) (ShelfFails SourceFails SinkFails : Type 0) (status : Status) → IsOfRun SourceFails SinkFails status → IsOfStored name ShelfFails SourceFails SinkFails status
of-run-stored name ShelfFails SourceFails SinkFails Done is = is
of-run-stored name ShelfFails SourceFails SinkFails (Refused kind line column) is = is
of-run-stored name ShelfFails SourceFails SinkFails Usage is = is
of-run-stored name ShelfFails SourceFails SinkFails (BadInput kind line) is = is
of-run-stored name ShelfFails SourceFails SinkFails (ModelFault fault) is = is
of-run-stored name ShelfFails SourceFails SinkFails (Unread reading because) is = is
of-run-stored name ShelfFails SourceFails SinkFails (Unwritten what.Output) is = is
of-run-stored name ShelfFails SourceFails SinkFails (Unwritten what.Input) is = is
of-run-stored name ShelfFails SourceFails SinkFails (Unwritten what.Model) is = is
of-run-stored name ShelfFails SourceFails SinkFails (Unwritten what.Save) is = absurd is
of-run-stored name ShelfFails SourceFails SinkFails Memory is = is
of-run-stored name ShelfFails SourceFails SinkFails (BadSave fault) is = is

-- and so is one of a store
pub of-store : (name : Option (List ℕ)) (ShelfFails SourceFails SinkFails : Type 0) (status : Status) → IsOfStore name ShelfFails status → IsOfStored name ShelfFails SourceFails SinkFails status
of-store name ShelfFails SourceFails SinkFails Done is = tt
of-store name ShelfFails SourceFails SinkFails (Unwritten what.Save) is = is
of-store name ShelfFails SourceFails SinkFails Memory is = tt
of-store name ShelfFails SourceFails SinkFails (Unwritten what.Output) is = absurd is
of-store name ShelfFails SourceFails SinkFails (Unwritten what.Input) is = absurd is
of-store name ShelfFails SourceFails SinkFails (Unwritten what.Model) is = absurd is
of-store name ShelfFails SourceFails SinkFails (Refused kind line column) is = absurd is
of-store name ShelfFails SourceFails SinkFails Usage is = absurd is
of-store name ShelfFails SourceFails SinkFails (BadInput kind line) is = absurd is
of-store name ShelfFails SourceFails SinkFails (ModelFault fault) is = absurd is
of-store name ShelfFails SourceFails SinkFails (Unread reading because) is = absurd is
of-store name ShelfFails SourceFails SinkFails (BadSave fault) is = absurd is

pub cause-stored : (name : Option (List ℕ)) (ShelfFails SourceFails SinkFails : Type 0) (status result : Status) → (status ≢ Done → result ≡ status) → (status ≡ Done → IsOfStore name ShelfFails result) →
    IsOfStored name ShelfFails SourceFails SinkFails status → IsOfStored name ShelfFails SourceFails SinkFails result
cause-stored name ShelfFails SourceFails SinkFails status result other done is = by (is_done status)
  where
    by : (status ≡ Done) ⊎ (status ≢ Done) → IsOfStored name ShelfFails SourceFails SinkFails result
    by (inl well) = of-store name ShelfFails SourceFails SinkFails result (done well)
    by (inr not) = subst (IsOfStored name ShelfFails SourceFails SinkFails) (sym (other not)) is

-- no run ends with a store that failed
pub not-unsaved : (result : Result Finish Cut) → status_by result ≢ Unwritten what.Save
not-unsaved (Ok how.Bound) same = cc same
not-unsaved (Ok how.Quiet) same = cc same
not-unsaved (Ok (how.Input kind line)) same = cc same
not-unsaved (Ok (how.Fault fault)) same = cc same
not-unsaved (Err cut.ReadFault) same = cc same
not-unsaved (Err cut.Unwritten) same = cc same
not-unsaved (Err cut.Memory) same = cc same

-- a shelf that was not written leaves what a run may leave that did not end well
pub leaves-same : (name : List ℕ) (ShelfFails : Type 0) (held : Option Bytes) (status : Status) → status ≢ Done → status ≢ Unwritten what.Save → Leaves (Some name) ShelfFails held held status
leaves-same name ShelfFails held Done well save = absurd (well refl)
leaves-same name ShelfFails held (Unwritten what.Save) well save = absurd (save refl)
leaves-same name ShelfFails held Memory well save = inl refl
leaves-same name ShelfFails held (Unwritten what.Output) well save = refl
leaves-same name ShelfFails held (Unwritten what.Input) well save = refl
leaves-same name ShelfFails held (Unwritten what.Model) well save = refl
leaves-same name ShelfFails held (Refused kind line column) well save = refl
leaves-same name ShelfFails held Usage well save = refl
leaves-same name ShelfFails held (BadInput kind line) well save = refl
leaves-same name ShelfFails held (ModelFault fault) well save = refl
leaves-same name ShelfFails held (Unread reading because) well save = refl
leaves-same name ShelfFails held (BadSave fault) well save = refl

-- what is saved of an engine that has a tree is the text of its image
pub text-saved : (program : Model) (engine : Engine) (text : List ℕ) → is_some engine.tree ≡ true →
    IfSome engine.tree (λ tree. text ≡ compact_text (image_data (image_of program Two engine tree))) → IfSome engine.tree (λ tree. IsReading text (image_data (image_of program Two engine tree))) →
    (engine.turn ≤ 2 ^ 62 → IfSome engine.tree (λ tree. Says text (image_of program Two engine tree))) → IsSomeAnd (image_at program engine) (λ image. IsTextOf image text)
text-saved program engine text = by engine.tree
  where
    by : (found : Option Sim) → is_some found ≡ true →
        IfSome found (λ tree. text ≡ compact_text (image_data (image_of program Two engine tree))) → IfSome found (λ tree. IsReading text (image_data (image_of program Two engine tree))) →
        (engine.turn ≤ 2 ^ 62 → IfSome found (λ tree. Says text (image_of program Two engine tree))) → IsSomeAnd (option_map (image_of program Two engine) found) (λ image. IsTextOf image text)
    by None some is reading says = absurd (cc some)
    by (Some tree) some is reading says = record { is = is; reading = reading; says = says }

-- and it is under the name where it was stored
pub text-stored : (name text : List ℕ) (image : Option Image) (held : Option Bytes) → IsSomeAnd image (λ own. IsTextOf own text) → IfSome held (λ map. map name ≡ Some text) → Stores (Some name) image held
text-stored name text image None is told = tt
text-stored name text None (Some map) is told = is
text-stored name text (Some image) (Some map) is told = subst (λ found. IsSomeAnd found (IsTextOf image)) (sym told) is

-- the image that a run leaves which ended well is that of its last engine
abbrev Leaving : Model → Run → Option Finish → Type 0
Leaving program run end = image_at program run.state ≡ (if is_stored end then image_at program run.state else None)

pub left-of : (program : Model) (run : Run) (left : Option (List ℕ)) (engine : Engine) → EndsWell run.end left → engine ≡ run.state → image_at program engine ≡ image_left program run
left-of program run left engine well stands = ap (image_at program) stands ∙ by well
  where
    by : EndsWell run.end left → Leaving program run run.end
    by (inl bound) = subst (Leaving program run) (sym bound) refl
    by (inr quiet) = subst (Leaving program run) (sym quiet.0) refl

-- where all went well behind a store, all went well before
pub was-done : (status result : Status) → (status ≢ Done → result ≡ status) → result ≡ Done → status ≡ Done
was-done status result other well = by (is_done status)
  where
    by : (status ≡ Done) ⊎ (status ≢ Done) → status ≡ Done
    by (inl is) = is
    by (inr not) = absurd (not (sym (other not) ∙ well))

-- what a shelf has under a name, if one is given, where what it should have is the same
stores-same : (name : Option (List ℕ)) (image other : Option Image) (held : Option Bytes) → image ≡ other → Stores name image held → Stores name other held
stores-same name image other held same = subst (λ image. Stores name image held) same

-- The image of the last engine is what the run leaves to be stored.
pub stored-left : (name : Option (List ℕ)) (program own : Model) (engine : Engine) (held : Option Bytes) (tells : List ℕ → Run) (left left_after : Option (List ℕ)) → program ≡ own →
    Stores name (image_at program engine) held → IfSome left (λ input. EndsWell (tells input).end left_after) → Told left left_after (λ input after. engine ≡ (tells input).state) →
    IfSome left (λ input. Stores name (image_left own (tells input)) held)
stored-left name program own engine held tells None left_after of stores well stands = tt
stored-left name program own engine held tells (Some input) None of stores well stands = absurd stands
stored-left name program own engine held tells (Some input) (Some after) of stores well stands =
    stores-same name (image_at program engine) (image_left own (tells input)) held (ap (λ program. image_at program engine) of ∙ left-of own (tells input) (Some after) engine well stands) stores

-- The same of the engine that a run left.
pub stored-engine : (name : Option (List ℕ)) (own : Model) (held : Option Bytes) (tells : List ℕ → Run) (left left_after : Option (List ℕ)) (found : Option Standing) →
    IsSomeAnd found (λ core. (core.program ≡ own) × (is_some core.engine.tree ≡ true)) → IfSome found (λ core. Stores name (image_at core.program core.engine) held) →
    IfSome left (λ input. EndsWell (tells input).end left_after) → Told left left_after (λ input after. IsSomeAnd found (λ core. core.engine ≡ (tells input).state)) →
    IfSome left (λ input. Stores name (image_left own (tells input)) held)
stored-engine name own held tells left left_after None of stores well stands = absurd of
stored-engine name own held tells left left_after (Some core) of stores well stands = stored-left name core.program own core.engine held tells left left_after of.0 stores well stands

-- an engine of the program that is not spent is not spent
weaker : (own : Model) (found : Option Standing) → IsSomeAnd found (λ core. (core.program ≡ own) × (is_some core.engine.tree ≡ true)) → IsSomeAnd found (λ core. is_some core.engine.tree ≡ true)
weaker own None of = of
weaker own (Some core) of = of.1

-- the engine that is there where all went well is not spent
pub left-fresh : (own : Model) (answer : Result Finish Cut) (found : Option Standing) → IfOk answer (λ how. IsWhole how → IsSomeAnd found (λ core. (core.program ≡ own) × (is_some core.engine.tree ≡ true))) →
    status_by answer ≡ Done → IsSomeAnd found (λ core. is_some core.engine.tree ≡ true)
left-fresh own (Ok how.Bound) found left well = weaker own found (left tt)
left-fresh own (Ok how.Quiet) found left well = weaker own found (left tt)
left-fresh own (Ok (how.Input kind line)) found left well = absurd (cc well)
left-fresh own (Ok (how.Fault fault)) found left well = absurd (cc well)
left-fresh own (Err cut.ReadFault) found left well = absurd (cc well)
left-fresh own (Err cut.Unwritten) found left well = absurd (cc well)
left-fresh own (Err cut.Memory) found left well = absurd (cc well)

-- What a run stores that ended well.
pub stored-told : (name : Option (List ℕ)) (own : Model) (held : Option Bytes) (tells : List ℕ → Run) (left left_after : Option (List ℕ)) (answer : Result Finish Cut) (found : Option Standing) → status_by answer ≡ Done →
    IfOk answer (λ how. IsWhole how → IsSomeAnd found (λ core. (core.program ≡ own) × (is_some core.engine.tree ≡ true))) →
    IfOk answer (λ how. IsWhole how → Told left left_after (λ input after. IsSomeAnd found (λ core. core.engine ≡ (tells input).state))) →
    IfSome found (λ core. Stores name (image_at core.program core.engine) held) → IfSome left (λ input. SaysEnd (tells input).end left_after (status_by answer)) →
    IfSome left (λ input. Stores name (image_left own (tells input)) held)
stored-told name own held tells left left_after (Ok how.Bound) found well of stands stores ends = stored-engine name own held tells left left_after found (of tt) stores ends (stands tt)
stored-told name own held tells left left_after (Ok how.Quiet) found well of stands stores ends = stored-engine name own held tells left left_after found (of tt) stores ends (stands tt)
stored-told name own held tells left left_after (Ok (how.Input kind line)) found well of stands stores ends = absurd (cc well)
stored-told name own held tells left left_after (Ok (how.Fault fault)) found well of stands stores ends = absurd (cc well)
stored-told name own held tells left left_after (Err cut.ReadFault) found well of stands stores ends = absurd (cc well)
stored-told name own held tells left left_after (Err cut.Unwritten) found well of stands stores ends = absurd (cc well)
stored-told name own held tells left left_after (Err cut.Memory) found well of stands stores ends = absurd (cc well)

-- where nothing was left, all did not go well
pub leaves-nothing : (name : Option (List ℕ)) (ShelfFails : Type 0) (held : Option Bytes) (status : Status) → status ≢ Done → status ≢ Unwritten what.Save → Leaves name ShelfFails held held status
leaves-nothing None ShelfFails held status well save = refl
leaves-nothing (Some name) ShelfFails held status well save = leaves-same name ShelfFails held status well save

-- a shelf that stored nothing failed, or had no memory
pub unstored-is : (name : List ℕ) (ShelfFails : Type 0) (end : ShelfEnd) → end ≢ shelf_end.Absent → end ≢ shelf_end.TooLong → (end ≡ shelf_end.Failed → ShelfFails) → IsOfStore (Some name) ShelfFails (unstored end)
unstored-is name ShelfFails shelf_end.Absent not_absent not_long failed = absurd (not_absent refl)
unstored-is name ShelfFails shelf_end.TooLong not_absent not_long failed = absurd (not_long refl)
unstored-is name ShelfFails shelf_end.Failed not_absent not_long failed = (tt, failed refl)
unstored-is name ShelfFails shelf_end.Memory not_absent not_long failed = tt

pub unstored-leaves : (name : List ℕ) (ShelfFails : Type 0) (held after : Option Bytes) (end : ShelfEnd) → end ≢ shelf_end.Absent → end ≢ shelf_end.TooLong → (end ≡ shelf_end.Failed → ShelfFails) → (end ≡ shelf_end.Memory → after ≡ held) →
    ChangesOnly name held after → Leaves (Some name) ShelfFails held after (unstored end)
unstored-leaves name ShelfFails held after shelf_end.Absent not_absent not_long failed memory others = absurd (not_absent refl)
unstored-leaves name ShelfFails held after shelf_end.TooLong not_absent not_long failed memory others = absurd (not_long refl)
unstored-leaves name ShelfFails held after shelf_end.Failed not_absent not_long failed memory others = (others, failed refl)
unstored-leaves name ShelfFails held after shelf_end.Memory not_absent not_long failed memory others = inl (memory refl)

-- and it did not do well
pub unstored-badly : (end : ShelfEnd) → unstored end ≢ Done
unstored-badly shelf_end.Absent same = cc same
unstored-badly shelf_end.TooLong same = cc same
unstored-badly shelf_end.Failed same = cc same
unstored-badly shelf_end.Memory same = cc same
