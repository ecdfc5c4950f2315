-- What bytes are the image of, from what is restored of them.
use Rattle.std.proofs.Common.{◌≡◌, ◌≢◌, ℕ, ◌≤◌, ◌<◌, ◌^◌, List, ◌++◌, length, sym, ap, subst, ◌∙◌, refl, arith}
use Rattle.std.specs.Prelude.{is_some, Result, Ok, Err, Option, Some, None, IfOk, IfErr, IfSome, IsSomeAnd, codes}
use Rattle.serde_json.specs.Data.{Data}
use Rattle.dsde_syntax.specs.declared.decl.Model.{Model}
use Rattle.dsde_values.specs.Path.{path_text}
use Rattle.dsde_sim_tree.specs.Engine.{Engine}
use Rattle.dsde_run_free.specs.given.sim_working.Working.{Working, working}
use Rattle.dsde_run_free.specs.given.core_engine.Standing.{Standing}
use Rattle.dsde_image.specs.Image.{IsImage}
use Rattle.dsde_image.specs.declared.image.Image.{Image}
use Rattle.dsde_run_free.specs.given.image_rows.Walk.{Walked}
use Rattle.dsde_image.specs.Json.{image_data}
use Rattle.dsde_image.specs.Text.{IsReading}
use Rattle.dsde_run_free.specs.given.run.Saved.{at_work, IsMisfit, IsMisfitOf, IsOf, IsRestored, Says, engine_of, fitting}
use Rattle.dsde_run_free.specs.given.run.restoring_RestoreError.{RestoreError}
use Rattle.dsde_run_free.specs.given.run.restoring_RestoreError_TheVariants as restore_error
use Rattle.dsde_io.specs.Held.{Bytes}
use Rattle.dsde_io.specs.declared.shelf.ShelfEnd.{ShelfEnd}
use Rattle.dsde_io.specs.declared.shelf.ShelfEnd.TheVariants as shelf_end
use Rattle.dsde_cli_status.specs.declared.status.SaveFault.{SaveFault}
use Rattle.dsde_cli_status.specs.declared.status.SaveFault.TheVariants as save
use Rattle.dsde_cli_status.specs.declared.status.Status.{Status}
use Rattle.dsde_cli_status.specs.declared.status.Status.TheVariants.{Done, Refused, Usage, BadInput, ModelFault, Unread, Unwritten, Memory, BadSave}
use Rattle.dsde_cli.specs.Back.{IsLoadCut, IsReady, IsRefused, IsRefusedFor, LONGEST_IMAGE, NoSave, NoneRestored, NoneSaved, RefusesSave, Restores, RestoresSome, TellsSave, unread_save, unrestored}
use Rattle.dsde_cli.specs.Loads.{Has, Under}

-- bytes say one value
one_seen : (bytes : List ℕ) (this that : Data) → IsReading bytes this → IsReading bytes that → this ≡ that
one_seen bytes this that first other = let same : Some this ≡ Some that = sym first.says ∙ other.says in cc same

ok-is : {A : Type 0} {x y : A} → (let own : Walked A = Ok x in own ≡ Ok y) → x ≡ y
ok-is is = cc

not-both : {A B : Type 0} {x : A} (why : List ℕ) (found : Walked A) → found ≡ Ok x → found ≡ Err why → B
not-both why found good bad = absurd (cc (good, bad))

err-is : {A : Type 0} (why other : List ℕ) (found : Walked A) → found ≡ Err why → found ≡ Err other → why ≡ other
err-is why other found first second = cc (first, second)

-- the engine of an image is one
one_engine : (program : Model) (image : Image) (this that : Working) → IsOf program image this → IsOf program image that → this ≡ that
one_engine program image this that first other =
    first.is ∙ ap (λ tree. working program (engine_of image tree)) (ok-is (sym first.fits ∙ other.fits)) ∙ sym other.is

-- what the bytes are the image of is what was restored of them
pub restored-only : (program : Model) (bytes : List ℕ) (own : Standing) → ((image : Image) → Says bytes image → IsOf program image (at_work own)) → (engine : Engine) → IsRestored program bytes (working program engine) → at_work own ≡ working program engine
restored-only program bytes own exact engine is = one_engine program is.image (at_work own) (working program engine) (exact is.image is.says) is.engine

-- an engine that was restored may go on
pub ready-of : (program : Model) (bytes : List ℕ) (own : Standing) → IsRestored program bytes (at_work own) → own.born ≤ 131_072 → IsReady program own
ready-of program bytes own is young = record {
  of = ap (λ (work : Working). work.program) is.engine.is;
  fresh = ap (λ (work : Working). is_some work.engine.tree) is.engine.is;
  early = subst (λ (work : Working). work.engine.turn ≤ 2 ^ 62) (sym is.engine.is) is.says.image_is.turn;
  young = young;
}

-- what is wrong with bytes of which nothing was restored
pub none-restored : (program : Model) (bytes : List ℕ) (why : RestoreError) →
    (why ≡ restore_error.NotJson → (seen : Data) → ¬ (IsReading bytes seen)) →
    (why ≡ restore_error.WrongForm → (seen : Data) × IsReading bytes seen × ((image : Image) → IsImage image → seen ≢ image_data image)) →
    IsMisfit program bytes why → NoneRestored program bytes (unrestored why)
none-restored program bytes restore_error.NotJson not_json wrong_form misfit = not_json refl
none-restored program bytes restore_error.WrongForm not_json wrong_form misfit = wrong_form refl
none-restored program bytes (restore_error.DoesNotFit path) not_json wrong_form misfit = misfit
none-restored program bytes restore_error.Memory not_json wrong_form misfit = tt

-- where bytes are the image of an engine, and none was restored, memory ran out
pub restored-cut : (program : Model) (bytes : List ℕ) (why : RestoreError) → ((image : Image) → Says bytes image → IsMisfitOf program image why) → (engine : Engine) → IsRestored program bytes (working program engine) →
    unrestored why ≡ Memory
restored-cut program bytes restore_error.NotJson exact engine is = absurd (exact is.image is.says)
restored-cut program bytes restore_error.WrongForm exact engine is = absurd (exact is.image is.says)
restored-cut program bytes (restore_error.DoesNotFit path) exact engine is = not-both (path_text path) (fitting program is.image) is.engine.fits (exact is.image is.says)
restored-cut program bytes restore_error.Memory exact engine is = refl

-- bytes that are refused are not the image of an engine
never-restored : (program : Model) (bytes : List ℕ) (own : Working) → ((image : Image) → Says bytes image → IsOf program image own) → IsRestored program bytes own → (fault : SaveFault) → RefusesSave program fault bytes → ⊥
never-restored program bytes own exact is save.NotJson refuses = refuses (image_data is.image) is.says.reading
never-restored program bytes own exact is save.WrongForm refuses = refuses.2 is.image is.says.image_is (one_seen bytes refuses.0 (image_data is.image) refuses.1 is.says.reading)
never-restored program bytes own exact is (save.DoesNotFit path) refuses = let of : IsOf program refuses.image own = exact refuses.image refuses.says in not-both (path_text path) (fitting program refuses.image) of.fits refuses.misfit
never-restored program bytes own exact is save.FewRecords refuses = refuses

-- where bytes are refused, that is told
pub refused-ok : (program : Model) (bytes : List ℕ) (own : Standing) → ((image : Image) → Says bytes image → IsOf program image (at_work own)) → IsRestored program bytes (at_work own) → (fault : SaveFault) → RefusesSave program fault bytes → IsRefused fault (Ok own)
refused-ok program bytes own exact is fault refuses = never-restored program bytes (at_work own) exact is fault refuses

pub refused-told : (program : Model) (bytes : List ℕ) (why : RestoreError) →
    (why ≡ restore_error.NotJson → (seen : Data) → ¬ (IsReading bytes seen)) →
    (why ≡ restore_error.WrongForm → (seen : Data) × IsReading bytes seen × ((image : Image) → IsImage image → seen ≢ image_data image)) →
    IsMisfit program bytes why → ((image : Image) → Says bytes image → IsMisfitOf program image why) → (fault : SaveFault) → RefusesSave program fault bytes → TellsSave fault (unrestored why)
refused-told program bytes restore_error.NotJson not_json wrong_form misfit exact save.NotJson refuses = refl
refused-told program bytes restore_error.NotJson not_json wrong_form misfit exact save.WrongForm refuses = absurd (not_json refl refuses.0 refuses.1)
refused-told program bytes restore_error.NotJson not_json wrong_form misfit exact (save.DoesNotFit path) refuses = absurd (not_json refl (image_data refuses.image) refuses.says.reading)
refused-told program bytes restore_error.NotJson not_json wrong_form misfit exact save.FewRecords refuses = absurd refuses
refused-told program bytes restore_error.WrongForm not_json wrong_form misfit exact save.NotJson refuses = let form = wrong_form refl in absurd (refuses form.0 form.1)
refused-told program bytes restore_error.WrongForm not_json wrong_form misfit exact save.WrongForm refuses = refl
refused-told program bytes restore_error.WrongForm not_json wrong_form misfit exact (save.DoesNotFit path) refuses =
    let form = wrong_form refl in absurd (form.2 refuses.image refuses.says.image_is (one_seen bytes form.0 (image_data refuses.image) form.1 refuses.says.reading))
refused-told program bytes restore_error.WrongForm not_json wrong_form misfit exact save.FewRecords refuses = absurd refuses
refused-told program bytes (restore_error.DoesNotFit own) not_json wrong_form misfit exact save.NotJson refuses = absurd (refuses (image_data misfit.image) misfit.says.reading)
refused-told program bytes (restore_error.DoesNotFit own) not_json wrong_form misfit exact save.WrongForm refuses =
    absurd (refuses.2 misfit.image misfit.says.image_is (one_seen bytes refuses.0 (image_data misfit.image) refuses.1 misfit.says.reading))
refused-told program bytes (restore_error.DoesNotFit own) not_json wrong_form misfit exact (save.DoesNotFit path) refuses =
    ap (λ text. codes "DoesNotFit " ++ text) (err-is (path_text own) (path_text path) (fitting program refuses.image) (exact refuses.image refuses.says) refuses.misfit)
refused-told program bytes (restore_error.DoesNotFit own) not_json wrong_form misfit exact save.FewRecords refuses = absurd refuses
refused-told program bytes restore_error.Memory not_json wrong_form misfit exact fault refuses = tt

-- what holds of the bytes under a name that were loaded
has-told : (name : List ℕ) (held : Option Bytes) (bytes : List ℕ) (P : List ℕ → Type 0) → IfSome held (λ map. map name ≡ Some bytes) → Has name held P → P bytes
has-told name None bytes P told has = absurd has
has-told name (Some map) bytes P told has = let here : IsSomeAnd (Some bytes) P = subst (λ found. IsSomeAnd found P) told has in here

under-told : (name : List ℕ) (held : Option Bytes) (bytes : List ℕ) (P : List ℕ → Type 0) → IfSome held (λ map. map name ≡ Some bytes) → P bytes → Under name held P
under-told name None bytes P told is = tt
under-told name (Some map) bytes P told is = subst (λ found. IsSomeAnd found P) (sym told) is

-- what holds of them holds of the engine that is restored of them
module _ (program : Model) (file : List ℕ) (held : Option Bytes) (bytes : List ℕ) (told : IfSome held (λ map. map file ≡ Some bytes)) (short : length bytes ≤ LONGEST_IMAGE) where
  some-of : (own : Working) → IsRestored program bytes own → RestoresSome program bytes
  some-of own is = record {
    engine = engine_of is.image is.engine.tree;
    restores = record { short = short; restored = subst (IsRestored program bytes) is.engine.is is };
  }

  pub loaded-some : (result : Result Standing Status) → IfOk result (λ own. IsRestored program bytes (at_work own)) → IfOk result (λ own. Under file held (RestoresSome program))
  loaded-some (Ok own) is = under-told file held bytes (RestoresSome program) told (some-of (at_work own) is)
  loaded-some (Err status) is = tt

  pub loaded-only : (result : Result Standing Status) → IfOk result (λ own. (engine : Engine) → IsRestored program bytes (working program engine) → at_work own ≡ working program engine) →
      IfOk result (λ own. (engine : Engine) → Has file held (Restores program engine) → at_work own ≡ working program engine)
  loaded-only (Ok own) only = λ engine has. only engine (has-told file held bytes (Restores program engine) told has).restored
  loaded-only (Err status) only = tt

  no-save : (ShelfFails : Type 0) (status : Status) → NoneRestored program bytes status → NoSave program file held ShelfFails status
  no-save ShelfFails (BadSave fault) none = under-told file held bytes (RefusesSave program fault) told none
  no-save ShelfFails Memory none = tt
  no-save ShelfFails Done none = absurd none
  no-save ShelfFails (Refused kind line column) none = absurd none
  no-save ShelfFails Usage none = absurd none
  no-save ShelfFails (BadInput kind line) none = absurd none
  no-save ShelfFails (ModelFault fault) none = absurd none
  no-save ShelfFails (Unread reading because) none = absurd none
  no-save ShelfFails (Unwritten writing) none = absurd none

  pub loaded-none : (ShelfFails : Type 0) (result : Result Standing Status) → IfErr result (NoneRestored program bytes) → IfErr result (NoSave program file held ShelfFails)
  loaded-none ShelfFails (Ok own) none = tt
  loaded-none ShelfFails (Err status) none = no-save ShelfFails status none

  pub loaded-cut : (result : Result Standing Status) → IfErr result (λ status. (engine : Engine) → IsRestored program bytes (working program engine) → status ≡ Memory) →
      IfErr result (λ status. (engine : Engine) → Has file held (Restores program engine) → IsLoadCut status)
  loaded-cut (Ok own) cut = tt
  loaded-cut (Err status) cut = λ engine has. subst IsLoadCut (sym (cut engine (has-told file held bytes (Restores program engine) told has).restored)) tt

  pub loaded-refused : (result : Result Standing Status) → ((fault : SaveFault) → RefusesSave program fault bytes → IsRefused fault result) → (fault : SaveFault) → Has file held (IsRefusedFor program fault) → IsRefused fault result
  loaded-refused result refused fault has = refused fault (has-told file held bytes (IsRefusedFor program fault) told has).refuses

-- a name that has bytes is not absent
never_absent : (name : List ℕ) (held : Option Bytes) (P : List ℕ → Type 0) → Has name held P → IfSome held (λ map. map name ≡ None) → ⊥
never_absent name None P has none = has
never_absent name (Some map) P has none = let gone : IsSomeAnd None P = subst (λ found. IsSomeAnd found P) none has in gone

-- nor are they more than are read, where they are not
never_long : (name : List ℕ) (held : Option Bytes) (P : List ℕ → Type 0) → ((bytes : List ℕ) → P bytes → length bytes ≤ LONGEST_IMAGE) → Has name held P → Under name held (λ bytes. LONGEST_IMAGE < length bytes) → ⊥
never_long name None P short has long = has
never_long name (Some map) P short has long = by (map name) has long
  where
    by : (found : Option (List ℕ)) → IsSomeAnd found P → IsSomeAnd found (λ bytes. LONGEST_IMAGE < length bytes) → ⊥
    by None has long = has
    by (Some bytes) has long = let within = short bytes has in omega (arith, within, long)

-- Why an image was not loaded.
module _ (program : Model) (file : List ℕ) (held : Option Bytes) (ShelfFails : Type 0) where
  abbrev IsEnd : ShelfEnd → Type 0
  IsEnd shelf_end.Absent = IfSome held (λ map. map file ≡ None)
  IsEnd shelf_end.TooLong = Under file held (λ bytes. LONGEST_IMAGE < length bytes)
  IsEnd shelf_end.Failed = ShelfFails
  IsEnd shelf_end.Memory = Unit {0}

  pub end-of : (end : ShelfEnd) → (end ≡ shelf_end.Absent → IfSome held (λ map. map file ≡ None)) → (end ≡ shelf_end.TooLong → Under file held (λ bytes. LONGEST_IMAGE < length bytes)) → (end ≡ shelf_end.Failed → ShelfFails) → IsEnd end
  end-of shelf_end.Absent absent long failed = absent refl
  end-of shelf_end.TooLong absent long failed = long refl
  end-of shelf_end.Failed absent long failed = failed refl
  end-of shelf_end.Memory absent long failed = tt

  pub unloaded-none : (end : ShelfEnd) → IsEnd end → NoSave program file held ShelfFails (unread_save end)
  unloaded-none shelf_end.Absent is = is
  unloaded-none shelf_end.TooLong is = is
  unloaded-none shelf_end.Failed is = is
  unloaded-none shelf_end.Memory is = tt

  pub unloaded-cut : (end : ShelfEnd) → IsEnd end → (engine : Engine) → Has file held (Restores program engine) → IsLoadCut (unread_save end)
  unloaded-cut shelf_end.Absent is engine has = absurd (never_absent file held (Restores program engine) has is)
  unloaded-cut shelf_end.TooLong is engine has = absurd (never_long file held (Restores program engine) (λ bytes restores. restores.short) has is)
  unloaded-cut shelf_end.Failed is engine has = tt
  unloaded-cut shelf_end.Memory is engine has = tt

  pub unloaded-refused : (end : ShelfEnd) → IsEnd end → (fault : SaveFault) → Has file held (IsRefusedFor program fault) → TellsSave fault (unread_save end)
  unloaded-refused shelf_end.Absent is fault has = absurd (never_absent file held (IsRefusedFor program fault) has is)
  unloaded-refused shelf_end.TooLong is fault has = absurd (never_long file held (IsRefusedFor program fault) (λ bytes refused. refused.short) has is)
  unloaded-refused shelf_end.Failed is fault has = tt
  unloaded-refused shelf_end.Memory is fault has = tt

-- an image that was loaded is under the name
pub never-none : (program : Model) (file : List ℕ) (held : Option Bytes) → Under file held (RestoresSome program) → NoneSaved program file held → ⊥
never-none program file None some none = none
never-none program file (Some map) some none = by (map file) some none
  where
    by : (found : Option (List ℕ)) → IsSomeAnd found (RestoresSome program) → IfSome found (λ bytes. ¬ (RestoresSome program bytes)) → ⊥
    by None some none = some
    by (Some bytes) some none = none some
