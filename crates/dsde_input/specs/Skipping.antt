-- What skipping records takes of a source, and where it leaves the reader.
use Rattle.std.specs.Prelude.{ℕ, suc, ◌+◌, ◌==◌, ◌≡◌, ◌≢◌, ◌≤◌, ◌<◌, ◌⊎◌, if◌then◌else◌, Bool, true, false, List, [], ◌∷◌, ◌++◌, length, Ok, Err}
use Rattle.dsde_values.specs.declared.arrival.Arrival.{Arrival}
use Rattle.dsde_values.specs.declared.types.Field.{Field}
use Rattle.dsde_values.specs.declared.types.Types.{Types}
use Rattle.dsde_input_records.specs.declared.end.InputEnd.{InputEnd}
use Rattle.dsde_input_records.specs.declared.end.InputEnd.TheVariants.{ReadFault}
use Rattle.dsde_input_records.specs.Lines.{lines}
use Rattle.dsde_input_records.specs.Records.{Records, end, bad, one}
use Rattle.dsde_input.specs.Reader.{Reader, IsOffence, TakesOfLine, records, to_come}
use Rattle.dsde_input.specs.declared.skipping.SkipEnd.{SkipEnd}
use Rattle.dsde_input.specs.declared.skipping.SkipEnd.TheVariants.{Few, Refused}
use Rattle.dsde_input.specs.Skipped.{few, offence, records_from, skipped}

-- how many line feeds there are
abbrev pub feeds : List ℕ → ℕ
feeds [] = 0
feeds (byte ∷ bytes) = (if byte == 10 then 1 else 0) + feeds bytes

-- So many lines are records, and they are fewer than are to be skipped.
pub record IsWanting (count : ℕ) (records : Records) (lines : ℕ) : Type 0 where
  pub fewer : lines < count
  pub rest : Records
  pub there : skipped lines records ≡ Ok rest

-- The bytes taken are those that were needed, and at most 4,096 more: the lines of the bytes needed are
-- records, and not yet so many.
pub record TakesSkipped (count : ℕ) (records : Records) (before after : List ℕ) : Type 0 where
  pub needed : List ℕ
  pub past : List ℕ
  pub split : before ≡ (needed ++ past) ++ after
  pub size : length past ≤ 4096
  pub wanted : needed ++ past ≢ [] → IsWanting count records (feeds needed)

-- The lines of the bytes taken are so many records and those that the reader holds; but the last record may
-- have been the end of the input, without a line feed.
abbrev pub HoldsLines : ℕ → Reader → List ℕ → Type 0
HoldsLines count reader taken =
    (feeds taken ≡ count + feeds reader.held) ⊎ ((reader.ended ≡ true) × (reader.held ≡ []) × (suc (feeds taken) ≡ count))

-- A reader stands behind so many of these records: it has to give what they leave.
pub record IsBehind (ports : List Field) (types : Types) (count : ℕ) (all : Records) (reader : Reader) (before after : List ℕ) : Type 0 where
  pub rest : skipped count all ≡ Ok (records ports types reader (to_come reader after))
  pub taken : List ℕ
  pub split : before ≡ taken ++ after
  pub held : HoldsLines count reader taken
  pub over : reader.ended ≡ true → after ≡ []

-- A read failed before so many records were there: the lines of the bytes taken are records, and not yet so many.
pub record IsUnread (count : ℕ) (all : Records) (before after : List ℕ) : Type 0 where
  pub taken : List ℕ
  pub split : before ≡ taken ++ after
  pub wants : IsWanting count all (feeds taken)

-- Why so many of these records were not skipped.
pub record IsStopped (count : ℕ) (all : Records) (why : SkipEnd) (before after : List ℕ) : Type 0 where
  pub too_few : why ≡ Few → skipped count all ≡ Err few
  pub refused : (end : InputEnd) → why ≡ Refused end → IsOffence end → skipped count all ≡ Err (offence end)
  pub unread : why ≡ Refused ReadFault → IsUnread count all before after

-- the records that a reader has to give, if none has to be after a floor before so many are given
abbrev pub from : List Field → Types → ℕ → ℕ → Reader → List ℕ → Records
from ports types count floor reader left = records_from ports types count floor (lines (to_come reader left)) reader.number reader.last

-- A record was passed over.
pub record Passes (ports : List Field) (types : Types) (old new : Reader) (before after : List ℕ) : Type 0 where
  pub takes : TakesOfLine old before after
  pub arrival : Arrival
  pub first : (count floor : ℕ) → from ports types (suc count) floor old before ≡ one arrival (from ports types count floor new after)
  pub over : (old.ended ≡ true → before ≡ []) → new.ended ≡ true → after ≡ []
  pub held : (old.ended ≡ true → before ≡ []) → HoldsLines 1 new (old.held ++ (takes.of_line ++ takes.piece))

-- There is no record more.
pub record IsOver (ports : List Field) (types : Types) (old : Reader) (before after : List ℕ) : Type 0 where
  pub takes : TakesOfLine old before after
  pub none : (count floor : ℕ) → from ports types (suc count) floor old before ≡ end

-- A record was passed over, or there is none.
abbrev pub PassesOne : List Field → Types → Reader → Reader → Bool → List ℕ → List ℕ → Type 0
PassesOne ports types old new true before after = Passes ports types old new before after
PassesOne ports types old new false before after = IsOver ports types old before after

-- The next line is no record, or is not there.
pub record IsRefused (ports : List Field) (types : Types) (old : Reader) (why : InputEnd) (before after : List ℕ) : Type 0 where
  pub takes : TakesOfLine old before after
  pub first : IsOffence why → (count floor : ℕ) → from ports types (suc count) floor old before ≡ bad why
  pub unread : why ≡ ReadFault → (old.ended ≡ false) × (feeds (old.held ++ (takes.of_line ++ takes.piece)) ≡ 0)
