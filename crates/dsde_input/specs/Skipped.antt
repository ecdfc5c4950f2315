-- The records of an input behind the first of them, of which there are so many. This project's profile.
use Rattle.std.specs.Prelude.{ℕ, zero, suc, max, List, [], ◌∷◌, Option, Some, None, unwrap_or, Result, Ok, Err}
use Rattle.dsde_values.specs.declared.types.Field.{Field}
use Rattle.dsde_values.specs.declared.types.Types.{Types}
use Rattle.dsde_input_records.specs.declared.end.InputEnd.{InputEnd}
use Rattle.dsde_input_records.specs.Lines.{lines}
use Rattle.dsde_input_records.specs.Records.{Records, end, bad, one, next_number, line_record, before, records_of}

-- the records of lines behind that of this number, with the time of the record before them; but from the record
-- of this count on, none may be before the floor
abbrev pub records_from : List Field → Types → ℕ → ℕ → List (List ℕ) → ℕ → Option ℕ → Records
records_from ports types zero floor all number last = records_of ports types floor all number last
records_from ports types (suc count) floor [] number last = end
records_from ports types (suc count) floor (line ∷ all) number last =
    before (line_record ports types (next_number number) (max (unwrap_or last 0) 0) line)
    (λ arrival. records_from ports types count floor all (next_number number) (Some arrival.time))

-- the records of an input; but from the record of this count on, none may be before the floor
abbrev pub floored_in : List Field → Types → ℕ → ℕ → List ℕ → Records
floored_in ports types count floor bytes = records_from ports types count floor (lines bytes) 0 None

-- why records cannot be skipped: the first bad line among them, or there are too few
pub data Unskipped : Type 0 where
  few : Unskipped
  offence : InputEnd → Unskipped

-- the records behind the first, of which there are so many
abbrev pub skipped : ℕ → Records → Result Records Unskipped
skipped zero records = Ok records
skipped (suc count) end = Err few
skipped (suc count) (bad why) = Err (offence why)
skipped (suc count) (one first later) = skipped count later
