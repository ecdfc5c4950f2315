-- The records of an input, line after line, up to its end or its first offence.
use Rattle.std.specs.Prelude.{ℕ, ◌+◌, ◌-◌, ◌^◌, ◌≤◌, min, max, nat_lt, if◌then◌else◌, List, [], ◌∷◌, length, Option, Some, None, unwrap_or, Result, Ok, Err}
use Rattle.dsde_values.specs.declared.arrival.Arrival.{Arrival}
use Rattle.dsde_values.specs.declared.types.Field.{Field}
use Rattle.dsde_values.specs.declared.types.Types.{Types}
use Rattle.dsde_input_records.specs.declared.end.InputEnd.{InputEnd}
use Rattle.dsde_input_records.specs.declared.end.InputEnd.TheVariants.{BadLine, Backwards, LineTooLong}
use Rattle.dsde_input_records.specs.Lines.{lines, without_last}
use Rattle.dsde_input_records.specs.Record.{record_of}

-- the records of an input, up to its end, or to its first bad line with that line's offence
pub data Records : Type 0 where
  end : Records
  bad : InputEnd → Records
  one : Arrival → Records → Records

-- the number of a line behind that of this number; there are no numbers past the last
abbrev pub next_number : ℕ → ℕ
next_number number = min (number + 1) (2 ^ 64 - 1)

-- what a line with this record is, if it has one: no time may be before the least
abbrev pub judged : ℕ → ℕ → Option Arrival → Result Arrival InputEnd
judged number least None = Err (BadLine number)
judged number least (Some arrival) = if nat_lt arrival.time least then Err (Backwards number) else Ok arrival

-- the record of a line, or its offence; a carriage return at its end is dropped
abbrev pub line_record : List Field → Types → ℕ → ℕ → List ℕ → Result Arrival InputEnd
line_record ports types number least line =
    if nat_lt 65536 (length line) then Err (LineTooLong number)
    else judged number least (record_of ports types number (without_last 13 line))

-- a line's record and those behind it, or its offence
abbrev pub before : Result Arrival InputEnd → (Arrival → Records) → Records
before (Ok arrival) behind = one arrival (behind arrival)
before (Err offence) behind = bad offence

-- the records of lines behind that of this number, with the time of the record before them and the floor
abbrev pub records_of : List Field → Types → ℕ → List (List ℕ) → ℕ → Option ℕ → Records
records_of ports types floor [] number last = end
records_of ports types floor (line ∷ lines) number last =
    before (line_record ports types (next_number number) (max (unwrap_or last 0) floor) line)
    (λ arrival. records_of ports types floor lines (next_number number) (Some arrival.time))

-- Records come in the order of their times, and none before this time.
abbrev pub ComeFrom : ℕ → Records → Type 0
ComeFrom least end = Unit {0}
ComeFrom least (bad offence) = Unit {0}
ComeFrom least (one arrival later) = (least ≤ arrival.time) × ComeFrom arrival.time later
