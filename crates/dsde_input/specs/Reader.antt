-- A reader of input, as contracts see it, and what a call does to the records to come.
use Rattle.std.specs.Prelude.{ℕ, ◌≡◌, ◌≢◌, ◌≤◌, ◌-◌, ◌==◌, max, Bool, true, false, ◌||◌, ◌⊎◌, nat_lt, if◌then◌else◌, List, [], ◌∷◌, ◌++◌, length, take, drop, Option, Some, None, is_some, unwrap_or, Result, Ok, Err, IfSome, IsSomeAnd}
use Rattle.std.specs.List.{position}
use Rattle.dsde_values.specs.declared.arrival.Arrival.{Arrival}
use Rattle.dsde_values.specs.declared.types.Field.{Field}
use Rattle.dsde_values.specs.declared.types.Types.{Types}
use Rattle.dsde_input_parser.specs.given.input_records.end_InputEnd.{InputEnd}
use Rattle.dsde_input_parser.specs.given.input_records.end_InputEnd_TheVariants as end_of
use Rattle.dsde_input_parser.specs.given.input_records.Lines.{lines, behind_line, Lacks}
use Rattle.dsde_input_parser.specs.given.input_records.Records.{Records, end, bad, one, next_number, records_of}

pub record Reader : Type 0 where
  -- the bytes that were read and not given: those of the wanted line, and what came behind it
  pub held : List ℕ
  -- the number of the last line that was given
  pub number : ℕ
  -- the time of its record
  pub last : Option ℕ
  -- the least time that a record may have
  pub floor : ℕ
  -- the end of the input was seen
  pub ended : Bool
  -- the offence that was answered
  pub offence : Option InputEnd

-- a reader at the start of an input
abbrev pub fresh : Reader
fresh = record { held = []; number = 0; last = None; floor = 0; ended = false; offence = None }

-- the bytes to come: those held, and those that the source has left until its end was seen
abbrev pub to_come : Reader → List ℕ → List ℕ
to_come reader left = if reader.ended then reader.held else reader.held ++ left

-- the records to come, of these bytes
abbrev pub records : List Field → Types → Reader → List ℕ → Records
records ports types reader bytes = elim reader.offence [
  | Some offence ↦ bad offence
  | None ↦ records_of ports types reader.floor (lines bytes) reader.number reader.last
]

-- the least time that the next record may have
abbrev pub least_time : Reader → ℕ
least_time reader = max (unwrap_or reader.last 0) reader.floor

-- The answer is an offence of a line.
abbrev pub IsOffence : InputEnd → Type 0
IsOffence (end_of.BadLine number) = Unit {0}
IsOffence (end_of.Backwards number) = Unit {0}
IsOffence (end_of.LineTooLong number) = Unit {0}
IsOffence end_of.ReadFault = ⊥
IsOffence end_of.Memory = ⊥

-- What an answer says of the records to come, before the call and after it.
abbrev pub Tells : Records → Records → Result (Option Arrival) InputEnd → Type 0
Tells old new (Ok (Some arrival)) = old ≡ one arrival new
Tells old new (Ok None) = (old ≡ end) × (new ≡ end)
Tells old new (Err end_of.ReadFault) = new ≡ old
Tells old new (Err end_of.Memory) = new ≡ old
Tells old new (Err offence) = (old ≡ bad offence) × (new ≡ bad offence)

-- whether a line feed is among the bytes
abbrev pub has_feed : List ℕ → Bool
has_feed bytes = is_some (position (λ byte. byte == 10) bytes)

-- whether all is read that the wanted line needs: its line feed, more than a line may have, or the input's end
abbrev pub has_line : Reader → Bool
has_line reader = reader.ended || nat_lt 65536 (length reader.held) || has_feed reader.held

-- how many more reads the wanted line may take
abbrev pub reads_left : Reader → ℕ
reads_left reader = if reader.ended then 0 else 65538 - length reader.held

-- Bytes moved from the source to the reader, or the input's end was seen, and nothing else changed.
pub record Moves (old new : Reader) (left rest : Option (List ℕ)) : Type 0 where
  pub others : new ≡ record old { held = new.held; ended = new.ended }
  pub front : take (length old.held) new.held ≡ old.held
  pub told : IfSome left (λ before. IsSomeAnd rest (λ after. to_come new after ≡ to_come old before))
  pub taken : IfSome left (λ before. IsSomeAnd rest (λ after. before ≡ drop (length old.held) new.held ++ after))
  pub unended : new.ended ≡ false → old.ended ≡ false

-- a reader that holds these bytes more
abbrev pub with_more : Reader → List ℕ → Reader
with_more reader bytes = record reader { held = reader.held ++ bytes }

-- The bytes taken are some of the wanted line, with which it was not yet there, and one piece more.
pub record TakesOfLine (old : Reader) (before after : List ℕ) : Type 0 where
  pub of_line : List ℕ
  pub piece : List ℕ
  pub split : before ≡ (of_line ++ piece) ++ after
  pub size : length piece ≤ 4096
  pub wanted : of_line ++ piece ≢ [] → has_line (with_more old of_line) ≡ false

-- The first of some bytes are a line with its line feed, and these are behind it.
pub record IsLineOf (bytes rest : List ℕ) : Type 0 where
  pub line : List ℕ
  pub is : bytes ≡ line ++ 10 ∷ rest
  pub lacks : Lacks 10 line

-- The bytes are this line with its line feed, and the rest; or this line alone, where they have no line feed.
pub record Opens (bytes line rest : List ℕ) : Type 0 where
  pub lacks : Lacks 10 line
  pub cut : (bytes ≡ line ++ 10 ∷ rest) ⊎ ((bytes ≡ line) × (rest ≡ []) × (line ≢ []))

-- The first line to come is gone, with its line feed.
pub record TakesLine (old new : Reader) (before after : List ℕ) : Type 0 where
  pub line : IsLineOf (old.held ++ before) (new.held ++ after)
  pub unended : old.ended ≡ false

-- The input's end is seen in this call only where no byte is left.
abbrev pub SeesEnd : Reader → Reader → Option (List ℕ) → Option (List ℕ) → Type 0
SeesEnd old new left rest =
    old.ended ≡ false → new.ended ≡ true → IfSome left (λ before. IsSomeAnd rest (λ after. after ≡ []))

-- a reader after a record was given: what follows the record's line is kept
abbrev pub given : Reader → Arrival → Reader
given reader arrival = record reader { held = behind_line reader.held; number = next_number reader.number; last = Some arrival.time }
