-- Records come in the order of their times.
use Rattle.std.proofs.Common.{◌≡◌, ℕ, ◌≤◌, max, Bool, true, false, List, [], ◌∷◌, length, Option, Some, None, Result, Ok, Err, refl, arith, ltb-false}
use Rattle.std.specs.Prelude.{if◌then◌else◌, nat_lt, unwrap_or}
use Rattle.dsde_values.specs.declared.arrival.Arrival.{Arrival}
use Rattle.dsde_values.specs.declared.types.Field.{Field}
use Rattle.dsde_values.specs.declared.types.Types.{Types}
use Rattle.dsde_input_records.specs.declared.end.InputEnd.{InputEnd}
use Rattle.dsde_input_records.specs.declared.end.InputEnd.TheVariants.{Backwards, LineTooLong}
use Rattle.dsde_input_records.specs.Lines.{without_last}
use Rattle.dsde_input_records.specs.Record.{record_of}
use Rattle.dsde_input_records.specs.Records.{ComeFrom, Records, end, bad, one, before, judged, line_record, next_number, records_of}

-- a record that is one is not before the least time
abbrev IsLate : ℕ → Result Arrival InputEnd → Type 0
IsLate least (Ok arrival) = least ≤ arrival.time
IsLate least (Err offence) = Unit {0}

judged-late : (number least : ℕ) (found : Option Arrival) → IsLate least (judged number least found)
judged-late number least None = tt
judged-late number least (Some arrival) = by (nat_lt arrival.time least) refl
  where
    by : (early : Bool) → nat_lt arrival.time least ≡ early → IsLate least (if early then Err (Backwards number) else Ok arrival)
    by true is = tt
    by false is = ltb-false arrival.time least is

line-late : (ports : List Field) (types : Types) (number least : ℕ) (line : List ℕ) → IsLate least (line_record ports types number least line)
line-late ports types number least line = by (nat_lt 65536 (length line))
  where
    by : (long : Bool) → IsLate least (if long then Err (LineTooLong number) else judged number least (record_of ports types number (without_last 13 line)))
    by true = tt
    by false = judged-late number least (record_of ports types number (without_last 13 line))

sooner : (time least : ℕ) (records : Records) → least ≤ time → ComeFrom time records → ComeFrom least records
sooner time least end low come = tt
sooner time least (bad offence) low come = tt
sooner time least (one arrival later) low come = (omega (arith, come.0), come.1)

behind-late : (least : ℕ) (found : Result Arrival InputEnd) (behind : Arrival → Records) → IsLate least found → ((arrival : Arrival) → ComeFrom arrival.time (behind arrival)) → ComeFrom least (before found behind)
behind-late least (Ok arrival) behind late come = (late, come arrival)
behind-late least (Err offence) behind late come = tt

pub come-from : (ports : List Field) (types : Types) (floor : ℕ) (lines : List (List ℕ)) (number : ℕ) (last : Option ℕ) → ComeFrom (max (unwrap_or last 0) floor) (records_of ports types floor lines number last)
come-from ports types floor [] number last = tt
come-from ports types floor (line ∷ lines) number last =
    behind-late (max (unwrap_or last 0) floor) (line_record ports types (next_number number) (max (unwrap_or last 0) floor) line) _
    (line-late ports types (next_number number) (max (unwrap_or last 0) floor) line)
    (λ arrival. sooner (max arrival.time floor) arrival.time _ (omega arith) (come-from ports types floor lines (next_number number) (Some arrival.time)))
