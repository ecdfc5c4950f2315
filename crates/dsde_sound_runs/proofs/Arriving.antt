-- The records that bytes spell come to the model that runs.
use Rattle.std.proofs.Common.{◌≡◌, ◌∙◌, ◌↔◌, ℕ, suc, Bool, true, false, List, [], ◌∷◌, Option, Some, None, Result, Ok, Err, max, nat_lt, unwrap_or, length, refl, sym, ap, subst, arith}
use Rattle.std.specs.Prelude.{if◌then◌else◌}
use Rattle.std.specs.List.{All}
use Rattle.std.specs.Option.{option_map_or}
use Rattle.dsde_syntax.specs.declared.decl.Model.{Model}
use Rattle.dsde_values.specs.declared.arrival.Arrival.{Arrival}
use Rattle.dsde_values.specs.declared.arrival.Item.{Item}
use Rattle.dsde_values.specs.declared.types.Field.{Field}
use Rattle.dsde_values.specs.declared.types.Types.{Types}
use Rattle.dsde_values.specs.Value.{IsLawful}
use Rattle.dsde_values.proofs.Typed.{HasType-is}
use Rattle.dsde_language.specs.DeclaredModels.{Own, own_ins, top_ins, top_number, types_of}
use Rattle.dsde_language.specs.Right.{IsRight}
use Rattle.dsde_input.specs.Reader.{IsOffence}
use Rattle.dsde_input_records.specs.declared.end.InputEnd.{InputEnd}
use Rattle.dsde_input_records.specs.declared.end.InputEnd.TheVariants.{Backwards, LineTooLong}
use Rattle.dsde_input_records.specs.Lines.{lines, without_last}
use Rattle.dsde_input_records.specs.Record.{ArePorts, IsItem, Spells, record_of}
use Rattle.dsde_input_records.specs.Records.{Records, before, judged, line_record, next_number, records_of}
use Rattle.dsde_language.specs.Typed.{AllSent}
use Rattle.dsde_run_meaning.specs.Run.{records_in}
use Rattle.dsde_sim_starting.specs.given.sound_structures.Lawful.{PortsAreLawful, TopIsDeclared, TypesAreLawful}
use Rattle.dsde_sound_expressions.specs.Laws.{BodiesStand, HasOwn}
use Rattle.dsde_sound_runs.specs.Ends.{AllArrive, Arrives}

all-sent : (ports : List Field) (types : Types) (items : List Item) → All (IsItem ports types) items → AllSent types ports items
all-sent ports types [] all = tt
all-sent ports types (item ∷ items) all =
    let first : IsItem ports types item = all 0 item (omega arith) in (
      record { port = first.port; found = first.at; has = record { has = (HasType-is types item.value first.port.ty).0 first.typed } },
      all-sent ports types items (λ k d within. all (suc k) d (omega (arith, within))),
    )

-- what a line is: a record of which this holds, or its offence
abbrev Lines : (Arrival → Type 0) → Result Arrival InputEnd → Type 0
Lines P (Ok arrival) = P arrival
Lines P (Err offence) = IsOffence offence

judged-line : (P : Arrival → Type 0) (number least : ℕ) (found : Option Arrival) → ((arrival : Arrival) → found ≡ Some arrival → P arrival) → Lines P (judged number least found)
judged-line P number least None holds = tt
judged-line P number least (Some arrival) holds = by-test (nat_lt arrival.time least)
  where
    by-test : (back : Bool) → Lines P (let line : Result Arrival InputEnd = if back then Err (Backwards number) else Ok arrival in line)
    by-test true = tt
    by-test false = holds arrival refl

long-line : (P : Arrival → Type 0) (long : Bool) (number : ℕ) (other : Result Arrival InputEnd) → Lines P other → Lines P (if long then Err (LineTooLong number) else other)
long-line P true number other holds = tt
long-line P false number other holds = holds

module _ (model : Model) (ports : List Field) (types : Types) (spelled : (number : ℕ) (line : List ℕ) (arrival : Arrival) → record_of ports types number line ≡ Some arrival → Arrives model arrival) where
  line-arrives : (number least : ℕ) (line : List ℕ) → Lines (Arrives model) (line_record ports types number least line)
  line-arrives number least line =
      long-line (Arrives model) (nat_lt 65536 (length line)) number (judged number least (record_of ports types number (without_last 13 line)))
      (judged-line (Arrives model) number least (record_of ports types number (without_last 13 line)) (spelled number (without_last 13 line)))

  before-arrives : (line : Result Arrival InputEnd) (behind : Arrival → Records) → Lines (Arrives model) line → ((arrival : Arrival) → AllArrive model (behind arrival)) → AllArrive model (before line behind)
  before-arrives (Ok arrival) behind first later = (first, later arrival)
  before-arrives (Err offence) behind first later = first

  lines-arrive : (floor : ℕ) (lines : List (List ℕ)) (number : ℕ) (last : Option ℕ) → AllArrive model (records_of ports types floor lines number last)
  lines-arrive floor [] number last = tt
  lines-arrive floor (line ∷ lines) number last =
      before-arrives (line_record ports types (next_number number) (max (unwrap_or last 0) floor) line)
      (λ arrival. records_of ports types floor lines (next_number number) (Some arrival.time))
      (line-arrives (next_number number) (max (unwrap_or last 0) floor) line)
      (λ arrival. lines-arrive floor lines (next_number number) (Some arrival.time))

abbrev RecordsAreSpelled : Type 0
RecordsAreSpelled =
    (ports : List Field) (types : Types) → ArePorts ports → IsLawful types → (number : ℕ) (line : List ℕ) (arrival : Arrival)
    → (record_of ports types number line ≡ Some arrival) ↔ Spells ports types number line arrival

module _ (records : RecordsAreSpelled) (lawful : TypesAreLawful) (ports_are : PortsAreLawful) (declared : TopIsDeclared) (bodies : BodiesStand) (model : Model) (right : IsRight model) where
  abbrev number : ℕ
  number = (top_number model).0

  has : HasOwn model number
  has = bodies model number right (declared model right)

  abbrev ins : List Field
  ins = has.is.info.ins

  top-ins-are : top_ins model ≡ ins
  top-ins-are = ap (λ (found : Option Own). option_map_or (own_ins model) found []) has.is.found ∙ sym has.is.is.ins

  spelled-arrives : (line_number : ℕ) (line : List ℕ) (arrival : Arrival) → record_of ins (types_of model) line_number line ≡ Some arrival → Arrives model arrival
  spelled-arrives line_number line arrival is =
      let spells : Spells ins (types_of model) line_number line arrival = (records ins (types_of model) (ports_are model right number has.is.info has.is.told) (lawful model right) line_number line arrival).0 is in
      record {
        early = spells.early;
        items = record {
          own = has.own;
          found = has.is.found;
          come = subst (λ (ports : List Field). AllSent (types_of model) ports arrival.items) has.is.is.ins (all-sent ins (types_of model) arrival.items spells.items.each);
        };
      }

  pub inputs-arrive : (bytes : List ℕ) → AllArrive model (records_in (top_ins model) (types_of model) bytes)
  inputs-arrive bytes =
      subst (λ (ports : List Field). AllArrive model (records_in ports (types_of model) bytes)) (sym top-ins-are)
      (lines-arrive model ins (types_of model) spelled-arrives 0 (lines bytes) 0 None)
