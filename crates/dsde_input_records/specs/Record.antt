-- A record of the input: one line.
use Rattle.std.specs.Prelude.{ℕ, zero, suc, ◌≡◌, ◌≢◌, ◌≤◌, ◌^◌, ◌&&◌, nat_lt, if◌then◌else◌, ◌==◌, true, List, [], ◌∷◌, ◌++◌, length, Option, Some, None, option_and_then, slice_get, codes, decimal}
use Rattle.std.specs.Option.{option_map, option_map_or}
use Rattle.std.specs.Str.{bytes_eq}
use Rattle.std.specs.Str.Parse.{digits_value}
use Rattle.std.specs.List.{All, AllPairs, flat_map, position}
use Rattle.dsde_values.specs.When.{IsMoment}
use Rattle.dsde_values.specs.declared.arrival.Arrival.{Arrival}
use Rattle.dsde_values.specs.declared.arrival.Item.{Item}
use Rattle.dsde_values.specs.declared.types.Field.{Field}
use Rattle.dsde_values.specs.declared.types.Types.{Types}
use Rattle.dsde_values.specs.Value.{HasType, spelling}
use Rattle.dsde_values.specs.given.words.Words.{is_word}
use Rattle.dsde_input_records.specs.Reading.{Read, made, followed_by, behind, value_of}

-- what an input may come to: names that are identifiers and differ
pub record ArePorts (ports : List Field) : Type 0 where
  pub few : length ports ≤ 2 ^ 32
  pub named : All (λ port. is_word port.name ≡ true) ports
  pub distinct : AllPairs (λ port later. port.name ≢ later.name) ports

-- the bytes before the first space, and those behind it
abbrev pub cut : List ℕ → Read (List ℕ)
cut [] = None
cut (byte ∷ bytes) = if byte == 32 then Some ([], bytes) else made (λ front. byte ∷ front) (cut bytes)

-- the time whose decimal a text is, at most 2^63 - 1
abbrev pub moment_of : List ℕ → Option ℕ
moment_of text =
    let number = digits_value 10 text in
    if bytes_eq (decimal number) text && nat_lt number (2 ^ 63) then Some number else None

-- the time before the first space
abbrev pub read_time : List ℕ → Read ℕ
read_time bytes = followed_by (cut bytes) (λ front rest. option_map (λ time. (time, rest)) (moment_of front))

-- an item: at the port of this name, the value of its type that begins the bytes
abbrev pub read_at : List Field → Types → List ℕ → List ℕ → Read Item
read_at ports types name bytes =
    option_and_then (λ place. option_and_then (λ port. made (λ value. record { port = place; value = value }) (value_of types port.ty bytes)) (slice_get ports place))
    (position (λ port. bytes_eq port.name name) ports)

-- the name of a port before the first space, and the value that begins what follows
abbrev pub read_item : List Field → Types → List ℕ → Read Item
read_item ports types bytes = followed_by (cut bytes) (read_at ports types)

-- nothing at the end of the bytes, or what is behind a semicolon and a space
abbrev pub after_item : (List ℕ → Option (List Item)) → List ℕ → Option (List Item)
after_item read [] = Some []
after_item read (byte ∷ bytes) = option_and_then read (behind (codes "; ") (byte ∷ bytes))

-- items up to the end of the bytes, at most so many
unfoldable pub read_items : List Field → Types → ℕ → List ℕ → Option (List Item)
read_items ports types zero bytes = None
read_items ports types (suc most) bytes =
    followed_by (read_item ports types bytes)
    (λ item rest. option_map (λ items. item ∷ items) (after_item (read_items ports types most) rest))

-- the record that a line spells, if it spells one: a time, and items
unfoldable pub record_of : List Field → Types → ℕ → List ℕ → Option Arrival
record_of ports types number line =
    followed_by (read_time line) (λ time rest.
    option_map (λ items. record { time = time; items = items; line = number }) (read_items ports types (length rest) rest))

-- the name of the port with this number
abbrev pub port_name : List Field → ℕ → List ℕ
port_name ports port = option_map_or (λ field. field.name) (slice_get ports port) []

abbrev pub item_text : List Field → Types → Item → List ℕ
item_text ports types item = port_name ports item.port ++ 32 ∷ spelling types item.value

abbrev pub later_item_text : List Field → Types → Item → List ℕ
later_item_text ports types item = codes "; " ++ item_text ports types item

-- items, with a semicolon and a space between two of them
abbrev pub items_text : List Field → Types → List Item → List ℕ
items_text ports types [] = []
items_text ports types (item ∷ items) = item_text ports types item ++ flat_map (later_item_text ports types) items

-- a time of a run, and the space behind it
abbrev pub time_text : ℕ → List ℕ
time_text time = decimal time ++ 32 ∷ []

-- the one line of a record: its time, a space, and its items
abbrev pub record_text : List Field → Types → Arrival → List ℕ
record_text ports types arrival = time_text arrival.time ++ items_text ports types arrival.items

-- An item has one of the ports and a value of that port's type.
pub record IsItem (ports : List Field) (types : Types) (item : Item) : Type 0 where
  pub port : Field
  pub at : slice_get ports item.port ≡ Some port
  pub typed : HasType types item.value port.ty

-- There is at least one item, and each is one.
pub record AreItems (ports : List Field) (types : Types) (items : List Item) : Type 0 where
  pub some : items ≢ []
  pub each : All (IsItem ports types) items

-- A line of this number spells the record.
pub record Spells (ports : List Field) (types : Types) (number : ℕ) (line : List ℕ) (arrival : Arrival) : Type 0 where
  pub early : IsMoment arrival.time
  pub items : AreItems ports types arrival.items
  pub numbered : arrival.line ≡ number
  pub spelled : record_text ports types arrival ≡ line
