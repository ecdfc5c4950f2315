-- A line spells the record that is read from it.
use Rattle.std.proofs.Common.{◌≡◌, ℕ, zero, suc, ◌≤◌, true, false, List, [], ◌∷◌, ◌++◌, length, get_or, refl, sym, ◌∙◌, ap, subst, arith, append_assoc, length-append, decimal}
use Rattle.std.specs.Prelude.{◌↔◌, Option, Some, None, codes, option_and_then, slice_get}
use Rattle.std.specs.List.{All, flat_map, position}
use Rattle.std.specs.Option.{option_map, option_map_or}
use Rattle.std.specs.Str.{bytes_eq}
use Rattle.std.proofs.lemmas.List.Elements.{All-nil, All-cons, All-head, All-tail}
use Rattle.std.proofs.lemmas.List.Quantifiers.{position-Some}
use Rattle.std.proofs.lemmas.Option.{get_or_from_slice_get}
use Rattle.dsde_values.specs.given.words.Words.{begins_word, is_word}
use Rattle.dsde_values.specs.When.{IsMoment}
use Rattle.dsde_values.specs.declared.arrival.Arrival.{Arrival}
use Rattle.dsde_values.specs.declared.arrival.Item.{Item}
use Rattle.dsde_values.specs.declared.types.Field.{Field}
use Rattle.dsde_values.specs.declared.types.Types.{Types}
use Rattle.dsde_values.specs.declared.value.Value.{Value}
use Rattle.dsde_values.specs.Word.{ends_word}
use Rattle.dsde_values.specs.Value.{IsLawful, spelling}
use Rattle.dsde_values.proofs.Fronts.{and_false}
use Rattle.dsde_input_records.specs.Reading.{Read, made, followed_by, behind, value_of}
use Rattle.dsde_input_records.specs.Record.{ArePorts, cut, moment_of, read_time, read_item, after_item, read_items, record_of, port_name, item_text, later_item_text, items_text, time_text, IsItem, AreItems, Spells}
use Rattle.dsde_input_records.proofs.Fronts.{mapped, followed, made_of, next_of, behind-front, behind-text}
use Rattle.dsde_input_records.proofs.Ints.{moment-back, moment-is}
use Rattle.dsde_input_records.proofs.Ports.{cut-front, cut-text, Lacks-decimal, Lacks-identifier, port_fact, same_name, no_port, this_port}
use Rattle.dsde_input_records.proofs.Values.{value_front, value_text}

-- a time and a space
time_front : (line : List ℕ) (time : ℕ) (rest : List ℕ) → read_time line ≡ Some (time, rest) → IsMoment time × (line ≡ decimal time ++ 32 ∷ rest)
time_front line time rest is =
    let p = next_of (cut line) (λ front left. option_map (λ t. (t, left)) (moment_of front)) (time, rest) is in
    let own = mapped (λ t. (t, p.1)) (moment_of p.0) (time, rest) p.3 in
    let same : own.0 ≡ time = ap (λ parts. parts.0) own.2 in
    let left : p.1 ≡ rest = ap (λ parts. parts.1) own.2 in
    let moment = moment-is p.0 own.0 own.1 in
    (subst IsMoment same moment.1, cut-front line p.0 p.1 p.2 ∙ ap (λ front. front ++ 32 ∷ p.1) (moment.0 ∙ ap decimal same) ∙ ap (λ tail. decimal time ++ 32 ∷ tail) left)

time_back : (time : ℕ) (rest : List ℕ) → IsMoment time → read_time (decimal time ++ 32 ∷ rest) ≡ Some (time, rest)
time_back time rest early =
    ap (λ found. followed_by found (λ front left. option_map (λ t. (t, left)) (moment_of front))) (cut-text (decimal time) rest (Lacks-decimal time (omega (arith, early))))
    ∙ ap (option_map (λ t. (t, rest))) (moment-back time early)

-- a name, a space, a text, and the rest
item_stands : (bytes name own left text rest : List ℕ) → bytes ≡ name ++ 32 ∷ left → left ≡ text ++ rest → own ≡ name → bytes ≡ (own ++ 32 ∷ text) ++ rest
item_stands bytes name own left text rest front behind_it same =
    front ∙ ap (λ tail. name ++ 32 ∷ tail) behind_it ∙ ap (λ n. n ++ 32 ∷ (text ++ rest)) (sym same) ∙ sym (append_assoc own (32 ∷ text) rest)

module _ (ports : List Field) (types : Types) (are : ArePorts ports) (lawful : IsLawful types) where
  -- the value that begins a text, at the port of this number
  at_place : ℕ → List ℕ → Field → Read Item
  at_place place rest port = made (λ value. record { port = place; value = value }) (value_of types port.ty rest)

  named : List ℕ → List ℕ → Read Item
  named name rest = option_and_then (λ place. option_and_then (at_place place rest) (slice_get ports place)) (position (λ port. bytes_eq port.name name) ports)

  item_at : (bytes name left : List ℕ) (place : ℕ) (port : Field) (v : Value) (rest : List ℕ) → bytes ≡ name ++ 32 ∷ left → position (λ port. bytes_eq port.name name) ports ≡ Some place → slice_get ports place ≡ Some port → value_of types port.ty left ≡ Some (v, rest) →
      IsItem ports types (record { port = place; value = v }) × (bytes ≡ item_text ports types (record { port = place; value = v }) ++ rest)
  item_at bytes name left place port v rest front found at is =
      let seen = value_front types lawful port.ty left v rest is in
      let own : port.name ≡ name =
      ap (λ f. f.name) (sym (get_or_from_slice_get ports place port port at)) ∙ same_name (get_or ports place port) name (position-Some (λ port. bytes_eq port.name name) ports place port found).1 in
      let named_so : port_name ports place ≡ name = ap (λ f. option_map_or (λ field. field.name) f []) at ∙ own in
      (record { port = port; at = at; typed = seen.0 }, item_stands bytes name (port_name ports place) left (spelling types v) rest front seen.1 named_so)

  item_front : (bytes : List ℕ) (item : Item) (rest : List ℕ) → read_item ports types bytes ≡ Some (item, rest) → IsItem ports types item × (bytes ≡ item_text ports types item ++ rest)
  unfolding at_place named
  item_front bytes item rest is =
      let p = next_of (cut bytes) named (item, rest) is in
      let place = followed (λ place. option_and_then (at_place place p.1) (slice_get ports place)) (position (λ port. bytes_eq port.name p.0) ports) (item, rest) p.3 in
      let port = followed (at_place place.0 p.1) (slice_get ports place.0) (item, rest) place.2 in
      let found = made_of (λ value. let own : Item = record { port = place.0; value = value } in own) (value_of types port.0.ty p.1) item rest port.2 in
      subst (λ i. IsItem ports types i × (bytes ≡ item_text ports types i ++ rest)) found.2
      (item_at bytes p.0 p.1 place.0 port.0 found.0 rest (cut-front bytes p.0 p.1 p.2) place.1 port.1 found.1)

  place_is : (item : Item) (is : IsItem ports types item) (found : Option ℕ) → position (λ port. bytes_eq port.name is.port.name) ports ≡ found → found ≡ Some item.port
  place_is item is None none = absurd (no_port ports is.port.name none item.port is.port is.at refl)
  place_is item is (Some place) found = ap Some (this_port ports is.port.name place are found item.port is.port is.at refl)

  item_back : (item : Item) (rest : List ℕ) → IsItem ports types item → begins_word rest ≡ false → read_item ports types (item_text ports types item ++ rest) ≡ Some (item, rest)
  unfolding at_place named
  item_back item rest is none =
      let name = is.port.name in
      let left : List ℕ = spelling types item.value ++ rest in
      let named_so : port_name ports item.port ≡ name = ap (λ f. option_map_or (λ field. field.name) f []) is.at in
      let lacks = Lacks-identifier name (port_fact (λ port. is_word port.name ≡ true) ports item.port is.port are.named is.at) in
      ap (read_item ports types) (append_assoc (port_name ports item.port) (32 ∷ spelling types item.value) rest ∙ ap (λ front. front ++ 32 ∷ left) named_so)
      ∙ ap (λ found. followed_by found named) (cut-text name left lacks)
      ∙ ap (option_and_then (λ place. option_and_then (at_place place left) (slice_get ports place))) (place_is item is (position (λ port. bytes_eq port.name name) ports) refl)
      ∙ ap (option_and_then (at_place item.port left)) is.at
      ∙ ap (made (λ value. let own : Item = record { port = item.port; value = value } in own)) (value_text types lawful is.port.ty item.value rest is.typed (and_false (ends_word (spelling types item.value)) (begins_word rest) none))

  -- Later items stand behind semicolons.
  later_texts : (first : Item) (items : List Item) → codes "; " ++ items_text ports types (first ∷ items) ≡ flat_map (later_item_text ports types) (first ∷ items)
  later_texts first items = refl

  no_word : (items : List Item) → begins_word (flat_map (later_item_text ports types) items) ≡ false
  no_word [] = refl
  no_word (item ∷ items) = refl

  behind_front : (items : List Item) (bytes : List ℕ) → AreItems ports types items → bytes ≡ codes "; " ++ items_text ports types items → bytes ≡ flat_map (later_item_text ports types) items
  behind_front [] bytes are_items same = absurd (are_items.some refl)
  behind_front (first ∷ items) bytes are_items same = same ∙ later_texts first items

  after_front : (read : List ℕ → Option (List Item)) → ((bytes : List ℕ) (items : List Item) → read bytes ≡ Some items → AreItems ports types items × (bytes ≡ items_text ports types items)) →
      (rest : List ℕ) (items : List Item) → after_item read rest ≡ Some items → All (IsItem ports types) items × (rest ≡ flat_map (later_item_text ports types) items)
  after_front read front [] items is =
      let none : [] ≡ items = cc in
      subst (λ list. All (IsItem ports types) list × ([] ≡ flat_map (later_item_text ports types) list)) none (All-nil (IsItem ports types), refl)
  after_front read front (byte ∷ bytes) items is =
      let p = followed read (behind (codes "; ") (byte ∷ bytes)) items is in
      let all = front p.0 items p.2 in
      (all.0.each, behind_front items (byte ∷ bytes) all.0 (behind-front (codes "; ") (byte ∷ bytes) p.0 p.1 ∙ ap (λ tail. codes "; " ++ tail) all.1))

  items_front : (most : ℕ) (bytes : List ℕ) (items : List Item) → read_items ports types most bytes ≡ Some items → AreItems ports types items × (bytes ≡ items_text ports types items)
  unfolding read_items
  items_front zero bytes items is = absurd (cc)
  items_front (suc most) bytes items is =
      let p = next_of (read_item ports types bytes) (λ item rest. option_map (λ list. item ∷ list) (after_item (read_items ports types most) rest)) items is in
      let others = mapped (λ list. p.0 ∷ list) (after_item (read_items ports types most) p.1) items p.3 in
      let one = item_front bytes p.0 p.1 p.2 in
      let all = after_front (read_items ports types most) (items_front most) p.1 others.0 others.1 in
      subst (λ list. AreItems ports types list × (bytes ≡ items_text ports types list)) others.2 (
        record { some = λ none. cc; each = All-cons (IsItem ports types) p.0 others.0 one.0 all.0 },
        one.1 ∙ ap (λ tail. item_text ports types p.0 ++ tail) all.1,
      )

  after_back : (read : List ℕ → Option (List Item)) (items : List Item) → All (IsItem ports types) items → (AreItems ports types items → read (items_text ports types items) ≡ Some items) → after_item read (flat_map (later_item_text ports types) items) ≡ Some items
  after_back read [] each back = refl
  after_back read (first ∷ items) each back =
      ap (option_and_then read) (behind-text (codes "; ") (items_text ports types (first ∷ items)))
      ∙ back (record { some = λ none. cc; each = each })

  items_back : (most : ℕ) (items : List Item) → AreItems ports types items → length items ≤ most → read_items ports types most (items_text ports types items) ≡ Some items
  unfolding read_items
  items_back most [] are_items fits = absurd (are_items.some refl)
  items_back zero (item ∷ items) are_items fits = absurd (omega (arith, fits))
  items_back (suc most) (item ∷ items) are_items fits =
      let rest = flat_map (later_item_text ports types) items in
      ap (λ found. followed_by found (λ item rest. option_map (λ list. item ∷ list) (after_item (read_items ports types most) rest)))
      (item_back item rest (All-head (IsItem ports types) item items are_items.each) (no_word items))
      ∙ ap (option_map (λ list. item ∷ list))
      (after_back (read_items ports types most) items (All-tail (IsItem ports types) item items are_items.each)
      (λ others. items_back most items others (omega (arith, fits))))

  -- Each item has some bytes.
  length_later : (items : List Item) → length items ≤ length (flat_map (later_item_text ports types) items)
  length_later [] = omega arith
  length_later (x ∷ xs) = omega (arith, length_later xs, length-append (later_item_text ports types x) (flat_map (later_item_text ports types) xs))

  length_items : (items : List Item) → length items ≤ length (items_text ports types items)
  length_items [] = omega arith
  length_items (x ∷ xs) =
      omega (arith, length_later xs, length-append (item_text ports types x) (flat_map (later_item_text ports types) xs), length-append (port_name ports x.port) (32 ∷ spelling types x.value))

  -- a time, the space behind it, and the rest
  time_then : (time : ℕ) (rest : List ℕ) → time_text time ++ rest ≡ decimal time ++ 32 ∷ rest
  time_then time rest = append_assoc (decimal time) (32 ∷ []) rest

  module _ (number : ℕ) (line : List ℕ) (arrival : Arrival) where
    with_items : ℕ → List Item → Arrival
    with_items time items = record { time = time; items = items; line = number }

    next : ℕ → List ℕ → Option Arrival
    next time rest = option_map (λ items. record { time = time; items = items; line = number }) (read_items ports types (length rest) rest)

    record_front : record_of ports types number line ≡ Some arrival → Spells ports types number line arrival
    unfolding record_of next
    record_front is =
        let p = next_of (read_time line) next arrival is in
        let items = mapped (λ list. let own : Arrival = record { time = p.0; items = list; line = number } in own) (read_items ports types (length p.1) p.1) arrival p.3 in
        let time = time_front line p.0 p.1 p.2 in
        let all = items_front (length p.1) p.1 items.0 items.1 in
        subst (Spells ports types number line) items.2
        (record {
          early = time.0;
          items = all.0;
          numbered = refl;
          spelled = time_then p.0 (items_text ports types items.0) ∙ ap (λ tail. decimal p.0 ++ 32 ∷ tail) (sym all.1) ∙ sym time.1;
        })

    record_back : Spells ports types number line arrival → record_of ports types number line ≡ Some arrival
    unfolding record_of next
    record_back spells =
        let text = items_text ports types arrival.items in
        ap (record_of ports types number) (sym spells.spelled ∙ time_then arrival.time text)
        ∙ ap (λ found. followed_by found next) (time_back arrival.time text spells.early)
        ∙ ap (option_map (λ items. let own : Arrival = record { time = arrival.time; items = items; line = number } in own)) (items_back (length text) arrival.items spells.items (length_items arrival.items))
        ∙ ap (λ n. Some (let own : Arrival = record arrival { line = n } in own)) (sym spells.numbered)

  pub spelled_exactly : (number : ℕ) (line : List ℕ) (arrival : Arrival) → (record_of ports types number line ≡ Some arrival) ↔ Spells ports types number line arrival
  spelled_exactly number line arrival = (record_front number line arrival, record_back number line arrival)
