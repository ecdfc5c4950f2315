-- A line's record, from its time and its items.
use Rattle.std.proofs.Common.{◌≡◌, ℕ, List, ◌++◌, drop, refl, sym, ◌∙◌, ap}
use Rattle.std.specs.Prelude.{◌↔◌, Option, Some, None, IfSome}
use Rattle.dsde_values.specs.When.{IsMoment}
use Rattle.dsde_values.specs.declared.arrival.Arrival.{Arrival}
use Rattle.dsde_values.specs.declared.arrival.Item.{Item}
use Rattle.dsde_values.specs.declared.types.Field.{Field}
use Rattle.dsde_values.specs.declared.types.Types.{Types}
use Rattle.dsde_input_records.specs.Record.{AreItems, Spells, time_text, items_text, record_of}
use Rattle.dsde_input_parser.specs.Reading.{Reads, Anything}

none_or : {X : Type 0} (found : Option X) → ((x : X) → found ≡ Some x → None ≡ found) → None ≡ found
none_or None none = refl
none_or (Some x) none = none x refl

module _ (ports : List Field) (types : Types) (number : ℕ) (line : List ℕ) (law : (arrival : Arrival) → (record_of ports types number line ≡ Some arrival) ↔ Spells ports types number line arrival) where
  -- the only record that the line spells
  exactly : (found : Option Arrival) → IfSome found (Spells ports types number line) → ((arrival : Arrival) → Spells ports types number line arrival → found ≡ Some arrival) → found ≡ record_of ports types number line
  exactly (Some arrival) is only = sym ((law arrival).1 is)
  exactly None is only = none_or (record_of ports types number line) (λ arrival same. only arrival ((law arrival).0 same) ∙ sym same)

  -- A line without a time spells no record.
  pub no_time : Reads IsMoment time_text Anything line None → None ≡ record_of ports types number line
  no_time none =
      exactly None tt
      (λ arrival spells. absurd (none.only arrival.time (items_text ports types arrival.items) spells.early tt (sym spells.spelled)))

  module _ (time size : ℕ) (found : Reads IsMoment time_text Anything line (Some (time, size))) where
    -- A line whose time no items follow spells no record.
    pub no_items : ((items : List Item) → AreItems ports types items → drop size line ≡ items_text ports types items → ⊥) → None ≡ record_of ports types number line
    no_items none =
        exactly None tt
        (λ arrival spells.
        let time_is = found.only arrival.time (items_text ports types arrival.items) spells.early tt (sym spells.spelled) in
        absurd (none arrival.items spells.items time_is.1))

    -- A line whose time items follow spells a record.
    pub with_items : (items : List Item) → AreItems ports types items → drop size line ≡ items_text ports types items →
        ((all : List Item) → AreItems ports types all → drop size line ≡ items_text ports types all → Some items ≡ Some all) →
        Some (record { time = time; items = items; line = number }) ≡ record_of ports types number line
    with_items items are spelled only =
        exactly (Some (record { time = time; items = items; line = number }))
        (record {
          early = found.stands.is;
          items = are;
          numbered = refl;
          spelled = sym (found.stands.front ∙ ap (λ rest. time_text time ++ rest) spelled);
        })
        (λ arrival spells.
        let time_is = found.only arrival.time (items_text ports types arrival.items) spells.early tt (sym spells.spelled) in
        let items_are = only arrival.items spells.items time_is.1 in
        let same_items : items ≡ arrival.items = cc in
        let with_parts : ℕ → List Item → ℕ → Arrival = λ t list n. record { time = t; items = list; line = n } in
        ap Some (ap (λ t. with_parts t items number) time_is.0 ∙ ap (λ list. with_parts arrival.time list number) same_items ∙ ap (with_parts arrival.time arrival.items) (sym spells.numbered)))
