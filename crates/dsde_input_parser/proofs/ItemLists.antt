-- Items one after the other, up to the end of a text.
use Rattle.std.proofs.Common.{◌≡◌, ◌≢◌, ℕ, ◌<◌, ◌≤◌, List, [], ◌∷◌, ◌++◌, length, drop, refl, sym, ◌∙◌, ap, arith, append_assoc, append-nil, length-append, length-drop}
use Rattle.std.specs.Prelude.{Some, None}
use Rattle.std.specs.List.{All, flat_map}
use Rattle.std.proofs.lemmas.List.Elements.{All-nil, All-cons, All-head, All-tail, All-push}
use Rattle.std.proofs.lemmas.List.Concat.{flat_map-append}
use Rattle.dsde_values.specs.declared.arrival.Item.{Item}
use Rattle.dsde_values.specs.declared.types.Field.{Field}
use Rattle.dsde_values.specs.declared.types.Types.{Types}
use Rattle.dsde_input_records.specs.Record.{IsItem, AreItems, item_text, later_item_text, items_text}
use Rattle.dsde_input_parser.specs.Reading.{Reads, NoWord}

-- what is still to be read: any items that the text spells begin with these, and the rest is spelled from here on
pub record Awaits (ports : List Field) (types : Types) (text : List ℕ) (items : List Item) (rest : List ℕ) (all : List Item) : Type 0 where
  pub later : List Item
  pub whole : all ≡ items ++ later
  pub each : All (IsItem ports types) later
  pub spelled : rest ≡ flat_map (later_item_text ports types) later

-- the items so far, and what is behind them
pub record SoFar (ports : List Field) (types : Types) (text : List ℕ) (items : List Item) (rest : List ℕ) : Type 0 where
  pub are : AreItems ports types items
  pub spelled : text ≡ items_text ports types items ++ rest
  pub only : (all : List Item) → AreItems ports types all → text ≡ items_text ports types all → Awaits ports types text items rest all

module _ (ports : List Field) (types : Types) where
  -- A semicolon or nothing stands before later items.
  no_word : (later : List Item) → NoWord (flat_map (later_item_text ports types) later)
  no_word [] = refl
  no_word (item ∷ later) = refl

  items_text-push : (items : List Item) (item : Item) → items ≢ [] → items_text ports types (items ++ item ∷ []) ≡ items_text ports types items ++ later_item_text ports types item
  items_text-push [] item some = absurd (some refl)
  items_text-push (first ∷ items) item some =
      ap (λ tail. item_text ports types first ++ tail)
      (flat_map-append (later_item_text ports types) items (item ∷ []) ∙ ap (λ last. flat_map (later_item_text ports types) items ++ last) (append-nil (later_item_text ports types item)))
      ∙ sym (append_assoc (item_text ports types first) (flat_map (later_item_text ports types) items) (later_item_text ports types item))

  -- the first item
  first_waits : (text : List ℕ) (item : Item) (size : ℕ) → Reads (IsItem ports types) (item_text ports types) NoWord text (Some (item, size)) →
      (all : List Item) → AreItems ports types all → text ≡ items_text ports types all → Awaits ports types text (item ∷ []) (drop size text) all
  first_waits text item size found [] are same = absurd (are.some refl)
  first_waits text item size found (x ∷ xs) are same =
      let this = found.only x (flat_map (later_item_text ports types) xs) (All-head (IsItem ports types) x xs are.each) (no_word xs) same in
      record { later = xs; whole = ap (λ y. y ∷ xs) (sym this.0); each = All-tail (IsItem ports types) x xs are.each; spelled = this.1 }

  pub so_far_first : (text : List ℕ) (item : Item) (size : ℕ) → Reads (IsItem ports types) (item_text ports types) NoWord text (Some (item, size)) → SoFar ports types text (item ∷ []) (drop size text)
  so_far_first text item size found = record {
    are = record { some = λ none. cc; each = All-cons (IsItem ports types) item [] found.stands.is (All-nil (IsItem ports types)) };
    spelled = found.stands.front ∙ ap (λ front. front ++ drop size text) (sym (append-nil (item_text ports types item)));
    only = first_waits text item size found;
  }

  pub none_first : (text : List ℕ) → Reads (IsItem ports types) (item_text ports types) NoWord text None → (all : List Item) → AreItems ports types all → text ≡ items_text ports types all → ⊥
  none_first text found [] are same = are.some refl
  none_first text found (x ∷ xs) are same =
      found.only x (flat_map (later_item_text ports types) xs) (All-head (IsItem ports types) x xs are.each) (no_word xs) same

  -- one item more
  next_waits : (text : List ℕ) (items : List Item) (rest : List ℕ) (item : Item) (size : ℕ) → 0 < length rest →
      Reads (IsItem ports types) (later_item_text ports types) NoWord rest (Some (item, size)) → (all later : List Item) → all ≡ items ++ later → All (IsItem ports types) later → rest ≡ flat_map (later_item_text ports types) later → Awaits ports types text (items ++ item ∷ []) (drop size rest) all
  next_waits text items rest item size some found all [] whole each spelled = absurd (omega (arith, ap length spelled))
  next_waits text items rest item size some found all (x ∷ xs) whole each spelled =
      let this = found.only x (flat_map (later_item_text ports types) xs) (All-head (IsItem ports types) x xs each) (no_word xs) spelled in
      record {
        later = xs;
        whole = whole ∙ ap (λ y. items ++ y ∷ xs) (sym this.0) ∙ sym (append_assoc items (item ∷ []) xs);
        each = All-tail (IsItem ports types) x xs each;
        spelled = this.1;
      }

  pub so_far_next : (text : List ℕ) (items : List Item) (rest : List ℕ) (item : Item) (size : ℕ) → 0 < length rest →
      SoFar ports types text items rest → Reads (IsItem ports types) (later_item_text ports types) NoWord rest (Some (item, size)) → SoFar ports types text (items ++ item ∷ []) (drop size rest)
  so_far_next text items rest item size some so_far found = record {
    are = record { some = λ none. absurd (omega (arith, ap length none, length-append items (item ∷ []))); each = All-push (IsItem ports types) items item so_far.are.each found.stands.is };
    spelled = so_far.spelled ∙ ap (λ tail. items_text ports types items ++ tail) found.stands.front
        ∙ sym (append_assoc (items_text ports types items) (later_item_text ports types item) (drop size rest))
        ∙ ap (λ front. front ++ drop size rest) (sym (items_text-push items item so_far.are.some));
    only = λ all are same.
        let waits = so_far.only all are same in
        next_waits text items rest item size some found all waits.later waits.whole waits.each waits.spelled;
  }

  none_next : (items : List Item) (rest : List ℕ) → 0 < length rest →
      Reads (IsItem ports types) (later_item_text ports types) NoWord rest None → (all later : List Item) → all ≡ items ++ later → All (IsItem ports types) later → rest ≡ flat_map (later_item_text ports types) later → ⊥
  none_next items rest some found all [] whole each spelled = omega (arith, ap length spelled)
  none_next items rest some found all (x ∷ xs) whole each spelled =
      found.only x (flat_map (later_item_text ports types) xs) (All-head (IsItem ports types) x xs each) (no_word xs) spelled

  -- The text goes on with no item.
  pub so_far_none : (text : List ℕ) (items : List Item) (rest : List ℕ) → 0 < length rest → SoFar ports types text items rest →
      Reads (IsItem ports types) (later_item_text ports types) NoWord rest None → (all : List Item) → AreItems ports types all → text ≡ items_text ports types all → ⊥
  so_far_none text items rest some so_far found all are same =
      let waits = so_far.only all are same in
      none_next items rest some found all waits.later waits.whole waits.each waits.spelled

  last_waits : (items all later : List Item) → all ≡ items ++ later → [] ≡ flat_map (later_item_text ports types) later → items ≡ all
  last_waits items all [] whole spelled = sym (whole ∙ append-nil items)
  last_waits items all (x ∷ xs) whole spelled = cc

  -- The text ends behind the items.
  pub so_far_all : (text : List ℕ) (items : List Item) (rest : List ℕ) → length rest ≤ 0 → SoFar ports types text items rest →
      (AreItems ports types items × (text ≡ items_text ports types items)) × ((all : List Item) → AreItems ports types all → text ≡ items_text ports types all → Some items ≡ Some all)
  so_far_all text items (byte ∷ rest) past so_far = absurd (omega arith)
  so_far_all text items [] past so_far = (
    (so_far.are, so_far.spelled ∙ append-nil (items_text ports types items)),
    λ all are same.
        let waits = so_far.only all are same in
        ap Some (last_waits items all waits.later waits.whole waits.spelled),
  )

  -- A later item takes some bytes.
  pub some_bytes : (rest : List ℕ) (item : Item) (size : ℕ) → Reads (IsItem ports types) (later_item_text ports types) NoWord rest (Some (item, size)) → (0 < size) × (size ≤ length rest)
  some_bytes rest item size found =
      (omega (arith, ap length found.stands.front, length-append (later_item_text ports types item) (drop size rest), length-drop size rest, found.stands.within), found.stands.within)
