-- The items of a list, read one after the other.
use Rattle.std.proofs.Common.{◌≡◌, ◌≢◌, ℕ, ◌<◌, ◌≤◌, Bool, true, false, ◌&&◌, List, [], ◌∷◌, ◌++◌, length, map, refl, sym, ◌∙◌, ap, arith, append_assoc, length-append}
use Rattle.std.specs.Prelude.{codes}
use Rattle.std.specs.List.{flat_map, list_all}
use Rattle.std.proofs.lemmas.Grind.{flat_map-append}
use Rattle.std.proofs.lemmas.List.{append-nil, append_cancel_left, map-append}
use Rattle.std.proofs.lemmas.List.Folds.{list_all-append}
use Rattle.dsde_values.specs.declared.types.Ty.{Ty}
use Rattle.dsde_values.specs.declared.types.Types.{Types}
use Rattle.dsde_values.specs.declared.value.Value.{Value}
use Rattle.dsde_words.specs.Words.{is_word_byte, begins_word}
use Rattle.dsde_values.specs.Word.{ends_word}
use Rattle.dsde_values.specs.Value.{joined, spelling, has_type, IsLawful}
use Rattle.dsde_values.specs.Reading.{Took, Lacks, NoWord, Anything, AreItems, items_text, list_text}
use Rattle.dsde_values.proofs.Fronts.{and_false}
use Rattle.dsde_values.proofs.Names.{both_true}
use Rattle.dsde_values.proofs.ValueKinds.{not_close}

-- texts, each behind a comma and a space
abbrev pub later : List (List ℕ) → List ℕ
later texts = flat_map (λ (text : List ℕ). codes ", " ++ text) texts

-- No word goes on to a comma, nor to a bracket.
pub no_word_later : (texts : List (List ℕ)) (close : ℕ) (rest : List ℕ) → is_word_byte close ≡ false → begins_word (later texts ++ close ∷ rest) ≡ false
no_word_later [] close rest none = none
no_word_later (text ∷ texts) close rest none = refl

-- one more text behind others
pub joined-push : (texts : List (List ℕ)) (text : List ℕ) → 0 < length texts → joined (texts ++ text ∷ []) ≡ joined texts ++ (codes ", " ++ text)
joined-push [] text some = absurd (omega arith)
joined-push (first ∷ texts) text some =
    ap (λ (tail : List ℕ). first ++ tail) (flat_map-append (λ (t : List ℕ). codes ", " ++ t) texts (text ∷ []) ∙ ap (λ (tail : List ℕ). later texts ++ tail) (append-nil (codes ", " ++ text)))
    ∙ sym (append_assoc first (later texts) (codes ", " ++ text))

pub both : (one other : Bool) → one ≡ true → other ≡ true → (one && other) ≡ true
both one other e f = rw (e, f) refl

-- A comma is no bracket.
pub comma_or_close : (left mid rest : List ℕ) (close : ℕ) → left ≡ codes ", " ++ mid → left ≡ close ∷ rest → close ≡ 44
comma_or_close left mid rest close comma ends = let e : 44 ∷ (32 ∷ mid) ≡ close ∷ rest = sym comma ∙ ends in cc

-- a text behind a comma, and what is behind it
pub behind_comma : (text more tail : List ℕ) → ((codes ", " ++ text) ++ more) ++ tail ≡ codes ", " ++ (text ++ (more ++ tail))
behind_comma text more tail = simp append_assoc

pub cut_comma : (left mid text more tail : List ℕ) → left ≡ codes ", " ++ mid → left ≡ ((codes ", " ++ text) ++ more) ++ tail → mid ≡ text ++ (more ++ tail)
cut_comma left mid text more tail comma behind =
    append_cancel_left (codes ", ") mid (text ++ (more ++ tail)) (sym comma ∙ behind ∙ behind_comma text more tail)

module _ (types : Types) (ty : Ty) where
  abbrev pub is_item : Value → Bool
  is_item item = has_type types item ty

  abbrev pub texts : List Value → List (List ℕ)
  texts items = map (spelling types) items

  -- What is behind items that were read, where a list stands: the other items, and the bracket.
  pub record Behind (items : List Value) (left : List ℕ) (all : List Value) (rest : List ℕ) : Type 0 where
    pub more : List Value
    pub whole : all ≡ items ++ more
    pub typed : list_all is_item more ≡ true
    pub behind : left ≡ later (texts more) ++ 93 ∷ rest

  -- Items were read from the start on: they stand there, and in each list that does.
  pub record SoFar (start : List ℕ) (items : List Value) (left : List ℕ) : Type 0 where
    pub some : 0 < length items
    pub are : AreItems types ty items
    pub front : start ≡ joined (texts items) ++ left
    pub only : (all : List Value) (rest : List ℕ) → AreItems types ty all → start ≡ items_text types all ++ rest → Behind items left all rest

  -- a list's text, cut behind its first item
  pub cut_first : (first : Value) (others : List Value) (rest : List ℕ) → items_text types (first ∷ others) ++ rest ≡ spelling types first ++ (later (texts others) ++ 93 ∷ rest)
  cut_first first others rest =
      append_assoc (spelling types first ++ later (texts others)) (codes "]") rest ∙ append_assoc (spelling types first) (later (texts others)) (93 ∷ rest)

  pub first_typed : (first : Value) (others : List Value) → AreItems types ty (first ∷ others) → (is_item first ≡ true) × (list_all is_item others ≡ true)
  first_typed first others are = both_true (is_item first) (list_all is_item others) are.typed

  pub ends_here : (item : Value) (others : List Value) (rest : List ℕ) → NoWord (spelling types) item (later (texts others) ++ 93 ∷ rest)
  ends_here item others rest = and_false (ends_word (spelling types item)) _ (no_word_later (texts others) 93 rest refl)

  -- what is behind an item that was read, where another list of items stands there
  same_item : (start left : List ℕ) (item other : Value) (others : List Value) (rest : List ℕ) → Took (λ v. is_item v ≡ true) (spelling types) (NoWord (spelling types)) start item left → is_item other ≡ true →
      start ≡ spelling types other ++ (later (texts others) ++ 93 ∷ rest) → (other ≡ item) × (left ≡ later (texts others) ++ 93 ∷ rest)
  same_item start left item other others rest took typed same =
      let one = took.only other (later (texts others) ++ 93 ∷ rest) typed (ends_here other others rest) same in (
        one,
        append_cancel_left (spelling types item) left (later (texts others) ++ 93 ∷ rest)
            (sym took.front ∙ same ∙ ap (λ (v : Value). spelling types v ++ (later (texts others) ++ 93 ∷ rest)) one),
      )

  -- No item at all is there.
  pub no_items : (lawful : IsLawful types) (start after : List ℕ) → start ≡ codes "]" ++ after → Took (AreItems types ty) (items_text types) Anything start [] after
  no_items lawful start after front = record {
    is = record { few = omega arith; typed = refl };
    front = front;
    ends = tt;
    only = λ other rest are _ same. none other rest are same;
  }
    where
      none : (other : List Value) (rest : List ℕ) → AreItems types ty other → start ≡ items_text types other ++ rest → other ≡ []
      none [] rest are same = refl
      none (first ∷ others) rest are same =
          absurd (not_close types lawful first ty (later (texts others) ++ 93 ∷ rest) after (first_typed first others are).0 (sym (cut_first first others rest) ∙ sym same ∙ front))

  -- the first item
  pub first_item : (start left : List ℕ) (item : Value) → ((rest : List ℕ) → start ≢ codes "]" ++ rest) → Took (λ v. is_item v ≡ true) (spelling types) (NoWord (spelling types)) start item left → SoFar start (item ∷ []) left
  first_item start left item unclosed took = record {
    some = omega arith;
    are = record { few = omega arith; typed = both (is_item item) true took.is refl };
    front = took.front ∙ ap (λ (text : List ℕ). text ++ left) (sym (append-nil (spelling types item)));
    only = only;
  }
    where
      only : (all : List Value) (rest : List ℕ) → AreItems types ty all → start ≡ items_text types all ++ rest → Behind (item ∷ []) left all rest
      only [] rest are same = absurd (unclosed rest same)
      only (first ∷ others) rest are same =
          let typed = first_typed first others are in
          let found = same_item start left item first others rest took typed.0 (same ∙ cut_first first others rest) in
          record { more = others; whole = ap (λ (v : Value). v ∷ others) found.0; typed = typed.1; behind = found.1 }

  pub no_first_item : (start : List ℕ) → ((rest : List ℕ) → start ≢ codes "]" ++ rest) → Lacks (λ v. is_item v ≡ true) (spelling types) (NoWord (spelling types)) start → Lacks (AreItems types ty) (items_text types) Anything start
  no_first_item start unclosed none [] rest are _ same = unclosed rest same
  no_first_item start unclosed none (first ∷ others) rest are _ same =
      none first (later (texts others) ++ 93 ∷ rest) (first_typed first others are).0 (ends_here first others rest) (same ∙ cut_first first others rest)

  -- the next item of a list that stands there
  record Next (items : List Value) (mid : List ℕ) (all : List Value) (rest : List ℕ) : Type 0 where
    next : Value
    others : List Value
    whole : all ≡ items ++ next ∷ others
    next_typed : is_item next ≡ true
    others_typed : list_all is_item others ≡ true
    behind : mid ≡ spelling types next ++ (later (texts others) ++ 93 ∷ rest)

  next_of : (items : List Value) (left mid : List ℕ) (all : List Value) (rest : List ℕ) (more : List Value) → left ≡ codes ", " ++ mid → all ≡ items ++ more → list_all is_item more ≡ true → left ≡ later (texts more) ++ 93 ∷ rest → Next items mid all rest
  next_of items left mid all rest [] comma whole typed behind =
      absurd (omega (arith, comma_or_close left mid rest 93 comma behind))
  next_of items left mid all rest (next ∷ others) comma whole typed behind =
      let parts = both_true (is_item next) (list_all is_item others) typed in
      record {
        next = next;
        others = others;
        whole = whole;
        next_typed = parts.0;
        others_typed = parts.1;
        behind = cut_comma left mid (spelling types next) (later (texts others)) (93 ∷ rest) comma behind;
      }

  module _ (start : List ℕ) (items : List Value) (left mid : List ℕ) (so_far : SoFar start items left) (comma : left ≡ codes ", " ++ mid) where
    goes_on_with : (all : List Value) (rest : List ℕ) → AreItems types ty all → start ≡ items_text types all ++ rest → Next items mid all rest
    goes_on_with all rest are same =
        let b = so_far.only all rest are same in next_of items left mid all rest b.more comma b.whole b.typed b.behind

    -- The list has as many items as it may.
    pub too_many : 65536 ≤ length items → Lacks (AreItems types ty) (items_text types) Anything start
    too_many full all rest are _ same =
        let n = goes_on_with all rest are same in
        absurd (omega (arith, are.few, ap length n.whole, length-append items (n.next ∷ n.others)))

    pub no_next_item : Lacks (λ v. is_item v ≡ true) (spelling types) (NoWord (spelling types)) mid → Lacks (AreItems types ty) (items_text types) Anything start
    no_next_item none all rest are _ same =
        let n = goes_on_with all rest are same in
        none n.next (later (texts n.others) ++ 93 ∷ rest) n.next_typed (ends_here n.next n.others rest) n.behind

    -- one more item
    pub next_item : (item : Value) (after : List ℕ) → length items < 65536 → Took (λ v. is_item v ≡ true) (spelling types) (NoWord (spelling types)) mid item after → SoFar start (items ++ item ∷ []) after
    next_item item after few took = record {
      some = omega (arith, length-append items (item ∷ []));
      are = record {
        few = omega (arith, length-append items (item ∷ []));
        typed = list_all-append is_item items (item ∷ []) ∙ both (list_all is_item items) (is_item item && true) so_far.are.typed (both (is_item item) true took.is refl);
      };
      front = so_far.front
          ∙ ap (λ (tail : List ℕ). joined (texts items) ++ tail) (comma ∙ ap (λ (tail : List ℕ). codes ", " ++ tail) took.front ∙ sym (append_assoc (codes ", ") (spelling types item) after))
          ∙ sym (append_assoc (joined (texts items)) (codes ", " ++ spelling types item) after)
          ∙ ap (λ (text : List ℕ). text ++ after) (sym (joined-push (texts items) (spelling types item) (some_texts items so_far.some)) ∙ ap joined (sym (map-append (spelling types) items (item ∷ []))));
      only = λ all rest are same.
          let n = goes_on_with all rest are same in
          let found = same_item mid after item n.next n.others rest took n.next_typed n.behind in
          record {
            more = n.others;
            whole = n.whole ∙ ap (λ (v : Value). items ++ v ∷ n.others) found.0 ∙ sym (append_assoc items (item ∷ []) n.others);
            typed = n.others_typed;
            behind = found.1;
          };
    }
      where
        some_texts : (list : List Value) → 0 < length list → 0 < length (texts list)
        some_texts [] h = h
        some_texts (v ∷ list) h = omega arith

  module _ (start : List ℕ) (items : List Value) (left : List ℕ) (so_far : SoFar start items left) (no_comma : (rest : List ℕ) → left ≢ codes ", " ++ rest) where
    last_of : (all : List Value) (rest : List ℕ) (more : List Value) → all ≡ items ++ more → left ≡ later (texts more) ++ 93 ∷ rest → (all ≡ items) × (left ≡ 93 ∷ rest)
    last_of all rest [] whole behind = (whole ∙ append-nil items, behind)
    last_of all rest (next ∷ others) whole behind =
        absurd (no_comma (spelling types next ++ (later (texts others) ++ 93 ∷ rest)) (behind ∙ behind_comma (spelling types next) (later (texts others)) (93 ∷ rest)))

    ends_with : (all : List Value) (rest : List ℕ) → AreItems types ty all → start ≡ items_text types all ++ rest → (all ≡ items) × (left ≡ 93 ∷ rest)
    ends_with all rest are same = let b = so_far.only all rest are same in last_of all rest b.more b.whole b.behind

    -- the bracket behind the last item, and none
    pub items_taken : (after : List ℕ) → left ≡ codes "]" ++ after → Took (AreItems types ty) (items_text types) Anything start items after
    items_taken after close = record {
      is = so_far.are;
      front = so_far.front ∙ ap (λ (tail : List ℕ). joined (texts items) ++ tail) close ∙ sym (append_assoc (joined (texts items)) (codes "]") after);
      ends = tt;
      only = λ all rest are _ same. (ends_with all rest are same).0;
    }

    pub not_ended : ((rest : List ℕ) → left ≢ codes "]" ++ rest) → Lacks (AreItems types ty) (items_text types) Anything start
    not_ended none all rest are _ same = none rest (ends_with all rest are same).1

  -- the bracket before the items
  module _ (before start : List ℕ) (bracket : before ≡ codes "[" ++ start) where
    inside : (items : List Value) (rest : List ℕ) → before ≡ list_text types items ++ rest → start ≡ items_text types items ++ rest
    inside items rest same = append_cancel_left (codes "[") start (items_text types items ++ rest) (sym bracket ∙ same)

    pub list_taken : (items : List Value) (after : List ℕ) → Took (AreItems types ty) (items_text types) Anything start items after → Took (AreItems types ty) (list_text types) Anything before items after
    list_taken items after took = record {
      is = took.is;
      front = bracket ∙ ap (λ (tail : List ℕ). codes "[" ++ tail) took.front;
      ends = tt;
      only = λ other rest are _ same. took.only other rest are tt (inside other rest same);
    }

    pub no_list : Lacks (AreItems types ty) (items_text types) Anything start → Lacks (AreItems types ty) (list_text types) Anything before
    no_list none other rest are _ same = none other rest are tt (inside other rest same)

  pub no_bracket : (before : List ℕ) → ((rest : List ℕ) → before ≢ codes "[" ++ rest) → Lacks (AreItems types ty) (list_text types) Anything before
  no_bracket before none other rest are _ same = none (items_text types other ++ rest) same
