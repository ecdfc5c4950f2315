-- The parts of a value, read one after the other, where each of them is read exactly.
use Rattle.std.proofs.Common.{◌≡◌, ◌≢◌, ℕ, zero, suc, ◌≤◌, Bool, true, false, List, [], ◌∷◌, ◌++◌, length, map, refl, sym, ◌∙◌, ap, subst, arith, append_assoc, length-append, ◌⊎◌, inl, inr}
use Rattle.std.specs.Prelude.{Option, Some, None, codes, option_and_then}
use Rattle.std.specs.List.{list_all}
use Rattle.std.specs.Option.{option_map, option_or}
use Rattle.std.proofs.lemmas.Bool.{false≢true}
use Rattle.dsde_values.specs.given.words.Words.{begins_word}
use Rattle.dsde_values.specs.declared.types.Field.{Field}
use Rattle.dsde_values.specs.declared.types.Ty.{Ty}
use Rattle.dsde_values.specs.declared.types.Types.{Types}
use Rattle.dsde_values.specs.declared.value.Value.{Value}
use Rattle.dsde_values.specs.Word.{ends_word, goes_on}
use Rattle.dsde_values.specs.Value.{joined, field_texts, spelling, fill, has_type}
use Rattle.dsde_values.proofs.Fronts.{and_false}
use Rattle.dsde_values.proofs.ListReading.{both, later, no_word_later}
use Rattle.dsde_values.proofs.Names.{both_true}
use Rattle.dsde_input_records.specs.Reading.{Read, made, followed_by, behind, closed, read_fields, read_list}
use Rattle.dsde_input_records.proofs.Fronts.{followed, made_of, next_of, behind-front, behind-text, behind-none, closed-front, closed-text}

-- texts, the first behind the lead, the others behind a comma and a space
abbrev pub led : List ℕ → List (List ℕ) → List ℕ
led lead [] = []
led lead (text ∷ texts) = lead ++ (text ++ later texts)

led-later : (texts : List (List ℕ)) → led (codes ", ") texts ≡ later texts
led-later [] = refl
led-later (text ∷ texts) = refl

pub led-joined : (texts : List (List ℕ)) → led [] texts ≡ joined texts
led-joined [] = refl
led-joined (text ∷ texts) = refl

-- one of two answers
pub either_of : {X : Type 0} (first other : Option X) (x : X) → option_or first other ≡ Some x → (first ≡ Some x) ⊎ (other ≡ Some x)
either_of None other x is = inr is
either_of (Some y) other x is = inl is

regroup_field : (lead name colon part more tail : List ℕ) → (lead ++ name ++ colon) ++ (part ++ (more ++ tail)) ≡ (lead ++ ((name ++ colon ++ part) ++ more)) ++ tail
regroup_field lead name colon part more tail = simp append_assoc

regroup_item : (lead part more tail : List ℕ) → lead ++ (part ++ (more ++ tail)) ≡ (lead ++ (part ++ more)) ++ tail
regroup_item lead part more tail = simp append_assoc

field_length : (lead name colon part more : List ℕ) (size : ℕ) → length (lead ++ ((name ++ colon ++ part) ++ more)) ≤ size → (length part ≤ size) × (length more ≤ size)
field_length lead name colon part more size fits =
    let whole = length-append lead ((name ++ colon ++ part) ++ more) in
    let text = length-append (name ++ colon ++ part) more in
    let key = length-append (name ++ colon) part in
    (omega (arith, whole, text, key, fits), omega (arith, whole, text, key, fits))

item_length : (lead part more : List ℕ) (size : ℕ) → length (lead ++ (part ++ more)) ≤ size → (length part ≤ size) × (length more ≤ size)
item_length lead part more size fits =
    let whole = length-append lead (part ++ more) in
    let text = length-append part more in
    (omega (arith, whole, text, fits), omega (arith, whole, text, fits))

module _ (types : Types) where
  -- The value has the type, and its text stands at the front, where no word goes on from it.
  pub record Front (t : Ty) (bytes : List ℕ) (v : Value) (rest : List ℕ) : Type 0 where
    pub typed : has_type types v t ≡ true
    pub front : bytes ≡ spelling types v ++ rest
    pub ends : goes_on (spelling types v) rest ≡ false

  -- What is read is a value of the type at the front, and each of which the text is not longer is read.
  pub record Exact (t : Ty) (size : ℕ) (read : List ℕ → Read Value) : Type 0 where
    pub front : (bytes : List ℕ) (v : Value) (rest : List ℕ) → read bytes ≡ Some (v, rest) → Front t bytes v rest
    pub text : (v : Value) (rest : List ℕ) → has_type types v t ≡ true → goes_on (spelling types v) rest ≡ false → length (spelling types v) ≤ size → read (spelling types v ++ rest) ≡ Some (v, rest)

  abbrev pub texts_of : List Field → List Value → List (List ℕ)
  texts_of fields parts = field_texts fields (map (spelling types) parts)

  ends_later : (v : Value) (texts : List (List ℕ)) (close : ℕ) (rest : List ℕ) → begins_word (close ∷ []) ≡ false → goes_on (spelling types v) (later texts ++ close ∷ rest) ≡ false
  ends_later v texts close rest none = and_false (ends_word (spelling types v)) _ (no_word_later texts close rest none)

  module _ (size : ℕ) (read : Ty → List ℕ → Read Value) (exact : (t : Ty) → Exact t size (read t)) where
    -- The values that are read fill the fields, and their text and the brace stand at the front.
    pub record FieldsFront (lead : List ℕ) (fields : List Field) (bytes : List ℕ) (parts : List Value) (rest : List ℕ) : Type 0 where
      pub filled : fill (map (has_type types) parts) fields ≡ true
      pub front : bytes ≡ led lead (texts_of fields parts) ++ 125 ∷ rest

    pub fields-front : (lead : List ℕ) (fields : List Field) (bytes : List ℕ) (parts : List Value) (rest : List ℕ) → read_fields read lead fields bytes ≡ Some (parts, rest) → FieldsFront lead fields bytes parts rest
    unfolding read_fields
    fields-front lead [] bytes parts rest is =
        let p = closed-front (codes "}") [] bytes parts rest is in
        subst (λ list. FieldsFront lead [] bytes list rest) p.0 (record { filled = refl; front = p.1 })
    fields-front lead (field ∷ fields) bytes parts rest is =
        let key : List ℕ = lead ++ field.name ++ codes ": " in
        let p = next_of (option_and_then (read field.ty) (behind key bytes)) (λ part left. made (λ list. part ∷ list) (read_fields read (codes ", ") fields left)) (parts, rest) is in
        let start = followed (read field.ty) (behind key bytes) (p.0, p.1) p.2 in
        let one = (exact field.ty).front start.0 p.0 p.1 start.2 in
        let others = made_of (λ list. p.0 ∷ list) (read_fields read (codes ", ") fields p.1) parts rest p.3 in
        let all = fields-front (codes ", ") fields p.1 others.0 rest others.1 in
        let texts = texts_of fields others.0 in
        subst (λ list. FieldsFront lead (field ∷ fields) bytes list rest) others.2
        (record {
          filled = both (has_type types p.0 field.ty) (fill (map (has_type types) others.0) fields) one.typed all.filled;
          front = behind-front key bytes start.0 start.1
              ∙ ap (λ tail. key ++ tail) (one.front ∙ ap (λ tail. spelling types p.0 ++ tail) (all.front ∙ ap (λ front. front ++ 125 ∷ rest) (led-later texts)))
              ∙ regroup_field lead field.name (codes ": ") (spelling types p.0) (later texts) (125 ∷ rest);
        })

    pub fields-text : (lead : List ℕ) (fields : List Field) (parts : List Value) (rest : List ℕ) → fill (map (has_type types) parts) fields ≡ true → length (led lead (texts_of fields parts)) ≤ size →
        read_fields read lead fields (led lead (texts_of fields parts) ++ 125 ∷ rest) ≡ Some (parts, rest)
    unfolding read_fields
    fields-text lead [] [] rest filled fits = closed-text (codes "}") [] rest
    fields-text lead [] (part ∷ parts) rest filled fits = absurd (false≢true filled)
    fields-text lead (field ∷ fields) [] rest filled fits = absurd (false≢true filled)
    fields-text lead (field ∷ fields) (part ∷ parts) rest filled fits =
        let key : List ℕ = lead ++ field.name ++ codes ": " in
        let texts = texts_of fields parts in
        let left : List ℕ = later texts ++ 125 ∷ rest in
        let tests = both_true (has_type types part field.ty) (fill (map (has_type types) parts) fields) filled in
        let lengths = field_length lead field.name (codes ": ") (spelling types part) (later texts) size fits in
        let next : List ℕ → Read (List Value) = λ bytes. followed_by (option_and_then (read field.ty) (behind key bytes)) (λ one behind_it. made (λ list. one ∷ list) (read_fields read (codes ", ") fields behind_it)) in
        ap next (sym (regroup_field lead field.name (codes ": ") (spelling types part) (later texts) (125 ∷ rest)))
        ∙ ap (λ found. followed_by (option_and_then (read field.ty) found) (λ one behind_it. made (λ list. one ∷ list) (read_fields read (codes ", ") fields behind_it))) (behind-text key (spelling types part ++ left))
        ∙ ap (λ found. followed_by found (λ one behind_it. made (λ list. one ∷ list) (read_fields read (codes ", ") fields behind_it)))
        ((exact field.ty).text part left tests.0 (ends_later part texts 125 rest refl) lengths.0)
        ∙ ap (λ bytes. made (λ list. part ∷ list) (read_fields read (codes ", ") fields bytes)) (ap (λ front. front ++ 125 ∷ rest) (sym (led-later texts)))
        ∙ ap (made (λ list. part ∷ list)) (fields-text (codes ", ") fields parts rest tests.1 (rw led-later lengths.1))

  module _ (t : Ty) (size : ℕ) (read : List ℕ → Read Value) (exact : Exact t size read) where
    abbrev is_item : Value → Bool
    is_item item = has_type types item t

    -- The values that are read have the type, and their text and the bracket stand at the front.
    pub record ItemsFront (most : ℕ) (lead bytes : List ℕ) (items : List Value) (rest : List ℕ) : Type 0 where
      pub few : length items ≤ most
      pub typed : list_all is_item items ≡ true
      pub front : bytes ≡ led lead (map (spelling types) items) ++ 93 ∷ rest

    no_item : (most : ℕ) (lead bytes : List ℕ) (items : List Value) (rest : List ℕ) → closed {X = List Value} (codes "]") [] bytes ≡ Some (items, rest) → ItemsFront most lead bytes items rest
    no_item most lead bytes items rest is =
        let p = closed-front {X = List Value} (codes "]") [] bytes items rest is in
        subst (λ list. ItemsFront most lead bytes list rest) p.0 (record { few = omega arith; typed = refl; front = p.1 })

    items_more : (most : ℕ) (lead bytes : List ℕ) (items : List Value) (rest : List ℕ) → ((left : List ℕ) (list : List Value) → read_list read most (codes ", ") left ≡ Some (list, rest) → ItemsFront most (codes ", ") left list rest) →
        followed_by (option_and_then read (behind lead bytes)) (λ item left. made (λ list. item ∷ list) (read_list read most (codes ", ") left)) ≡ Some (items, rest) → ItemsFront (suc most) lead bytes items rest
    items_more most lead bytes items rest behind_it found =
        let p = next_of (option_and_then read (behind lead bytes)) (λ item left. made (λ list. item ∷ list) (read_list read most (codes ", ") left)) (items, rest) found in
        let start = followed read (behind lead bytes) (p.0, p.1) p.2 in
        let one = exact.front start.0 p.0 p.1 start.2 in
        let others = made_of (λ list. p.0 ∷ list) (read_list read most (codes ", ") p.1) items rest p.3 in
        let all = behind_it p.1 others.0 others.1 in
        let texts = map (spelling types) others.0 in
        subst (λ list. ItemsFront (suc most) lead bytes list rest) others.2
        (record {
          few = omega (arith, all.few);
          typed = both (is_item p.0) (list_all is_item others.0) one.typed all.typed;
          front = behind-front lead bytes start.0 start.1
              ∙ ap (λ tail. lead ++ tail) (one.front ∙ ap (λ tail. spelling types p.0 ++ tail) (all.front ∙ ap (λ front. front ++ 93 ∷ rest) (led-later texts)))
              ∙ regroup_item lead (spelling types p.0) (later texts) (93 ∷ rest);
        })

    pub items-front : (most : ℕ) (lead bytes : List ℕ) (items : List Value) (rest : List ℕ) → read_list read most lead bytes ≡ Some (items, rest) → ItemsFront most lead bytes items rest
    unfolding read_list
    items-front zero lead bytes items rest is = no_item zero lead bytes items rest is
    items-front (suc most) lead bytes items rest is =
        elim (either_of (closed {X = List Value} (codes "]") [] bytes) _ (items, rest) is) [
          | inl ended ↦ no_item (suc most) lead bytes items rest ended
          | inr found ↦ items_more most lead bytes items rest (λ left list. items-front most (codes ", ") left list rest) found
        ]

    -- An item behind the lead is no bracket.
    abbrev pub Opens : List ℕ → Type 0
    Opens lead = (item : Value) (more rest : List ℕ) → is_item item ≡ true → lead ++ (spelling types item ++ more) ≢ 93 ∷ rest

    opens_later : Opens (codes ", ")
    opens_later item more rest is same = let heads : 44 ≡ 93 = first_same _ _ _ _ same in absurd (omega (arith, heads))
      where
        first_same : (a b : ℕ) (xs ys : List ℕ) → a ∷ xs ≡ b ∷ ys → a ≡ b
        first_same a b xs ys same = cc

    pub items-text : (most : ℕ) (lead : List ℕ) (items : List Value) (rest : List ℕ) → Opens lead → length items ≤ most → list_all is_item items ≡ true → length (led lead (map (spelling types) items)) ≤ size →
        read_list read most lead (led lead (map (spelling types) items) ++ 93 ∷ rest) ≡ Some (items, rest)
    unfolding read_list
    items-text zero lead [] rest opens few typed fits = closed-text {X = List Value} (codes "]") [] rest
    items-text zero lead (item ∷ items) rest opens few typed fits = absurd (omega (arith, few))
    items-text (suc most) lead [] rest opens few typed fits =
        ap (λ found. option_or found (followed_by (option_and_then read (behind lead (93 ∷ rest))) (λ item left. made (λ list. item ∷ list) (read_list read most (codes ", ") left)))) (closed-text {X = List Value} (codes "]") [] rest)
    items-text (suc most) lead (item ∷ items) rest opens few typed fits =
        let texts = map (spelling types) items in
        let left : List ℕ = later texts ++ 93 ∷ rest in
        let tests = both_true (is_item item) (list_all is_item items) typed in
        let lengths = item_length lead (spelling types item) (later texts) size fits in
        let next : Read Value → Read (List Value) = λ found. followed_by found (λ one behind_it. made (λ list. one ∷ list) (read_list read most (codes ", ") behind_it)) in
        ap (read_list read (suc most) lead) (sym (regroup_item lead (spelling types item) (later texts) (93 ∷ rest)))
        ∙ ap (λ found. option_or (made_none found) (next (option_and_then read (behind lead (lead ++ (spelling types item ++ left)))))) (behind-none (codes "]") (lead ++ (spelling types item ++ left)) (λ tail same. opens item left tail tests.0 same))
        ∙ ap (λ found. next (option_and_then read found)) (behind-text lead (spelling types item ++ left))
        ∙ ap next (exact.text item left tests.0 (ends_later item texts 93 rest refl) lengths.0)
        ∙ ap (λ bytes. made (λ list. item ∷ list) (read_list read most (codes ", ") bytes)) (ap (λ front. front ++ 93 ∷ rest) (sym (led-later texts)))
        ∙ ap (made (λ list. item ∷ list)) (items-text most (codes ", ") items rest opens_later (omega (arith, few)) tests.1 (rw led-later lengths.1))
      where
        made_none : Option (List ℕ) → Read (List Value)
        made_none found = option_map (λ tail. ([], tail)) found
