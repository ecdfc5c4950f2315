-- A value, by its parts that were read.
use Rattle.std.proofs.Common.{◌≡◌, ◌≢◌, ℕ, ℤ, inl, inr, Bool, true, false, ◌&&◌, List, [], ◌∷◌, ◌++◌, length, map, refl, sym, ◌∙◌, ap, arith, append_assoc, leb, ◌==◌, FitsSigned}
use Rattle.std.specs.Prelude.{codes, unwrap_or, Err}
use Rattle.std.specs.Int.{w64}
use Rattle.std.specs.Fmt.{signed_decimal}
use Rattle.std.specs.List.{list_all}
use Rattle.std.proofs.lemmas.List.{append_cancel_left}
use borrow.Author.Tests.{le-leb, eq-eqb}
use Rattle.dsde_values.specs.declared.reading.ReadValue.{ReadValue}
use Rattle.dsde_values.specs.declared.reading.ReadValue.TheVariants as end_of
use Rattle.dsde_values.specs.declared.types.Field.{Field}
use Rattle.dsde_values.specs.declared.types.Ty.{Ty}
use Rattle.dsde_values.specs.declared.types.Ty.TheVariants as ty
use Rattle.dsde_values.specs.declared.types.Types.{Types}
use Rattle.dsde_values.specs.declared.value.Value.{Value}
use Rattle.dsde_values.specs.declared.value.Value.TheVariants as value
use Rattle.dsde_words.specs.Words.{is_word_byte, begins_word}
use Rattle.dsde_values.specs.Word.{ends_word, goes_on}
use Rattle.dsde_values.specs.Value.{name_at, fields_at, joined, field_texts, spelling, is_variant, has_type}
use Rattle.dsde_values.specs.Reading.{Took, Lacks, Reads, NoWord, Anything, truth_text, variant_text, record_text, list_text, AreParts, AreItems}
use Rattle.dsde_values.proofs.Fronts.{and_false, word_same, stops}
use Rattle.dsde_values.proofs.Layers.{typed-Int, typed-Bool, typed-Enum, typed-Rec, typed-List, typed-Nothing, typed-Some, spelling-Int, spelling-true, spelling-false, spelling-Enum, spelling-Rec, spelling-List, spelling-Nothing, spelling-Some}
use Rattle.dsde_values.proofs.ListReading.{both}
use Rattle.dsde_values.proofs.Typed.{int_fits}
use Rattle.dsde_values.proofs.ValueKinds.{of_Int, of_Bool, of_Enum, of_Rec, of_List, of_Opt}

-- the last byte of a text tells whether a word ends it
ends_word-last : (text : List ℕ) (byte : ℕ) → ends_word (text ++ byte ∷ []) ≡ is_word_byte byte
ends_word-last [] byte = refl
ends_word-last (one ∷ []) byte = refl
ends_word-last (one ∷ next ∷ text) byte = ends_word-last (next ∷ text) byte

pub closed : (text : List ℕ) (byte : ℕ) (rest : List ℕ) → is_word_byte byte ≡ false → goes_on (text ++ byte ∷ []) rest ≡ false
closed text byte rest none = ap (λ (ends : Bool). ends && begins_word rest) (ends_word-last text byte ∙ none)

-- A failed part fails the whole.
pub Reads-fails : {X Y : Type 0} (Is : X → Type 0) (text : X → List ℕ) (Ends : X → List ℕ → Type 0) (Are : Y → Type 0) (spelled : Y → List ℕ) (Stops : Y → List ℕ → Type 0) (before mid left after : List ℕ) (end : ReadValue) →
    (Lacks Is text Ends mid → Lacks Are spelled Stops before) → Reads Is text Ends mid (Err end) left → Reads Are spelled Stops before (Err end) after
Reads-fails Is text Ends Are spelled Stops before mid left after end_of.NotAValue lacks reads = lacks reads
Reads-fails Is text Ends Are spelled Stops before mid left after end_of.Memory lacks reads = tt

-- Things that make values of a type, each its own, with its text.
module _ (types : Types) (t : Ty) {Z : Type 0} (Is : Z → Type 0) (text : Z → List ℕ) (Ends : Z → List ℕ → Type 0) (make : Z → Value)
    (makes : (z : Z) → Is z → has_type types (make z) t ≡ true) (spelled : (z : Z) → spelling types (make z) ≡ text z)
    (from : (v : Value) → has_type types v t ≡ true → (z : Z) × (v ≡ make z) × Is z)
    (ends : (z : Z) (rest : List ℕ) → Ends z rest → goes_on (text z) rest ≡ false) (back : (z : Z) (rest : List ℕ) → goes_on (text z) rest ≡ false → Ends z rest) where
  made_taken : (before after : List ℕ) (z : Z) → Took Is text Ends before z after → Took (λ v. has_type types v t ≡ true) (spelling types) (NoWord (spelling types)) before (make z) after
  made_taken before after z took = record {
    is = makes z took.is;
    front = took.front ∙ ap (λ (front : List ℕ). front ++ after) (sym (spelled z));
    ends = ap (λ (front : List ℕ). goes_on front after) (spelled z) ∙ ends z after took.ends;
    only = λ other rest typed none same.
        let p = from other typed in
        let own : spelling types other ≡ text p.0 = ap (spelling types) p.1 ∙ spelled p.0 in
        p.1 ∙ ap make (took.only p.0 rest p.2 (back p.0 rest (ap (λ (front : List ℕ). goes_on front rest) (sym own) ∙ none)) (same ∙ ap (λ (front : List ℕ). front ++ rest) own));
  }

  none_made : (before : List ℕ) → Lacks Is text Ends before → Lacks (λ v. has_type types v t ≡ true) (spelling types) (NoWord (spelling types)) before
  none_made before lacks other rest typed none same =
      let p = from other typed in
      let own : spelling types other ≡ text p.0 = ap (spelling types) p.1 ∙ spelled p.0 in
      lacks p.0 rest p.2 (back p.0 rest (ap (λ (front : List ℕ). goes_on front rest) (sym own) ∙ none)) (same ∙ ap (λ (front : List ℕ). front ++ rest) own)

module _ (types : Types) (before after : List ℕ) where
  abbrev TookValue : Ty → Value → Type 0
  TookValue t v = Took (λ v. has_type types v t ≡ true) (spelling types) (NoWord (spelling types)) before v after

  abbrev LacksValue : Ty → Type 0
  LacksValue t = Lacks (λ v. has_type types v t ≡ true) (spelling types) (NoWord (spelling types)) before

  int_from : (v : Value) → has_type types v ty.Int ≡ true → (z : ℤ) × (v ≡ value.Int z) × FitsSigned w64 z
  int_from v typed = let p = of_Int types v typed in (p.0, p.1, (int_fits p.0).1 p.2)

  pub int_taken : (n : ℤ) → Took (FitsSigned w64) signed_decimal (NoWord signed_decimal) before n after → TookValue ty.Int (value.Int n)
  int_taken n = made_taken types ty.Int (FitsSigned w64) signed_decimal (NoWord signed_decimal) (λ (z : ℤ). value.Int z)
      (λ z fits. typed-Int types z ∙ (int_fits z).0 fits) (spelling-Int types) int_from (λ z rest e. e) (λ z rest e. e) before after n

  pub no_int : Lacks (FitsSigned w64) signed_decimal (NoWord signed_decimal) before → LacksValue ty.Int
  no_int = none_made types ty.Int (FitsSigned w64) signed_decimal (NoWord signed_decimal) (λ (z : ℤ). value.Int z)
      (λ z fits. typed-Int types z ∙ (int_fits z).0 fits) (spelling-Int types) int_from (λ z rest e. e) (λ z rest e. e) before

  pub truth_spelled : (b : Bool) → spelling types (value.Bool b) ≡ truth_text b
  truth_spelled true = spelling-true types
  truth_spelled false = spelling-false types

  truth_from : (v : Value) → has_type types v ty.Bool ≡ true → (b : Bool) × (v ≡ value.Bool b) × Unit {0}
  truth_from v typed = let p = of_Bool types v typed in (p.0, p.1, tt)

  pub bool_taken : (b : Bool) → Took {X = Bool} (λ _. Unit {0}) truth_text (NoWord truth_text) before b after → TookValue ty.Bool (value.Bool b)
  bool_taken b = made_taken types ty.Bool {Z = Bool} (λ _. Unit {0}) truth_text (NoWord truth_text) (λ (b : Bool). value.Bool b)
      (λ b _. typed-Bool types b) truth_spelled truth_from (λ b rest e. e) (λ b rest e. e) before after b

  pub no_bool : Lacks {X = Bool} (λ _. Unit {0}) truth_text (NoWord truth_text) before → LacksValue ty.Bool
  no_bool = none_made types ty.Bool {Z = Bool} (λ _. Unit {0}) truth_text (NoWord truth_text) (λ (b : Bool). value.Bool b)
      (λ b _. typed-Bool types b) truth_spelled truth_from (λ b rest e. e) (λ b rest e. e) before

  module _ (number : ℕ) where
    enum_makes : (n : ℕ) → is_variant types number n ≡ true → has_type types (value.Enum number n) (ty.Enum number) ≡ true
    enum_makes n is = typed-Enum types number n number ∙ both (number == number) (is_variant types number n) (eq-eqb number number refl) is

    pub enum_taken : (n : ℕ) → Took (λ n. is_variant types number n ≡ true) (variant_text types number) (NoWord (variant_text types number)) before n after → TookValue (ty.Enum number) (value.Enum number n)
    enum_taken n = made_taken types (ty.Enum number) (λ (n : ℕ). is_variant types number n ≡ true) (variant_text types number) (NoWord (variant_text types number)) (λ (n : ℕ). value.Enum number n)
        enum_makes (spelling-Enum types number) (of_Enum types number) (λ n rest e. e) (λ n rest e. e) before after n

    pub no_enum : Lacks (λ n. is_variant types number n ≡ true) (variant_text types number) (NoWord (variant_text types number)) before → LacksValue (ty.Enum number)
    no_enum = none_made types (ty.Enum number) (λ (n : ℕ). is_variant types number n ≡ true) (variant_text types number) (NoWord (variant_text types number)) (λ (n : ℕ). value.Enum number n)
        enum_makes (spelling-Enum types number) (of_Enum types number) (λ n rest e. e) (λ n rest e. e) before

    abbrev own_fields : List Field
    own_fields = unwrap_or (fields_at types number) []

    record_makes : (parts : List Value) → AreParts types number parts → has_type types (value.Rec number parts) (ty.Rec number) ≡ true
    record_makes parts are = typed-Rec types number parts number ∙ both (number == number) _ (eq-eqb number number refl) are

    pub record_spelled : (parts : List Value) → spelling types (value.Rec number parts) ≡ record_text types number own_fields parts
    record_spelled parts = spelling-Rec types number parts ∙ append_assoc (name_at types number ++ codes "{") (joined (field_texts own_fields (map (spelling types) parts))) (codes "}")

    record_ends : (parts : List Value) (rest : List ℕ) → Anything parts rest → goes_on (record_text types number own_fields parts) rest ≡ false
    record_ends parts rest _ =
        ap (λ (text : List ℕ). goes_on text rest) (sym (append_assoc (name_at types number ++ codes "{") (joined (field_texts own_fields (map (spelling types) parts))) (codes "}")))
        ∙ closed ((name_at types number ++ codes "{") ++ joined (field_texts own_fields (map (spelling types) parts))) 125 rest refl

    pub record_value : (parts : List Value) → Took (AreParts types number) (record_text types number own_fields) Anything before parts after → TookValue (ty.Rec number) (value.Rec number parts)
    record_value parts = made_taken types (ty.Rec number) (AreParts types number) (record_text types number own_fields) Anything (λ (parts : List Value). value.Rec number parts)
        record_makes record_spelled (of_Rec types number) record_ends (λ parts rest _. tt) before after parts

    pub no_record_value : Lacks (AreParts types number) (record_text types number own_fields) Anything before → LacksValue (ty.Rec number)
    no_record_value = none_made types (ty.Rec number) (AreParts types number) (record_text types number own_fields) Anything (λ (parts : List Value). value.Rec number parts)
        record_makes record_spelled (of_Rec types number) record_ends (λ parts rest _. tt) before

  module _ (inner : Ty) where
    list_makes : (items : List Value) → AreItems types inner items → has_type types (value.List items) (ty.List inner) ≡ true
    list_makes items are = typed-List types items inner ∙ both (leb (length items) 65536) _ (le-leb (length items) 65536 are.few) are.typed

    pub list_spelled : (items : List Value) → spelling types (value.List items) ≡ list_text types items
    list_spelled items = spelling-List types items ∙ append_assoc (codes "[") (joined (map (spelling types) items)) (codes "]")

    list_ends : (items : List Value) (rest : List ℕ) → Anything items rest → goes_on (list_text types items) rest ≡ false
    list_ends items rest _ =
        ap (λ (text : List ℕ). goes_on text rest) (sym (append_assoc (codes "[") (joined (map (spelling types) items)) (codes "]")))
        ∙ closed (codes "[" ++ joined (map (spelling types) items)) 93 rest refl

    pub list_value : (items : List Value) → Took (AreItems types inner) (list_text types) Anything before items after → TookValue (ty.List inner) (value.List items)
    list_value items = made_taken types (ty.List inner) (AreItems types inner) (list_text types) Anything (λ (items : List Value). value.List items)
        list_makes list_spelled (of_List types inner) list_ends (λ items rest _. tt) before after items

    pub no_list_value : Lacks (AreItems types inner) (list_text types) Anything before → LacksValue (ty.List inner)
    no_list_value = none_made types (ty.List inner) (AreItems types inner) (list_text types) Anything (λ (items : List Value). value.List items)
        list_makes list_spelled (of_List types inner) list_ends (λ items rest _. tt) before

first_same : (a b : ℕ) (xs ys : List ℕ) → a ∷ xs ≡ b ∷ ys → a ≡ b
first_same a b xs ys same = cc

-- The option without a value is no text of one with a value.
pub none_or_some : (rest tail : List ℕ) → codes "none" ++ rest ≡ codes "some(" ++ tail → ⊥
none_or_some rest tail same = absurd (omega (arith, first_same 110 115 (111 ∷ 110 ∷ 101 ∷ rest) (111 ∷ 109 ∷ 101 ∷ 40 ∷ tail) same))

module _ (types : Types) (inner : Ty) (before : List ℕ) where
  abbrev LacksOption : Type 0
  LacksOption = Lacks (λ v. has_type types v (ty.Opt inner) ≡ true) (spelling types) (NoWord (spelling types)) before

  -- An option's text is one of two.
  pub some_text : (part : Value) (rest : List ℕ) → spelling types (value.Some part) ++ rest ≡ codes "some(" ++ (spelling types part ++ 41 ∷ rest)
  some_text part rest =
      ap (λ (text : List ℕ). text ++ rest) (spelling-Some types part) ∙ append_assoc (codes "some(" ++ spelling types part) (codes ")") rest ∙ append_assoc (codes "some(") (spelling types part) (41 ∷ rest)

  pub none_text : (rest : List ℕ) → spelling types value.Nothing ++ rest ≡ codes "none" ++ rest
  none_text rest = ap (λ (text : List ℕ). text ++ rest) (spelling-Nothing types)

  pub part_ends : (part : Value) (rest : List ℕ) → NoWord (spelling types) part (41 ∷ rest)
  part_ends part rest = and_false (ends_word (spelling types part)) (begins_word (41 ∷ rest)) refl

  module _ (mid : List ℕ) (some : before ≡ codes "some(" ++ mid) where
    -- an option that stands there has a value
    the_part : (other : Value) (rest : List ℕ) → has_type types other (ty.Opt inner) ≡ true → before ≡ spelling types other ++ rest → (part : Value) × (other ≡ value.Some part) × (has_type types part inner ≡ true) × (mid ≡ spelling types part ++ 41 ∷ rest)
    the_part other rest typed same =
        elim (of_Opt types inner other typed) [
          | inl none ↦ absurd (none_or_some rest mid (sym (none_text rest) ∙ ap (λ (v : Value). spelling types v ++ rest) (sym none) ∙ sym same ∙ some))
          | inr found ↦ (
            found.0,
            found.1,
            found.2,
            append_cancel_left (codes "some(") mid (spelling types found.0 ++ 41 ∷ rest)
                (sym some ∙ same ∙ ap (λ (v : Value). spelling types v ++ rest) found.1 ∙ some_text found.0 rest),
          )
        ]

    pub no_part : Lacks (λ v. has_type types v inner ≡ true) (spelling types) (NoWord (spelling types)) mid → LacksOption
    no_part none other rest typed _ same =
        let p = the_part other rest typed same in none p.0 (41 ∷ rest) p.2 (part_ends p.0 rest) p.3

    module _ (part : Value) (left : List ℕ) (took : Took (λ v. has_type types v inner ≡ true) (spelling types) (NoWord (spelling types)) mid part left) where
      same_part : (other : Value) (rest : List ℕ) → has_type types other inner ≡ true → mid ≡ spelling types other ++ 41 ∷ rest → (other ≡ part) × (left ≡ 41 ∷ rest)
      same_part other rest typed same =
          let one = took.only other (41 ∷ rest) typed (part_ends other rest) same in
          (one, append_cancel_left (spelling types part) left (41 ∷ rest) (sym took.front ∙ same ∙ ap (λ (v : Value). spelling types v ++ 41 ∷ rest) one))

      pub some_taken : (after : List ℕ) → left ≡ codes ")" ++ after → Took (λ v. has_type types v (ty.Opt inner) ≡ true) (spelling types) (NoWord (spelling types)) before (value.Some part) after
      some_taken after close = record {
        is = typed-Some types part inner ∙ took.is;
        front = some ∙ ap (λ (tail : List ℕ). codes "some(" ++ tail) (took.front ∙ ap (λ (tail : List ℕ). spelling types part ++ tail) close) ∙ sym (some_text part after);
        ends = ap (λ (text : List ℕ). goes_on text after) (spelling-Some types part) ∙ closed (codes "some(" ++ spelling types part) 41 after refl;
        only = λ other rest typed _ same.
            let p = the_part other rest typed same in
            p.1 ∙ ap (λ (v : Value). value.Some v) (same_part p.0 rest p.2 p.3).0;
      }

      pub not_closed : ((rest : List ℕ) → left ≢ codes ")" ++ rest) → LacksOption
      not_closed none other rest typed _ same =
          let p = the_part other rest typed same in none rest (same_part p.0 rest p.2 p.3).1

  module _ (word left : List ℕ) (not_some : (rest : List ℕ) → before ≢ codes "some(" ++ rest) (front : before ≡ word ++ left) (all : list_all is_word_byte word ≡ true) (end : begins_word left ≡ false) where
    -- an option that stands there has no value
    the_word : (other : Value) (rest : List ℕ) → has_type types other (ty.Opt inner) ≡ true → NoWord (spelling types) other rest → before ≡ spelling types other ++ rest → (other ≡ value.Nothing) × (codes "none" ≡ word)
    the_word other rest typed none same =
        elim (of_Opt types inner other typed) [
          | inl nothing ↦ (
            nothing,
            word_same word left (codes "none") rest all end refl
                (stops (codes "none") rest refl (ap (λ (text : List ℕ). goes_on text rest) (sym (ap (spelling types) nothing ∙ spelling-Nothing types)) ∙ none))
                (sym front ∙ same ∙ ap (λ (v : Value). spelling types v ++ rest) nothing ∙ none_text rest),
          )
          | inr found ↦ absurd (not_some (spelling types found.0 ++ 41 ∷ rest) (same ∙ ap (λ (v : Value). spelling types v ++ rest) found.1 ∙ some_text found.0 rest))
        ]

    pub nothing_taken : word ≡ codes "none" → Took (λ v. has_type types v (ty.Opt inner) ≡ true) (spelling types) (NoWord (spelling types)) before value.Nothing left
    nothing_taken own = record {
      is = typed-Nothing types inner;
      front = front ∙ ap (λ (text : List ℕ). text ++ left) (own ∙ sym (spelling-Nothing types));
      ends = and_false (ends_word (spelling types value.Nothing)) (begins_word left) end;
      only = λ other rest typed none same. (the_word other rest typed none same).0;
    }

    pub no_option : word ≢ codes "none" → LacksOption
    no_option apart other rest typed none same = apart (sym (the_word other rest typed none same).1)
