-- The values of a record's fields, read one after the other.
use Rattle.std.proofs.Common.{◌≡◌, ◌≢◌, ℕ, ◌<◌, Bool, true, false, List, [], ◌∷◌, ◌++◌, length, map, refl, sym, ◌∙◌, ap, subst, arith, append_assoc}
use Rattle.std.specs.Prelude.{Option, Some, None, codes}
use Rattle.std.specs.Option.{option_map_or}
use Rattle.std.proofs.lemmas.Bool.{false≢true}
use Rattle.std.proofs.lemmas.List.{append-nil, append_cancel_left, map-append, length-map}
use Rattle.dsde_values.specs.declared.types.Field.{Field}
use Rattle.dsde_values.specs.declared.types.Ty.{Ty}
use Rattle.dsde_values.specs.declared.types.Types.{Types}
use Rattle.dsde_values.specs.declared.value.Value.{Value}
use Rattle.dsde_values.specs.Word.{ends_word}
use Rattle.dsde_values.specs.Value.{name_at, fields_at, joined, field_texts, spelling, fill, has_type}
use Rattle.dsde_values.specs.Reading.{Took, Lacks, NoWord, Anything, field_text, fields_text, record_text, AreParts}
use Rattle.dsde_values.proofs.Fronts.{and_false}
use Rattle.dsde_values.proofs.ListReading.{later, no_word_later, joined-push, both, behind_comma, cut_comma}
use Rattle.dsde_values.proofs.Names.{both_true}
use Rattle.dsde_values.proofs.Typed.{fill-lengths}

fill-push : (parts : List (Ty → Bool)) (fields : List Field) (part : Ty → Bool) (field : Field) → fill parts fields ≡ true → part field.ty ≡ true → fill (parts ++ part ∷ []) (fields ++ field ∷ []) ≡ true
fill-push [] [] part field filled is = both (part field.ty) true is refl
fill-push [] (first ∷ fields) part field filled is = absurd (false≢true filled)
fill-push (first ∷ parts) [] part field filled is = absurd (false≢true filled)
fill-push (first ∷ parts) (one ∷ fields) part field filled is =
    let h = both_true (first one.ty) (fill parts fields) filled in
    both (first one.ty) (fill (parts ++ part ∷ []) (fields ++ field ∷ [])) h.0 (fill-push parts fields part field h.1 is)

field_texts-push : (fields : List Field) (texts : List (List ℕ)) (field : Field) (text : List ℕ) → length texts ≡ length fields → field_texts (fields ++ field ∷ []) (texts ++ text ∷ []) ≡ field_texts fields texts ++ (field.name ++ codes ": " ++ text) ∷ []
field_texts-push [] [] field text long = refl
field_texts-push [] (one ∷ texts) field text long = absurd (omega (arith, long))
field_texts-push (first ∷ fields) [] field text long = absurd (omega (arith, long))
field_texts-push (first ∷ fields) (one ∷ texts) field text long =
    ap (λ (rest : List (List ℕ)). (first.name ++ codes ": " ++ one) ∷ rest) (field_texts-push fields texts field text (omega (arith, long)))

some_texts : (fields : List Field) (texts : List (List ℕ)) → 0 < length fields → length texts ≡ length fields → 0 < length (field_texts fields texts)
some_texts [] texts some long = absurd (omega arith)
some_texts (field ∷ fields) [] some long = absurd (omega (arith, long))
some_texts (field ∷ fields) (text ∷ texts) some long = omega arith

module _ (types : Types) where
  abbrev pub answers : List Value → List (Ty → Bool)
  answers parts = map (has_type types) parts

  abbrev pub texts : List Field → List Value → List (List ℕ)
  texts fields parts = field_texts fields (map (spelling types) parts)

  -- the first of the parts that fill fields
  record First (field : Field) (fields : List Field) (parts : List Value) : Type 0 where
    first : Value
    others : List Value
    whole : parts ≡ first ∷ others
    first_typed : has_type types first field.ty ≡ true
    others_fill : fill (answers others) fields ≡ true

  first_of : (field : Field) (fields : List Field) (parts : List Value) → fill (answers parts) (field ∷ fields) ≡ true → First field fields parts
  first_of field fields [] filled = absurd (false≢true filled)
  first_of field fields (first ∷ others) filled =
      let h = both_true (has_type types first field.ty) (fill (answers others) fields) filled in
      record { first = first; others = others; whole = refl; first_typed = h.0; others_fill = h.1 }

  none_of : (parts : List Value) → fill (answers parts) [] ≡ true → parts ≡ []
  none_of [] filled = refl
  none_of (first ∷ others) filled = absurd (false≢true filled)

  -- What is behind fields that were read, where values of all stand: the other fields, and the brace.
  pub record Behind (fields : List Field) (parts : List Value) (left : List ℕ) (all : List Value) (rest : List ℕ) : Type 0 where
    pub more : List Value
    pub whole : all ≡ parts ++ more
    pub filled : fill (answers more) fields ≡ true
    pub behind : left ≡ later (texts fields more) ++ 125 ∷ rest

  -- Values of the fields that are done were read from the start on: they stand there, and wherever values of all fields do.
  pub record SoFar (done fields : List Field) (start : List ℕ) (parts : List Value) (left : List ℕ) : Type 0 where
    pub some : 0 < length done
    pub filled : fill (answers parts) done ≡ true
    pub front : start ≡ joined (texts done parts) ++ left
    pub only : (all : List Value) (rest : List ℕ) → fill (answers all) (done ++ fields) ≡ true → start ≡ fields_text types (done ++ fields) all ++ rest → Behind fields parts left all rest

  -- fields' text, cut behind the first
  pub cut_first : (field : Field) (fields : List Field) (first : Value) (others : List Value) (rest : List ℕ) → fields_text types (field ∷ fields) (first ∷ others) ++ rest ≡ field_text types field first ++ (later (texts fields others) ++ 125 ∷ rest)
  cut_first field fields first others rest =
      append_assoc (field_text types field first ++ later (texts fields others)) (codes "}") rest ∙ append_assoc (field_text types field first) (later (texts fields others)) (125 ∷ rest)

  pub ends_here : (part : Value) (fields : List Field) (others : List Value) (rest : List ℕ) → NoWord (spelling types) part (later (texts fields others) ++ 125 ∷ rest)
  ends_here part fields others rest = and_false (ends_word (spelling types part)) _ (no_word_later (texts fields others) 125 rest refl)

  abbrev pub TookField : Field → List ℕ → Value → List ℕ → Type 0
  TookField field = Took (λ v. has_type types v field.ty ≡ true) (field_text types field) (NoWord (spelling types))

  abbrev LacksField : Field → List ℕ → Type 0
  LacksField field = Lacks (λ v. has_type types v field.ty ≡ true) (field_text types field) (NoWord (spelling types))

  abbrev pub TookFields : List Field → List ℕ → List Value → List ℕ → Type 0
  TookFields fields = Took (λ parts. fill (answers parts) fields ≡ true) (fields_text types fields) Anything

  abbrev LacksFields : List Field → List ℕ → Type 0
  LacksFields fields = Lacks (λ parts. fill (answers parts) fields ≡ true) (fields_text types fields) Anything

  -- what is behind a field that was read, where values of all stand there
  same_field : (field : Field) (fields : List Field) (start left : List ℕ) (part other : Value) (others : List Value) (rest : List ℕ) → TookField field start part left → has_type types other field.ty ≡ true →
      start ≡ field_text types field other ++ (later (texts fields others) ++ 125 ∷ rest) → (other ≡ part) × (left ≡ later (texts fields others) ++ 125 ∷ rest)
  same_field field fields start left part other others rest took typed same =
      let one = took.only other (later (texts fields others) ++ 125 ∷ rest) typed (ends_here other fields others rest) same in (
        one,
        append_cancel_left (field_text types field part) left (later (texts fields others) ++ 125 ∷ rest)
            (sym took.front ∙ same ∙ ap (λ (v : Value). field_text types field v ++ (later (texts fields others) ++ 125 ∷ rest)) one),
      )

  -- no field, and the brace
  pub no_fields : (start after : List ℕ) → start ≡ codes "}" ++ after → TookFields [] start [] after
  no_fields start after front = record { is = refl; front = front; ends = tt; only = λ other rest are _ same. none_of other are }

  pub no_brace : (start : List ℕ) → ((rest : List ℕ) → start ≢ codes "}" ++ rest) → LacksFields [] start
  no_brace start none other rest are _ same =
      none rest (same ∙ ap (λ (parts : List Value). fields_text types [] parts ++ rest) (none_of other are))

  -- the first field
  pub first_field : (field : Field) (fields : List Field) (start left : List ℕ) (part : Value) → TookField field start part left → SoFar (field ∷ []) fields start (part ∷ []) left
  first_field field fields start left part took = record {
    some = omega arith;
    filled = both (has_type types part field.ty) true took.is refl;
    front = took.front ∙ ap (λ (text : List ℕ). text ++ left) (sym (append-nil (field_text types field part)));
    only = λ all rest filled same.
        let p = first_of field fields all filled in
        let found = same_field field fields start left part p.first p.others rest took p.first_typed
        (same ∙ ap (λ (parts : List Value). fields_text types (field ∷ fields) parts ++ rest) p.whole ∙ cut_first field fields p.first p.others rest) in
        record { more = p.others; whole = p.whole ∙ ap (λ (v : Value). v ∷ p.others) found.0; filled = p.others_fill; behind = found.1 };
  }

  pub no_first_field : (field : Field) (fields : List Field) (start : List ℕ) → LacksField field start → LacksFields (field ∷ fields) start
  no_first_field field fields start none all rest filled _ same =
      let p = first_of field fields all filled in
      none p.first (later (texts fields p.others) ++ 125 ∷ rest) p.first_typed (ends_here p.first fields p.others rest)
      (same ∙ ap (λ (parts : List Value). fields_text types (field ∷ fields) parts ++ rest) p.whole ∙ cut_first field fields p.first p.others rest)

  -- the next field, where values of all stand there
  record Next (field : Field) (fields : List Field) (parts : List Value) (left : List ℕ) (all : List Value) (rest : List ℕ) : Type 0 where
    next : Value
    others : List Value
    whole : all ≡ parts ++ next ∷ others
    next_typed : has_type types next field.ty ≡ true
    others_fill : fill (answers others) fields ≡ true
    behind : left ≡ ((codes ", " ++ field_text types field next) ++ later (texts fields others)) ++ 125 ∷ rest

  module _ (done fields : List Field) (field : Field) (start : List ℕ) (parts : List Value) (left : List ℕ) (so_far : SoFar done (field ∷ fields) start parts left) where
    goes_on_with : (all : List Value) (rest : List ℕ) → fill (answers all) (done ++ field ∷ fields) ≡ true → start ≡ fields_text types (done ++ field ∷ fields) all ++ rest → Next field fields parts left all rest
    goes_on_with all rest filled same =
        let b = so_far.only all rest filled same in
        let p = first_of field fields b.more b.filled in
        record {
          next = p.first;
          others = p.others;
          whole = b.whole ∙ ap (λ (more : List Value). parts ++ more) p.whole;
          next_typed = p.first_typed;
          others_fill = p.others_fill;
          behind = b.behind ∙ ap (λ (more : List Value). later (texts (field ∷ fields) more) ++ 125 ∷ rest) p.whole;
        }

    pub no_comma : ((rest : List ℕ) → left ≢ codes ", " ++ rest) → LacksFields (done ++ field ∷ fields) start
    no_comma none all rest filled _ same =
        let n = goes_on_with all rest filled same in
        none (field_text types field n.next ++ (later (texts fields n.others) ++ 125 ∷ rest)) (n.behind ∙ behind_comma (field_text types field n.next) (later (texts fields n.others)) (125 ∷ rest))

    pub no_next_field : (mid : List ℕ) → left ≡ codes ", " ++ mid → LacksField field mid → LacksFields (done ++ field ∷ fields) start
    no_next_field mid comma none all rest filled _ same =
        let n = goes_on_with all rest filled same in
        none n.next (later (texts fields n.others) ++ 125 ∷ rest) n.next_typed (ends_here n.next fields n.others rest)
        (cut_comma left mid (field_text types field n.next) (later (texts fields n.others)) (125 ∷ rest) comma n.behind)

    -- one more field
    pub next_field : (mid : List ℕ) (part : Value) (after : List ℕ) → left ≡ codes ", " ++ mid → TookField field mid part after → SoFar (done ++ field ∷ []) fields start (parts ++ part ∷ []) after
    next_field mid part after comma took =
        let long : length (map (spelling types) parts) ≡ length done =
        length-map parts (spelling types) ∙ sym (length-map parts (has_type types)) ∙ fill-lengths (answers parts) done so_far.filled in
        let own : texts (done ++ field ∷ []) (parts ++ part ∷ []) ≡ texts done parts ++ field_text types field part ∷ [] =
        ap (field_texts (done ++ field ∷ [])) (map-append (spelling types) parts (part ∷ [])) ∙ field_texts-push done (map (spelling types) parts) field (spelling types part) long in
        record {
          some = so_far_more done so_far.some;
          filled = ap (λ (list : List (Ty → Bool)). fill list (done ++ field ∷ [])) (map-append (has_type types) parts (part ∷ [])) ∙ fill-push (answers parts) done (has_type types part) field so_far.filled took.is;
          front = so_far.front
              ∙ ap (λ (tail : List ℕ). joined (texts done parts) ++ tail) (comma ∙ ap (λ (tail : List ℕ). codes ", " ++ tail) took.front ∙ sym (append_assoc (codes ", ") (field_text types field part) after))
              ∙ sym (append_assoc (joined (texts done parts)) (codes ", " ++ field_text types field part) after)
              ∙ ap (λ (text : List ℕ). text ++ after) (sym (joined-push (texts done parts) (field_text types field part) (some_texts done (map (spelling types) parts) so_far.some long)) ∙ ap joined (sym own));
          only = λ all rest filled same.
              let n = goes_on_with all rest (subst (λ (fs : List Field). fill (answers all) fs ≡ true) (append_assoc done (field ∷ []) fields) filled)
              (same ∙ ap (λ (fs : List Field). fields_text types fs all ++ rest) (append_assoc done (field ∷ []) fields)) in
              let found = same_field field fields mid after part n.next n.others rest took n.next_typed (cut_comma left mid (field_text types field n.next) (later (texts fields n.others)) (125 ∷ rest) comma n.behind) in
              record {
                more = n.others;
                whole = n.whole ∙ ap (λ (v : Value). parts ++ v ∷ n.others) found.0 ∙ sym (append_assoc parts (part ∷ []) n.others);
                filled = n.others_fill;
                behind = found.1;
              };
        }
      where
        so_far_more : (fs : List Field) → 0 < length fs → 0 < length (fs ++ field ∷ [])
        so_far_more [] h = omega arith
        so_far_more (f ∷ fs) h = omega arith

  module _ (done : List Field) (start : List ℕ) (parts : List Value) (left : List ℕ) (so_far : SoFar done [] start parts left) where
    ends_with : (all : List Value) (rest : List ℕ) → fill (answers all) done ≡ true → start ≡ fields_text types done all ++ rest → (all ≡ parts) × (left ≡ 125 ∷ rest)
    ends_with all rest filled same =
        let b = so_far.only all rest (subst (λ (fs : List Field). fill (answers all) fs ≡ true) (sym (append-nil done)) filled) (same ∙ ap (λ (fs : List Field). fields_text types fs all ++ rest) (sym (append-nil done))) in
        let none = none_of b.more b.filled in
        (b.whole ∙ ap (λ (more : List Value). parts ++ more) none ∙ append-nil parts, b.behind ∙ ap (λ (more : List Value). later (texts [] more) ++ 125 ∷ rest) none)

    -- the brace behind the last field, and none
    pub fields_taken : (after : List ℕ) → left ≡ codes "}" ++ after → TookFields done start parts after
    fields_taken after close = record {
      is = so_far.filled;
      front = so_far.front ∙ ap (λ (tail : List ℕ). joined (texts done parts) ++ tail) close ∙ sym (append_assoc (joined (texts done parts)) (codes "}") after);
      ends = tt;
      only = λ all rest filled _ same. (ends_with all rest filled same).0;
    }

    pub not_ended : ((rest : List ℕ) → left ≢ codes "}" ++ rest) → LacksFields done start
    not_ended none all rest filled _ same = none rest (ends_with all rest filled same).1

  -- a field's name before its value
  module _ (field : Field) (before mid : List ℕ) (named : before ≡ (field.name ++ codes ": ") ++ mid) where
    behind_name : (v : Value) (rest : List ℕ) → before ≡ field_text types field v ++ rest → mid ≡ spelling types v ++ rest
    behind_name v rest same =
        append_cancel_left (field.name ++ codes ": ") mid (spelling types v ++ rest) (sym named ∙ same ∙ append_assoc (field.name ++ codes ": ") (spelling types v) rest)

    pub field_taken : (part : Value) (after : List ℕ) → Took (λ v. has_type types v field.ty ≡ true) (spelling types) (NoWord (spelling types)) mid part after → TookField field before part after
    field_taken part after took = record {
      is = took.is;
      front = named ∙ ap (λ (tail : List ℕ). (field.name ++ codes ": ") ++ tail) took.front ∙ sym (append_assoc (field.name ++ codes ": ") (spelling types part) after);
      ends = took.ends;
      only = λ other rest is none same. took.only other rest is none (behind_name other rest same);
    }

    pub no_field : Lacks (λ v. has_type types v field.ty ≡ true) (spelling types) (NoWord (spelling types)) mid → LacksField field before
    no_field none other rest is no_word same = none other rest is no_word (behind_name other rest same)

  pub no_field_name : (field : Field) (before : List ℕ) → ((rest : List ℕ) → before ≢ (field.name ++ codes ": ") ++ rest) → LacksField field before
  no_field_name field before none other rest is _ same = none (spelling types other ++ rest) (same ∙ append_assoc (field.name ++ codes ": ") (spelling types other) rest)

  abbrev TookRecord : ℕ → List Field → List ℕ → List Value → List ℕ → Type 0
  TookRecord number fields = Took (AreParts types number) (record_text types number fields) Anything

  abbrev LacksRecord : ℕ → List Field → List ℕ → Type 0
  LacksRecord number fields = Lacks (AreParts types number) (record_text types number fields) Anything

  -- a record's name before its fields
  module _ (number : ℕ) (fields : List Field) (found : fields_at types number ≡ Some fields) where
    parts_fill : (parts : List Value) → AreParts types number parts → fill (answers parts) fields ≡ true
    parts_fill parts are = ap (λ (f : Option (List Field)). option_map_or (fill (answers parts)) f false) (sym found) ∙ are

    fill_parts : (parts : List Value) → fill (answers parts) fields ≡ true → AreParts types number parts
    fill_parts parts filled = ap (λ (f : Option (List Field)). option_map_or (fill (answers parts)) f false) found ∙ filled

    module _ (before mid : List ℕ) (named : before ≡ (name_at types number ++ codes "{") ++ mid) where
      behind_record : (parts : List Value) (rest : List ℕ) → before ≡ record_text types number fields parts ++ rest → mid ≡ fields_text types fields parts ++ rest
      behind_record parts rest same =
          append_cancel_left (name_at types number ++ codes "{") mid (fields_text types fields parts ++ rest) (sym named ∙ same ∙ append_assoc (name_at types number ++ codes "{") (fields_text types fields parts) rest)

      pub record_taken : (parts : List Value) (after : List ℕ) → TookFields fields mid parts after → TookRecord number fields before parts after
      record_taken parts after took = record {
        is = fill_parts parts took.is;
        front = named ∙ ap (λ (tail : List ℕ). (name_at types number ++ codes "{") ++ tail) took.front ∙ sym (append_assoc (name_at types number ++ codes "{") (fields_text types fields parts) after);
        ends = tt;
        only = λ other rest are _ same. took.only other rest (parts_fill other are) tt (behind_record other rest same);
      }

      pub no_record : LacksFields fields mid → LacksRecord number fields before
      no_record none other rest are _ same = none other rest (parts_fill other are) tt (behind_record other rest same)

    pub no_record_name : (before : List ℕ) → ((rest : List ℕ) → before ≢ (name_at types number ++ codes "{") ++ rest) → LacksRecord number fields before
    no_record_name before none other rest are _ same = none (fields_text types fields other ++ rest) (same ∙ append_assoc (name_at types number ++ codes "{") (fields_text types fields other) rest)

  -- No value is that of a record that there is not.
  pub no_record_at : (number : ℕ) (fields : List Field) (before : List ℕ) → fields_at types number ≡ None → LacksRecord number fields before
  no_record_at number fields before none other rest are _ same =
      false≢true (ap (λ (f : Option (List Field)). option_map_or (fill (answers other)) f false) (sym none) ∙ are)
