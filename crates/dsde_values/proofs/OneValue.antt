-- In a lawful table at most one value of a type begins given bytes: where its text stands, it is what is read.
use Rattle.std.proofs.Common.{◌≡◌, ◌==◌, ℕ, ◌+◌, ◌≤◌, ◌^◌, ℤ, Bool, true, false, List, [], ◌∷◌, ◌++◌, length, map, refl, sym, ◌∙◌, ap, subst, arith, append_assoc, leb, ltb, FitsSigned, length-append}
use Rattle.std.specs.Prelude.{Option, Some, None, codes, unwrap_or, Ok}
use Rattle.std.specs.Int.{w64}
use Rattle.std.specs.Fmt.{signed_decimal}
use Rattle.std.specs.Option.{option_map_or}
use Rattle.std.specs.List.{list_all}
use Rattle.std.proofs.lemmas.Bool.{false≢true}
use Rattle.std.proofs.lemmas.List.{append-nil, length-map}
use borrow.Author.Tests.{eqb-true, ltb-true, leb-true}
use Rattle.dsde_values.specs.declared.types.Field.{Field}
use Rattle.dsde_values.specs.declared.types.Ty.{Ty, Ty-F, out-Ty, roll-Ty, roll-out-Ty}
use Rattle.dsde_values.specs.declared.types.Ty.TheOpen as open_ty
use Rattle.dsde_values.specs.declared.types.Ty.TheVariants as ty
use Rattle.dsde_values.specs.declared.types.Ty.TheViews as ty_views
use Rattle.dsde_values.specs.declared.types.Types.{Types}
use Rattle.dsde_values.specs.declared.value.Value.{Value, Value-F, roll-Value, map-Value, ind-Value}
use Rattle.dsde_values.specs.declared.value.Value.TheOpen as layer
use Rattle.dsde_values.specs.declared.value.Value.TheVariants as value
use Rattle.dsde_values.specs.declared.value.Value.TheViews.{rolls-Int, rolls-Bool, rolls-Enum, rolls-Rec, rolls-List, rolls-Nothing, rolls-Some}
use Rattle.dsde_values.specs.Word.{goes_on, Begins}
use Rattle.dsde_values.specs.Value.{name_at, fields_at, spelling, fits_int, is_variant, fill, type_step, has_type, HasType, IsLawful}
use Rattle.dsde_values.specs.Reading.{Took, NoWord, Anything, truth_text, variant_text, field_text, fields_text, record_text, list_text, items_text, AreParts, AreItems}
use Rattle.dsde_values.proofs.FieldReading as fields
use Rattle.dsde_values.proofs.Fronts.{truth_word, truth_ends, truth_taken, stops}
use Rattle.dsde_values.proofs.Layers.{typed, typed-List, spelling-Int, spelling-Enum, spelling-Nothing}
use Rattle.dsde_values.proofs.ListReading as items
use Rattle.dsde_values.proofs.ListReading.{later, comma_or_close, behind_comma}
use Rattle.dsde_values.proofs.Names.{both_true, identifier_word}
use Rattle.dsde_values.proofs.Numbers.{take-number_size, only_number}
use Rattle.dsde_values.proofs.ReadParts.{record_read}
use Rattle.dsde_values.proofs.Typed.{int_fits, HasType-is}
use Rattle.dsde_values.proofs.ValueKinds.{not_close}
use Rattle.dsde_values.proofs.ValueReading as values
use Rattle.dsde_values.proofs.Variants.{variant_name, variant_named, there_is, variant_taken, ends_word-identifier}

-- a type, by its layer
type_is : (t : Ty) (seen : Ty-F Ty) → out-Ty t ≡ seen → t ≡ roll-Ty seen
type_is t seen outs = sym (roll-out-Ty t) ∙ ap roll-Ty outs

module _ (types : Types) where
  abbrev IsOf : Ty → Value → Type 0
  IsOf t v = has_type types v t ≡ true

  -- what a layer of a value answers of a layer of a type
  abbrev answer : Value-F Value → Ty-F Ty → Bool
  answer made seen = type_step types (map-Value Value (Ty → Bool) (has_type types) made) seen

  answered : (v : Value) (made : Value-F Value) (t : Ty) → roll-Value made ≡ v → has_type types v t ≡ true → answer made (out-Ty t) ≡ true
  answered v made t rolls h = sym (typed types v made t (out-Ty t) rolls refl) ∙ h

  -- The kinds of types that the kinds of values have.
  int_seen : (n : ℤ) (t : Ty) (seen : Ty-F Ty) → out-Ty t ≡ seen → answer (layer.Int n) seen ≡ true → (t ≡ ty.Int) × (fits_int n ≡ true)
  int_seen n t open_ty.Int outs h = (type_is t open_ty.Int outs ∙ ty_views.rolls-Int, h)
  int_seen n t open_ty.Bool outs h = absurd (false≢true h)
  int_seen n t (open_ty.Enum _) outs h = absurd (false≢true h)
  int_seen n t (open_ty.Rec _) outs h = absurd (false≢true h)
  int_seen n t (open_ty.List _) outs h = absurd (false≢true h)
  int_seen n t (open_ty.Opt _) outs h = absurd (false≢true h)

  bool_seen : (b : Bool) (t : Ty) (seen : Ty-F Ty) → out-Ty t ≡ seen → answer (layer.Bool b) seen ≡ true → t ≡ ty.Bool
  bool_seen b t open_ty.Int outs h = absurd (false≢true h)
  bool_seen b t open_ty.Bool outs h = type_is t open_ty.Bool outs ∙ ty_views.rolls-Bool
  bool_seen b t (open_ty.Enum _) outs h = absurd (false≢true h)
  bool_seen b t (open_ty.Rec _) outs h = absurd (false≢true h)
  bool_seen b t (open_ty.List _) outs h = absurd (false≢true h)
  bool_seen b t (open_ty.Opt _) outs h = absurd (false≢true h)

  enum_seen : (own n : ℕ) (t : Ty) (seen : Ty-F Ty) → out-Ty t ≡ seen → answer (layer.Enum own n) seen ≡ true → (t ≡ ty.Enum own) × (is_variant types own n ≡ true)
  enum_seen own n t open_ty.Int outs h = absurd (false≢true h)
  enum_seen own n t open_ty.Bool outs h = absurd (false≢true h)
  enum_seen own n t (open_ty.Enum number) outs h =
      let parts = both_true (own == number) (is_variant types number n) h in
      let one = eqb-true own number parts.0 in
      (type_is t (open_ty.Enum number) outs ∙ ty_views.rolls-Enum number ∙ ap (λ (k : ℕ). ty.Enum k) (sym one), ap (λ (k : ℕ). is_variant types k n) one ∙ parts.1)
  enum_seen own n t (open_ty.Rec _) outs h = absurd (false≢true h)
  enum_seen own n t (open_ty.List _) outs h = absurd (false≢true h)
  enum_seen own n t (open_ty.Opt _) outs h = absurd (false≢true h)

  rec_seen : (own : ℕ) (parts : List Value) (t : Ty) (seen : Ty-F Ty) → out-Ty t ≡ seen → answer (layer.Rec own parts) seen ≡ true → (t ≡ ty.Rec own) × AreParts types own parts
  rec_seen own parts t open_ty.Int outs h = absurd (false≢true h)
  rec_seen own parts t open_ty.Bool outs h = absurd (false≢true h)
  rec_seen own parts t (open_ty.Enum _) outs h = absurd (false≢true h)
  rec_seen own parts t (open_ty.Rec number) outs h =
      let both = both_true (own == number) _ h in
      let one = eqb-true own number both.0 in
      (type_is t (open_ty.Rec number) outs ∙ ty_views.rolls-Rec number ∙ ap (λ (k : ℕ). ty.Rec k) (sym one), subst (λ (k : ℕ). AreParts types k parts) (sym one) both.1)
  rec_seen own parts t (open_ty.List _) outs h = absurd (false≢true h)
  rec_seen own parts t (open_ty.Opt _) outs h = absurd (false≢true h)

  list_seen : (list : List Value) (t : Ty) (seen : Ty-F Ty) → out-Ty t ≡ seen → answer (layer.List list) seen ≡ true → (inner : Ty) × (t ≡ ty.List inner)
  list_seen list t open_ty.Int outs h = absurd (false≢true h)
  list_seen list t open_ty.Bool outs h = absurd (false≢true h)
  list_seen list t (open_ty.Enum _) outs h = absurd (false≢true h)
  list_seen list t (open_ty.Rec _) outs h = absurd (false≢true h)
  list_seen list t (open_ty.List inner) outs h = (inner, type_is t (open_ty.List inner) outs ∙ ty_views.rolls-List inner)
  list_seen list t (open_ty.Opt _) outs h = absurd (false≢true h)

  nothing_seen : (t : Ty) (seen : Ty-F Ty) → out-Ty t ≡ seen → answer layer.Nothing seen ≡ true → (inner : Ty) × (t ≡ ty.Opt inner)
  nothing_seen t open_ty.Int outs h = absurd (false≢true h)
  nothing_seen t open_ty.Bool outs h = absurd (false≢true h)
  nothing_seen t (open_ty.Enum _) outs h = absurd (false≢true h)
  nothing_seen t (open_ty.Rec _) outs h = absurd (false≢true h)
  nothing_seen t (open_ty.List _) outs h = absurd (false≢true h)
  nothing_seen t (open_ty.Opt inner) outs h = (inner, type_is t (open_ty.Opt inner) outs ∙ ty_views.rolls-Opt inner)

  some_seen : (part : Value) (t : Ty) (seen : Ty-F Ty) → out-Ty t ≡ seen → answer (layer.Some part) seen ≡ true → (inner : Ty) × (t ≡ ty.Opt inner) × (has_type types part inner ≡ true)
  some_seen part t open_ty.Int outs h = absurd (false≢true h)
  some_seen part t open_ty.Bool outs h = absurd (false≢true h)
  some_seen part t (open_ty.Enum _) outs h = absurd (false≢true h)
  some_seen part t (open_ty.Rec _) outs h = absurd (false≢true h)
  some_seen part t (open_ty.List _) outs h = absurd (false≢true h)
  some_seen part t (open_ty.Opt inner) outs h = (inner, type_is t (open_ty.Opt inner) outs ∙ ty_views.rolls-Opt inner, h)

  -- The value is what is read of its type, where its text stands.
  abbrev ReadAs : Value → Ty → List ℕ → List ℕ → Type 0
  ReadAs v t before rest = Took (IsOf t) (spelling types) (NoWord (spelling types)) before v rest

  abbrev IsRead : Value → Type 0
  IsRead v = (t : Ty) (rest : List ℕ) → has_type types v t ≡ true → NoWord (spelling types) v rest → ReadAs v t (spelling types v ++ rest) rest

  read_along : (v : Value) (t other : Ty) (text : List ℕ) (rest : List ℕ) → t ≡ other → spelling types v ≡ text → ReadAs v other (text ++ rest) rest → ReadAs v t (spelling types v ++ rest) rest
  read_along v t other text rest same spelled read =
      subst (λ (s : Ty). ReadAs v s (spelling types v ++ rest) rest) (sym same)
      (subst (λ (s : List ℕ). ReadAs v other (s ++ rest) rest) (sym spelled) read)

  int_read : (n : ℤ) → IsRead (value.Int n)
  int_read n t rest h none =
      let seen = int_seen n t (out-Ty t) refl (answered (value.Int n) (layer.Int n) t (rolls-Int n) h) in
      let fits : FitsSigned w64 n = (int_fits n).1 seen.1 in
      let bytes : List ℕ = signed_decimal n ++ rest in
      let stop : goes_on (signed_decimal n) rest ≡ false = ap (λ (text : List ℕ). goes_on text rest) (sym (spelling-Int types n)) ∙ none in
      let begins : Begins (signed_decimal n) bytes = record { rest = rest; front = refl; ends = stop } in
      read_along (value.Int n) t ty.Int (signed_decimal n) rest seen.0 (spelling-Int types n)
      (values.int_taken types bytes rest n (record {
        is = fits;
        front = refl;
        ends = stop;
        only = λ other after other_fits other_stop same.
            only_number other n bytes other_fits fits (record { rest = after; front = same; ends = other_stop }) (take-number_size n bytes fits begins);
      }))

  bool_read : (b : Bool) → IsRead (value.Bool b)
  bool_read b t rest h none =
      let spelled = values.truth_spelled types (truth_text b ++ rest) rest b in
      let end = stops (truth_text b) rest (truth_ends b) (ap (λ (text : List ℕ). goes_on text rest) (sym spelled) ∙ none) in
      read_along (value.Bool b) t ty.Bool (truth_text b) rest (bool_seen b t (out-Ty t) refl (answered (value.Bool b) (layer.Bool b) t (rolls-Bool b) h)) spelled
      (values.bool_taken types (truth_text b ++ rest) rest b (truth_taken (truth_text b) rest (truth_text b ++ rest) b refl (truth_word b) end refl))

  nothing_read : IsRead value.Nothing
  nothing_read t rest h none =
      let seen = nothing_seen t (out-Ty t) refl (answered value.Nothing layer.Nothing t rolls-Nothing h) in
      let end = stops (codes "none") rest refl (ap (λ (text : List ℕ). goes_on text rest) (sym (spelling-Nothing types)) ∙ none) in
      read_along value.Nothing t (ty.Opt seen.0) (codes "none") rest seen.1 (spelling-Nothing types)
      (values.nothing_taken types seen.0 (codes "none" ++ rest) (codes "none") rest (λ tail same. values.none_or_some rest tail same) refl refl end refl)

  some_read : (part : Value) → IsRead part → IsRead (value.Some part)
  some_read part read t rest h none =
      let seen = some_seen part t (out-Ty t) refl (answered (value.Some part) (layer.Some part) t (rolls-Some part) h) in
      let inner : Ty = seen.0 in
      let before : List ℕ = spelling types (value.Some part) ++ rest in
      subst (λ (s : Ty). ReadAs (value.Some part) s before rest) (sym seen.1)
      (values.some_taken types inner before (spelling types part ++ 41 ∷ rest) (values.some_text types inner before part rest) part (41 ∷ rest)
      (read inner (41 ∷ rest) seen.2 (values.part_ends types inner before part rest)) rest refl)

  -- values with what is known of them
  abbrev Known : Type 0
  Known = (v : Value) × IsRead v

  abbrev of_known : List Known → List Value
  of_known list = map (λ (e : Known). e.0) list

  module _ (lawful : IsLawful types) where
    enum_read : (own n : ℕ) → IsRead (value.Enum own n)
    enum_read own n t rest h none =
        let seen = enum_seen own n t (out-Ty t) refl (answered (value.Enum own n) (layer.Enum own n) t (rolls-Enum own n) h) in
        let name : List ℕ = variant_name types lawful own n in
        let here = there_is types lawful own n seen.1 in
        let identifier = variant_named types lawful own n name here in
        let bytes : List ℕ = variant_text types own n ++ rest in
        let end = stops (variant_text types own n) rest (ends_word-identifier (name_at types own ++ codes "::") name identifier) (ap (λ (text : List ℕ). goes_on text rest) (sym (spelling-Enum types own n)) ∙ none) in
        read_along (value.Enum own n) t (ty.Enum own) (variant_text types own n) rest seen.0 (spelling-Enum types own n)
        (values.enum_taken types bytes rest own n
        (variant_taken types lawful own bytes (name ++ rest) name rest (append_assoc (name_at types own ++ codes "::") name rest) refl (identifier_word name identifier) end
        n (ltb-true n (2 ^ 32) (both_true (ltb n (2 ^ 32)) _ seen.1).0) here))

    -- the items of a list, one after the other
    items_go : (inner : Ty) (start rest : List ℕ) (more : List Known) (read : List Value) (left : List ℕ) → items.SoFar types inner start read left → left ≡ later (items.texts types inner (of_known more)) ++ 93 ∷ rest →
        list_all (items.is_item types inner) (of_known more) ≡ true → length read + length more ≤ 65536 → Took (AreItems types inner) (items_text types) Anything start (read ++ of_known more) rest
    items_go inner start rest [] read left so_far is all few =
        subst (λ (list : List Value). Took (AreItems types inner) (items_text types) Anything start list rest) (sym (append-nil read))
        (items.items_taken types inner start read left so_far (λ tail same. absurd (omega (arith, comma_or_close left tail rest 93 same is))) rest is)
    items_go inner start rest (e ∷ more) read left so_far is all few =
        let parts = both_true (items.is_item types inner e.0) (list_all (items.is_item types inner) (of_known more)) all in
        let behind : List ℕ = later (items.texts types inner (of_known more)) ++ 93 ∷ rest in
        let mid : List ℕ = spelling types e.0 ++ behind in
        let comma = is ∙ behind_comma (spelling types e.0) (later (items.texts types inner (of_known more))) (93 ∷ rest) in
        let next = items.next_item types inner start read left mid so_far comma e.0 behind (omega (arith, few)) (e.1 inner behind parts.0 (items.ends_here types inner e.0 (of_known more) rest)) in
        subst (λ (list : List Value). Took (AreItems types inner) (items_text types) Anything start list rest) (append_assoc read (e.0 ∷ []) (of_known more))
        (items_go inner start rest more (read ++ e.0 ∷ []) behind next refl parts.1 (omega (arith, few, length-append read (e.0 ∷ []))))

    items_read : (inner : Ty) (list : List Known) (rest : List ℕ) → AreItems types inner (of_known list) → Took (AreItems types inner) (items_text types) Anything (items_text types (of_known list) ++ rest) (of_known list) rest
    items_read inner [] rest are = items.no_items types inner lawful (codes "]" ++ rest) rest refl
    items_read inner (e ∷ more) rest are =
        let parts = items.first_typed types inner e.0 (of_known more) are in
        let behind : List ℕ = later (items.texts types inner (of_known more)) ++ 93 ∷ rest in
        let start : List ℕ = items_text types (e.0 ∷ of_known more) ++ rest in
        let cut = items.cut_first types inner e.0 (of_known more) rest in
        let took = subst (λ (s : List ℕ). ReadAs e.0 inner s behind) (sym cut) (e.1 inner behind parts.0 (items.ends_here types inner e.0 (of_known more) rest)) in
        let so_far = items.first_item types inner start behind e.0 (λ tail same. not_close types lawful e.0 inner behind tail parts.0 (sym cut ∙ same)) took in
        items_go inner start rest more (e.0 ∷ []) behind so_far refl parts.1 (omega (arith, are.few, length-map more (λ (k : Known). k.0)))

    list_read : (list : List Known) → IsRead (value.List (of_known list))
    list_read list t rest h none =
        let own : List Value = of_known list in
        let seen = list_seen own t (out-Ty t) refl (answered (value.List own) (layer.List own) t (rolls-List own) h) in
        let inner : Ty = seen.0 in
        let are = list_are own inner (subst (λ (s : Ty). has_type types (value.List own) s ≡ true) seen.1 h) in
        let before : List ℕ = list_text types own ++ rest in
        read_along (value.List own) t (ty.List inner) (list_text types own) rest seen.1 (values.list_spelled types before rest inner own)
        (values.list_value types before rest inner own
        (items.list_taken types inner before (items_text types own ++ rest) (append_assoc (codes "[") (items_text types own) rest) own rest (items_read inner list rest are)))
      where
        list_are : (own : List Value) (inner : Ty) → has_type types (value.List own) (ty.List inner) ≡ true → AreItems types inner own
        list_are own inner h =
            let both = both_true (leb (length own) 65536) _ (sym (typed-List types own inner) ∙ h) in
            record { few = leb-true (length own) 65536 both.0; typed = both.1 }

    -- a field's value where its text stands
    field_known : (field : Field) (e : Known) (rest : List ℕ) → has_type types e.0 field.ty ≡ true → NoWord (spelling types) e.0 rest → fields.TookField types field (field_text types field e.0 ++ rest) e.0 rest
    field_known field e rest h none =
        fields.field_taken types field (field_text types field e.0 ++ rest) (spelling types e.0 ++ rest) (append_assoc (field.name ++ codes ": ") (spelling types e.0) rest) e.0 rest (e.1 field.ty rest h none)

    -- the values of fields, one after the other
    fields_go : (start rest : List ℕ) (more : List Known) (left_fields done : List Field) (read : List Value) (left : List ℕ) → fields.SoFar types done left_fields start read left → fill (fields.answers types (of_known more)) left_fields ≡ true →
        left ≡ later (fields.texts types left_fields (of_known more)) ++ 125 ∷ rest → fields.TookFields types (done ++ left_fields) start (read ++ of_known more) rest
    fields_go start rest [] [] done read left so_far filled is =
        subst (λ (fs : List Field). fields.TookFields types fs start (read ++ []) rest) (sym (append-nil done))
        (subst (λ (list : List Value). fields.TookFields types done start list rest) (sym (append-nil read)) (fields.fields_taken types done start read left so_far rest is))
    fields_go start rest [] (field ∷ others) done read left so_far filled is = absurd (false≢true filled)
    fields_go start rest (e ∷ more) [] done read left so_far filled is = absurd (false≢true filled)
    fields_go start rest (e ∷ more) (field ∷ others) done read left so_far filled is =
        let parts = both_true (has_type types e.0 field.ty) (fill (fields.answers types (of_known more)) others) filled in
        let behind : List ℕ = later (fields.texts types others (of_known more)) ++ 125 ∷ rest in
        let mid : List ℕ = field_text types field e.0 ++ behind in
        let comma = is ∙ behind_comma (field_text types field e.0) (later (fields.texts types others (of_known more))) (125 ∷ rest) in
        let next = fields.next_field types done others field start read left so_far mid e.0 behind comma (field_known field e behind parts.0 (fields.ends_here types e.0 others (of_known more) rest)) in
        subst (λ (fs : List Field). fields.TookFields types fs start (read ++ e.0 ∷ of_known more) rest) (append_assoc done (field ∷ []) others)
        (subst (λ (list : List Value). fields.TookFields types ((done ++ field ∷ []) ++ others) start list rest) (append_assoc read (e.0 ∷ []) (of_known more))
        (fields_go start rest more others (done ++ field ∷ []) (read ++ e.0 ∷ []) behind next parts.1 refl))

    fields_read : (all : List Field) (list : List Known) (rest : List ℕ) → fill (fields.answers types (of_known list)) all ≡ true → fields.TookFields types all (fields_text types all (of_known list) ++ rest) (of_known list) rest
    fields_read [] [] rest filled = fields.no_fields types (codes "}" ++ rest) rest refl
    fields_read [] (e ∷ more) rest filled = absurd (false≢true filled)
    fields_read (field ∷ others) [] rest filled = absurd (false≢true filled)
    fields_read (field ∷ others) (e ∷ more) rest filled =
        let parts = both_true (has_type types e.0 field.ty) (fill (fields.answers types (of_known more)) others) filled in
        let behind : List ℕ = later (fields.texts types others (of_known more)) ++ 125 ∷ rest in
        let start : List ℕ = fields_text types (field ∷ others) (e.0 ∷ of_known more) ++ rest in
        let cut = fields.cut_first types field others e.0 (of_known more) rest in
        let took = subst (λ (s : List ℕ). fields.TookField types field s e.0 behind) (sym cut) (field_known field e behind parts.0 (fields.ends_here types e.0 others (of_known more) rest)) in
        fields_go start rest more others (field ∷ []) (e.0 ∷ []) behind (fields.first_field types field others start behind e.0 took) parts.1 refl

    record_found : (own : ℕ) (list : List Known) (rest : List ℕ) (found : Option (List Field)) → found ≡ fields_at types own → AreParts types own (of_known list) → Took (AreParts types own) (record_text types own (unwrap_or (fields_at types own) [])) Anything (record_text types own (unwrap_or (fields_at types own) []) (of_known list) ++ rest) (of_known list) rest
    record_found own list rest None is are = absurd (false≢true (ap (λ (f : Option (List Field)). option_map_or (fill (fields.answers types (of_known list))) f false) is ∙ are))
    record_found own list rest (Some all) is are =
        let own_fields : unwrap_or (fields_at types own) [] ≡ all = ap (λ (f : Option (List Field)). unwrap_or f []) (sym is) in
        let filled = ap (λ (f : Option (List Field)). option_map_or (fill (fields.answers types (of_known list))) f false) is ∙ are in
        subst (λ (fs : List Field). Took (AreParts types own) (record_text types own (unwrap_or (fields_at types own) [])) Anything (record_text types own fs (of_known list) ++ rest) (of_known list) rest) (sym own_fields)
        (record_read types own all (record_text types own all (of_known list) ++ rest) (name_at types own) (fields_text types all (of_known list) ++ rest) rest (Ok (of_known list)) (sym is)
        (append_assoc (name_at types own ++ codes "{") (fields_text types all (of_known list)) rest) refl (fields_read all list rest filled))

    rec_read : (own : ℕ) (list : List Known) → IsRead (value.Rec own (of_known list))
    rec_read own list t rest h none =
        let parts : List Value = of_known list in
        let seen = rec_seen own parts t (out-Ty t) refl (answered (value.Rec own parts) (layer.Rec own parts) t (rolls-Rec own parts) h) in
        let text : List ℕ = record_text types own (unwrap_or (fields_at types own) []) parts in
        read_along (value.Rec own parts) t (ty.Rec own) text rest seen.0 (values.record_spelled types (text ++ rest) rest own parts)
        (values.record_value types (text ++ rest) rest own parts (record_found own list rest (fields_at types own) refl seen.1))

    -- each layer, where the parts are read
    layer_read : (parts : Value-F Known) → IsRead (roll-Value (map-Value Known Value (λ e. e.0) parts))
    layer_read (layer.Int n) = subst IsRead (sym (rolls-Int n)) (int_read n)
    layer_read (layer.Bool b) = subst IsRead (sym (rolls-Bool b)) (bool_read b)
    layer_read (layer.Enum own n) = subst IsRead (sym (rolls-Enum own n)) (enum_read own n)
    layer_read (layer.Rec own list) = subst IsRead (sym (rolls-Rec own (of_known list))) (rec_read own list)
    layer_read (layer.List list) = subst IsRead (sym (rolls-List (of_known list))) (list_read list)
    layer_read layer.Nothing = subst IsRead (sym rolls-Nothing) nothing_read
    layer_read (layer.Some e) = subst IsRead (sym (rolls-Some e.0)) (some_read e.0 e.1)

    value_read : (v : Value) → IsRead v
    value_read = ind-Value IsRead (λ made parts is. subst (λ (m : Value-F Value). IsRead (roll-Value m)) is (layer_read parts))

-- At most one value of a type begins given bytes.
pub one_value : (types : Types) → IsLawful types → (t : Ty) (v other : Value) (bytes : List ℕ) → HasType types v t → HasType types other t → Begins (spelling types v) bytes → Begins (spelling types other) bytes → v ≡ other
one_value types lawful t v other bytes h other_h begins other_begins =
    (value_read types lawful other t other_begins.rest ((HasType-is types other t).0 other_h) other_begins.ends).only v begins.rest ((HasType-is types v t).0 h) begins.ends (sym other_begins.front ∙ begins.front)
