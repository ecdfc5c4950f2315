-- Each way that a part's answer leads to the whole's.
use Rattle.std.proofs.Common.{◌≡◌, ◌≢◌, ◌+◌, ◌<◌, ◌≤◌, ℕ, Bool, true, List, [], ◌∷◌, ◌++◌, length, take, drop, get_or, map, refl, sym, ◌∙◌, ap, subst, arith, add-one, length-drop, FitsSigned}
use Rattle.std.proofs.lemmas.List.{drop_more, take_more, take_all, take-append-drop}
use Rattle.std.specs.Prelude.{codes, unwrap_or, Option, Some, Result, Ok, Err, MatchResult}
use Rattle.std.specs.Int.{w64}
use Rattle.std.specs.Fmt.{signed_decimal}
use Rattle.dsde_values.specs.declared.reading.ReadValue.{ReadValue}
use Rattle.dsde_values.specs.declared.reading.ReadValue.TheVariants as end_of
use Rattle.dsde_values.specs.declared.types.Field.{Field}
use Rattle.dsde_values.specs.declared.types.Ty.{Ty}
use Rattle.dsde_values.specs.declared.types.Ty.TheVariants as ty
use Rattle.dsde_values.specs.declared.types.Types.{Types}
use Rattle.dsde_values.specs.declared.value.Value.{Value}
use Rattle.dsde_values.specs.Value.{name_at, fields_at, spelling, is_variant, fill, has_type, HasType}
use Rattle.dsde_values.specs.Word.{Begins}
use Rattle.dsde_values.proofs.Typed.{HasType-is}
use Rattle.dsde_values.specs.Reading.{Took, Lacks, Reads, NoWord, Anything, truth_text, variant_text, field_text, fields_text, record_text, list_text, items_text, AreParts, AreItems, ReadsInt, ReadsTruth, ReadsVariant, ReadsValue, ReadsField, ReadsFields, ReadsRecord, ReadsList}
use Rattle.dsde_values.proofs.ListReading.{list_taken, no_list}
use Rattle.dsde_values.proofs.FieldReading.{field_taken, no_field, record_taken, no_record}
use Rattle.dsde_values.proofs.FieldReading as fields
use Rattle.dsde_values.proofs.ValueReading.{Reads-fails, no_int, no_bool, no_enum, no_record_value, no_list_value}

-- one answer for a part and the whole
Reads-along : {X : Type 0} (Is : X → Type 0) (text : X → List ℕ) (Ends : X → List ℕ → Type 0) (Are : X → Type 0) (spelled : X → List ℕ) (Stops : X → List ℕ → Type 0) (before mid after : List ℕ) (answer : Result X ReadValue) →
    ((x : X) → Took Is text Ends mid x after → Took Are spelled Stops before x after) → (Lacks Is text Ends mid → Lacks Are spelled Stops before) → Reads Is text Ends mid answer after → Reads Are spelled Stops before answer after
Reads-along Is text Ends Are spelled Stops before mid after (Ok x) took lacks reads = took x reads
Reads-along Is text Ends Are spelled Stops before mid after (Err end_of.NotAValue) took lacks reads = lacks reads
Reads-along Is text Ends Are spelled Stops before mid after (Err end_of.Memory) took lacks reads = tt

-- the answer of a mark behind all parts
Reads-ended : {X : Type 0} (Is : X → Type 0) (text : X → List ℕ) (Ends : X → List ℕ → Type 0) (before mid mark after : List ℕ) (values : X) (answer : Result X ReadValue) →
    MatchResult answer (λ same. (same ≡ values) × (mid ≡ mark ++ after)) (λ error. (error ≡ end_of.NotAValue) × ((rest : List ℕ) → mid ≢ mark ++ rest)) →
    (mid ≡ mark ++ after → Took Is text Ends before values after) → (((rest : List ℕ) → mid ≢ mark ++ rest) → Lacks Is text Ends before) → Reads Is text Ends before answer after
Reads-ended Is text Ends before mid mark after values (Ok same) ended took lacks = subst (λ x. Took Is text Ends before x after) (sym ended.0) (took ended.1)
Reads-ended Is text Ends before mid mark after values (Err end_of.NotAValue) ended took lacks = lacks ended.1
Reads-ended Is text Ends before mid mark after values (Err end_of.Memory) ended took lacks = tt

module _ (types : Types) where
  abbrev IsOf : Ty → Value → Type 0
  IsOf t v = has_type types v t ≡ true

  abbrev Filled : List Field → List Value → Type 0
  Filled fields parts = fill (map (has_type types) parts) fields ≡ true

  pub field_read : (field : Field) (before name mid after : List ℕ) (answer : Result Value ReadValue) → before ≡ (name ++ codes ": ") ++ mid → name ≡ field.name → ReadsValue types field.ty mid answer after → ReadsField types field before answer after
  field_read field before name mid after answer named is =
      let own : before ≡ (field.name ++ codes ": ") ++ mid = named ∙ ap (λ (n : List ℕ). (n ++ codes ": ") ++ mid) is in
      Reads-along (IsOf field.ty) (spelling types) (NoWord (spelling types)) (IsOf field.ty) (field_text types field) (NoWord (spelling types)) before mid after answer
      (λ part took. field_taken types field before mid own part after took) (no_field types field before mid own)

  pub record_read : (number : ℕ) (fields : List Field) (before name mid after : List ℕ) (answer : Result (List Value) ReadValue) → fields_at types number ≡ Some fields → before ≡ (name ++ codes "{") ++ mid → name ≡ name_at types number → ReadsFields types fields mid answer after → ReadsRecord types number before answer after
  record_read number fields before name mid after answer found named is reads =
      let own : before ≡ (name_at types number ++ codes "{") ++ mid = named ∙ ap (λ (n : List ℕ). (n ++ codes "{") ++ mid) is in
      let all : unwrap_or (fields_at types number) [] ≡ fields = ap (λ (f : Option (List Field)). unwrap_or f []) found in
      subst (λ (fs : List Field). Reads (AreParts types number) (record_text types number fs) Anything before answer after) (sym all)
      (Reads-along (Filled fields) (fields_text types fields) Anything (AreParts types number) (record_text types number fields) Anything before mid after answer
      (λ parts took. record_taken types number fields found before mid own parts after took) (no_record types number fields found before mid own) reads)

  pub fields_ended : (fields : List Field) (before mid after : List ℕ) (parts : List Value) (answer : Result (List Value) ReadValue) →
      MatchResult answer (λ same. (same ≡ parts) × (mid ≡ codes "}" ++ after)) (λ error. (error ≡ end_of.NotAValue) × ((rest : List ℕ) → mid ≢ codes "}" ++ rest)) →
      (mid ≡ codes "}" ++ after → Took (Filled fields) (fields_text types fields) Anything before parts after) → (((rest : List ℕ) → mid ≢ codes "}" ++ rest) → Lacks (Filled fields) (fields_text types fields) Anything before) → ReadsFields types fields before answer after
  fields_ended fields before mid after parts answer = Reads-ended (Filled fields) (fields_text types fields) Anything before mid (codes "}") after parts answer

  pub list_ended : (t : Ty) (before start mid after : List ℕ) (items : List Value) (answer : Result (List Value) ReadValue) → before ≡ codes "[" ++ start →
      MatchResult answer (λ same. (same ≡ items) × (mid ≡ codes "]" ++ after)) (λ error. (error ≡ end_of.NotAValue) × ((rest : List ℕ) → mid ≢ codes "]" ++ rest)) →
      (mid ≡ codes "]" ++ after → Took (AreItems types t) (items_text types) Anything start items after) → (((rest : List ℕ) → mid ≢ codes "]" ++ rest) → Lacks (AreItems types t) (items_text types) Anything start) → ReadsList types t before answer after
  list_ended t before start mid after items answer bracket ended took lacks =
      Reads-ended (AreItems types t) (list_text types) Anything before mid (codes "]") after items answer ended
      (λ close. list_taken types t before start bracket items after (took close)) (λ none. no_list types t before start bracket (lacks none))

  pub field_fails : (field : Field) (fields : List Field) (before mid left after : List ℕ) (end : ReadValue) →
      (Lacks (IsOf field.ty) (field_text types field) (NoWord (spelling types)) mid → Lacks (Filled fields) (fields_text types fields) Anything before) → ReadsField types field mid (Err end) left → ReadsFields types fields before (Err end) after
  field_fails field fields = Reads-fails (IsOf field.ty) (field_text types field) (NoWord (spelling types)) (Filled fields) (fields_text types fields) Anything

  pub item_fails : (t : Ty) (before start mid left after : List ℕ) (end : ReadValue) → before ≡ codes "[" ++ start →
      (Lacks (IsOf t) (spelling types) (NoWord (spelling types)) mid → Lacks (AreItems types t) (items_text types) Anything start) → ReadsValue types t mid (Err end) left → ReadsList types t before (Err end) after
  item_fails t before start mid left after end bracket lacks =
      Reads-fails (IsOf t) (spelling types) (NoWord (spelling types)) (AreItems types t) (list_text types) Anything before mid left after end
      (λ none. no_list types t before start bracket (lacks none))

  pub part_fails : (t : Ty) (before mid left after : List ℕ) (end : ReadValue) →
      (Lacks (IsOf t) (spelling types) (NoWord (spelling types)) mid → Lacks (IsOf (ty.Opt t)) (spelling types) (NoWord (spelling types)) before) → ReadsValue types t mid (Err end) left → ReadsValue types (ty.Opt t) before (Err end) after
  part_fails t = Reads-fails (IsOf t) (spelling types) (NoWord (spelling types)) (IsOf (ty.Opt t)) (spelling types) (NoWord (spelling types))

  module _ (before left after : List ℕ) (end : ReadValue) where
    pub int_fails : ReadsInt before (Err end) left → ReadsValue types ty.Int before (Err end) after
    int_fails = Reads-fails (FitsSigned w64) signed_decimal (NoWord signed_decimal) (IsOf ty.Int) (spelling types) (NoWord (spelling types)) before before left after end (no_int types before after)

    pub truth_fails : ReadsTruth before (Err end) left → ReadsValue types ty.Bool before (Err end) after
    truth_fails = Reads-fails {X = Bool} (λ _. Unit {0}) truth_text (NoWord truth_text) (IsOf ty.Bool) (spelling types) (NoWord (spelling types)) before before left after end (no_bool types before after)

    pub variant_fails : (number : ℕ) → ReadsVariant types number before (Err end) left → ReadsValue types (ty.Enum number) before (Err end) after
    variant_fails number = Reads-fails (λ n. is_variant types number n ≡ true) (variant_text types number) (NoWord (variant_text types number)) (IsOf (ty.Enum number)) (spelling types) (NoWord (spelling types)) before before left after end (no_enum types before after number)

    pub record_fails : (number : ℕ) → ReadsRecord types number before (Err end) left → ReadsValue types (ty.Rec number) before (Err end) after
    record_fails number = Reads-fails (AreParts types number) (record_text types number (unwrap_or (fields_at types number) [])) Anything (IsOf (ty.Rec number)) (spelling types) (NoWord (spelling types)) before before left after end (no_record_value types before after number)

    pub list_fails : (inner : Ty) → ReadsList types inner before (Err end) left → ReadsValue types (ty.List inner) before (Err end) after
    list_fails inner = Reads-fails (AreItems types inner) (list_text types) Anything (IsOf (ty.List inner)) (spelling types) (NoWord (spelling types)) before before left after end (no_list_value types before after inner)

-- the bracket, and what is behind it
pub bracket_again : (before start : List ℕ) → before ≡ codes "[" ++ start → before ≡ codes "[" ++ drop 1 before
bracket_again before start bracket = bracket ∙ ap (λ (rest : List ℕ). codes "[" ++ drop 1 rest) (sym bracket)

pub nil_from_length : {X : Type 0} (xs : List X) → length xs ≡ 0 → xs ≡ []
nil_from_length [] none = refl
nil_from_length (x ∷ xs) none = absurd (omega (arith, none))

-- a later field among all
module _ (fields others : List Field) (first field : Field) (i : ℕ) (all : fields ≡ first ∷ others) (within : i < length others) (is : field ≡ get_or others i field) where
  within_all : i + 1 < length fields
  within_all = omega (arith, ap length all)

  same_field : field ≡ get_or fields (i + 1) field
  same_field = is ∙ ap (λ (k : ℕ). get_or (first ∷ others) k field) (sym (add-one i)) ∙ ap (λ (fs : List Field). get_or fs (i + 1) field) (sym all)

  pub left_fields : drop (i + 1) fields ≡ field ∷ drop (i + 1 + 1) fields
  left_fields = drop_more fields (i + 1) field within_all ∙ ap (λ (f : Field). f ∷ drop (i + 1 + 1) fields) (sym same_field)

  pub done_fields : take (i + 1) fields ++ field ∷ [] ≡ take (i + 1 + 1) fields
  done_fields = ap (λ (f : Field). take (i + 1) fields ++ f ∷ []) same_field ∙ sym (take_more fields (i + 1) field within_all)

  pub all_fields : take (i + 1) fields ++ field ∷ drop (i + 1 + 1) fields ≡ fields
  all_fields = ap (λ (fs : List Field). take (i + 1) fields ++ fs) (sym left_fields) ∙ take-append-drop (i + 1) fields

-- no field is left
module _ (fields others : List Field) (first : Field) (i : ℕ) (all : fields ≡ first ∷ others) (past : length others ≤ i) where
  pub none_left : drop (i + 1) fields ≡ []
  none_left = nil_from_length (drop (i + 1) fields) (omega (arith, length-drop (i + 1) fields, ap length all))

  pub all_done : take (i + 1) fields ≡ fields
  all_done = take_all (i + 1) fields (omega (arith, ap length all))

-- a field more, among all fields
module _ (types : Types) (all others : List Field) (first field : Field) (i : ℕ) (cut : all ≡ first ∷ others) (within : i < length others) (is : field ≡ get_or others i field)
    (start : List ℕ) (parts : List Value) (left : List ℕ) (so_far : fields.SoFar types (take (i + 1) all) (drop (i + 1) all) start parts left) where
  opened : fields.SoFar types (take (i + 1) all) (field ∷ drop (i + 1 + 1) all) start parts left
  opened = subst (λ (fs : List Field). fields.SoFar types (take (i + 1) all) fs start parts left) (left_fields all others first field i cut within is) so_far

  whole : take (i + 1) all ++ field ∷ drop (i + 1 + 1) all ≡ all
  whole = all_fields all others first field i cut within is

  pub loop_no_comma : ((rest : List ℕ) → left ≢ codes ", " ++ rest) → Lacks (Filled types all) (fields_text types all) Anything start
  loop_no_comma none = subst (λ (fs : List Field). Lacks (Filled types fs) (fields_text types fs) Anything start) whole
      (fields.no_comma types (take (i + 1) all) (drop (i + 1 + 1) all) field start parts left opened none)

  pub loop_no_field : (mid : List ℕ) → left ≡ codes ", " ++ mid → Lacks (IsOf types field.ty) (field_text types field) (NoWord (spelling types)) mid → Lacks (Filled types all) (fields_text types all) Anything start
  loop_no_field mid comma none = subst (λ (fs : List Field). Lacks (Filled types fs) (fields_text types fs) Anything start) whole
      (fields.no_next_field types (take (i + 1) all) (drop (i + 1 + 1) all) field start parts left opened mid comma none)

  pub loop_more : (mid : List ℕ) (part : Value) (after : List ℕ) → left ≡ codes ", " ++ mid → Took (IsOf types field.ty) (field_text types field) (NoWord (spelling types)) mid part after →
      fields.SoFar types (take (i + 1 + 1) all) (drop (i + 1 + 1) all) start (parts ++ part ∷ []) after
  loop_more mid part after comma took = subst (λ (fs : List Field). fields.SoFar types fs (drop (i + 1 + 1) all) start (parts ++ part ∷ []) after) (done_fields all others first field i cut within is)
      (fields.next_field types (take (i + 1) all) (drop (i + 1 + 1) all) field start parts left opened mid part after comma took)

-- all fields
module _ (types : Types) (all others : List Field) (first : Field) (i : ℕ) (cut : all ≡ first ∷ others) (past : length others ≤ i)
    (start : List ℕ) (parts : List Value) (left : List ℕ) (so_far : fields.SoFar types (take (i + 1) all) (drop (i + 1) all) start parts left) where
  ended : fields.SoFar types all [] start parts left
  ended = subst (λ (fs : List Field). fields.SoFar types fs [] start parts left) (all_done all others first i cut past)
      (subst (λ (fs : List Field). fields.SoFar types (take (i + 1) all) fs start parts left) (none_left all others first i cut past) so_far)

  pub loop_ended : (after : List ℕ) (answer : Result (List Value) ReadValue) →
      MatchResult answer (λ same. (same ≡ parts) × (left ≡ codes "}" ++ after)) (λ error. (error ≡ end_of.NotAValue) × ((rest : List ℕ) → left ≢ codes "}" ++ rest)) → ReadsFields types all start answer after
  loop_ended after answer is =
      fields_ended types all start left after parts answer is (fields.fields_taken types all start parts left ended after) (fields.not_ended types all start parts left ended)

-- No value begins the bytes, where it is answered that none is there.
pub no_value : (types : Types) (t : Ty) (bytes left : List ℕ) (end : ReadValue) → ReadsValue types t bytes (Err end) left → end ≡ end_of.NotAValue → (value : Value) → HasType types value t → ¬ (Begins (spelling types value) bytes)
no_value types t bytes left end reads is value typed begins =
    let none = subst (λ (e : ReadValue). ReadsValue types t bytes (Err e) left) is reads in
    none value begins.rest ((HasType-is types value t).0 typed) begins.ends begins.front
