-- What is read from the front of bytes.
use Rattle.std.specs.Prelude.{◌≡◌, ◌≢◌, ℕ, ◌≤◌, ⊤, Bool, true, false, ℤ, FitsSigned, List, ◌++◌, length, map, codes, Result, Ok, Err, slice_index_or, unwrap_or, []}
use Rattle.std.specs.Int.{w64}
use Rattle.std.specs.Fmt.{signed_decimal}
use Rattle.std.specs.List.{list_all}
use Rattle.std.specs.Option.{option_map_or}
use Rattle.dsde_values.specs.declared.reading.ReadValue.{ReadValue}
use Rattle.dsde_values.specs.declared.reading.ReadValue.TheVariants as end_of
use Rattle.dsde_values.specs.declared.types.Field.{Field}
use Rattle.dsde_values.specs.declared.types.Ty.{Ty}
use Rattle.dsde_values.specs.declared.types.Types.{Types}
use Rattle.dsde_values.specs.declared.value.Value.{Value}
use Rattle.dsde_values.specs.Word.{goes_on}
use Rattle.dsde_values.specs.Value.{name_at, variants_at, fields_at, joined, field_texts, spelling, is_variant, fill, has_type}

-- A text was taken from the front, or it does not stand there.
abbrev pub Takes : List ℕ → Bool → List ℕ → List ℕ → Type 0
Takes text true before after = before ≡ text ++ after
Takes text false before after = (after ≡ before) × ((rest : List ℕ) → before ≢ text ++ rest)

module _ {X : Type 0} (Is : X → Type 0) (text : X → List ℕ) (Ends : X → List ℕ → Type 0) where
  -- Such a thing was taken from the front, by its text, and no other stands there.
  pub record Took (before : List ℕ) (thing : X) (after : List ℕ) : Type 0 where
    pub is : Is thing
    pub front : before ≡ text thing ++ after
    pub ends : Ends thing after
    pub only : (other : X) (rest : List ℕ) → Is other → Ends other rest → before ≡ text other ++ rest → other ≡ thing

  -- No such thing stands at the front.
  abbrev pub Lacks : List ℕ → Type 0
  Lacks before = (other : X) (rest : List ℕ) → Is other → Ends other rest → before ≢ text other ++ rest

  -- a thing that was read from the front, if one stands there
  abbrev pub Reads : List ℕ → Result X ReadValue → List ℕ → Type 0
  Reads before (Ok thing) after = Took before thing after
  Reads before (Err end_of.NotAValue) after = Lacks before
  Reads before (Err end_of.Memory) after = ⊤

-- Anything may follow.
abbrev pub Anything : {X : Type 0} → X → List ℕ → Type 0
Anything thing rest = ⊤

-- No word goes on from a text.
abbrev pub NoWord : {X : Type 0} → (X → List ℕ) → X → List ℕ → Type 0
NoWord text thing rest = goes_on (text thing) rest ≡ false

abbrev pub ReadsInt : List ℕ → Result ℤ ReadValue → List ℕ → Type 0
ReadsInt = Reads (FitsSigned w64) signed_decimal (NoWord signed_decimal)

abbrev pub truth_text : Bool → List ℕ
truth_text true = codes "true"
truth_text false = codes "false"

abbrev pub ReadsTruth : List ℕ → Result Bool ReadValue → List ℕ → Type 0
ReadsTruth = Reads (λ _. ⊤) truth_text (NoWord truth_text)

-- a variant of an enum
abbrev pub variant_text : Types → ℕ → ℕ → List ℕ
variant_text types number variant = name_at types number ++ codes "::" ++ slice_index_or (variants_at types number) variant []

abbrev pub ReadsVariant : Types → ℕ → List ℕ → Result ℕ ReadValue → List ℕ → Type 0
ReadsVariant types number = Reads (λ variant. is_variant types number variant ≡ true) (variant_text types number) (NoWord (variant_text types number))

-- a value of a type
abbrev pub ReadsValue : Types → Ty → List ℕ → Result Value ReadValue → List ℕ → Type 0
ReadsValue types ty = Reads (λ value. has_type types value ty ≡ true) (spelling types) (NoWord (spelling types))

-- a field's name and its value
abbrev pub field_text : Types → Field → Value → List ℕ
field_text types field value = field.name ++ codes ": " ++ spelling types value

abbrev pub ReadsField : Types → Field → List ℕ → Result Value ReadValue → List ℕ → Type 0
ReadsField types field = Reads (λ value. has_type types value field.ty ≡ true) (field_text types field) (NoWord (spelling types))

-- the values of fields, and the brace behind them
abbrev pub fields_text : Types → List Field → List Value → List ℕ
fields_text types fields parts = joined (field_texts fields (map (spelling types) parts)) ++ codes "}"

abbrev pub ReadsFields : Types → List Field → List ℕ → Result (List Value) ReadValue → List ℕ → Type 0
ReadsFields types fields = Reads (λ parts. fill (map (has_type types) parts) fields ≡ true) (fields_text types fields) Anything

-- a record's name, and its fields
abbrev pub record_text : Types → ℕ → List Field → List Value → List ℕ
record_text types number fields parts = name_at types number ++ codes "{" ++ fields_text types fields parts

abbrev pub AreParts : Types → ℕ → List Value → Type 0
AreParts types number parts = option_map_or (fill (map (has_type types) parts)) (fields_at types number) false ≡ true

-- the values of a record's fields
abbrev pub ReadsRecord : Types → ℕ → List ℕ → Result (List Value) ReadValue → List ℕ → Type 0
ReadsRecord types number = Reads (AreParts types number) (record_text types number (unwrap_or (fields_at types number) [])) Anything

-- items of a list, and the bracket behind them
abbrev pub items_text : Types → List Value → List ℕ
items_text types items = joined (map (spelling types) items) ++ codes "]"

-- a list's items: values of a type, and not too many
pub record AreItems (types : Types) (ty : Ty) (items : List Value) : Type 0 where
  pub few : length items ≤ 65536
  pub typed : list_all (λ item. has_type types item ty) items ≡ true

abbrev pub list_text : Types → List Value → List ℕ
list_text types items = codes "[" ++ items_text types items

abbrev pub ReadsList : Types → Ty → List ℕ → Result (List Value) ReadValue → List ℕ → Type 0
ReadsList types ty = Reads (AreItems types ty) (list_text types) Anything
