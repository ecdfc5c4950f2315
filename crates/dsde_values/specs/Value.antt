-- Values, their types, and the one text of each.
use Rattle.std.specs.Prelude.{◌≡◌, ℕ, ◌+◌, ◌^◌, ◌==◌, if◌then◌else◌, Bool, true, false, ◌&&◌, not, nat_lt, nat_le, ℤ, pos, negsuc, FitsSigned, IsTrue, Option, Some, None, unwrap_or, option_and_then, List, [], ◌∷◌, ◌++◌, length, drop, codes, slice_get, slice_index, slice_index_or}
use Rattle.std.specs.Int.{w64}
use Rattle.std.specs.List.{take_while, list_all, list_any, flat_map}
use Rattle.std.specs.Str.{bytes_eq}
use Rattle.std.specs.Option.{option_map_or}
use Rattle.std.specs.Fmt.{signed_decimal}
use Rattle.dsde_values.specs.declared.types.Def.{Def}
use Rattle.dsde_values.specs.declared.types.Field.{Field}
use Rattle.dsde_values.specs.declared.types.Shape.{Shape}
use Rattle.dsde_values.specs.declared.types.Shape.TheVariants as shape
use Rattle.dsde_values.specs.declared.types.Ty.{Ty, Ty-F, out-Ty}
use Rattle.dsde_values.specs.declared.types.Ty.TheOpen as open_ty
use Rattle.dsde_values.specs.declared.types.Ty.TheVariants as ty
use Rattle.dsde_values.specs.declared.types.Types.{Types}
use Rattle.dsde_values.specs.declared.value.Value.{Value, Value-F, fold-Value}
use Rattle.dsde_values.specs.declared.value.Value.TheOpen as layer
use Rattle.dsde_values.specs.declared.value.Value.TheVariants as value
use Rattle.dsde_words.specs.Words.{is_word_byte, is_word}

-- an enum's variants
abbrev pub variants : Shape → List (List ℕ)
variants (shape.Enum names) = names
variants (shape.Rec _) = []

-- a record's fields
abbrev pub fields : Shape → Option (List Field)
fields (shape.Enum _) = None
fields (shape.Rec all) = Some all

-- the name of the definition with this number
abbrev pub name_at : Types → ℕ → List ℕ
name_at types number = option_map_or (λ def. def.name) (slice_get types.defs number) []

-- the variants of the enum with this number
abbrev pub variants_at : Types → ℕ → List (List ℕ)
variants_at types number = option_map_or (λ def. variants def.shape) (slice_get types.defs number) []

-- the fields of the record with this number, if it is one
abbrev pub fields_at : Types → ℕ → Option (List Field)
fields_at types number = option_and_then (λ def. fields def.shape) (slice_get types.defs number)

-- texts with a comma and a space between two of them
abbrev pub joined : List (List ℕ) → List ℕ
joined [] = []
joined (text ∷ texts) = text ++ flat_map (λ later. codes ", " ++ later) texts

-- each field's name, a colon, a space, and the text of its value
abbrev pub field_texts : List Field → List (List ℕ) → List (List ℕ)
field_texts (field ∷ others) (text ∷ texts) = (field.name ++ codes ": " ++ text) ∷ field_texts others texts
field_texts _ _ = []

-- One value, with the text of each part in its place. A definition that the table lacks has no text.
abbrev pub spelling_step : Types → Value-F (List ℕ) → List ℕ
spelling_step types (layer.Int number) = signed_decimal number
spelling_step types (layer.Bool true) = codes "true"
spelling_step types (layer.Bool false) = codes "false"
spelling_step types (layer.Enum number variant) = name_at types number ++ codes "::" ++ slice_index_or (variants_at types number) variant []
spelling_step types (layer.Rec number texts) = name_at types number ++ codes "{" ++ joined (field_texts (unwrap_or (fields_at types number) []) texts) ++ codes "}"
spelling_step types (layer.List texts) = codes "[" ++ joined texts ++ codes "]"
spelling_step types layer.Nothing = codes "none"
spelling_step types (layer.Some text) = codes "some(" ++ text ++ codes ")"

-- the one text of a value
unfoldable pub spelling : Types → Value → List ℕ
spelling types = fold-Value (List ℕ) (spelling_step types)

-- whether a whole number has 64 signed bits
abbrev pub fits_int : ℤ → Bool
fits_int (pos number) = nat_lt number (2 ^ 63)
fits_int (negsuc number) = nat_lt number (2 ^ 63)

-- the numbers of the variants that an enum has, which are of 32 bits
abbrev pub is_variant : Types → ℕ → ℕ → Bool
is_variant types number variant = nat_lt variant (2 ^ 32) && nat_lt variant (length (variants_at types number))

-- Parts, by what each answers of a type, have the types of fields, one each in their order.
abbrev pub fill : List (Ty → Bool) → List Field → Bool
fill [] [] = true
fill (part ∷ parts) (field ∷ others) = part field.ty && fill parts others
fill _ _ = false

-- One value, with what each part answers of a type in its place, has a type.
abbrev pub type_step : Types → Value-F (Ty → Bool) → Ty-F Ty → Bool
type_step types (layer.Int number) open_ty.Int = fits_int number
type_step types (layer.Bool _) open_ty.Bool = true
type_step types (layer.Enum own variant) (open_ty.Enum number) = own == number && is_variant types number variant
type_step types (layer.Rec own parts) (open_ty.Rec number) = own == number && option_map_or (fill parts) (fields_at types number) false
type_step types (layer.List parts) (open_ty.List inner) = nat_le (length parts) 65536 && list_all (λ part. part inner) parts
type_step types layer.Nothing (open_ty.Opt _) = true
type_step types (layer.Some part) (open_ty.Opt inner) = part inner
type_step types _ _ = false

-- whether a value has a type
unfoldable pub has_type : Types → Value → Ty → Bool
has_type types = fold-Value (Ty → Bool) (λ parts ty. type_step types parts (out-Ty ty))

-- whole numbers of 64 signed bits
abbrev pub IsInt : Value → Type 0
IsInt (value.Int number) = FitsSigned w64 number
IsInt _ = ⊥

-- A value has a type. At whole numbers this is what `has_type` says, written out.
abbrev pub HasType : Types → Value → Ty → Type 0
HasType types value ty.Int = IsInt value
HasType types value ty = IsTrue (has_type types value ty)

-- how many bytes a number at the front of the bytes has at most: a sign, and a word
abbrev pub number_size : List ℕ → ℕ
number_size bytes = let sign = if slice_index bytes 0 == 45 then 1 else 0 in sign + length (take_while is_word_byte (drop sign bytes))

-- No name stands twice.
abbrev pub are_distinct : List (List ℕ) → Bool
are_distinct [] = true
are_distinct (name ∷ names) = not (list_any (λ other. bytes_eq other name) names) && are_distinct names

-- An enum's variants are distinct identifiers.
abbrev pub is_lawful_shape : Shape → Bool
is_lawful_shape (shape.Enum names) = list_all is_word names && are_distinct names
is_lawful_shape (shape.Rec _) = true

abbrev pub is_lawful_def : Def → Bool
is_lawful_def def = is_word def.name && is_lawful_shape def.shape

-- a table whose definitions have identifiers as names, and whose enums have distinct identifiers as variants
abbrev pub IsLawful : Types → Type 0
IsLawful types = list_all is_lawful_def types.defs ≡ true
