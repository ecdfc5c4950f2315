-- The value that begins a text, read from left to right.
use Rattle.std.specs.Prelude.{ℕ, zero, suc, ◌^◌, ◌&&◌, true, false, nat_lt, if◌then◌else◌, ◌==◌, ℤ, Option, Some, None, option_and_then, List, [], ◌∷◌, ◌++◌, length, take, drop, codes}
use Rattle.std.specs.Fmt.{signed_decimal}
use Rattle.std.specs.List.{take_while, position}
use Rattle.std.specs.Option.{option_map, option_or}
use Rattle.std.specs.Str.{bytes_eq}
use Rattle.std.specs.Str.Parse.{signed_digits_value}
use Rattle.dsde_values.specs.declared.types.Field.{Field}
use Rattle.dsde_values.specs.declared.types.Ty.{Ty, Ty-F, out-Ty}
use Rattle.dsde_values.specs.declared.types.Ty.TheOpen as open_ty
use Rattle.dsde_values.specs.declared.types.Types.{Types}
use Rattle.dsde_values.specs.declared.value.Value.{Value}
use Rattle.dsde_values.specs.declared.value.Value.TheVariants as value
use Rattle.dsde_values.specs.Value.{name_at, variants_at, fields_at, fits_int, number_size}
use Rattle.dsde_values.specs.given.words.Words.{is_word_byte}

-- what stands at the front of bytes, if it does, and the bytes behind it
abbrev pub Read : Type 0 → Type 0
Read X = Option (X × List ℕ)

-- what is made of the thing that was read
abbrev pub made : {X Y : Type 0} → (X → Y) → Read X → Read Y
made make found = option_map (λ parts. (make parts.0, parts.1)) found

-- what is read behind a thing that was read
abbrev pub followed_by : {X Y : Type 0} → Read X → (X → List ℕ → Option Y) → Option Y
followed_by found next = option_and_then (λ parts. next parts.0 parts.1) found

-- the bytes behind a text, if it stands at the front
abbrev pub behind : List ℕ → List ℕ → Option (List ℕ)
behind [] bytes = Some bytes
behind (byte ∷ text) [] = None
behind (byte ∷ text) (first ∷ bytes) = if first == byte then behind text bytes else None

-- a thing, where a text stands behind it
abbrev pub closed : {X : Type 0} → List ℕ → X → List ℕ → Read X
closed text thing bytes = option_map (λ rest. (thing, rest)) (behind text bytes)

-- what the word at the front means: all letters, digits and `_` up to the first byte that is none
abbrev pub meant : {X : Type 0} → (List ℕ → Option X) → List ℕ → Read X
meant means bytes =
    let word = take_while is_word_byte bytes in
    option_map (λ thing. (thing, drop (length word) bytes)) (means word)

-- the whole number of 64 signed bits whose decimal a text is
abbrev pub int_of : List ℕ → Option ℤ
int_of text =
    let number = signed_digits_value 10 text in
    if bytes_eq (signed_decimal number) text && fits_int number then Some number else None

-- a whole number: an optional `-` and the word behind it
abbrev pub read_int : List ℕ → Read Value
read_int bytes =
    let size = number_size bytes in
    option_map (λ number. (value.Int number, drop size bytes)) (int_of (take size bytes))

-- `true` or `false`
abbrev pub truth_of : List ℕ → Option Value
truth_of word =
    if bytes_eq word (codes "true") then Some (value.Bool true)
    else if bytes_eq word (codes "false") then Some (value.Bool false) else None

-- `none`
abbrev pub nothing_of : List ℕ → Option Value
nothing_of word = if bytes_eq word (codes "none") then Some value.Nothing else None

-- the variant of this name; the numbers of variants have 32 bits
abbrev pub variant_of : Types → ℕ → List ℕ → Option Value
variant_of types number word =
    option_and_then (λ place. if nat_lt place (2 ^ 32) then Some (value.Enum number place) else None)
    (position (λ variant. bytes_eq variant word) (variants_at types number))

-- the values of fields, each behind its field's name, a colon and a space, the first behind the lead, and each other behind
-- a comma and a space; and then the brace
unfoldable pub read_fields : (Ty → List ℕ → Read Value) → List ℕ → List Field → List ℕ → Read (List Value)
read_fields read lead [] bytes = closed (codes "}") [] bytes
read_fields read lead (field ∷ fields) bytes =
    followed_by (option_and_then (read field.ty) (behind (lead ++ field.name ++ codes ": ") bytes))
    (λ part rest. made (λ parts. part ∷ parts) (read_fields read (codes ", ") fields rest))

-- at most so many items of a list, the first behind the lead, and each other behind a comma and a space; and then the bracket
unfoldable pub read_list : (List ℕ → Read Value) → ℕ → List ℕ → List ℕ → Read (List Value)
read_list read zero lead bytes = closed {X = List Value} (codes "]") [] bytes
read_list read (suc most) lead bytes =
    option_or (closed {X = List Value} (codes "]") [] bytes)
    (followed_by (option_and_then read (behind lead bytes))
    (λ item rest. made (λ items. item ∷ items) (read_list read most (codes ", ") rest)))

-- a value of a type, with a reading of its parts
unfoldable pub read_layer : Types → (Ty → List ℕ → Read Value) → Ty-F Ty → List ℕ → Read Value
read_layer types read open_ty.Int bytes = read_int bytes
read_layer types read open_ty.Bool bytes = meant truth_of bytes
read_layer types read (open_ty.Enum number) bytes =
    option_and_then (meant (variant_of types number)) (behind (name_at types number ++ codes "::") bytes)
read_layer types read (open_ty.Rec number) bytes =
    option_and_then (λ fields. made (value.Rec number) (option_and_then (read_fields read [] fields) (behind (name_at types number ++ codes "{") bytes)))
    (fields_at types number)
read_layer types read (open_ty.List inner) bytes =
    made value.List (option_and_then (read_list (read inner) 65536 []) (behind (codes "[") bytes))
read_layer types read (open_ty.Opt inner) bytes =
    option_or
    (followed_by (option_and_then (read inner) (behind (codes "some(") bytes)) (λ part rest. closed (codes ")") (value.Some part) rest))
    (meant nothing_of bytes)

-- a value of a type in which parts stand in parts at most so deep
unfoldable pub read_deep : Types → ℕ → Ty → List ℕ → Read Value
read_deep types zero ty bytes = None
read_deep types (suc depth) ty bytes = read_layer types (read_deep types depth) (out-Ty ty) bytes

-- the value of a type that begins a text, and the bytes behind it: none is deeper than its text is long
abbrev pub value_of : Types → Ty → List ℕ → Read Value
value_of types ty bytes = read_deep types (length bytes) ty bytes
