-- Words and numbers are ASCII, and the text of a value is where the names of its types are words.
use Rattle.std.proofs.Common.{◌≡◌, ℕ, zero, suc, ◌+◌, ◌<◌, ◌^◌, ◌==◌, ◌&&◌, ◌||◌, not, ◌⊎◌, inl, inr, nat_lt, nat_le, Bool, true, false, ℤ, pos, negsuc, List, [], ◌∷◌, ◌++◌, length, map, Option, Some, None, refl, sym, ap, subst, ◌∙◌, arith}
use Rattle.std.specs.Prelude.{if◌then◌else◌, ◌/◌, ◌%◌, codes, decimal, unwrap_or, option_and_then, slice_get, slice_index_or}
use Rattle.std.specs.List.{AllByRecursion, list_all, flat_map}
use Rattle.std.specs.Option.{option_map_or}
use Rattle.std.specs.Str.{IsAscii}
use Rattle.std.specs.Fmt.{digits, digits_onto, digit_glyph, signed_decimal}
use Rattle.std.proofs.lemmas.Str.{IsAscii-append}
use Rattle.std.proofs.lemmas.Fmt.{IsAscii-decimal}
use Rattle.std.proofs.lemmas.Bool.{ltb-true, leb-true, eqb-true}
use Rattle.std.specs.Char.{is_ascii_alphanumeric, is_ascii_digit}
use Rattle.std.specs.Int.{is_in_range}
use Rattle.dsde_values.specs.declared.types.Def.{Def}
use Rattle.dsde_values.specs.declared.types.Field.{Field}
use Rattle.dsde_values.specs.declared.types.Shape.{Shape}
use Rattle.dsde_values.specs.declared.types.Shape.TheVariants as shape
use Rattle.dsde_values.specs.declared.types.Ty.{Ty, Ty-F, out-Ty}
use Rattle.dsde_values.specs.declared.types.Ty.TheOpen as open_ty
use Rattle.dsde_values.specs.declared.types.Types.{Types}
use Rattle.dsde_values.specs.declared.value.Value.{Value, Value-F, roll-Value, fold-roll-Value, map-Value, ind-Value}
use Rattle.dsde_values.specs.declared.value.Value.TheOpen as layer
use Rattle.dsde_values.specs.Value.{name_at, variants, variants_at, fields, fields_at, joined, field_texts, spelling_step, spelling, fits_int, fill, type_step, has_type}
use Rattle.dsde_words.specs.Words.{is_word_byte, is_word}
use Rattle.dsde_sound_structures.specs.Lawful.{is_named_shape, is_named_def}

-- ---- tables whose names are ASCII

abbrev AsciiShape : Shape → Type 0
AsciiShape (shape.Enum names) = AllByRecursion IsAscii names
AsciiShape (shape.Rec all) = AllByRecursion (λ field. IsAscii field.name) all

record AsciiDef (def : Def) : Type 0 where
  name : IsAscii def.name
  shape : AsciiShape def.shape

abbrev AreAscii : Types → Type 0
AreAscii types = AllByRecursion AsciiDef types.defs

both : (a b : Bool) → (a && b) ≡ true → (a ≡ true) × (b ≡ true)
both true true is = (refl, refl)
both true false is = absurd (cc is)
both false b is = absurd (cc is)

ascii-byte : (byte : ℕ) (bytes : List ℕ) → byte < 128 → IsAscii bytes → IsAscii (byte ∷ bytes)
ascii-byte byte bytes within rest zero = within
ascii-byte byte bytes within rest (suc i) = rest i

pub no-ascii : IsAscii []
no-ascii zero = omega arith
no-ascii (suc i) = omega arith

pub by-test : (bytes : List ℕ) → list_all (λ byte. nat_lt byte 128) bytes ≡ true → IsAscii bytes
by-test [] is = no-ascii
by-test (byte ∷ bytes) is =
    let parts = both (nat_lt byte 128) (list_all (λ byte. nat_lt byte 128) bytes) is in
    ascii-byte byte bytes (ltb-true byte 128 parts.0) (by-test bytes parts.1)

one-of : (a b : Bool) → (a || b) ≡ true → (a ≡ true) ⊎ (b ≡ true)
one-of true b is = inl refl
one-of false b is = inr is

in-range : (low high byte : ℕ) → is_in_range low high byte ≡ true → high < 128 → byte < 128
in-range low high byte is within = let upper = leb-true byte high (both (nat_le low byte) (nat_le byte high) is).1 in omega (arith, upper, within)

byte-ascii : (byte : ℕ) → is_word_byte byte ≡ true → byte < 128
byte-ascii byte is = elim (one-of (is_ascii_alphanumeric byte) (byte == 95) is) [
  | inl letter ↦ elim (one-of (is_in_range 48 57 byte || is_in_range 65 90 byte) (is_in_range 97 122 byte) letter) [
    | inl first ↦ elim (one-of (is_in_range 48 57 byte) (is_in_range 65 90 byte) first) [
      | inl digit ↦ in-range 48 57 byte digit (omega arith)
      | inr upper ↦ in-range 65 90 byte upper (omega arith)
    ]
    | inr lower ↦ in-range 97 122 byte lower (omega arith)
  ]
  | inr mark ↦ let same = eqb-true byte 95 mark in omega (arith, same)
]

bytes-ascii : (bytes : List ℕ) → list_all is_word_byte bytes ≡ true → IsAscii bytes
bytes-ascii [] is = no-ascii
bytes-ascii (byte ∷ bytes) is =
    let parts = both (is_word_byte byte) (list_all is_word_byte bytes) is in
    ascii-byte byte bytes (byte-ascii byte parts.0) (bytes-ascii bytes parts.1)

pub word-ascii : (bytes : List ℕ) → is_word bytes ≡ true → IsAscii bytes
word-ascii [] is = no-ascii
word-ascii (byte ∷ bytes) is = bytes-ascii (byte ∷ bytes) (both (not (is_ascii_digit byte)) (list_all is_word_byte (byte ∷ bytes)) is).1

-- a digit, in either range of letters
glyph-ascii : (small : Bool) (digit : ℕ) → digit < 10 → (if small then 48 + digit else (if false then 55 + digit else 87 + digit)) < 128
glyph-ascii true digit within = omega (arith, within)
glyph-ascii false digit within = omega (arith, within)

longer : (n : ℕ) (behind : List ℕ) → IsAscii behind → IsAscii (digit_glyph false (n % 10) ∷ behind)
longer n behind ascii = ascii-byte (digit_glyph false (n % 10)) behind (glyph-ascii (nat_lt (n % 10) 10) (n % 10) (omega arith)) ascii

either : (last : Bool) (first second : List ℕ) → IsAscii first → IsAscii second → IsAscii (if last then first else second)
either true first second one other = one
either false first second one other = other

digits-ascii : (most n : ℕ) (behind : List ℕ) → IsAscii behind → IsAscii (digits_onto most 10 false n behind)
digits-ascii zero n behind ascii = ascii
digits-ascii (suc most) n behind ascii =
    let next = longer n behind ascii in
    either (n / 10 == 0) (digit_glyph false (n % 10) ∷ behind) (digits_onto most 10 false (n / 10) (digit_glyph false (n % 10) ∷ behind)) next (digits-ascii most (n / 10) (digit_glyph false (n % 10) ∷ behind) next)

pub decimal-ascii : (n : ℕ) → IsAscii (decimal n)
unfolding digits
decimal-ascii n = digits-ascii 64 n [] no-ascii

names-ascii : (names : List (List ℕ)) → list_all is_word names ≡ true → AllByRecursion IsAscii names
names-ascii [] is = tt
names-ascii (name ∷ names) is = let parts = both (is_word name) (list_all is_word names) is in (word-ascii name parts.0, names-ascii names parts.1)

fields-are-ascii : (own : List Field) → list_all (λ (field : Field). is_word field.name) own ≡ true → AllByRecursion (λ field. IsAscii field.name) own
fields-are-ascii [] is = tt
fields-are-ascii (field ∷ own) is = let parts = both (is_word field.name) (list_all (λ (one : Field). is_word one.name) own) is in (word-ascii field.name parts.0, fields-are-ascii own parts.1)

shape-ascii : (own : Shape) → is_named_shape own ≡ true → AsciiShape own
shape-ascii (shape.Enum names) is = names-ascii names is
shape-ascii (shape.Rec own) is = fields-are-ascii own is

defs-ascii : (defs : List Def) → list_all is_named_def defs ≡ true → AllByRecursion AsciiDef defs
defs-ascii [] is = tt
defs-ascii (def ∷ defs) is =
    let parts = both (is_named_def def) (list_all is_named_def defs) is in
    let own = both (is_word def.name) (is_named_shape def.shape) parts.0 in
    (record { name = word-ascii def.name own.0; shape = shape-ascii def.shape own.1 }, defs-ascii defs parts.1)

ascii-int : (number : ℤ) → fits_int number ≡ true → IsAscii (signed_decimal number)
ascii-int (pos number) fits = let within = ltb-true number (2 ^ 63) fits in IsAscii-decimal number (omega (arith, within))
ascii-int (negsuc number) fits =
    let within = ltb-true number (2 ^ 63) fits in
    ascii-byte 45 _ (omega arith) (IsAscii-decimal (suc number) (omega (arith, within)))

later-ascii : (texts : List (List ℕ)) → AllByRecursion IsAscii texts → IsAscii (flat_map (λ later. codes ", " ++ later) texts)
later-ascii [] all = no-ascii
later-ascii (text ∷ texts) all =
    IsAscii-append (codes ", " ++ text) (flat_map (λ later. codes ", " ++ later) texts) (IsAscii-append (codes ", ") text (by-test (codes ", ") refl) all.0) (later-ascii texts all.1)

joined-ascii : (texts : List (List ℕ)) → AllByRecursion IsAscii texts → IsAscii (joined texts)
joined-ascii [] all = no-ascii
joined-ascii (text ∷ texts) all = IsAscii-append text (flat_map (λ later. codes ", " ++ later) texts) all.0 (later-ascii texts all.1)

index-ascii : (names : List (List ℕ)) (index : ℕ) → AllByRecursion IsAscii names → IsAscii (slice_index_or names index [])
index-ascii [] index all = no-ascii
index-ascii (name ∷ names) zero all = all.0
index-ascii (name ∷ names) (suc index) all = index-ascii names index all.1

module _ (types : Types) (ascii : AreAscii types) where
  def-name : (defs : List Def) (number : ℕ) → AllByRecursion AsciiDef defs → IsAscii (option_map_or (λ (def : Def). def.name) (slice_get defs number) [])
  def-name [] number all = no-ascii
  def-name (def ∷ defs) zero all = all.0.name
  def-name (def ∷ defs) (suc number) all = def-name defs number all.1

  shape-names : (own : Shape) → AsciiShape own → AllByRecursion IsAscii (variants own)
  shape-names (shape.Enum names) all = all
  shape-names (shape.Rec own) all = tt

  def-variants : (defs : List Def) (number : ℕ) → AllByRecursion AsciiDef defs → AllByRecursion IsAscii (option_map_or (λ (def : Def). variants def.shape) (slice_get defs number) [])
  def-variants [] number all = tt
  def-variants (def ∷ defs) zero all = shape-names def.shape all.0.shape
  def-variants (def ∷ defs) (suc number) all = def-variants defs number all.1

  abbrev AsciiFields : List Field → Type 0
  AsciiFields own = AllByRecursion (λ field. IsAscii field.name) own

  shape-fields : (own : Shape) → AsciiShape own → AsciiFields (unwrap_or (fields own) [])
  shape-fields (shape.Enum names) all = tt
  shape-fields (shape.Rec own) all = all

  def-fields : (defs : List Def) (number : ℕ) → AllByRecursion AsciiDef defs → AsciiFields (unwrap_or (option_and_then (λ (def : Def). fields def.shape) (slice_get defs number)) [])
  def-fields [] number all = tt
  def-fields (def ∷ defs) zero all = shape-fields def.shape all.0.shape
  def-fields (def ∷ defs) (suc number) all = def-fields defs number all.1

  abbrev IsPlain : Value → Type 0
  IsPlain value = (ty : Ty) → has_type types value ty ≡ true → IsAscii (spelling types value)

  abbrev Known : Type 0
  Known = (value : Value) × IsPlain value

  abbrev value_of : Known → Value
  value_of known = known.0

  abbrev tests : List Known → List (Ty → Bool)
  tests list = map (has_type types) (map value_of list)

  abbrev texts : List Known → List (List ℕ)
  texts list = map (spelling types) (map value_of list)

  items-ascii : (list : List Known) (inner : Ty) → list_all (λ (part : Ty → Bool). part inner) (tests list) ≡ true → AllByRecursion IsAscii (texts list)
  items-ascii [] inner is = tt
  items-ascii (known ∷ list) inner is =
      let parts = both (has_type types known.0 inner) (list_all (λ (part : Ty → Bool). part inner) (tests list)) is in
      (known.1 inner parts.0, items-ascii list inner parts.1)

  fields-ascii : (list : List Known) (own : List Field) → AsciiFields own → fill (tests list) own ≡ true → AllByRecursion IsAscii (field_texts own (texts list))
  fields-ascii [] [] names is = tt
  fields-ascii [] (field ∷ own) names is = tt
  fields-ascii (known ∷ list) [] names is = tt
  fields-ascii (known ∷ list) (field ∷ own) names is =
      let parts = both (has_type types known.0 field.ty) (fill (tests list) own) is in (
        IsAscii-append (field.name ++ codes ": ") (spelling types known.0) (IsAscii-append field.name (codes ": ") names.0 (by-test (codes ": ") refl)) (known.1 field.ty parts.0),
        fields-ascii list own names.1 parts.1,
      )

  rec-ascii : (list : List Known) (found : Option (List Field)) → AsciiFields (unwrap_or found []) → option_map_or (fill (tests list)) found false ≡ true → AllByRecursion IsAscii (field_texts (unwrap_or found []) (texts list))
  rec-ascii list None names is = absurd (cc is)
  rec-ascii list (Some own) names is = fields-ascii list own names is

  abbrev opened : Value-F Known → Value-F Value
  opened made = map-Value Known Value value_of made

  abbrev tests_of : Value-F Known → Value-F (Ty → Bool)
  tests_of made = map-Value Value (Ty → Bool) (has_type types) (opened made)

  abbrev texts_of : Value-F Known → Value-F (List ℕ)
  texts_of made = map-Value Value (List ℕ) (spelling types) (opened made)

  layer-ascii : (made : Value-F Known) (seen : Ty-F Ty) → type_step types (tests_of made) seen ≡ true → IsAscii (spelling_step types (texts_of made))
  layer-ascii (layer.Int number) open_ty.Int is = ascii-int number is
  layer-ascii (layer.Bool true) open_ty.Bool is = by-test (codes "true") refl
  layer-ascii (layer.Bool false) open_ty.Bool is = by-test (codes "false") refl
  layer-ascii (layer.Enum number variant) (open_ty.Enum own) is =
      IsAscii-append (name_at types number ++ codes "::") (slice_index_or (variants_at types number) variant [])
      (IsAscii-append (name_at types number) (codes "::") (def-name types.defs number ascii) (by-test (codes "::") refl)) (index-ascii (variants_at types number) variant (def-variants types.defs number ascii))
  layer-ascii (layer.Rec number list) (open_ty.Rec own) is =
      let parts = both (number == own) (option_map_or (fill (tests list)) (fields_at types own) false) is in
      let same : own ≡ number = sym (eqb-true number own parts.0) in
      let inside = joined (field_texts (unwrap_or (fields_at types number) []) (texts list)) in
      IsAscii-append (name_at types number ++ codes "{" ++ inside) (codes "}")
      (IsAscii-append (name_at types number ++ codes "{") inside (IsAscii-append (name_at types number) (codes "{") (def-name types.defs number ascii) (by-test (codes "{") refl))
      (joined-ascii _ (rec-ascii list (fields_at types number) (def-fields types.defs number ascii) (subst (λ (n : ℕ). option_map_or (fill (tests list)) (fields_at types n) false ≡ true) same parts.1))))
      (by-test (codes "}") refl)
  layer-ascii (layer.List list) (open_ty.List inner) is =
      let parts = both (nat_le (length (tests list)) 65536) (list_all (λ (part : Ty → Bool). part inner) (tests list)) is in
      IsAscii-append (codes "[" ++ joined (texts list)) (codes "]") (IsAscii-append (codes "[") (joined (texts list)) (by-test (codes "[") refl) (joined-ascii (texts list) (items-ascii list inner parts.1))) (by-test (codes "]") refl)
  layer-ascii layer.Nothing (open_ty.Opt inner) is = by-test (codes "none") refl
  layer-ascii (layer.Some known) (open_ty.Opt inner) is =
      IsAscii-append (codes "some(" ++ spelling types known.0) (codes ")") (IsAscii-append (codes "some(") (spelling types known.0) (by-test (codes "some(") refl) (known.1 inner is)) (by-test (codes ")") refl)
  layer-ascii made seen is = absurd (cc is)

  roll-ascii : (made : Value-F Known) → IsPlain (roll-Value (opened made))
  unfolding has_type spelling
  roll-ascii made ty is =
      let steps : has_type types (roll-Value (opened made)) ty ≡ type_step types (tests_of made) (out-Ty ty) =
      ap (λ (test : Ty → Bool). test ty) (fold-roll-Value (Ty → Bool) (λ parts ty. type_step types parts (out-Ty ty)) (opened made)) in
      subst IsAscii (sym (fold-roll-Value (List ℕ) (spelling_step types) (opened made))) (layer-ascii made (out-Ty ty) (sym steps ∙ is))

  value-ascii : (value : Value) (ty : Ty) → has_type types value ty ≡ true → IsAscii (spelling types value)
  value-ascii = ind-Value IsPlain (λ x y is. subst (λ (z : Value-F Value). IsPlain (roll-Value z)) is (roll-ascii y))

pub typed-ascii : (types : Types) → list_all is_named_def types.defs ≡ true → (value : Value) (ty : Ty) → has_type types value ty ≡ true → IsAscii (spelling types value)
typed-ascii types named = value-ascii types (defs-ascii types.defs named)
