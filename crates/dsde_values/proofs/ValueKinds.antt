-- The values of each kind of types.
use Rattle.std.proofs.Common.{◌≡◌, ◌≢◌, ◌==◌, ℕ, ◌<◌, ◌≤◌, ℤ, pos, negsuc, suc, ◌⊎◌, inl, inr, Bool, true, false, List, [], ◌∷◌, ◌++◌, length, map, refl, sym, ◌∙◌, ap, subst, arith, append_assoc, decimal, leb, ltb, FitsSigned}
use Rattle.std.specs.Prelude.{Option, Some, None, codes, slice_get, option_and_then}
use Rattle.std.specs.Int.{w64}
use Rattle.std.specs.Fmt.{signed_decimal}
use Rattle.std.specs.Option.{option_map_or}
use Rattle.std.specs.List.{list_all}
use Rattle.std.specs.Str.Parse.{AllDigits}
use Rattle.std.proofs.lemmas.Bool.{false≢true}
use Rattle.std.proofs.lemmas.Fmt.{decimal_is_IsNumeral}
use Rattle.std.proofs.lemmas.List.{length-map}
use Rattle.std.proofs.lemmas.List.Folds.{list_all-map}
use borrow.Author.Tests.{leb-true, eqb-true, ltb-true}
use Rattle.dsde_values.specs.declared.types.Def.{Def}
use Rattle.dsde_values.specs.declared.types.Ty.{Ty, Ty-F, out-Ty}
use Rattle.dsde_values.specs.declared.types.Ty.TheOpen as open_ty
use Rattle.dsde_values.specs.declared.types.Ty.TheVariants as ty
use Rattle.dsde_values.specs.declared.types.Ty.TheViews.{outs-Int as ty_Int, outs-Bool as ty_Bool, outs-Enum as ty_Enum, outs-Rec as ty_Rec, outs-List as ty_List, outs-Opt as ty_Opt}
use Rattle.dsde_values.specs.declared.types.Types.{Types}
use Rattle.dsde_values.specs.declared.value.Value.{Value, Value-F, out-Value, roll-Value, roll-out-Value, map-Value}
use Rattle.dsde_values.specs.declared.value.Value.TheOpen as layer
use Rattle.dsde_values.specs.declared.value.Value.TheVariants as value
use Rattle.dsde_values.specs.declared.value.Value.TheViews.{rolls-Int, rolls-Bool, rolls-Enum, rolls-Rec, rolls-List, rolls-Nothing, rolls-Some}
use Rattle.dsde_words.specs.Words.{is_word_byte, is_word}
use Rattle.dsde_values.specs.Value.{name_at, variants_at, variants, fields, joined, spelling, fits_int, is_variant, fill, type_step, has_type, IsLawful}
use Rattle.dsde_values.specs.Reading.{AreParts, AreItems}
use Rattle.dsde_values.proofs.Layers.{typed, spelling-Int, spelling-true, spelling-false, spelling-Enum, spelling-Rec, spelling-List, spelling-Nothing, spelling-Some}
use Rattle.dsde_values.proofs.Names.{both_true}
use Rattle.dsde_values.proofs.Numbers.{is_word_byte-digit}
use Rattle.dsde_values.proofs.Typed.{int_fits}
use Rattle.dsde_values.proofs.Variants.{lawful_def, lawful_name}

pub regroup : (a b c d : List ℕ) → ((a ++ b) ++ c) ++ d ≡ a ++ (b ++ (c ++ d))
regroup a b c d = simp append_assoc

module _ (types : Types) where
  -- what a layer of a value answers of a layer of a type
  abbrev answer : Value-F Value → Ty-F Ty → Bool
  answer made seen = type_step types (map-Value Value (Ty → Bool) (has_type types) made) seen

  answered : (v : Value) (t : Ty) (seen : Ty-F Ty) → out-Ty t ≡ seen → has_type types v t ≡ true → answer (out-Value v) seen ≡ true
  answered v t seen outs h = sym (typed types v (out-Value v) t seen (roll-out-Value v) outs) ∙ h

  int_layer : (made : Value-F Value) → answer made open_ty.Int ≡ true → (n : ℤ) × (roll-Value made ≡ value.Int n) × (fits_int n ≡ true)
  int_layer (layer.Int n) h = (n, rolls-Int n, h)
  int_layer (layer.Bool _) h = absurd (false≢true h)
  int_layer (layer.Enum _ _) h = absurd (false≢true h)
  int_layer (layer.Rec _ _) h = absurd (false≢true h)
  int_layer (layer.List _) h = absurd (false≢true h)
  int_layer layer.Nothing h = absurd (false≢true h)
  int_layer (layer.Some _) h = absurd (false≢true h)

  bool_layer : (made : Value-F Value) → answer made open_ty.Bool ≡ true → (b : Bool) × (roll-Value made ≡ value.Bool b)
  bool_layer (layer.Int _) h = absurd (false≢true h)
  bool_layer (layer.Bool b) h = (b, rolls-Bool b)
  bool_layer (layer.Enum _ _) h = absurd (false≢true h)
  bool_layer (layer.Rec _ _) h = absurd (false≢true h)
  bool_layer (layer.List _) h = absurd (false≢true h)
  bool_layer layer.Nothing h = absurd (false≢true h)
  bool_layer (layer.Some _) h = absurd (false≢true h)

  enum_layer : (number : ℕ) (made : Value-F Value) → answer made (open_ty.Enum number) ≡ true → (n : ℕ) × (roll-Value made ≡ value.Enum number n) × (is_variant types number n ≡ true)
  enum_layer number (layer.Int _) h = absurd (false≢true h)
  enum_layer number (layer.Bool _) h = absurd (false≢true h)
  enum_layer number (layer.Enum own n) h =
      let parts = both_true (own == number) (is_variant types number n) h in
      (n, rolls-Enum own n ∙ ap (λ (k : ℕ). value.Enum k n) (eqb-true own number parts.0), parts.1)
  enum_layer number (layer.Rec _ _) h = absurd (false≢true h)
  enum_layer number (layer.List _) h = absurd (false≢true h)
  enum_layer number layer.Nothing h = absurd (false≢true h)
  enum_layer number (layer.Some _) h = absurd (false≢true h)

  rec_layer : (number : ℕ) (made : Value-F Value) → answer made (open_ty.Rec number) ≡ true → (parts : List Value) × (roll-Value made ≡ value.Rec number parts) × AreParts types number parts
  rec_layer number (layer.Int _) h = absurd (false≢true h)
  rec_layer number (layer.Bool _) h = absurd (false≢true h)
  rec_layer number (layer.Enum _ _) h = absurd (false≢true h)
  rec_layer number (layer.Rec own parts) h =
      let both = both_true (own == number) _ h in
      (parts, rolls-Rec own parts ∙ ap (λ (k : ℕ). value.Rec k parts) (eqb-true own number both.0), both.1)
  rec_layer number (layer.List _) h = absurd (false≢true h)
  rec_layer number layer.Nothing h = absurd (false≢true h)
  rec_layer number (layer.Some _) h = absurd (false≢true h)

  list_layer : (inner : Ty) (made : Value-F Value) → answer made (open_ty.List inner) ≡ true → (items : List Value) × (roll-Value made ≡ value.List items) × AreItems types inner items
  list_layer inner (layer.Int _) h = absurd (false≢true h)
  list_layer inner (layer.Bool _) h = absurd (false≢true h)
  list_layer inner (layer.Enum _ _) h = absurd (false≢true h)
  list_layer inner (layer.Rec _ _) h = absurd (false≢true h)
  list_layer inner (layer.List items) h =
      let both = both_true (leb (length (map (has_type types) items)) 65536) _ h in (
        items,
        rolls-List items,
        record {
          few = subst (λ (n : ℕ). n ≤ 65536) (length-map items (has_type types)) (leb-true (length (map (has_type types) items)) 65536 both.0);
          typed = sym (list_all-map (λ (part : Ty → Bool). part inner) (has_type types) items) ∙ both.1;
        },
      )
  list_layer inner layer.Nothing h = absurd (false≢true h)
  list_layer inner (layer.Some _) h = absurd (false≢true h)

  opt_layer : (inner : Ty) (made : Value-F Value) → answer made (open_ty.Opt inner) ≡ true → (roll-Value made ≡ value.Nothing) ⊎ ((part : Value) × (roll-Value made ≡ value.Some part) × (has_type types part inner ≡ true))
  opt_layer inner (layer.Int _) h = absurd (false≢true h)
  opt_layer inner (layer.Bool _) h = absurd (false≢true h)
  opt_layer inner (layer.Enum _ _) h = absurd (false≢true h)
  opt_layer inner (layer.Rec _ _) h = absurd (false≢true h)
  opt_layer inner (layer.List _) h = absurd (false≢true h)
  opt_layer inner layer.Nothing h = inl rolls-Nothing
  opt_layer inner (layer.Some part) h = inr (part, rolls-Some part, h)

  -- the values of whole numbers, truths, enums, records, lists and options
  pub of_Int : (v : Value) → has_type types v ty.Int ≡ true → (n : ℤ) × (v ≡ value.Int n) × (fits_int n ≡ true)
  of_Int v h = let p = int_layer (out-Value v) (answered v ty.Int open_ty.Int ty_Int h) in (p.0, sym (roll-out-Value v) ∙ p.1, p.2)

  pub of_Bool : (v : Value) → has_type types v ty.Bool ≡ true → (b : Bool) × (v ≡ value.Bool b)
  of_Bool v h = let p = bool_layer (out-Value v) (answered v ty.Bool open_ty.Bool ty_Bool h) in (p.0, sym (roll-out-Value v) ∙ p.1)

  pub of_Enum : (number : ℕ) (v : Value) → has_type types v (ty.Enum number) ≡ true → (n : ℕ) × (v ≡ value.Enum number n) × (is_variant types number n ≡ true)
  of_Enum number v h = let p = enum_layer number (out-Value v) (answered v (ty.Enum number) (open_ty.Enum number) (ty_Enum number) h) in (p.0, sym (roll-out-Value v) ∙ p.1, p.2)

  pub of_Rec : (number : ℕ) (v : Value) → has_type types v (ty.Rec number) ≡ true → (parts : List Value) × (v ≡ value.Rec number parts) × AreParts types number parts
  of_Rec number v h = let p = rec_layer number (out-Value v) (answered v (ty.Rec number) (open_ty.Rec number) (ty_Rec number) h) in (p.0, sym (roll-out-Value v) ∙ p.1, p.2)

  pub of_List : (inner : Ty) (v : Value) → has_type types v (ty.List inner) ≡ true → (items : List Value) × (v ≡ value.List items) × AreItems types inner items
  of_List inner v h = let p = list_layer inner (out-Value v) (answered v (ty.List inner) (open_ty.List inner) (ty_List inner) h) in (p.0, sym (roll-out-Value v) ∙ p.1, p.2)

  pub of_Opt : (inner : Ty) (v : Value) → has_type types v (ty.Opt inner) ≡ true → (v ≡ value.Nothing) ⊎ ((part : Value) × (v ≡ value.Some part) × (has_type types part inner ≡ true))
  of_Opt inner v h =
      elim (opt_layer inner (out-Value v) (answered v (ty.Opt inner) (open_ty.Opt inner) (ty_Opt inner) h)) [
        | inl none ↦ inl (sym (roll-out-Value v) ∙ none)
        | inr some ↦ inr (some.0, sym (roll-out-Value v) ∙ some.1, some.2)
      ]

  -- what a text begins with, where it doesn't begin with a bracket that closes a list
  abbrev Opens : List ℕ → Type 0
  Opens text = (byte : ℕ) × (tail : List ℕ) × (text ≡ byte ∷ tail) × (byte ≢ 93)

  word_opens : (text rest : List ℕ) → is_word text ≡ true → Opens (text ++ rest)
  word_opens [] rest is = absurd (false≢true is)
  word_opens (byte ∷ text) rest is =
      let parts = both_true _ (list_all is_word_byte (byte ∷ text)) is in
      let first = both_true (is_word_byte byte) (list_all is_word_byte text) parts.1 in
      (byte, text ++ rest, refl, λ e. false≢true (ap is_word_byte (sym e) ∙ first.0))

  digits_open : (digits : List ℕ) → 0 < length digits → AllDigits 10 digits → Opens digits
  digits_open [] some all = absurd (omega arith)
  digits_open (digit ∷ digits) some all =
      (digit, digits, refl, λ e. false≢true (ap is_word_byte (sym e) ∙ is_word_byte-digit digit all.0))

  number_opens : (n : ℤ) → FitsSigned w64 n → Opens (signed_decimal n)
  number_opens (pos n) fits =
      let digits = (decimal_is_IsNumeral n (omega (arith, fits.sfits))).0 in digits_open (decimal n) digits.0 digits.1
  number_opens (negsuc n) fits = (45, decimal (suc n), refl, λ e. absurd (omega (arith, e)))

  opens_along : (text other : List ℕ) → text ≡ other → Opens other → Opens text
  opens_along text other same opens = (opens.0, opens.1, same ∙ opens.2, opens.3)

  truth_opens : (b : Bool) → Opens (spelling types (value.Bool b))
  truth_opens true = opens_along _ _ (spelling-true types) (116, codes "rue", refl, λ e. absurd (omega (arith, e)))
  truth_opens false = opens_along _ _ (spelling-false types) (102, codes "alse", refl, λ e. absurd (omega (arith, e)))

  module _ (lawful : IsLawful types) (number : ℕ) where
    enum_named : (found : Option Def) → found ≡ slice_get types.defs number → 0 < length (option_map_or (λ (def : Def). variants def.shape) found []) → is_word (option_map_or (λ (def : Def). def.name) found []) ≡ true
    enum_named None is some = absurd (omega arith)
    enum_named (Some def) is some = lawful_name def (lawful_def types number def lawful (sym is))

    pub name_of_enum : (n : ℕ) → is_variant types number n ≡ true → is_word (name_at types number) ≡ true
    name_of_enum n is =
        enum_named (slice_get types.defs number) refl
        (some (length (variants_at types number)) (both_true _ _ is).1)
      where
        some : (size : ℕ) → ltb n size ≡ true → 0 < size
        some size less = let h = ltb-true n size less in omega arith

    rec_named : (found : Option Def) (parts : List (Ty → Bool)) → found ≡ slice_get types.defs number → option_map_or (fill parts) (option_and_then (λ (def : Def). fields def.shape) found) false ≡ true → is_word (option_map_or (λ (def : Def). def.name) found []) ≡ true
    rec_named None parts is h = absurd (false≢true h)
    rec_named (Some def) parts is h = lawful_name def (lawful_def types number def lawful (sym is))

    pub name_of_record : (parts : List Value) → AreParts types number parts → is_word (name_at types number) ≡ true
    name_of_record parts are = rec_named (slice_get types.defs number) (map (has_type types) parts) refl are

  opens : (lawful : IsLawful types) (v : Value) (t : Ty) (seen : Ty-F Ty) → out-Ty t ≡ seen → has_type types v t ≡ true → Opens (spelling types v)
  opens lawful v t open_ty.Int outs h =
      let p = int_layer (out-Value v) (answered v t open_ty.Int outs h) in
      opens_along _ _ (ap (spelling types) (sym (roll-out-Value v) ∙ p.1) ∙ spelling-Int types p.0) (number_opens p.0 ((int_fits p.0).1 p.2))
  opens lawful v t open_ty.Bool outs h =
      let p = bool_layer (out-Value v) (answered v t open_ty.Bool outs h) in
      opens_along _ _ (ap (spelling types) (sym (roll-out-Value v) ∙ p.1)) (truth_opens p.0)
  opens lawful v t (open_ty.Enum number) outs h =
      let p = enum_layer number (out-Value v) (answered v t (open_ty.Enum number) outs h) in
      opens_along _ _ (ap (spelling types) (sym (roll-out-Value v) ∙ p.1) ∙ spelling-Enum types number p.0 ∙ append_assoc (name_at types number) (codes "::") _) (word_opens (name_at types number) _ (name_of_enum lawful number p.0 p.2))
  opens lawful v t (open_ty.Rec number) outs h =
      let p = rec_layer number (out-Value v) (answered v t (open_ty.Rec number) outs h) in
      opens_along _ _ (ap (spelling types) (sym (roll-out-Value v) ∙ p.1) ∙ spelling-Rec types number p.0 ∙ regroup (name_at types number) (codes "{") _ (codes "}")) (word_opens (name_at types number) _ (name_of_record lawful number p.0 p.2))
  opens lawful v t (open_ty.List inner) outs h =
      let p = list_layer inner (out-Value v) (answered v t (open_ty.List inner) outs h) in
      opens_along _ _ (ap (spelling types) (sym (roll-out-Value v) ∙ p.1) ∙ spelling-List types p.0) (91, joined (map (spelling types) p.0) ++ codes "]", refl, λ e. absurd (omega (arith, e)))
  opens lawful v t (open_ty.Opt inner) outs h =
      elim (opt_layer inner (out-Value v) (answered v t (open_ty.Opt inner) outs h)) [
        | inl none ↦ opens_along _ _ (ap (spelling types) (sym (roll-out-Value v) ∙ none) ∙ spelling-Nothing types) (110, codes "one", refl, λ e. absurd (omega (arith, e)))
        | inr some ↦ opens_along _ _ (ap (spelling types) (sym (roll-out-Value v) ∙ some.1) ∙ spelling-Some types some.0) (115, codes "ome(" ++ spelling types some.0 ++ codes ")", refl, λ e. absurd (omega (arith, e)))
      ]

  -- No value's text begins as a list ends.
  pub not_close : (lawful : IsLawful types) (v : Value) (t : Ty) (more rest : List ℕ) → has_type types v t ≡ true → spelling types v ++ more ≢ 93 ∷ rest
  not_close lawful v t more rest h same =
      let p = opens lawful v t (out-Ty t) refl h in
      let first : p.0 ∷ (p.1 ++ more) ≡ 93 ∷ rest = ap (λ (text : List ℕ). text ++ more) (sym p.2) ∙ same in
      p.3 (cc)
