-- A value of a type, where its parts are read exactly.
use Rattle.std.proofs.Common.{◌≡◌, ◌==◌, ℕ, ◌^◌, Bool, true, false, List, [], ◌++◌, length, refl, sym, ◌∙◌, ap, subst, append_assoc, cond, ltb}
use Rattle.std.specs.Prelude.{Option, Some, None, codes, option_and_then, slice_index_or}
use Rattle.std.specs.List.{position}
use Rattle.std.specs.Option.{option_map_or}
use Rattle.std.specs.Str.{bytes_eq}
use Rattle.std.proofs.lemmas.Bool.{false≢true}
use Rattle.std.proofs.lemmas.Option.{slice_get_within, get_or_from_slice_get}
use Rattle.std.proofs.lemmas.Slice.Eq.{bytes_eq-Decides}
use borrow.Author.Tests.{eq-eqb, lt-ltb}
use Rattle.dsde_values.specs.given.words.Words.{begins_word}
use Rattle.dsde_values.specs.declared.types.Field.{Field}
use Rattle.dsde_values.specs.declared.types.Ty.{Ty, Ty-F, out-Ty, roll-Ty, roll-out-Ty}
use Rattle.dsde_values.specs.declared.types.Ty.TheVariants as ty
use Rattle.dsde_values.specs.declared.types.Types.{Types}
use Rattle.dsde_values.specs.declared.value.Value.{Value}
use Rattle.dsde_values.specs.declared.value.Value.TheVariants as value
use Rattle.dsde_values.specs.Word.{ends_word, goes_on}
use Rattle.dsde_values.specs.Value.{name_at, variants_at, spelling, is_variant, fill, has_type, IsLawful}
use Rattle.dsde_values.specs.Reading.{truth_text, variant_text}
use Rattle.dsde_values.proofs.Fronts.{and_false, stops}
use Rattle.dsde_values.proofs.Layers.{typed-Enum, spelling-Enum}
use Rattle.dsde_values.proofs.ListReading.{both}
use Rattle.dsde_values.proofs.Names.{both_true, identifier_word}
use Rattle.dsde_values.proofs.Variants.{placed, unplaced, variant_name, variant_named, variant_one, there_is, ends_word-identifier}
use Rattle.dsde_input_records.specs.Reading.{Read, behind, meant, truth_of, variant_of}
use Rattle.dsde_input_records.proofs.Fronts.{followed, behind-front, behind-text, meant-front, meant-text}
use Rattle.dsde_input_records.proofs.Ints.{kept}
use Rattle.dsde_input_records.proofs.Parts.{Front}

-- a type, by its layer
pub type_is : (t : Ty) (seen : Ty-F Ty) (own : Ty) → out-Ty t ≡ seen → roll-Ty seen ≡ own → t ≡ own
type_is t seen own outs rolls = sym (roll-out-Ty t) ∙ ap roll-Ty outs ∙ rolls

truth_here : (one other : Bool) (word : List ℕ) (v : Value) → bytes_eq word (codes "true") ≡ one → bytes_eq word (codes "false") ≡ other → cond one (Some (value.Bool true)) (cond other (Some (value.Bool false)) None) ≡ Some v → (truth : Bool) × (value.Bool truth ≡ v) × (word ≡ truth_text truth)
truth_here true other word v is_one is_other is = (true, cc, (bytes_eq-Decides word (codes "true")).0 is_one)
truth_here false true word v is_one is_other is = (false, cc, (bytes_eq-Decides word (codes "false")).0 is_other)
truth_here false false word v is_one is_other is = absurd (cc)

pub truth_is : (word : List ℕ) (v : Value) → truth_of word ≡ Some v → (truth : Bool) × (value.Bool truth ≡ v) × (word ≡ truth_text truth)
truth_is word v is = truth_here (bytes_eq word (codes "true")) (bytes_eq word (codes "false")) word v refl refl is

pub truth_back : (truth : Bool) → truth_of (truth_text truth) ≡ Some (value.Bool truth)
truth_back true = refl
truth_back false = refl

pub filled_by : (parts : List (Ty → Bool)) (found : Option (List Field)) → option_map_or (fill parts) found false ≡ true → (fields : List Field) × (found ≡ Some fields) × (fill parts fields ≡ true)
filled_by parts None h = absurd (false≢true h)
filled_by parts (Some fields) h = (fields, refl, h)

module _ (types : Types) where
  -- what is at the front, by the value that was made and its text
  pub front_as : (t : Ty) (v own : Value) (text bytes rest : List ℕ) → own ≡ v → has_type types own t ≡ true → spelling types own ≡ text → bytes ≡ text ++ rest → goes_on text rest ≡ false → Front types t bytes v rest
  front_as t v own text bytes rest same typed spelled front ends =
      subst (λ w. Front types t bytes w rest) same
      (record { typed = typed; front = front ∙ ap (λ s. s ++ rest) (sym spelled); ends = ap (λ s. goes_on s rest) spelled ∙ ends })

  pub front_at : (t other : Ty) (bytes : List ℕ) (v : Value) (rest : List ℕ) → t ≡ other → Front types other bytes v rest → Front types t bytes v rest
  front_at t other bytes v rest same front = subst (λ s. Front types s bytes v rest) (sym same) front

  -- what is read of a value, by another that is equal, and by its text
  pub read_as : (reads : List ℕ → Read Value) (v own : Value) (text rest : List ℕ) → v ≡ own → spelling types own ≡ text → reads (text ++ rest) ≡ Some (own, rest) → reads (spelling types v ++ rest) ≡ Some (v, rest)
  read_as reads v own text rest same spelled is =
      ap (λ w. reads (spelling types w ++ rest)) same ∙ ap (λ s. reads (s ++ rest)) spelled ∙ is ∙ ap (λ w. Some (w, rest)) (sym same)

  pub text_as : (v own : Value) (text : List ℕ) → v ≡ own → spelling types own ≡ text → spelling types v ≡ text
  text_as v own text same spelled = ap (spelling types) same ∙ spelled

  module _ (number : ℕ) where
    enum_typed : (n : ℕ) → is_variant types number n ≡ true → has_type types (value.Enum number n) (ty.Enum number) ≡ true
    enum_typed n is = typed-Enum types number n number ∙ both (number == number) (is_variant types number n) (eq-eqb number number refl) is

    pub enum_front : (bytes : List ℕ) (v : Value) (rest : List ℕ) → option_and_then (meant (variant_of types number)) (behind (name_at types number ++ codes "::") bytes) ≡ Some (v, rest) → Front types (ty.Enum number) bytes v rest
    enum_front bytes v rest is =
        let key : List ℕ = name_at types number ++ codes "::" in
        let start = followed (meant (variant_of types number)) (behind key bytes) (v, rest) is in
        let seen = meant-front (variant_of types number) start.0 v rest start.2 in
        let found = followed (λ place. cond (ltb place (2 ^ 32)) (Some (value.Enum number place)) None) (position (λ variant. bytes_eq variant seen.word) (variants_at types number)) v seen.thing_is in
        let own = kept (ltb found.0 (2 ^ 32)) (value.Enum number found.0) v found.2 in
        let here = placed (variants_at types number) seen.word found.0 found.1 in
        let name : slice_index_or (variants_at types number) found.0 [] ≡ seen.word = get_or_from_slice_get (variants_at types number) found.0 seen.word [] here in
        front_as (ty.Enum number) v (value.Enum number found.0) (key ++ seen.word) bytes rest own.1
        (enum_typed found.0 (both (ltb found.0 (2 ^ 32)) (ltb found.0 (length (variants_at types number))) own.0 (lt-ltb found.0 (length (variants_at types number)) (slice_get_within (variants_at types number) found.0 seen.word here))))
        (spelling-Enum types number found.0 ∙ ap (λ text. key ++ text) name)
        (behind-front key bytes start.0 start.1 ∙ ap (λ tail. key ++ tail) seen.front ∙ sym (append_assoc key seen.word rest))
        (and_false (ends_word (key ++ seen.word)) (begins_word rest) seen.end)

    module _ (lawful : IsLawful types) (n : ℕ) (is : is_variant types number n ≡ true) where
      name : List ℕ
      name = variant_name types lawful number n

      place_is : (found : Option ℕ) → position (λ variant. bytes_eq variant name) (variants_at types number) ≡ found → found ≡ Some n
      unfolding name
      place_is None none = absurd (unplaced (variants_at types number) name none n (there_is types lawful number n is))
      place_is (Some place) found = ap Some (variant_one types lawful number place n name (placed (variants_at types number) name place found) (there_is types lawful number n is))

      variant_back : variant_of types number name ≡ Some (value.Enum number n)
      variant_back =
          ap (option_and_then (λ place. cond (ltb place (2 ^ 32)) (Some (value.Enum number place)) None)) (place_is (position (λ variant. bytes_eq variant name) (variants_at types number)) refl)
          ∙ ap (λ fits. cond fits (Some (value.Enum number n)) None) (both_true (ltb n (2 ^ 32)) (ltb n (length (variants_at types number))) is).0

      pub enum_text : (rest : List ℕ) → goes_on (variant_text types number n) rest ≡ false → option_and_then (meant (variant_of types number)) (behind (name_at types number ++ codes "::") (variant_text types number n ++ rest)) ≡ Some (value.Enum number n, rest)
      unfolding name
      enum_text rest none =
          let key : List ℕ = name_at types number ++ codes "::" in
          let identifier = variant_named types lawful number n name (there_is types lawful number n is) in
          let end = stops (variant_text types number n) rest (ends_word-identifier key name identifier) none in
          ap (λ bytes. option_and_then (meant (variant_of types number)) (behind key bytes)) (append_assoc key name rest)
          ∙ ap (option_and_then (meant (variant_of types number))) (behind-text key (name ++ rest))
          ∙ meant-text (variant_of types number) name rest (value.Enum number n) (identifier_word name identifier) end variant_back
