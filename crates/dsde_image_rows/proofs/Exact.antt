-- Values and their texts.
use Rattle.std.proofs.Common.{◌≡◌, ◌↔◌, ℕ, true, false, ◌&&◌, Bool, List, [], ◌∷◌, ◌++◌, map, Option, Some, None, refl, sym, ap, ◌∙◌, append-nil}
use Rattle.dsde_values.specs.declared.types.Field.{Field}
use Rattle.dsde_values.specs.declared.types.Ty.{Ty}
use Rattle.dsde_values.specs.declared.types.Types.{Types}
use Rattle.dsde_values.specs.declared.value.Value.{Value}
use Rattle.dsde_values.specs.Value.{HasType, spelling}
use Rattle.dsde_values.proofs.Typed.{HasType-is}
use Rattle.dsde_values.specs.Word.{goes_on, ends_word}
use Rattle.dsde_sound_structures.specs.given.system.Fitting.{Fill}
use Rattle.dsde_sound_structures.specs.given.input_records.Reading.{value_of}
use Rattle.dsde_image_rows.specs.Script.{if_whole, whole_value, before, values_of}

no-more : (text : List ℕ) → goes_on text [] ≡ false
no-more text = and-false (ends_word text)
  where
    and-false : (b : Bool) → (b && false) ≡ false
    and-false true = refl
    and-false false = refl

some-is : {A : Type 0} {x y : A} → (let own : Option A = Some x in own ≡ Some y) → x ≡ y
some-is is = cc

module _ (types : Types) (spelled : (ty : Ty) (bytes : List ℕ) (value : Value) (rest : List ℕ) → (value_of types ty bytes ≡ Some (value, rest)) ↔ (HasType types value ty × (bytes ≡ spelling types value ++ rest) × (goes_on (spelling types value) rest ≡ false))) where
  whole-is : (ty : Ty) (text : List ℕ) (value : Value) (read : Option (Value × List ℕ)) → value_of types ty text ≡ read → if_whole read ≡ Some value → spelling types value ≡ text
  whole-is ty text value None is found = absurd (cc found)
  whole-is ty text value (Some (own, [])) is found =
      let parts = (spelled ty text own []).0 is in
      ap (spelling types) (sym (some-is found)) ∙ sym (append-nil (spelling types own)) ∙ sym parts.1
  whole-is ty text value (Some (own, byte ∷ bytes)) is found = absurd (cc found)

  whole-again : (ty : Ty) (value : Value) → HasType types value ty → whole_value types ty (spelling types value) ≡ Some value
  whole-again ty value typed = ap if_whole ((spelled ty (spelling types value) value []).1 (typed, sym (append-nil (spelling types value)), no-more (spelling types value)))

  before-is : (first : Option Value) (later : Option (List Value)) (values : List Value) → before first later ≡ Some values →
      (value : Value) × (rest : List Value) × (first ≡ Some value) × (later ≡ Some rest) × (value ∷ rest ≡ values)
  before-is (Some value) (Some rest) values is = (value, rest, refl, refl, some-is is)
  before-is (Some value) None values is = absurd (cc is)
  before-is None later values is = absurd (cc is)

  pub values-are : (fields : List Field) (own : List (List ℕ)) (values : List Value) → values_of types fields own ≡ Some values → map (spelling types) values ≡ own
  values-are [] [] values is = ap (map (spelling types)) (sym (some-is is))
  values-are [] (text ∷ own) values is = absurd (cc is)
  values-are (field ∷ fields) [] values is = absurd (cc is)
  values-are (field ∷ fields) (text ∷ own) values is =
      let parts = before-is (whole_value types field.ty text) (values_of types fields own) values is in
      ap (map (spelling types)) (sym parts.4)
      ∙ ap (λ (first : List ℕ). first ∷ map (spelling types) parts.1) (whole-is field.ty text parts.0 (value_of types field.ty text) refl parts.2)
      ∙ ap (λ (rest : List (List ℕ)). text ∷ rest) (values-are fields own parts.1 parts.3)

  pub values-again : (fields : List Field) (values : List Value) → Fill types fields values → values_of types fields (map (spelling types) values) ≡ Some values
  values-again [] [] typed = refl
  values-again [] (value ∷ values) typed = absurd typed
  values-again (field ∷ fields) [] typed = absurd typed
  values-again (field ∷ fields) (value ∷ values) typed =
      ap (λ (first : Option Value). before first (values_of types fields (map (spelling types) values))) (whole-again field.ty value ((HasType-is types value field.ty).1 typed.0.has))
      ∙ ap (before (Some value)) (values-again fields values typed.1)
