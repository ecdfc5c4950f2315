-- Values that are read from whole texts.
use Rattle.std.proofs.Common.{◌≡◌, ◌↔◌, ℕ, false, List, [], ◌∷◌, ◌++◌, Option, Some, None, refl, ap, ◌∙◌}
use Rattle.std.specs.Prelude.{Result, Ok, Err, IfOk}
use Rattle.dsde_lists.specs.declared.memory.Memory.{Memory}
use Rattle.dsde_values.specs.declared.types.Field.{Field}
use Rattle.dsde_values.specs.declared.types.Ty.{Ty}
use Rattle.dsde_values.specs.declared.types.Types.{Types}
use Rattle.dsde_values.specs.declared.value.Value.{Value}
use Rattle.dsde_values.specs.Value.{HasType, spelling}
use Rattle.dsde_values.specs.Word.{Begins, goes_on}
use Rattle.dsde_input_records.specs.Reading.{value_of}
use Rattle.dsde_image_rows.specs.Script.{before, if_whole, values_of, whole_value}
use Rattle.dsde_image_rows.specs.Values.{spelled_value, values_by}

abbrev pub Spelled : Types → Type 0
Spelled types = (ty : Ty) (bytes : List ℕ) (value : Value) (rest : List ℕ) → (value_of types ty bytes ≡ Some (value, rest)) ↔ (HasType types value ty × (bytes ≡ spelling types value ++ rest) × (goes_on (spelling types value) rest ≡ false))

module _ (types : Types) (spelled : Spelled types) (ty : Ty) (text : List ℕ) where
  -- no value is there
  pub none-is : ((value : Value) → HasType types value ty → Begins (spelling types value) text → ⊥) → whole_value types ty text ≡ None
  none-is none = by-found (value_of types ty text) refl
    where
      by-found : (found : Option (Value × List ℕ)) → value_of types ty text ≡ found → if_whole found ≡ None
      by-found None is = refl
      by-found (Some (value, rest)) is =
          let own = (spelled ty text value rest).0 is in
          absurd (none value own.0 (record { rest = rest; front = own.1; ends = own.2 }))

-- values, and what is read behind them
abbrev pub behind : List Value → Option (List Value) → Option (List Value)
behind front None = None
behind front (Some later) = Some (front ++ later)

module _ (types : Types) where
  by-spelled : (fields : List Field) (texts : List (List ℕ)) → values_by (spelled_value types) fields texts ≡ values_of types fields texts
  unfolding spelled_value
  by-spelled [] [] = refl
  by-spelled [] (text ∷ texts) = refl
  by-spelled (field ∷ fields) [] = refl
  by-spelled (field ∷ fields) (text ∷ texts) = ap (λ (later : Option (List Value)). before (whole_value types field.ty text) later) (by-spelled fields texts)

  -- what is read of each text is read of all
  pub all-spelled : (result : Result (Option (List Value)) Memory) (fields : List Field) (texts : List (List ℕ)) →
      IfOk result (λ found. found ≡ values_by (spelled_value types) fields texts) → IfOk result (λ found. found ≡ values_of types fields texts)
  all-spelled (Ok own) fields texts is = is ∙ by-spelled fields texts
  all-spelled (Err why) fields texts is = tt
