-- Values that whole texts spell, by what one of them spells.
use Rattle.std.specs.Prelude.{ℕ, List, [], ◌∷◌, Option, Some, None}
use Rattle.dsde_values.specs.declared.types.Field.{Field}
use Rattle.dsde_values.specs.declared.types.Ty.{Ty}
use Rattle.dsde_values.specs.declared.types.Types.{Types}
use Rattle.dsde_values.specs.declared.value.Value.{Value}
use Rattle.dsde_image_rows.specs.Script.{before, whole_value}

-- the value of a type that a whole text spells; the readers of many need not open it
unfoldable pub spelled_value : Types → Ty → List ℕ → Option Value
spelled_value types ty text = whole_value types ty text

-- the values of fields that texts spell by this reading, one each in their order
abbrev pub values_by : (Ty → List ℕ → Option Value) → List Field → List (List ℕ) → Option (List Value)
values_by read [] [] = Some []
values_by read (field ∷ fields) (text ∷ texts) = before (read field.ty text) (values_by read fields texts)
values_by read _ _ = None
