-- Equality of values, as tests.
use Rattle.std.specs.Prelude.{◌==◌, Bool, true, false, ◌&&◌, not, List, [], ◌∷◌, map}
use Rattle.std.specs.Ordering.{int_eq}
use Rattle.dsde_values.specs.declared.value.Value.{Value, Value-F, fold-Value, out-Value}
use Rattle.dsde_values.specs.declared.value.Value.TheOpen as layer

-- two truth values
abbrev pub is_same_truth : Bool → Bool → Bool
is_same_truth true other = other
is_same_truth false other = not other

-- as many tests as values, and each passes
abbrev pub pass_each : List (Value → Bool) → List Value → Bool
pass_each [] [] = true
pass_each (test ∷ tests) (value ∷ values) = test value && pass_each tests values
pass_each _ _ = false

-- one value, with the test of each part in its place, against another
abbrev pub same_step : Value-F (Value → Bool) → Value-F Value → Bool
same_step (layer.Int number) (layer.Int same) = int_eq number same
same_step (layer.Bool truth) (layer.Bool same) = is_same_truth truth same
same_step (layer.Enum number variant) (layer.Enum own same) = number == own && variant == same
same_step (layer.Rec number tests) (layer.Rec own parts) = number == own && pass_each tests parts
same_step (layer.List tests) (layer.List items) = pass_each tests items
same_step layer.Nothing layer.Nothing = true
same_step (layer.Some test) (layer.Some inner) = test inner
same_step _ _ = false

-- whether two values are equal
unfoldable pub is_same_value : Value → Value → Bool
is_same_value = fold-Value (Value → Bool) (λ tests other. same_step tests (out-Value other))

-- whether two lists of values are equal
abbrev pub are_same_values : List Value → List Value → Bool
are_same_values values = pass_each (map is_same_value values)
