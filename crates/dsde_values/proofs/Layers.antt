-- What is said of a value, by what is said of its parts.
use Rattle.std.proofs.Common.{◌≡◌, ◌==◌, ℕ, Bool, true, false, ◌&&◌, ℤ, List, [], ◌++◌, length, map, refl, sym, ◌∙◌, ap, leb}
use Rattle.std.specs.Prelude.{codes, unwrap_or, slice_index_or}
use Rattle.std.specs.Fmt.{signed_decimal}
use Rattle.std.specs.List.{list_all}
use Rattle.std.proofs.lemmas.List.{length-map}
use Rattle.std.proofs.lemmas.List.Folds.{list_all-map}
use Rattle.std.specs.Option.{option_map_or}
use Rattle.dsde_values.specs.declared.types.Ty.{Ty, Ty-F, out-Ty}
use Rattle.dsde_values.specs.declared.types.Ty.TheOpen as open_ty
use Rattle.dsde_values.specs.declared.types.Ty.TheVariants as ty
use Rattle.dsde_values.specs.declared.types.Ty.TheViews.{outs-Int as ty_Int, outs-Bool as ty_Bool, outs-Enum as ty_Enum, outs-Rec as ty_Rec, outs-List as ty_List, outs-Opt as ty_Opt}
use Rattle.dsde_values.specs.declared.types.Types.{Types}
use Rattle.dsde_values.specs.declared.value.Value.{Value, Value-F, roll-Value, fold-roll-Value, map-Value}
use Rattle.dsde_values.specs.declared.value.Value.TheOpen as layer
use Rattle.dsde_values.specs.declared.value.Value.TheVariants as value
use Rattle.dsde_values.specs.declared.value.Value.TheViews.{rolls-Int, rolls-Bool, rolls-Enum, rolls-Rec, rolls-List, rolls-Nothing, rolls-Some}
use Rattle.dsde_values.specs.Value.{name_at, variants_at, fields_at, joined, field_texts, spelling, spelling_step, fits_int, is_variant, fill, type_step, has_type}

module _ (types : Types) where
  pub spelling-Int : (number : ℤ) → spelling types (value.Int number) ≡ signed_decimal number
  unfolding spelling
  spelling-Int number = ap (spelling types) (sym (rolls-Int number)) ∙ fold-roll-Value (List ℕ) (spelling_step types) (layer.Int number)

  pub spelling-true : spelling types (value.Bool true) ≡ codes "true"
  unfolding spelling
  spelling-true = ap (spelling types) (sym (rolls-Bool true)) ∙ fold-roll-Value (List ℕ) (spelling_step types) (layer.Bool true)

  pub spelling-false : spelling types (value.Bool false) ≡ codes "false"
  unfolding spelling
  spelling-false = ap (spelling types) (sym (rolls-Bool false)) ∙ fold-roll-Value (List ℕ) (spelling_step types) (layer.Bool false)

  pub spelling-Enum : (number variant : ℕ) → spelling types (value.Enum number variant) ≡ name_at types number ++ codes "::" ++ slice_index_or (variants_at types number) variant []
  unfolding spelling
  spelling-Enum number variant = ap (spelling types) (sym (rolls-Enum number variant)) ∙ fold-roll-Value (List ℕ) (spelling_step types) (layer.Enum number variant)

  pub spelling-Rec : (number : ℕ) (parts : List Value) → spelling types (value.Rec number parts) ≡ name_at types number ++ codes "{" ++ joined (field_texts (unwrap_or (fields_at types number) []) (map (spelling types) parts)) ++ codes "}"
  unfolding spelling
  spelling-Rec number parts = ap (spelling types) (sym (rolls-Rec number parts)) ∙ fold-roll-Value (List ℕ) (spelling_step types) (layer.Rec number parts)

  pub spelling-List : (items : List Value) → spelling types (value.List items) ≡ codes "[" ++ joined (map (spelling types) items) ++ codes "]"
  unfolding spelling
  spelling-List items = ap (spelling types) (sym (rolls-List items)) ∙ fold-roll-Value (List ℕ) (spelling_step types) (layer.List items)

  pub spelling-Nothing : spelling types value.Nothing ≡ codes "none"
  unfolding spelling
  spelling-Nothing = ap (spelling types) (sym rolls-Nothing) ∙ fold-roll-Value (List ℕ) (spelling_step types) layer.Nothing

  pub spelling-Some : (inner : Value) → spelling types (value.Some inner) ≡ codes "some(" ++ spelling types inner ++ codes ")"
  unfolding spelling
  spelling-Some inner = ap (spelling types) (sym (rolls-Some inner)) ∙ fold-roll-Value (List ℕ) (spelling_step types) (layer.Some inner)

  abbrev step : Value-F (Ty → Bool) → Ty → Bool
  step parts ty = type_step types parts (out-Ty ty)

  -- a layer's type, by the layer of the type
  pub typed : (v : Value) (made : Value-F Value) (t : Ty) (seen : Ty-F Ty) → roll-Value made ≡ v → out-Ty t ≡ seen → has_type types v t ≡ type_step types (map-Value Value (Ty → Bool) (has_type types) made) seen
  unfolding has_type
  typed v made t seen rolls outs =
      ap (λ (w : Value). has_type types w t) (sym rolls)
      ∙ ap (λ (answers : Ty → Bool). answers t) (fold-roll-Value (Ty → Bool) step made)
      ∙ ap (type_step types (map-Value Value (Ty → Bool) (has_type types) made)) outs

  pub typed-Int : (number : ℤ) → has_type types (value.Int number) ty.Int ≡ fits_int number
  typed-Int number = typed (value.Int number) (layer.Int number) ty.Int open_ty.Int (rolls-Int number) ty_Int

  pub typed-Bool : (truth : Bool) → has_type types (value.Bool truth) ty.Bool ≡ true
  typed-Bool truth = typed (value.Bool truth) (layer.Bool truth) ty.Bool open_ty.Bool (rolls-Bool truth) ty_Bool

  pub typed-Enum : (own variant number : ℕ) → has_type types (value.Enum own variant) (ty.Enum number) ≡ (own == number) && is_variant types number variant
  typed-Enum own variant number = typed (value.Enum own variant) (layer.Enum own variant) (ty.Enum number) (open_ty.Enum number) (rolls-Enum own variant) (ty_Enum number)

  pub typed-Rec : (own : ℕ) (parts : List Value) (number : ℕ) → has_type types (value.Rec own parts) (ty.Rec number) ≡ (own == number) && option_map_or (fill (map (has_type types) parts)) (fields_at types number) false
  typed-Rec own parts number = typed (value.Rec own parts) (layer.Rec own parts) (ty.Rec number) (open_ty.Rec number) (rolls-Rec own parts) (ty_Rec number)

  pub typed-Nothing : (inner : Ty) → has_type types value.Nothing (ty.Opt inner) ≡ true
  typed-Nothing inner = typed value.Nothing layer.Nothing (ty.Opt inner) (open_ty.Opt inner) rolls-Nothing (ty_Opt inner)

  pub typed-Some : (part : Value) (inner : Ty) → has_type types (value.Some part) (ty.Opt inner) ≡ has_type types part inner
  typed-Some part inner = typed (value.Some part) (layer.Some part) (ty.Opt inner) (open_ty.Opt inner) (rolls-Some part) (ty_Opt inner)

  typed-List-step : (items : List Value) (inner : Ty) → has_type types (value.List items) (ty.List inner) ≡ leb (length (map (has_type types) items)) 65536 && list_all (λ (part : Ty → Bool). part inner) (map (has_type types) items)
  typed-List-step items inner = typed (value.List items) (layer.List items) (ty.List inner) (open_ty.List inner) (rolls-List items) (ty_List inner)

  pub typed-List : (items : List Value) (inner : Ty) → has_type types (value.List items) (ty.List inner) ≡ leb (length items) 65536 && list_all (λ (item : Value). has_type types item inner) items
  typed-List items inner = typed-List-step items inner ∙ rw (length-map, list_all-map) refl

-- the texts of values, and their types
pub ruleset spelled = (spelling-Int, spelling-true, spelling-false, spelling-Enum, spelling-Rec, spelling-List, spelling-Nothing, spelling-Some)

pub ruleset typings = (typed-Int, typed-Bool, typed-Enum, typed-Rec, typed-List, typed-Nothing, typed-Some)
