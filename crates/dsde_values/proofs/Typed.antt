-- What has a type, by its cases.
use Rattle.std.proofs.Common.{◌≡◌, ◌≢◌, ◌^◌, ℤ, pos, negsuc, Bool, true, false, List, [], ◌∷◌, length, map, refl, sym, ◌∙◌, ap, arith, FitsSigned}
use Rattle.std.specs.Prelude.{◌↔◌}
use Rattle.std.specs.Int.{w64}
use Rattle.std.proofs.lemmas.Bool.{false≢true}
use Rattle.std.proofs.lemmas.List.{length-map}
use borrow.Author.Tests.{ltb-true, lt-ltb}
use Rattle.dsde_values.specs.declared.types.Field.{Field}
use Rattle.dsde_values.specs.declared.types.Ty.{Ty}
use Rattle.dsde_values.specs.declared.types.Ty.TheOpen as open_ty
use Rattle.dsde_values.specs.declared.types.Ty.TheVariants as ty
use Rattle.dsde_values.specs.declared.types.Ty.TheViews.{outs-Int as ty_Int}
use Rattle.dsde_values.specs.declared.types.Types.{Types}
use Rattle.dsde_values.specs.declared.value.Value.{Value, Value-F, out-Value, roll-out-Value, map-Value}
use Rattle.dsde_values.specs.declared.value.Value.TheOpen as layer
use Rattle.dsde_values.specs.declared.value.Value.TheVariants as value
use Rattle.dsde_values.specs.declared.value.Value.TheViews.{outs-Bool, outs-Enum, outs-Rec', outs-List', outs-Nothing, outs-Some'}
use Rattle.dsde_values.specs.Value.{fits_int, fill, type_step, has_type, IsInt, HasType}
use Rattle.dsde_values.proofs.Layers.{typed, typed-Int}
use Rattle.dsde_values.proofs.Names.{both_true}

-- Parts fill as many fields as there are.
pub fill-lengths : (parts : List (Ty → Bool)) (fields : List Field) → fill parts fields ≡ true → length parts ≡ length fields
fill-lengths [] [] h = refl
fill-lengths [] (field ∷ fields) h = absurd (false≢true h)
fill-lengths (part ∷ parts) [] h = absurd (false≢true h)
fill-lengths (part ∷ parts) (field ∷ fields) h =
    let rest = fill-lengths parts fields (both_true (part field.ty) (fill parts fields) h).1 in omega arith

not_filled : (filled : Bool) → ¬ (filled ≡ true) → false ≡ filled
not_filled true none = absurd (none refl)
not_filled false none = refl

-- values in another number than fields
pub fill-apart : (types : Types) (values : List Value) (fields : List Field) → length values ≢ length fields → false ≡ fill (map (has_type types) values) fields
fill-apart types values fields apart =
    not_filled (fill (map (has_type types) values) fields)
    (λ h. apart (sym (length-map values (has_type types)) ∙ fill-lengths (map (has_type types) values) fields h))

pub int_fits : (number : ℤ) → FitsSigned w64 number ↔ (fits_int number ≡ true)
int_fits (pos n) = (λ fits. lt-ltb n (2 ^ 63) (omega (arith, fits.sfits)), λ e. record { sfits = ltb-true n (2 ^ 63) e })
int_fits (negsuc n) = (λ fits. lt-ltb n (2 ^ 63) (omega (arith, fits.sfits)), λ e. record { sfits = ltb-true n (2 ^ 63) e })

-- a value that is no whole number
no_int : (types : Types) (v : Value) (made : Value-F Value) → out-Value v ≡ made → type_step types (map-Value Value (Ty → Bool) (has_type types) made) open_ty.Int ≡ false → ⊥ ↔ (has_type types v ty.Int ≡ true)
no_int types v made outs none =
    let is : has_type types v ty.Int ≡ false =
    typed types v (out-Value v) ty.Int open_ty.Int (roll-out-Value v) ty_Int
    ∙ ap (λ (parts : Value-F Value). type_step types (map-Value Value (Ty → Bool) (has_type types) parts) open_ty.Int) outs ∙ none in
    (λ never. absurd never, λ e. false≢true (sym is ∙ e))

int_is : (types : Types) (v : Value) → IsInt v ↔ (has_type types v ty.Int ≡ true)
int_is types (value.Int number) =
    (λ fits. typed-Int types number ∙ (int_fits number).0 fits, λ e. (int_fits number).1 (sym (typed-Int types number) ∙ e))
int_is types (value.Bool truth) = no_int types (value.Bool truth) (layer.Bool truth) (outs-Bool truth) refl
int_is types (value.Enum number variant) = no_int types (value.Enum number variant) (layer.Enum number variant) (outs-Enum number variant) refl
int_is types (value.Rec' number shape row) = no_int types (value.Rec' number shape row) _ (outs-Rec' number shape row) refl
int_is types (value.List' shape row) = no_int types (value.List' shape row) _ (outs-List' shape row) refl
int_is types value.Nothing = no_int types value.Nothing layer.Nothing outs-Nothing refl
int_is types (value.Some' shape row) = no_int types (value.Some' shape row) _ (outs-Some' shape row) refl

-- The test says what has a type.
pub HasType-is : (types : Types) (v : Value) (t : Ty) → HasType types v t ↔ (has_type types v t ≡ true)
HasType-is types v ty.Int = int_is types v
HasType-is types v t = (λ h. h, λ h. h)
