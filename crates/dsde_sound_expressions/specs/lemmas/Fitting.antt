-- Variables of slots: their places and types, assignments, one more, and those behind braces.
use Rattle.std.proofs.Common.{◌≡◌, ℕ, zero, suc, ◌<◌, true, List, [], ◌∷◌, ◌++◌, take, length, Option, Some, refl, sym, ◌∙◌, ap, subst, slice_get, slice_set, nat_lt, arith}
use Rattle.std.specs.Str.{bytes_eq}
use Rattle.std.proofs.lemmas.Bool.{lt-ltb}
use Rattle.std.proofs.lemmas.List.{length-map, map-append}
use Rattle.dsde_language.specs.given.names.Table.{place_of}
use Rattle.dsde_language.specs.given.values.arrival_Item.{Item}
use Rattle.dsde_language.specs.given.values.types_Field.{Field}
use Rattle.dsde_language.specs.given.values.types_Ty.{Ty}
use Rattle.dsde_language.specs.given.values.types_Types.{Types}
use Rattle.dsde_language.specs.given.values.value_Value.{Value}
use Rattle.dsde_language.specs.RuleTables.{field_name}
use Rattle.dsde_language.specs.Meaning.{Var, Vars, var_name}
use Rattle.dsde_language.specs.Typed.{Typed, AllTyped, Fits, IsSent, AllSent, values_in}
use Rattle.dsde_sound_expressions.specs.lemmas.Places.{next_place, place-cons}

abbrev pub var_of : List ℕ → Value → Var
var_of name own = record { name = name; value = own }

abbrev pub field_of : List ℕ → Ty → Field
field_of name own = record { name = name; ty = own }

module _ (types : Types) where
  pub fits-snoc : (vars : Vars) (slots : List Field) (name : List ℕ) (own : Ty) (value : Value) → Fits types vars slots → Typed types own value
      → Fits types (vars ++ var_of name value ∷ []) (slots ++ field_of name own ∷ [])
  fits-snoc [] [] name own value fits typed = (refl, typed, tt)
  fits-snoc [] (field ∷ slots) name own value fits typed = absurd fits
  fits-snoc (var ∷ vars) [] name own value fits typed = absurd fits
  fits-snoc (var ∷ vars) (field ∷ slots) name own value fits typed = (fits.0, fits.1, fits-snoc vars slots name own value fits.2 typed)

  pub fits-take : (slots more : List Field) (vars : Vars) → Fits types vars (slots ++ more) → Fits types (take (length slots) vars) slots
  fits-take [] more vars fits = tt
  fits-take (field ∷ slots) more [] fits = absurd fits
  fits-take (field ∷ slots) more (var ∷ vars) fits = (fits.0, fits.1, fits-take slots more vars fits.2)

  pub fits-length : (vars : Vars) (slots : List Field) → Fits types vars slots → length vars ≡ length slots
  fits-length [] [] fits = refl
  fits-length [] (field ∷ slots) fits = absurd fits
  fits-length (var ∷ vars) [] fits = absurd fits
  fits-length (var ∷ vars) (field ∷ slots) fits = omega (arith, fits-length vars slots fits.2)

  -- A name has one place among the variables and among the slots.
  pub fits-place : (vars : Vars) (slots : List Field) (name : List ℕ) → Fits types vars slots → place_of var_name vars name ≡ place_of field_name slots name
  fits-place [] [] name fits = refl
  fits-place [] (field ∷ slots) name fits = absurd fits
  fits-place (var ∷ vars) [] name fits = absurd fits
  fits-place (var ∷ vars) (field ∷ slots) name fits =
      place-cons var_name var vars name
      ∙ ap (λ (own : List ℕ). next_place (bytes_eq own name) (place_of var_name vars name)) fits.0
      ∙ ap (λ (place : Option ℕ). next_place (bytes_eq field.name name) place) (fits-place vars slots name fits.2)
      ∙ sym (place-cons field_name field slots name)

  -- an assignment to the variable of a slot
  pub fits-set : (vars : Vars) (slots : List Field) (place : ℕ) (field : Field) (value : Value) → Fits types vars slots → slice_get slots place ≡ Some field → Typed types field.ty value
      → Fits types (slice_set vars place (var_of field.name value)) slots
  fits-set [] [] place field value fits at typed = tt
  fits-set [] (own ∷ slots) place field value fits at typed = absurd fits
  fits-set (var ∷ vars) [] place field value fits at typed = absurd fits
  fits-set (var ∷ vars) (own ∷ slots) zero field value fits at typed =
      let same : own ≡ field = cc at in
      (ap (λ (f : Field). f.name) (sym same), subst (λ (f : Field). Typed types f.ty value) (sym same) typed, fits.2)
  fits-set (var ∷ vars) (own ∷ slots) (suc place) field value fits at typed =
      (fits.0, fits.1, fits-set vars slots place field value fits.2 at typed)

  fits-below : (vars : Vars) (slots : List Field) (place : ℕ) (field : Field) → Fits types vars slots → slice_get slots place ≡ Some field → place < length (values_in vars)
  fits-below [] [] place field fits at = cc
  fits-below [] (own ∷ slots) place field fits at = absurd fits
  fits-below (var ∷ vars) [] place field fits at = absurd fits
  fits-below (var ∷ vars) (own ∷ slots) zero field fits at = omega arith
  fits-below (var ∷ vars) (own ∷ slots) (suc place) field fits at = omega (arith, fits-below vars slots place field fits.2 at)

  pub fits-within : (vars : Vars) (slots : List Field) (place : ℕ) (field : Field) → Fits types vars slots → slice_get slots place ≡ Some field → nat_lt place (length (values_in vars)) ≡ true
  fits-within vars slots place field fits at = lt-ltb place (length (values_in vars)) (fits-below vars slots place field fits at)

  -- one more value of a type, one more item that is sent
  pub typed-snoc : (tys : List Ty) (values : List Value) (t : Ty) (v : Value) → AllTyped types tys values → Typed types t v → AllTyped types (tys ++ t ∷ []) (values ++ v ∷ [])
  typed-snoc [] [] t v all own = (own, tt)
  typed-snoc [] (w ∷ values) t v all own = absurd all
  typed-snoc (u ∷ tys) [] t v all own = absurd all
  typed-snoc (u ∷ tys) (w ∷ values) t v all own = (all.0, typed-snoc tys values t v all.1 own)

  pub sent-snoc : (outs : List Field) (sends : List Item) (item : Item) → AllSent types outs sends → IsSent types outs item → AllSent types outs (sends ++ item ∷ [])
  sent-snoc outs [] item all own = (own, tt)
  sent-snoc outs (first ∷ sends) item all own = (all.0, sent-snoc outs sends item all.1 own)

pub set-values : (vars : Vars) (place : ℕ) (name : List ℕ) (value : Value) → values_in (slice_set vars place (var_of name value)) ≡ slice_set (values_in vars) place value
set-values [] place name value = refl
set-values (own ∷ vars) zero name value = refl
set-values (own ∷ vars) (suc place) name value = ap (λ (l : List Value). own.value ∷ l) (set-values vars place name value)

pub values-snoc : (vars : Vars) (name : List ℕ) (value : Value) → values_in vars ++ value ∷ [] ≡ values_in (vars ++ var_of name value ∷ [])
values-snoc vars name value = sym (map-append (λ (var : Var). var.value) vars (var_of name value ∷ []))

pub values-take : (size : ℕ) (vars : Vars) → take size (values_in vars) ≡ values_in (take size vars)
values-take zero vars = refl
values-take (suc size) [] = refl
values-take (suc size) (var ∷ vars) = ap (λ (l : List Value). var.value ∷ l) (values-take size vars)

pub values-size : (vars : Vars) → length (values_in vars) ≡ length vars
values-size vars = length-map vars (λ (var : Var). var.value)
