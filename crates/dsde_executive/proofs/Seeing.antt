-- What the structure of a network sees.
use Rattle.std.proofs.Common.{◌≡◌, List, [], ◌∷◌, ◌++◌, Option, Some, refl, ◌∙◌, ap}
use Rattle.dsde_language.specs.given.syntax.decl_Model.{Model}
use Rattle.dsde_values.specs.declared.types.Field.{Field}
use Rattle.dsde_values.specs.declared.types.Types.{Types}
use Rattle.dsde_values.specs.declared.value.Value.{Value}
use Rattle.dsde_language.specs.DeclaredModels.{types_of, Own, param_slots, state_slots}
use Rattle.dsde_language.specs.Meaning.{Vars}
use Rattle.dsde_language.specs.Typed.{Fits, values_in}
use Rattle.dsde_sound_structures.specs.given.sound_expressions.Bodies.{body_slots}
use Rattle.dsde_sound_structures.specs.given.system.Body.{vars_of, body_vars}
use Rattle.dsde_sound_structures.specs.given.system.Fitting.{Fill}

pub some-is : {A : Type 0} (o : Option A) (a b : A) → o ≡ Some a → o ≡ Some b → a ≡ b
some-is o a b e h = cc

module _ (types : Types) where
  fits-vars : (fields : List Field) (values : List Value) → Fill types fields values → Fits types (vars_of fields values) fields
  fits-vars [] [] fill = tt
  fits-vars [] (value ∷ values) fill = absurd fill
  fits-vars (field ∷ fields) [] fill = absurd fill
  fits-vars (field ∷ fields) (value ∷ values) fill = (refl, fill.0, fits-vars fields values fill.1)

  values-vars : (fields : List Field) (values : List Value) → Fill types fields values → values_in (vars_of fields values) ≡ values
  values-vars [] [] fill = refl
  values-vars [] (value ∷ values) fill = absurd fill
  values-vars (field ∷ fields) [] fill = absurd fill
  values-vars (field ∷ fields) (value ∷ values) fill = ap (λ (l : List Value). value ∷ l) (values-vars fields values fill.1)

  fits-append : (vars more : Vars) (fields others : List Field) → Fits types vars fields → Fits types more others → Fits types (vars ++ more) (fields ++ others)
  fits-append [] more [] others fits rest = rest
  fits-append [] more (field ∷ fields) others fits rest = absurd fits
  fits-append (var ∷ vars) more [] others fits rest = absurd fits
  fits-append (var ∷ vars) more (field ∷ fields) others fits rest = (fits.0, fits.1, fits-append vars more fields others fits.2 rest)

values-append : (vars more : Vars) → values_in (vars ++ more) ≡ values_in vars ++ values_in more
values-append [] more = refl
values-append (var ∷ vars) more = ap (λ (l : List Value). var.value ∷ l) (values-append vars more)

module _ (model : Model) (own : Own) (args state : List Value) (fill : Fill (types_of model) (param_slots model own) args) (full : Fill (types_of model) (state_slots model own) state) where
  pub body-fits : Fits (types_of model) (body_vars model own args state) (body_slots model own)
  body-fits = fits-append (types_of model) (vars_of (param_slots model own) args) (vars_of (state_slots model own) state) (param_slots model own) (state_slots model own)
      (fits-vars (types_of model) (param_slots model own) args fill) (fits-vars (types_of model) (state_slots model own) state full)

  pub body-are : values_in (body_vars model own args state) ≡ args ++ state
  body-are =
      values-append (vars_of (param_slots model own) args) (vars_of (state_slots model own) state)
      ∙ ap (λ (l : List Value). l ++ values_in (vars_of (state_slots model own) state)) (values-vars (types_of model) (param_slots model own) args fill)
      ∙ ap (λ (l : List Value). args ++ l) (values-vars (types_of model) (state_slots model own) state full)
