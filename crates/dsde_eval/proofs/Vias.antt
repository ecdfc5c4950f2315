-- Any translation of a model in which nothing is wrong.
use Rattle.std.proofs.Common.{◌≡◌, ◌≢◌, ℕ, ◌<◌, true, List, length, Option, None, Some, is_some, Result, Ok, Err, slice_get, sym, ◌∙◌, ap, subst}
use Rattle.std.specs.Prelude.{IfSome}
use Rattle.std.proofs.lemmas.Option.{slice_get_within}
use Rattle.dsde_language.specs.given.syntax.expr_Expr.{Expr}
use Rattle.dsde_language.specs.given.syntax.decl_Model.{Model}
use Rattle.dsde_values.specs.declared.types.Field.{Field}
use Rattle.dsde_values.specs.declared.types.Ty.{Ty}
use Rattle.dsde_values.specs.declared.types.Ty.TheVariants as ty
use Rattle.dsde_values.specs.declared.value.Value.{Value, Value-F}
use Rattle.dsde_values.specs.declared.value.Value.TheOpen as layer
use Rattle.dsde_values.specs.declared.value.Value.TheVariants as value_of
use Rattle.dsde_values.specs.declared.value.Value.TheViews.{outs-Some}
use Rattle.dsde_faults.specs.declared.kind.FaultKind.{FaultKind}
use Rattle.dsde_faults.specs.declared.end.EvalEnd.{EvalEnd}
use Rattle.dsde_faults.specs.declared.end.EvalEnd.TheVariants as end_of
use Rattle.dsde_language.specs.declared.code.ViaCode.{ViaCode}
use Rattle.dsde_language.specs.DeclaredModels.{types_of}
use Rattle.dsde_language.specs.NodeModels.{resolved}
use Rattle.dsde_language.specs.Outcome.{Stuck, Outcome, Gives, option_of}
use Rattle.dsde_language.specs.Typed.{Typed, Sound}
use Rattle.dsde_sound_expressions.specs.Places.{IsExpr}
use Rattle.dsde_language.specs.Functions.{mean_of}
use Rattle.dsde_sound_expressions.specs.Conditions.{CanEval, Came, IsVia, CanTranslate, Translated, via_values, option_value}
use Rattle.dsde_sound_expressions.specs.lemmas.Outcomes.{sound-given}
use Rattle.dsde_sound_expressions.specs.lemmas.Values.{Held, option-sound}
use Rattle.dsde_eval.specs.Translations.{HasTargetType}
use Rattle.dsde_eval.proofs.Typing.{is-option, total-ok}

-- an option by its layer
abbrev option_in : Value-F Value → Outcome (Option Value)
option_in own = elim own [ layer.Nothing ↦ Ok None | layer.Some inner ↦ Ok (Some inner) | _ ↦ Err Stuck ]

some-is : (a b : ViaCode) → (let r : Option ViaCode = Some a in r) ≡ Some b → a ≡ b
some-is a b e = cc

module _ (model : Model) (number : ℕ) (key : Option Value) (own : Value) where
  pub via-below : CanTranslate model number key own → number < length (resolved model).vias
  via-below can = slice_get_within (resolved model).vias number can.is.code can.is.coded

  module _ (code : ViaCode) (found : Some code ≡ slice_get (resolved model).vias number) (values : List Value) (are_values : values ≡ via_values key own) where
    -- The body stands at the number that its code has.
    body-is : (slots : List Field) (body : Expr) (inner : Ty) → IsVia model number (is_some key) slots body inner → IsExpr model true slots code.body.0 body (ty.Opt inner)
    body-is slots body inner is = subst (λ (c : ViaCode). IsExpr model true slots c.body.0 body (ty.Opt inner)) (some-is is.code code (sym is.coded ∙ sym found)) is.is

    pub via-can : CanTranslate model number key own → CanEval model code.body.0 values
    via-can can = record {
      total = true;
      slots = can.slots;
      expr = can.body;
      ty = ty.Opt can.ty;
      vars = can.vars;
      is = body-is can.slots can.body can.ty can.is;
      fits = can.fits;
      are = can.are ∙ sym are_values;
    }

    module _ (can : CanTranslate model number key own) (result : Result Value EvalEnd) (came : Came model code.body.0 values result) where
      abbrev own-mean : Outcome Value
      own-mean = mean_of model can.body can.vars

      own-gives : Gives own-mean result
      own-gives = came.gives true can.slots can.body (ty.Opt can.ty) can.vars (body-is can.slots can.body can.ty can.is) can.fits (can.are ∙ sym are_values)

      own-sound : Sound true (Typed (types_of model) (ty.Opt can.ty)) own-mean
      own-sound = came.sound true can.slots can.body (ty.Opt can.ty) can.vars (body-is can.slots can.body can.ty can.is) can.fits (can.are ∙ sym are_values)

      pub via-option : (value : Value) → result ≡ Ok value → option_of value ≢ Err Stuck
      via-option value given =
          is-option (types_of model) can.ty value
          (sound-given true (Typed (types_of model) (ty.Opt can.ty)) own-mean value own-sound (subst (λ (r : Result Value EvalEnd). Gives own-mean r) given own-gives))

      -- A translation has no fault.
      pub via-sure : (kind : FaultKind) (at : ℕ) → result ≡ Err (end_of.Fault kind at) → ⊥
      via-sure kind at given = total-ok (Typed (types_of model) (ty.Opt can.ty)) own-mean kind at own-sound (subst (λ (r : Result Value EvalEnd). Gives own-mean r) given own-gives)

      pub via-came : (value : Value) (held : Option Value) → result ≡ Ok value → option_value held ≡ value → Translated model number key own held
      via-came value held given same = λ slots body inner vars is fits are.
          subst (λ (r : Result Value EvalEnd). Gives (mean_of model body vars) r) given (came.gives true slots body (ty.Opt inner) vars (body-is slots body inner is) fits (are ∙ sym are_values))
          ∙ ap (λ (v : Value). (let r : Outcome Value = Ok v in r)) (sym same)

      held-typed : (inner : Ty) (held : Option Value) → Typed (types_of model) (ty.Opt inner) (option_value held) → IfSome held (λ value. Typed (types_of model) inner value)
      held-typed inner None typed = tt
      held-typed inner (Some value) typed =
          let is : option_of (value_of.Some value) ≡ Ok (Some value) = ap option_in (outs-Some value) in
          subst (λ (o : Outcome (Option Value)). Sound true (Held (types_of model) true inner) o) is (option-sound (types_of model) true (value_of.Some value) inner typed)

      pub via-typed : (value : Value) (held : Option Value) → result ≡ Ok value → option_value held ≡ value → HasTargetType model number key own held
      via-typed value held given same = λ slots body inner vars is fits are.
          let sound : Sound true (Typed (types_of model) (ty.Opt inner)) (mean_of model body vars) = came.sound true slots body (ty.Opt inner) vars (body-is slots body inner is) fits (are ∙ sym are_values) in
          let gives : Gives (mean_of model body vars) (Ok value) = subst (λ (r : Result Value EvalEnd). Gives (mean_of model body vars) r) given (came.gives true slots body (ty.Opt inner) vars (body-is slots body inner is) fits (are ∙ sym are_values)) in
          held-typed inner held
          (subst (λ (v : Value). Typed (types_of model) (ty.Opt inner) v) (sym same) (sound-given true (Typed (types_of model) (ty.Opt inner)) (mean_of model body vars) value sound gives))
