-- What a body sees.
use Rattle.std.proofs.Common.{◌≡◌, ℕ, false, List, ◌++◌, Some, Result, Ok, Err, sym, ◌∙◌, ap, subst}
use Rattle.dsde_language.specs.given.syntax.decl_Model.{Model}
use Rattle.dsde_values.specs.declared.types.Ty.TheVariants as ty
use Rattle.dsde_values.specs.declared.value.Value.{Value}
use Rattle.dsde_values.specs.declared.when.When.{When}
use Rattle.dsde_faults.specs.declared.kind.Site.TheVariants as site
use Rattle.dsde_faults.specs.declared.end.EvalEnd.{EvalEnd}
use Rattle.dsde_faults.specs.declared.end.LeafEnd.{LeafEnd}
use Rattle.dsde_language.specs.declared.code.Code.{Code}
use Rattle.dsde_language.specs.declared.ids.ModelId.{ModelId}
use Rattle.dsde_language.specs.DeclaredModels.{types_of, Own, param_slots, state_slots}
use Rattle.dsde_language.specs.Outcome.{Stuck, Outcome, ◌>>=◌, Gives}
use Rattle.dsde_language.specs.Typed.{Typed, Fits, values_in}
use Rattle.dsde_system.specs.given.sound_expressions.Bodies.{BodyStands, body_slots}
use Rattle.dsde_system.specs.given.formalism.Leaf as formalism
use Rattle.dsde_system.specs.given.formalism.System.{Component}
use Rattle.dsde_language.specs.Functions.{mean_of}
use Rattle.dsde_system.specs.given.sound_expressions.Conditions.{CanEval, Came}
use Rattle.dsde_system.specs.Body.{vars_of, body_vars, at_site, due}
use Rattle.dsde_system.specs.Program.{system, component}
use Rattle.dsde_system.specs.Fitting.{Fill, FitsArgs, FitsState}
use Rattle.dsde_atomic.specs.Steps.{own_at, sited, due_by, FitsBody}
use Rattle.dsde_system.specs.given.sound_expressions.lemmas_Outcomes.{sound-given}
use Rattle.dsde_atomic.proofs.Ends.{some-is, site-end, site-ok, then-end, component-is}
use Rattle.dsde_atomic.proofs.Filling.{fits-vars, values-vars, fill-append, fits-append, values-append}
use Rattle.dsde_atomic.proofs.Advances.{is-advance}

module _ (model : Model) (number : ℕ) where
  pub args-fill : (args : List Value) (own : Own) → FitsArgs model number args → own_at model number ≡ Some own → Fill (types_of model) (param_slots model own) args
  args-fill args own fits found = subst (λ (o : Own). Fill (types_of model) (param_slots model o) args) (some-is (own_at model number) fits.own own fits.found found) fits.fill

  pub state-fill : (state : List Value) (own : Own) → FitsState model number state → own_at model number ≡ Some own → Fill (types_of model) (state_slots model own) state
  state-fill state own fits found = subst (λ (o : Own). Fill (types_of model) (state_slots model o) state) (some-is (own_at model number) fits.own own fits.found found) fits.fill

  -- Arguments and state are what a body sees.
  pub body-of : (args state values : List Value) → FitsArgs model number args → FitsState model number state → values ≡ args ++ state → FitsBody model number values
  body-of args state values fits own_state is = record {
    own = fits.own;
    found = fits.found;
    fill = subst (λ (l : List Value). Fill (types_of model) (body_slots model fits.own) l) (sym is)
        (fill-append (types_of model) (param_slots model fits.own) (state_slots model fits.own) args state fits.fill (state-fill state fits.own own_state fits.found));
  }

module _ (model : Model) (own : Own) (args state : List Value) (fill : Fill (types_of model) (param_slots model own) args) (full : Fill (types_of model) (state_slots model own) state) where
  pub body-fits : Fits (types_of model) (body_vars model own args state) (body_slots model own)
  body-fits = fits-append (types_of model) (vars_of (param_slots model own) args) (vars_of (state_slots model own) state) (param_slots model own) (state_slots model own)
      (fits-vars (types_of model) (param_slots model own) args fill) (fits-vars (types_of model) (state_slots model own) state full)

  pub body-are : values_in (body_vars model own args state) ≡ args ++ state
  body-are =
      values-append (vars_of (param_slots model own) args) (vars_of (state_slots model own) state)
      ∙ ap (λ (l : List Value). l ++ values_in (vars_of (state_slots model own) state)) (values-vars (types_of model) (param_slots model own) args fill)
      ∙ ap (λ (l : List Value). args ++ l) (values-vars (types_of model) (state_slots model own) state full)

module _ (model : Model) (number : ModelId) (code : Code) (stands : (own : Own) → own_at model number.0 ≡ Some own → BodyStands model own code) (values : List Value) (fits : FitsBody model number.0 values) where
  abbrev pub due-can : CanEval model code.advance.0 values
  due-can = record {
    total = false;
    slots = body_slots model fits.own;
    expr = fits.own.body.advance;
    ty = ty.Opt ty.Int;
    vars = vars_of (body_slots model fits.own) values;
    is = (stands fits.own fits.found).advance;
    fits = fits-vars (types_of model) (body_slots model fits.own) values fits.fill;
    are = values-vars (types_of model) (body_slots model fits.own) values fits.fill;
  }

  module _ (result : Result Value EvalEnd) (came : Came model code.advance.0 values result) (time : ℕ) where
    abbrev own-mean : Outcome Value
    own-mean = mean_of model fits.own.body.advance (vars_of (body_slots model fits.own) values)

    pub due-advance : (advance : Value) → result ≡ Ok advance → due_by code.advance_at time advance ≡ Err Stuck → ⊥
    due-advance advance given =
        is-advance (types_of model) code.advance_at time advance
        (sound-given false (Typed (types_of model) (ty.Opt ty.Int)) own-mean advance
        (came.sound false (body_slots model fits.own) fits.own.body.advance (ty.Opt ty.Int) due-can.vars due-can.is due-can.fits due-can.are)
        (subst (λ (r : Result Value EvalEnd). Gives own-mean r) given (came.gives false (body_slots model fits.own) fits.own.body.advance (ty.Opt ty.Int) due-can.vars due-can.is due-can.fits due-can.are)))

    module _ (args state : List Value) (fits_args : FitsArgs model number.0 args) (fits_state : FitsState model number.0 state) (is : values ≡ args ++ state) where
      abbrev own : Own
      own = fits_args.own

      found : own_at model number.0 ≡ Some own
      found = fits_args.found

      abbrev meant : Outcome Value
      meant = mean_of model own.body.advance (body_vars model own args state)

      meant-gives : Gives meant result
      meant-gives =
          let full : Fill (types_of model) (state_slots model own) state = state-fill model number.0 state own fits_state found in
          came.gives false (body_slots model own) own.body.advance (ty.Opt ty.Int) (body_vars model own args state)
          (stands own found).advance (body-fits model own args state fits_args.fill full)
          (body-are model own args state fits_args.fill full ∙ sym is)

      -- what the component means by its advance
      as-due : (found : (system model).component number args ≡ component model own args) → ((system model).component number args).advance state time ≡ at_site site.Advance (due model own args state time)
      as-due same = ap (λ (c : Component). c.advance state time) same

      to-due : (r : Result When LeafEnd) → formalism.Gives (at_site site.Advance (due model own args state time)) r → formalism.Gives (((system model).component number args).advance state time) r
      to-due r h = subst (λ (o : Result When LeafEnd). formalism.Gives o r) (sym (as-due (component-is model number args own found))) h

      pub due-end : (end : EvalEnd) → result ≡ Err end → formalism.Gives (((system model).component number args).advance state time) (Err (sited site.Advance end))
      due-end end given =
          to-due (Err (sited site.Advance end))
          (site-end site.Advance (due model own args state time) end
          (then-end meant (λ advance. due_by own.body.advance_at time advance) end (subst (λ (r : Result Value EvalEnd). Gives meant r) given meant-gives)))

      meant-due : (advance : Value) → result ≡ Ok advance → due model own args state time ≡ due_by code.advance_at time advance
      meant-due advance given =
          ap (λ (o : Outcome Value). o >>= (λ advance. due_by own.body.advance_at time advance)) (let h : meant ≡ Ok advance = subst (λ (r : Result Value EvalEnd). Gives meant r) given meant-gives in h)
          ∙ ap (λ (n : ℕ). due_by n time advance) (sym (stands own found).advance_at)

      pub due-late : (advance : Value) (end : EvalEnd) → result ≡ Ok advance → Gives (due_by code.advance_at time advance) (let r : Result When EvalEnd = Err end in r) → formalism.Gives (((system model).component number args).advance state time) (Err (sited site.Advance end))
      due-late advance end given gives =
          to-due (Err (sited site.Advance end))
          (site-end site.Advance (due model own args state time) end
          (subst (λ (o : Outcome When). Gives o (let r : Result When EvalEnd = Err end in r)) (sym (meant-due advance given)) gives))

      pub due-next : (advance : Value) (next : When) → result ≡ Ok advance → due_by code.advance_at time advance ≡ Ok next → ((system model).component number args).advance state time ≡ Ok next
      due-next advance next given is_next =
          as-due (component-is model number args own found) ∙ site-ok site.Advance (due model own args state time) next (meant-due advance given ∙ is_next)
