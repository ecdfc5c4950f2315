-- The first values of state variables, one behind another.
use Rattle.std.proofs.Common.{◌≡◌, ℕ, ◌+◌, ◌<◌, ◌≤◌, false, List, [], ◌∷◌, ◌++◌, length, drop, Some, Result, Ok, Err, refl, sym, ◌∙◌, ap, subst, append_assoc, length-append, arith}
use Rattle.std.proofs.lemmas.List.{append-nil}
use Rattle.dsde_language.specs.given.syntax.decl_Model.{Model}
use Rattle.dsde_language.specs.given.syntax.decl_StateDecl.{StateDecl}
use Rattle.dsde_values.specs.declared.types.Field.{Field}
use Rattle.dsde_values.specs.declared.value.Value.{Value}
use Rattle.dsde_language.specs.RuleTables.{by_text}
use Rattle.dsde_faults.specs.declared.end.EvalEnd.{EvalEnd}
use Rattle.dsde_language.specs.declared.code.Code.{Code}
use Rattle.dsde_language.specs.declared.node_ids.ExprId.{ExprId}
use Rattle.dsde_language.specs.DeclaredModels.{whole_of, types_of, state_fields, Own, param_slots, state_slots}
use Rattle.dsde_language.specs.Outcome.{Outcome, ◌>>=◌, Gives}
use Rattle.dsde_language.specs.Meaning.{Vars, with_var}
use Rattle.dsde_language.specs.Typed.{Typed, Fits, values_in}
use Rattle.dsde_system.specs.given.sound_expressions.Places.{IsExpr}
use Rattle.dsde_system.specs.given.sound_expressions.Bodies.{BodyStands, InitsStand, body_slots}
use Rattle.dsde_system.specs.given.formalism.System.{State}
use Rattle.dsde_language.specs.Functions.{mean_of}
use Rattle.dsde_system.specs.given.sound_expressions.Conditions.{CanEval, Came}
use Rattle.dsde_faults.specs.declared.kind.Site.TheVariants as site
use Rattle.dsde_faults.specs.declared.end.LeafEnd.{LeafEnd}
use Rattle.dsde_language.specs.declared.ids.ModelId.{ModelId}
use Rattle.dsde_system.specs.given.formalism.System.{Component}
use Rattle.dsde_system.specs.given.formalism.Leaf as formalism
use Rattle.dsde_system.specs.Program.{system, component}
use Rattle.dsde_system.specs.Body.{vars_of, inits_from}
use Rattle.dsde_system.specs.Fitting.{Fill, FitsArgs, FitsState}
use Rattle.dsde_atomic.specs.Steps.{own_at, sited, Begun, Begins}
use Rattle.dsde_system.specs.given.sound_expressions.lemmas_Outcomes.{sound-given}
use Rattle.dsde_atomic.proofs.Ends.{some-is, site-end, site-ok, then-end, component-is}
use Rattle.std.proofs.Common.{slice_index_or}
use Rattle.dsde_atomic.proofs.Filling.{drop-at, drop-over, fits-vars, values-vars, fill-length, fill-drop, fits-fill, fits-append, values-append, drop-past}

first-short : (args done now : List Value) → now ≡ args ++ done → length args ≤ length now
first-short args done now split =
    let size : length now ≡ length args + length done = ap (λ (l : List Value). length l) split ∙ length-append args done in
    omega (arith, size)

-- The first values so far are behind the arguments, and those behind them are still to come.
pub record Initing (model : Model) (number : ℕ) (args : List Value) (rest : List ExprId) (now : List Value) : Type 0 where
  pub own : Own
  pub found : own_at model number ≡ Some own
  pub slots : List Field
  pub states : List StateDecl
  pub vars : Vars
  pub done : State
  pub fill : Fill (types_of model) (param_slots model own) args
  pub stands : InitsStand model slots states rest
  pub fits : Fits (types_of model) vars slots
  pub are : values_in vars ≡ now
  pub split : now ≡ args ++ done
  pub ends : slots ++ state_fields (whole_of model) states ≡ body_slots model own
  pub goes : inits_from model [] own.body.states (vars_of (param_slots model own) args) ≡ inits_from model done states vars

module _ (model : Model) (number : ℕ) (args : List Value) where
  pub init-start : (code : Code) → ((own : Own) → own_at model number ≡ Some own → BodyStands model own code) → FitsArgs model number args → Initing model number args code.inits args
  init-start code stands fits = record {
    own = fits.own;
    found = fits.found;
    slots = param_slots model fits.own;
    states = fits.own.body.states;
    vars = vars_of (param_slots model fits.own) args;
    done = [];
    fill = fits.fill;
    stands = (stands fits.own fits.found).inits;
    fits = fits-vars (types_of model) (param_slots model fits.own) args fits.fill;
    are = values-vars (types_of model) (param_slots model fits.own) args fits.fill;
    split = sym (append-nil args);
    ends = refl;
    goes = refl;
  }

  module _ (id : ExprId) (rest : List ExprId) (now : List Value) where
    -- the state variable that is next
    record Next (own : Own) (slots : List Field) (vars : Vars) (done : State) : Type 0 where
      state : StateDecl
      states : List StateDecl
      is : IsExpr model false slots id.0 state.value (by_text (whole_of model).words state.ty)
      stands : InitsStand model (slots ++ record { name = state.name.name; ty = by_text (whole_of model).words state.ty } ∷ []) states rest
      ends : slots ++ (record { name = state.name.name; ty = by_text (whole_of model).words state.ty } ∷ state_fields (whole_of model) states) ≡ body_slots model own
      goes : inits_from model [] own.body.states (vars_of (param_slots model own) args) ≡ (mean_of model state.value vars >>= (λ first. inits_from model (done ++ first ∷ []) states (with_var state.name.name first vars)))

    next-of : (own : Own) (slots : List Field) (vars : Vars) (done : State) (states : List StateDecl) → InitsStand model slots states (id ∷ rest)
        → slots ++ state_fields (whole_of model) states ≡ body_slots model own
        → inits_from model [] own.body.states (vars_of (param_slots model own) args) ≡ inits_from model done states vars
        → Next own slots vars done
    next-of own slots vars done [] stands ends goes = absurd stands
    next-of own slots vars done (state ∷ states) stands ends goes = record { state = state; states = states; is = stands.0; stands = stands.1; ends = ends; goes = goes }

    module _ (at : Initing model number args (id ∷ rest) now) where
      next : Next at.own at.slots at.vars at.done
      next = next-of at.own at.slots at.vars at.done at.states at.stands at.ends at.goes

      pub init-can : CanEval model id.0 now
      init-can = record {
        total = false;
        slots = at.slots;
        expr = next.state.value;
        ty = by_text (whole_of model).words next.state.ty;
        vars = at.vars;
        is = next.is;
        fits = at.fits;
        are = at.are;
      }

      module _ (result : Result Value EvalEnd) (came : Came model id.0 now result) where
        abbrev meant : Outcome Value
        meant = mean_of model next.state.value at.vars

        gives : Gives meant result
        gives = came.gives false at.slots next.state.value (by_text (whole_of model).words next.state.ty) at.vars next.is at.fits at.are

        pub init-next : (value : Value) → result ≡ Ok value → Initing model number args rest (now ++ value ∷ [])
        init-next value given =
            let is : meant ≡ Ok value = subst (λ (r : Result Value EvalEnd). Gives meant r) given gives in
            let field : Field = record { name = next.state.name.name; ty = by_text (whole_of model).words next.state.ty } in
            let has : Typed (types_of model) field.ty value = sound-given false (Typed (types_of model) field.ty) meant value (came.sound false at.slots next.state.value field.ty at.vars next.is at.fits at.are) is in
            let one : Vars = record { name = field.name; value = value } ∷ [] in
            record {
              own = at.own;
              found = at.found;
              slots = at.slots ++ field ∷ [];
              states = next.states;
              vars = at.vars ++ one;
              done = at.done ++ value ∷ [];
              fill = at.fill;
              stands = next.stands;
              fits = fits-append (types_of model) at.vars one at.slots (field ∷ []) at.fits (refl, has, tt);
              are = values-append at.vars one ∙ ap (λ (l : List Value). l ++ value ∷ []) at.are;
              split = ap (λ (l : List Value). l ++ value ∷ []) at.split ∙ append_assoc args at.done (value ∷ []);
              ends = append_assoc at.slots (field ∷ []) (state_fields (whole_of model) next.states) ∙ next.ends;
              goes = next.goes ∙ ap (λ (o : Outcome Value). o >>= (λ first. inits_from model (at.done ++ first ∷ []) next.states (with_var field.name first at.vars))) is;
            }

        pub init-end : (end : EvalEnd) → result ≡ Err end → Begins model number args (Err end) now
        init-end end given = λ own found.
            subst (λ (o : Own). Begun model o args (let r : Result (Unit {0}) EvalEnd = Err end in r) now) (some-is (own_at model number) at.own own at.found found)
            (subst (λ (x : Outcome State). Gives x (let r : Result State EvalEnd = Err end in r)) (sym next.goes)
            (then-end meant (λ first. inits_from model (at.done ++ first ∷ []) next.states (with_var next.state.name.name first at.vars)) end
            (subst (λ (r : Result Value EvalEnd). Gives meant r) given gives)))

  -- All first values are there.
  last-of : (now : List Value) (own : Own) (slots : List Field) (vars : Vars) (done : State) (states : List StateDecl)
      → Fill (types_of model) (param_slots model own) args → Fits (types_of model) vars slots → values_in vars ≡ now → now ≡ args ++ done
      → InitsStand model slots states []
      → slots ++ state_fields (whole_of model) states ≡ body_slots model own
      → inits_from model [] own.body.states (vars_of (param_slots model own) args) ≡ inits_from model done states vars
      → Begun model own args (Ok tt) now
  last-of now own slots vars done (state ∷ states) fill fits are split stands ends goes = absurd stands
  last-of now own slots vars done [] fill fits are split stands ends goes =
      let rest : drop (length args) now ≡ done = ap (λ (l : List Value). drop (length args) l) split ∙ drop-past args done in
      let all : slots ≡ body_slots model own = sym (append-nil slots) ∙ ends in
      let whole : Fill (types_of model) (body_slots model own) now =
      subst (λ (l : List Value). Fill (types_of model) (body_slots model own) l) are
      (fits-fill (types_of model) vars (body_slots model own) (subst (λ (l : List Field). Fits (types_of model) vars l) all fits)) in
      let cut : drop (length args) (body_slots model own) ≡ state_slots model own =
      ap (λ (n : ℕ). drop n (body_slots model own)) (fill-length (types_of model) (param_slots model own) args fill) ∙ drop-past (param_slots model own) (state_slots model own) in (
        goes ∙ ap (λ (l : State). (let r : Outcome State = Ok l in r)) (sym rest),
        subst (λ (l : List Field). Fill (types_of model) l (drop (length args) now)) cut (fill-drop (types_of model) (length args) (body_slots model own) now whole),
        first-short args done now split,
      )

  pub init-last : (now : List Value) → Initing model number args [] now → Begins model number args (Ok tt) now
  init-last now at = λ own found.
      subst (λ (o : Own). Begun model o args (let r : Result (Unit {0}) EvalEnd = Ok tt in r) now) (some-is (own_at model number) at.own own at.found found)
      (last-of now at.own at.slots at.vars at.done at.states at.fill at.fits at.are at.split at.stands at.ends at.goes)

module _ (model : Model) (number : ℕ) (args : List Value) (numbers : List ExprId) (index : ℕ) (now : List Value) where
  -- the number that is next, before those behind it
  pub init-at : (index < length numbers) → Initing model number args (drop index numbers) now → Initing model number args (slice_index_or numbers index (record { 0 = 0 }) ∷ drop (index + 1) numbers) now
  init-at below at = subst (λ (l : List ExprId). Initing model number args l now) (drop-at numbers index (record { 0 = 0 }) below) at

  pub init-all : (length numbers ≤ index) → Initing model number args (drop index numbers) now → Initing model number args [] now
  init-all past at = subst (λ (l : List ExprId). Initing model number args l now) (drop-over numbers index past) at

module _ (model : Model) (number : ModelId) (args : List Value) (fits : FitsArgs model number.0 args) where
  init-is : (system model).component number args ≡ component model fits.own args
  init-is = component-is model number args fits.own fits.found

  pub init-state : (result : Result (Unit {0}) EvalEnd) (after : List Value) (u : Unit {0}) → Begins model number.0 args result after → result ≡ Ok u → ((system model).component number args).init ≡ Ok (drop (length args) after)
  init-state result after u begins given =
      let begun : Begun model fits.own args (Ok u) after = subst (λ (r : Result (Unit {0}) EvalEnd). Begun model fits.own args r after) given (begins fits.own fits.found) in
      ap (λ (c : Component). c.init) init-is
      ∙ site-ok site.Init (inits_from model [] fits.own.body.states (vars_of (param_slots model fits.own) args)) (drop (length args) after) begun.0

  pub init-fits : (result : Result (Unit {0}) EvalEnd) (after : List Value) (u : Unit {0}) → Begins model number.0 args result after → result ≡ Ok u → FitsState model number.0 (drop (length args) after)
  init-fits result after u begins given =
      let begun : Begun model fits.own args (Ok u) after = subst (λ (r : Result (Unit {0}) EvalEnd). Begun model fits.own args r after) given (begins fits.own fits.found) in
      record { own = fits.own; found = fits.found; fill = begun.1 }

  pub init-size : (result : Result (Unit {0}) EvalEnd) (after : List Value) (u : Unit {0}) → Begins model number.0 args result after → result ≡ Ok u → length args ≤ length after
  init-size result after u begins given =
      let begun : Begun model fits.own args (Ok u) after = subst (λ (r : Result (Unit {0}) EvalEnd). Begun model fits.own args r after) given (begins fits.own fits.found) in
      begun.2

  pub init-fails : (result : Result (Unit {0}) EvalEnd) (after : List Value) (end : EvalEnd) → Begins model number.0 args result after → result ≡ Err end → formalism.Gives (((system model).component number args).init) (Err (sited site.Init end))
  init-fails result after end begins given =
      let begun : Begun model fits.own args (Err end) after = subst (λ (r : Result (Unit {0}) EvalEnd). Begun model fits.own args r after) given (begins fits.own fits.found) in
      subst (λ (o : Result State LeafEnd). formalism.Gives o (let r : Result State LeafEnd = Err (sited site.Init end) in r)) (sym (ap (λ (c : Component). c.init) init-is))
      (site-end site.Init (inits_from model [] fits.own.body.states (vars_of (param_slots model fits.own) args)) end begun)
