-- The transitions of a component that see the input.
use Rattle.std.proofs.Common.{◌≡◌, ℕ, Bool, true, false, if◌then◌else◌, pos, List, [], ◌∷◌, ◌++◌, length, Some, Result, Ok, Err, refl, sym, ◌∙◌, ap, subst}
use Rattle.dsde_language.specs.given.syntax.decl_Model.{Model}
use Rattle.dsde_language.specs.given.syntax.decl_Phase.{Phase}
use Rattle.dsde_values.specs.declared.value.Value.{Value}
use Rattle.dsde_values.specs.declared.value.Value.TheVariants as value
use Rattle.dsde_values.specs.When.{IsMoment}
use Rattle.dsde_faults.specs.declared.kind.FaultKind.TheVariants.{RangeTooLong}
use Rattle.dsde_faults.specs.declared.kind.Site.{Site}
use Rattle.dsde_faults.specs.declared.end.EvalEnd.{EvalEnd}
use Rattle.dsde_faults.specs.declared.end.LeafEnd.{LeafEnd}
use Rattle.dsde_faults.specs.declared.end.LeafEnd.TheVariants as leaf_end
use Rattle.dsde_language.specs.DeclaredModels.{types_of, Own, body_ins}
use Rattle.dsde_language.specs.Statements.{input_fields}
use Rattle.dsde_language.specs.Outcome.{Fault, Outcome, Gives}
use Rattle.dsde_language.specs.Meaning.{Vars}
use Rattle.dsde_language.specs.Typed.{Fits, values_in}
use Rattle.dsde_system.specs.given.sound_expressions.Bodies.{body_slots, moved_slots}
use Rattle.dsde_system.specs.given.formalism.System.{State, Ports}
use Rattle.dsde_system.specs.Body.{at_site, body_vars, input_vars, lists_of, moved_by, seeing, is_flooded}
use Rattle.dsde_system.specs.Fitting.{Reach, FitsArgs, FitsState, FitsInputs}
use Rattle.dsde_atomic.specs.Steps.{own_at, sited, CanMove, Moved, IsPhase, HasPhase, Sees}
use Rattle.dsde_atomic.proofs.Ends.{some-is, site-end, site-ok}
use Rattle.dsde_atomic.proofs.Filling.{fits-append, values-append}
use Rattle.dsde_atomic.proofs.Bodies.{args-fill, state-fill, body-fits, body-are}
use Rattle.dsde_atomic.proofs.InputSlots.{inputs-fit, inputs-are}
use Rattle.dsde_atomic.proofs.Phases.{phase-gives, phase-fits}

module _ (model : Model) (number : ℕ) (args state : List Value) (elapsed : ℕ) (got : Ports)
    (fits_args : FitsArgs model number args) (fits_state : FitsState model number state) (moment : IsMoment elapsed) (fits_got : FitsInputs model number got)
    (block at : ℕ) (site : Site) where
  -- the values that such a block sees
  abbrev pub sights : List Value
  sights = (args ++ state) ++ (lists_of got ++ value.Int (pos elapsed) ∷ [])

  pub sees-flood : is_flooded got ≡ true → Sees model number block at site args state elapsed got (Err (leaf_end.Fault site RangeTooLong at))
  sees-flood flood = λ own phase is.
      ap (λ (b : Bool). at_site site (let r : Outcome State = if b then Err (Fault RangeTooLong phase.at) else moved_by model own phase (body_vars model own args state ++ input_vars model own elapsed got) in r)) flood
      ∙ ap (λ (n : ℕ). (let r : Result State LeafEnd = Err (leaf_end.Fault site RangeTooLong n) in r)) (sym is.place)

  module _ (few : is_flooded got ≡ false) where
    module _ (own : Own) (found : own_at model number ≡ Some own) where
      abbrev vars : Vars
      vars = body_vars model own args state ++ input_vars model own elapsed got

      reach : Reach (types_of model) (body_ins model own) got
      reach = subst (λ (o : Own). Reach (types_of model) (body_ins model o) got) (some-is (own_at model number) fits_got.own own fits_got.found found) fits_got.reach

      sight-fits : Fits (types_of model) vars (moved_slots model own)
      sight-fits =
          fits-append (types_of model) (body_vars model own args state) (input_vars model own elapsed got) (body_slots model own) (input_fields (body_ins model own))
          (body-fits model own args state (args-fill model number args own fits_args found) (state-fill model number state own fits_state found))
          (inputs-fit model own elapsed got moment reach few)

      sight-are : values_in vars ≡ sights
      sight-are =
          values-append (body_vars model own args state) (input_vars model own elapsed got)
          ∙ ap (λ (l : List Value). l ++ values_in (input_vars model own elapsed got)) (body-are model own args state (args-fill model number args own fits_args found) (state-fill model number state own fits_state found))
          ∙ ap (λ (l : List Value). (args ++ state) ++ l) (inputs-are model own elapsed got moment reach)

    pub sees-can : HasPhase model number block at → CanMove model block sights
    sees-can has = record {
      slots = moved_slots model has.own;
      stmts = has.phase.stmts;
      vars = vars has.own has.is.found;
      is = has.is.is;
      fits = sight-fits has.own has.is.found;
      are = sight-are has.own has.is.found;
    }

    module _ (result : Result State EvalEnd) (moved : Moved model block sights (length args) (length state) result) where
      gives : (own : Own) (phase : Phase) → IsPhase model number block at own phase → Gives (seeing model own phase args state elapsed got) result
      gives own phase is =
          subst (λ (b : Bool). Gives (let r : Outcome State = if b then Err (Fault RangeTooLong phase.at) else moved_by model own phase (vars own is.found) in r) result) (sym few)
          (phase-gives model own args state (args-fill model number args own fits_args is.found) (state-fill model number state own fits_state is.found)
          (moved_slots model own) (input_fields (body_ins model own)) refl (vars own is.found) sights (sight-fits own is.found) (sight-are own is.found) phase block is.is result moved)

      pub sees-ok : (after : State) → result ≡ Ok after → Sees model number block at site args state elapsed got (Ok after)
      sees-ok after given = λ own phase is.
          site-ok site (seeing model own phase args state elapsed got) after (subst (λ (r : Result State EvalEnd). Gives (seeing model own phase args state elapsed got) r) given (gives own phase is))

      pub sees-end : (end : EvalEnd) → result ≡ Err end → Sees model number block at site args state elapsed got (Err (sited site end))
      sees-end end given = λ own phase is.
          site-end site (seeing model own phase args state elapsed got) end (subst (λ (r : Result State EvalEnd). Gives (seeing model own phase args state elapsed got) r) given (gives own phase is))

      pub sees-fits : (has : HasPhase model number block at) (after : State) → result ≡ Ok after → FitsState model number after
      sees-fits has after given = record {
        own = has.own;
        found = has.is.found;
        fill = phase-fits model has.own args state (args-fill model number args has.own fits_args has.is.found) (state-fill model number state has.own fits_state has.is.found)
            (moved_slots model has.own) (input_fields (body_ins model has.own)) refl (vars has.own has.is.found) sights (sight-fits has.own has.is.found) (sight-are has.own has.is.found)
            has.phase block has.is.is result moved after given;
      }
