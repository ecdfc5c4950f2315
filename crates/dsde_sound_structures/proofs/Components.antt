-- The functions of a component.
use Rattle.std.proofs.Common.{◌≡◌, ℕ, List, [], Option, Some, None, Result, slice_get, sym, ap, subst, arith}
use Rattle.dsde_sim_tree.specs.given.syntax.decl_Model.{Model}
use Rattle.dsde_sim_tree.specs.given.syntax.decl_Phase.{Phase}
use Rattle.dsde_values.specs.declared.value.Value.{Value}
use Rattle.dsde_values.specs.When.{IsMoment}
use Rattle.dsde_faults.specs.declared.kind.Site.TheVariants as site
use Rattle.dsde_faults.specs.declared.end.LeafEnd.{LeafEnd}
use Rattle.dsde_sim_tree.specs.given.language.node_ids_BlockId.{BlockId}
use Rattle.dsde_sim_tree.specs.given.language.ids_ModelId.{ModelId}
use Rattle.dsde_sim_tree.specs.given.language.DeclaredModels.{types_of, Own, owns_of, body_ins, body_outs, param_slots, state_slots}
use Rattle.dsde_sim_tree.specs.given.language.Right.{IsRight}
use Rattle.dsde_sim_tree.specs.given.language.Agreement.{ExpressionsAgree, BlocksAgree}
use Rattle.dsde_sim_tree.specs.given.language.Typed.{AllSent}
use Rattle.dsde_sound_names.specs.given.sound_expressions.Places.{IsBlock}
use Rattle.dsde_sound_names.specs.given.sound_expressions.Laws.{KnownIsWithin, BodiesStand, HasOwn}
use Rattle.dsde_sound_names.specs.given.sound_expressions.Bodies.{BodyStands, PhaseStands, moved_slots}
use Rattle.dsde_sound_names.specs.given.sound_expressions.Coded.{FunctionsAgree}
use Rattle.dsde_sim_tree.specs.given.formalism.Leaf as formalism
use Rattle.dsde_sim_tree.specs.given.formalism.System.{Component, State, Ports}
use Rattle.dsde_system.specs.Body.{at_site, inits_from, vars_of, due, sends, internal, seeing, external}
use Rattle.dsde_system.specs.Program.{system, component, component_at}
use Rattle.dsde_system.specs.Fitting.{Fill, Reach, FitsArgs, FitsState, FitsInputs, FitsSends, IsInTime}
use Rattle.dsde_sound_structures.specs.Sure.{Sure, IsSure}
use Rattle.dsde_sound_structures.specs.lemmas.Steps.{sure-at, sure-then, sound-more}
use Rattle.dsde_sound_structures.proofs.Bodies.{init-sound, due-sound, sends-sound, internal-sound, seeing-sound, external-sound}

some-is : {A : Type 0} (o : Option A) (a b : A) → o ≡ Some a → o ≡ Some b → a ≡ b
some-is o a b e h = cc

-- a confluent transition that may be left out
confluent-by : (model : Model) (own : Own) (Q : State → Type 0) (number : Option BlockId) (found : Option Phase) (none : Result State LeafEnd) (some : Phase → Result State LeafEnd)
    → PhaseStands model (moved_slots model own) [] number found → Sure Q none
    → ((phase : Phase) (block : BlockId) → IsBlock model (moved_slots model own) [] block.0 phase.stmts → Sure Q (some phase))
    → Sure Q (elim found [ Some phase ↦ some phase | None ↦ none ])
confluent-by model own Q None None none some stands h k = h
confluent-by model own Q (Some block) (Some phase) none some stands h k = k phase block stands
confluent-by model own Q None (Some phase) none some stands h k = absurd stands
confluent-by model own Q (Some block) None none some stands h k = absurd stands

module _ (model : Model) (number : ModelId) (args : List Value) (right : IsRight model) (expressions : ExpressionsAgree) (blocks : BlocksAgree) (within : KnownIsWithin) (functions : FunctionsAgree)
    (bodies : BodiesStand) (fits : FitsArgs model number.0 args) where
  abbrev own : Own
  own = fits.own

  component-is : (system model).component number args ≡ component model own args
  unfolding system
  component-is = ap (λ (o : Option Own). component_at model o args) fits.found

  has : HasOwn model number.0
  has = bodies model number.0 right fits.below

  body : BodyStands model own has.is.code
  body = subst (λ (o : Own). BodyStands model o has.is.code) (some-is (slice_get (owns_of model.decls) number.0) has.own own has.is.found fits.found) has.is.body

  abbrev States : State → Type 0
  States = Fill (types_of model) (state_slots model own)

  full : (state : State) → FitsState model number.0 state → States state
  full state has = subst (λ (o : Own). Fill (types_of model) (state_slots model o) state) (some-is (slice_get (owns_of model.decls) number.0) has.own own has.found fits.found) has.fill

  fitting : (state : State) → States state → FitsState model number.0 state
  fitting state fill = record { own = own; found = fits.found; fill = fill }

  reaching : (got : Ports) → FitsInputs model number.0 got → Reach (types_of model) (body_ins model own) got
  reaching got has = subst (λ (o : Own). Reach (types_of model) (body_ins model o) got) (some-is (slice_get (owns_of model.decls) number.0) has.own own has.found fits.found) has.reach

  init-sure : Sure (FitsState model number.0) (component model own args).init
  init-sure =
      sure-at site.Init (FitsState model number.0) (inits_from model [] own.body.states (vars_of (param_slots model own) args))
      (sound-more States (FitsState model number.0) (inits_from model [] own.body.states (vars_of (param_slots model own) args)) (init-sound model right expressions blocks within functions own has.is.code body args fits.fill) fitting)

  advance-sure : (state : State) (time : ℕ) → FitsState model number.0 state → Sure IsInTime ((component model own args).advance state time)
  advance-sure state time stood =
      sure-at site.Advance IsInTime (due model own args state time) (due-sound model right expressions blocks within functions own has.is.code body args fits.fill state (full state stood) time)

  output-sure : (state : State) → FitsState model number.0 state → Sure (FitsSends model number.0) ((component model own args).output state)
  output-sure state stood =
      sure-at site.Output (FitsSends model number.0) (sends model own args state)
      (sound-more (AllSent (types_of model) (body_outs model own)) (FitsSends model number.0) (sends model own args state)
      (sends-sound model right expressions blocks within functions own has.is.code body args fits.fill state (full state stood)) (λ items sent. record { own = own; found = fits.found; sent = sent }))

  internal-sure : (state : State) → FitsState model number.0 state → Sure (FitsState model number.0) ((component model own args).internal state)
  internal-sure state stood =
      sure-at site.Internal (FitsState model number.0) (internal model own args state)
      (sound-more States (FitsState model number.0) (internal model own args state) (internal-sound model right expressions blocks within functions own has.is.code body args fits.fill state (full state stood)) fitting)

  module _ (state : State) (elapsed : ℕ) (got : Ports) (stood : FitsState model number.0 state) (moment : IsMoment elapsed) (came : FitsInputs model number.0 got) where
    external-sure : Sure (FitsState model number.0) ((component model own args).external state elapsed got)
    external-sure =
        sure-at site.External (FitsState model number.0) (external model own args state elapsed got)
        (sound-more States (FitsState model number.0) (external model own args state elapsed got)
        (external-sound model right expressions blocks within functions own has.is.code body args fits.fill state (full state stood) elapsed got moment (reaching got came)) fitting)

    seeing-sure : (phase : Phase) (block : BlockId) → IsBlock model (moved_slots model own) [] block.0 phase.stmts → Sure (FitsState model number.0) (at_site site.Confluent (seeing model own phase args state elapsed got))
    seeing-sure phase block is =
        sure-at site.Confluent (FitsState model number.0) (seeing model own phase args state elapsed got)
        (sound-more States (FitsState model number.0) (seeing model own phase args state elapsed got)
        (seeing-sound model right expressions blocks within functions own has.is.code body args fits.fill state (full state stood) elapsed got moment (reaching got came) phase block is) fitting)

  confluent-sure : (state : State) (elapsed : ℕ) (got : Ports) → FitsState model number.0 state → IsMoment elapsed → FitsInputs model number.0 got → Sure (FitsState model number.0) ((component model own args).confluent state elapsed got)
  confluent-sure state elapsed got stood moment came =
      let first : Result State LeafEnd = at_site site.Internal (internal model own args state) in
      let second : State → Result State LeafEnd = λ moved. at_site site.External (external model own args moved 0 got) in
      confluent-by model own (FitsState model number.0) has.is.code.confluent own.body.confluent (formalism.◌>>=◌ first second) (λ phase. at_site site.Confluent (seeing model own phase args state elapsed got)) body.confluent
      (sure-then (FitsState model number.0) (FitsState model number.0) first second (internal-sure state stood) (λ moved after. external-sure moved 0 got after (omega arith) came))
      (seeing-sure state elapsed got stood moment came)

  pub component-sure : IsSure model number args
  component-sure =
      let same : component model own args ≡ (system model).component number args = sym component-is in
      record {
        init = subst (λ (c : Component). Sure (FitsState model number.0) c.init) same init-sure;
        advance = λ state time stood. subst (λ (c : Component). Sure IsInTime (c.advance state time)) same (advance-sure state time stood);
        output = λ state stood. subst (λ (c : Component). Sure (FitsSends model number.0) (c.output state)) same (output-sure state stood);
        internal = λ state stood. subst (λ (c : Component). Sure (FitsState model number.0) (c.internal state)) same (internal-sure state stood);
        external = λ state elapsed got stood moment came. subst (λ (c : Component). Sure (FitsState model number.0) (c.external state elapsed got)) same (external-sure state elapsed got stood moment came);
        confluent = λ state elapsed got stood moment came. subst (λ (c : Component). Sure (FitsState model number.0) (c.confluent state elapsed got)) same (confluent-sure state elapsed got stood moment came);
      }
