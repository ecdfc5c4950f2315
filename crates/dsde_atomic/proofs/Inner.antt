-- The internal transition and the output of a component.
use Rattle.std.proofs.Common.{◌≡◌, List, [], ◌++◌, length, Option, Some, None, Result, Ok, Err, sym, ◌∙◌, ap, subst}
use Rattle.std.proofs.lemmas.List.{append-nil}
use Rattle.dsde_language.specs.given.syntax.decl_Model.{Model}
use Rattle.dsde_language.specs.given.syntax.decl_Phase.{Phase}
use Rattle.dsde_values.specs.declared.arrival.Item.{Item}
use Rattle.dsde_values.specs.declared.value.Value.{Value}
use Rattle.dsde_faults.specs.declared.kind.Site.TheVariants as site
use Rattle.dsde_faults.specs.declared.end.EvalEnd.{EvalEnd}
use Rattle.dsde_faults.specs.declared.end.LeafEnd.{LeafEnd}
use Rattle.dsde_language.specs.declared.code.Code.{Code}
use Rattle.dsde_language.specs.declared.node_ids.BlockId.{BlockId}
use Rattle.dsde_language.specs.declared.ids.ModelId.{ModelId}
use Rattle.dsde_language.specs.DeclaredModels.{types_of, Own, body_outs, state_slots}
use Rattle.dsde_language.specs.Outcome.{Outcome, ◌>>=◌, Gives}
use Rattle.dsde_language.specs.Meaning.{scene}
use Rattle.dsde_language.specs.Flow.{lifted}
use Rattle.dsde_system.specs.given.sound_expressions.Places.{piece_of}
use Rattle.dsde_system.specs.given.sound_expressions.Bodies.{BodyStands, body_slots}
use Rattle.dsde_system.specs.given.formalism.System.{Component, State}
use Rattle.dsde_system.specs.given.formalism.Leaf as formalism
use Rattle.dsde_language.specs.Functions.{block_of}
use Rattle.dsde_system.specs.given.sound_expressions.Conditions.{CanRun, Ran}
use Rattle.dsde_system.specs.Body.{at_site, body_vars, moved_by, internal, sends}
use Rattle.dsde_system.specs.Program.{system, component}
use Rattle.dsde_system.specs.Fitting.{Fill, FitsArgs, FitsState, FitsSends}
use Rattle.dsde_atomic.specs.Steps.{own_at, sited, CanMove, Moved}
use Rattle.dsde_atomic.proofs.Ends.{site-end, site-ok, component-is}
use Rattle.dsde_atomic.proofs.Bodies.{state-fill, body-fits, body-are}
use Rattle.dsde_atomic.proofs.Landing.{Landed, landed, flow-end, lifted-ok}
use Rattle.dsde_atomic.proofs.Phases.{IsThere, there, not-there, phase-gives, phase-fits}

module _ (model : Model) (number : ModelId) (code : Code) (stands : (own : Own) → own_at model number.0 ≡ Some own → BodyStands model own code)
    (args state : List Value) (fits_args : FitsArgs model number.0 args) (fits_state : FitsState model number.0 state) where
  abbrev pub own : Own
  own = fits_args.own

  abbrev pub full : Fill (types_of model) (state_slots model own) state
  full = state-fill model number.0 state own fits_state fits_args.found

  is-component : (system model).component number args ≡ component model own args
  is-component = component-is model number args own fits_args.found

  as-internal : ((system model).component number args).internal state ≡ at_site site.Internal (internal model own args state)
  as-internal = ap (λ (c : Component). c.internal state) is-component

  abbrev run-phase : Option Phase → Outcome State
  run-phase found = elim found [ None ↦ Ok state | Some phase ↦ moved_by model own phase (body_vars model own args state) ]

  pub internal-none : code.internal ≡ None → ((system model).component number args).internal state ≡ Ok state
  internal-none given =
      as-internal ∙ site-ok site.Internal (internal model own args state) state
      (ap run-phase (not-there model (body_slots model own) [] code.internal own.body.internal given (stands own fits_args.found).internal))

  module _ (block : BlockId) (given : code.internal ≡ Some block) where
    phase : IsThere model (body_slots model own) [] block own.body.internal
    phase = there model (body_slots model own) [] code.internal block own.body.internal given (stands own fits_args.found).internal

    pub internal-can : CanMove model block.0 (args ++ state)
    internal-can = record {
      slots = body_slots model own;
      stmts = phase.phase.stmts;
      vars = body_vars model own args state;
      is = phase.stands;
      fits = body-fits model own args state fits_args.fill full;
      are = body-are model own args state fits_args.fill full;
    }

    module _ (result : Result State EvalEnd) (moved : Moved model block.0 (args ++ state) (length args) (length state) result) where
      gives : Gives (internal model own args state) result
      gives =
          subst (λ (o : Outcome State). Gives o result) (sym (ap run-phase phase.is))
          (phase-gives model own args state fits_args.fill full (body_slots model own) [] (sym (append-nil (body_slots model own))) (body_vars model own args state) (args ++ state)
          (body-fits model own args state fits_args.fill full) (body-are model own args state fits_args.fill full) phase.phase block.0 phase.stands result moved)

      pub internal-ok : (after : State) → result ≡ Ok after → ((system model).component number args).internal state ≡ Ok after
      internal-ok after is = as-internal ∙ site-ok site.Internal (internal model own args state) after (subst (λ (r : Result State EvalEnd). Gives (internal model own args state) r) is gives)

      pub internal-fits : (after : State) → result ≡ Ok after → FitsState model number.0 after
      internal-fits after is = record {
        own = own;
        found = fits_args.found;
        fill = phase-fits model own args state fits_args.fill full (body_slots model own) [] (sym (append-nil (body_slots model own))) (body_vars model own args state) (args ++ state)
            (body-fits model own args state fits_args.fill full) (body-are model own args state fits_args.fill full) phase.phase block.0 phase.stands result moved after is;
      }

      pub internal-end : (end : EvalEnd) → result ≡ Err end → formalism.Gives (((system model).component number args).internal state) (Err (sited site.Internal end))
      internal-end end is =
          subst (λ (o : Result State LeafEnd). formalism.Gives o (let r : Result State LeafEnd = Err (sited site.Internal end) in r)) (sym as-internal)
          (site-end site.Internal (internal model own args state) end (subst (λ (r : Result State EvalEnd). Gives (internal model own args state) r) is gives))

  -- what the component sends
  as-output : ((system model).component number args).output state ≡ at_site site.Output (sends model own args state)
  as-output = ap (λ (c : Component). c.output state) is-component

  abbrev send-phase : Option Phase → Outcome (List Item)
  send-phase found = elim found [
    | None ↦ Ok []
    | Some phase ↦ lifted (block_of model (body_outs model own) phase.stmts (scene (body_vars model own args state) [])) >>= (λ end. Ok end.sends)
  ]

  pub output-none : code.output ≡ None → ((system model).component number args).output state ≡ Ok []
  output-none given =
      as-output ∙ site-ok site.Output (sends model own args state) []
      (ap send-phase (not-there model (body_slots model own) (body_outs model own) code.output own.body.output given (stands own fits_args.found).output))

  pub output-nothing : FitsSends model number.0 []
  output-nothing = record { own = own; found = fits_args.found; sent = tt }

  module _ (block : BlockId) (given : code.output ≡ Some block) where
    abbrev pub sender : IsThere model (body_slots model own) (body_outs model own) block own.body.output
    sender = there model (body_slots model own) (body_outs model own) code.output block own.body.output given (stands own fits_args.found).output

    pub output-can : CanRun model block.0 (args ++ state) []
    output-can = record {
      slots = body_slots model own;
      outs = body_outs model own;
      stmts = sender.phase.stmts;
      vars = body_vars model own args state;
      is = sender.stands;
      fits = body-fits model own args state fits_args.fill full;
      are = body-are model own args state fits_args.fill full;
      sent = tt;
    }

    module _ (after : List Value) (sent : List Item) where
      pub output-ends : (u : Unit {0}) → Ran model block.0 (args ++ state) [] (Ok u) after sent
          → Landed (types_of model) (body_outs model own) (piece_of model (body_slots model own) (body_outs model own) sender.phase.stmts sender.stands.next).scope
          (block_of model (body_outs model own) sender.phase.stmts (scene (body_vars model own args state) [])) after sent
      output-ends u ran =
          landed (types_of model) (body_outs model own) (piece_of model (body_slots model own) (body_outs model own) sender.phase.stmts sender.stands.next).scope
          (block_of model (body_outs model own) sender.phase.stmts (scene (body_vars model own args state) [])) u after sent
          (ran.flows (body_slots model own) (body_outs model own) sender.phase.stmts (body_vars model own args state) sender.stands (body-fits model own args state fits_args.fill full) (body-are model own args state fits_args.fill full) tt)
          (ran.lands (body_slots model own) (body_outs model own) sender.phase.stmts (body_vars model own args state) sender.stands (body-fits model own args state fits_args.fill full) (body-are model own args state fits_args.fill full) tt)

      pub output-ok : (u : Unit {0}) → Ran model block.0 (args ++ state) [] (Ok u) after sent → ((system model).component number args).output state ≡ Ok sent
      output-ok u ran =
          as-output ∙ site-ok site.Output (sends model own args state) sent
          (ap send-phase sender.is
          ∙ lifted-ok (block_of model (body_outs model own) sender.phase.stmts (scene (body_vars model own args state) [])) (λ end. Ok end.sends) (output-ends u ran).end (output-ends u ran).is
          ∙ ap (λ (l : List Item). (let r : Outcome (List Item) = Ok l in r)) (output-ends u ran).sends)

      pub output-fits : (u : Unit {0}) → Ran model block.0 (args ++ state) [] (Ok u) after sent → FitsSends model number.0 sent
      output-fits u ran = record { own = own; found = fits_args.found; sent = (output-ends u ran).all }

      pub output-end : (end : EvalEnd) → Ran model block.0 (args ++ state) [] (Err end) after sent → formalism.Gives (((system model).component number args).output state) (Err (sited site.Output end))
      output-end end ran =
          subst (λ (o : Result (List Item) LeafEnd). formalism.Gives o (let r : Result (List Item) LeafEnd = Err (sited site.Output end) in r)) (sym as-output)
          (site-end site.Output (sends model own args state) end
          (subst (λ (o : Outcome (List Item)). Gives o (let r : Result (List Item) EvalEnd = Err end in r)) (sym (ap send-phase sender.is))
          (flow-end (block_of model (body_outs model own) sender.phase.stmts (scene (body_vars model own args state) [])) (λ end. Ok end.sends) end after sent
          (ran.flows (body_slots model own) (body_outs model own) sender.phase.stmts (body_vars model own args state) sender.stands (body-fits model own args state fits_args.fill full) (body-are model own args state fits_args.fill full) tt))))
