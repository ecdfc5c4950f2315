-- External and confluent transitions.
use Rattle.std.proofs.Common.{◌≡◌, ℕ, List, [], Option, Some, None, Result, Ok, sym, ◌∙◌, ap, subst}
use Rattle.dsde_language.specs.given.syntax.decl_Model.{Model}
use Rattle.dsde_language.specs.given.syntax.decl_Phase.{Phase}
use Rattle.dsde_values.specs.declared.value.Value.{Value}
use Rattle.dsde_faults.specs.declared.kind.Site.TheVariants as site
use Rattle.dsde_faults.specs.declared.end.LeafEnd.{LeafEnd}
use Rattle.dsde_language.specs.declared.code.Code.{Code}
use Rattle.dsde_language.specs.declared.node_ids.BlockId.{BlockId}
use Rattle.dsde_language.specs.declared.ids.ModelId.{ModelId}
use Rattle.dsde_language.specs.Statements.{phase_at}
use Rattle.dsde_language.specs.Outcome.{Outcome}
use Rattle.dsde_language.specs.DeclaredModels.{Own}
use Rattle.dsde_system.specs.given.sound_expressions.Bodies.{BodyStands, moved_slots}
use Rattle.dsde_system.specs.given.formalism.System.{Component, State, Ports}
use Rattle.dsde_system.specs.given.formalism.Leaf as formalism
use Rattle.dsde_system.specs.Body.{at_site, seeing, external, confluent, internal}
use Rattle.dsde_system.specs.Program.{system, component}
use Rattle.dsde_system.specs.Fitting.{FitsArgs}
use Rattle.dsde_atomic.specs.Steps.{own_at, IsPhase, HasPhase, Sees}
use Rattle.dsde_atomic.proofs.Ends.{site-ok, component-is}
use Rattle.dsde_atomic.proofs.Phases.{IsThere, there, not-there}

module _ (model : Model) (number : ModelId) (code : Code) (stands : (own : Own) → own_at model number.0 ≡ Some own → BodyStands model own code)
    (args : List Value) (fits_args : FitsArgs model number.0 args) where
  abbrev own : Own
  own = fits_args.own

  is-component : (system model).component number args ≡ component model own args
  is-component = component-is model number args own fits_args.found

  module _ (state : State) (elapsed : ℕ) (got : Ports) where
    as-external : ((system model).component number args).external state elapsed got ≡ at_site site.External (external model own args state elapsed got)
    as-external = ap (λ (c : Component). c.external state elapsed got) is-component

    abbrev outer : Option Phase → Outcome State
    outer found = elim found [ None ↦ Ok state | Some phase ↦ seeing model own phase args state elapsed got ]

    pub external-none : code.external ≡ None → ((system model).component number args).external state elapsed got ≡ Ok state
    external-none given =
        as-external ∙ site-ok site.External (external model own args state elapsed got) state
        (ap outer (not-there model (moved_slots model own) [] code.external own.body.external given (stands own fits_args.found).external))

    as-confluent : ((system model).component number args).confluent state elapsed got ≡ confluent model own args state elapsed got
    as-confluent = ap (λ (c : Component). c.confluent state elapsed got) is-component

    abbrev both : Option Phase → Result State LeafEnd
    both found = elim found [
      | Some phase ↦ at_site site.Confluent (seeing model own phase args state elapsed got)
      | None ↦ formalism.◌>>=◌ (at_site site.Internal (internal model own args state)) (λ moved. at_site site.External (external model own args moved 0 got))
    ]

    pub confluent-none : code.confluent ≡ None
        → ((system model).component number args).confluent state elapsed got
        ≡ formalism.◌>>=◌ (((system model).component number args).internal state) (λ moved. ((system model).component number args).external moved 0 got)
    confluent-none given =
        as-confluent
        ∙ ap both (not-there model (moved_slots model own) [] code.confluent own.body.confluent given (stands own fits_args.found).confluent)
        ∙ ap (λ (c : Component). formalism.◌>>=◌ (c.internal state) (λ moved. c.external moved 0 got)) (sym is-component)

    module _ (block : BlockId) where
      module _ (given : code.external ≡ Some block) where
        phase : IsThere model (moved_slots model own) [] block own.body.external
        phase = there model (moved_slots model own) [] code.external block own.body.external given (stands own fits_args.found).external

        is-phase : IsPhase model number.0 block.0 code.external_at own phase.phase
        is-phase = record { found = fits_args.found; is = phase.stands; place = (stands own fits_args.found).external_at ∙ ap phase_at phase.is }

        pub external-has : HasPhase model number.0 block.0 code.external_at
        external-has = record { own = own; phase = phase.phase; is = is-phase }

        pub external-gives : (result : Result State LeafEnd) → Sees model number.0 block.0 code.external_at site.External args state elapsed got result
            → formalism.Gives (((system model).component number args).external state elapsed got) result
        external-gives result sees =
            subst (λ (o : Result State LeafEnd). formalism.Gives o result)
            (sym (as-external ∙ ap (λ (o : Outcome State). at_site site.External o) (ap outer phase.is))) (sees own phase.phase is-phase)

      module _ (given : code.confluent ≡ Some block) where
        meeting : IsThere model (moved_slots model own) [] block own.body.confluent
        meeting = there model (moved_slots model own) [] code.confluent block own.body.confluent given (stands own fits_args.found).confluent

        is-meeting : IsPhase model number.0 block.0 code.confluent_at own meeting.phase
        is-meeting = record { found = fits_args.found; is = meeting.stands; place = (stands own fits_args.found).confluent_at ∙ ap phase_at meeting.is }

        pub confluent-has : HasPhase model number.0 block.0 code.confluent_at
        confluent-has = record { own = own; phase = meeting.phase; is = is-meeting }

        pub confluent-gives : (result : Result State LeafEnd) → Sees model number.0 block.0 code.confluent_at site.Confluent args state elapsed got result
            → formalism.Gives (((system model).component number args).confluent state elapsed got) result
        confluent-gives result sees =
            subst (λ (o : Result State LeafEnd). formalism.Gives o result) (sym (as-confluent ∙ ap both meeting.is)) (sees own meeting.phase is-meeting)
