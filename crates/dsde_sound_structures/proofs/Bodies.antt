-- What the parts of a body come to, over arguments and a state that fit.
use Rattle.std.proofs.Common.{◌≡◌, ℕ, ◌+◌, ◌<◌, ◌^◌, ℤ, pos, negsuc, true, false, List, [], ◌∷◌, ◌++◌, length, take, drop, Option, Some, None, Ok, Err, nat_lt, refl, sym, ap, subst, ◌∙◌, append_assoc, arith}
use Rattle.std.proofs.lemmas.List.{append-nil}
use Rattle.dsde_sim_tree.specs.given.syntax.decl_Model.{Model}
use Rattle.dsde_sim_tree.specs.given.syntax.decl_Phase.{Phase}
use Rattle.dsde_sim_tree.specs.given.syntax.decl_StateDecl.{StateDecl}
use Rattle.dsde_values.specs.declared.types.Field.{Field}
use Rattle.dsde_values.specs.declared.types.Ty.{Ty}
use Rattle.dsde_values.specs.declared.types.Ty.TheVariants as ty
use Rattle.dsde_values.specs.declared.types.Types.{Types}
use Rattle.dsde_values.specs.declared.value.Value.{Value}
use Rattle.dsde_values.specs.declared.when.When.TheVariants.{At}
use Rattle.dsde_values.specs.Value.{fits_int}
use Rattle.dsde_values.specs.When.{IsMoment}
use Rattle.dsde_faults.specs.declared.kind.FaultKind.TheVariants.{TimeTooFar, RangeTooLong}
use Rattle.dsde_sim_tree.specs.given.language.code_Code.{Code}
use Rattle.dsde_sim_tree.specs.given.language.node_ids_BlockId.{BlockId}
use Rattle.dsde_sim_tree.specs.given.language.node_ids_ExprId.{ExprId}
use Rattle.dsde_sim_tree.specs.given.language.DeclaredModels.{whole_of, types_of, state_fields, Own, body_ins, body_outs, param_slots, state_slots}
use Rattle.dsde_sim_tree.specs.given.language.Statements.{input_fields}
use Rattle.dsde_sim_tree.specs.given.language.RuleTables.{by_text}
use Rattle.dsde_sim_tree.specs.given.language.Right.{IsRight}
use Rattle.dsde_sim_tree.specs.given.language.Agreement.{ExpressionsAgree, BlocksAgree}
use Rattle.dsde_sim_tree.specs.given.language.Flow.{lifted}
use Rattle.dsde_sim_tree.specs.given.language.Meaning.{Vars, Scene, scene, with_var}
use Rattle.dsde_sim_tree.specs.given.language.Outcome.{Fault, ◌>>=◌, int_of, option_of}
use Rattle.dsde_sim_tree.specs.given.language.Typed.{Typed, Sound, Fits, AllSent, values_in}
use Rattle.dsde_sound_names.specs.given.sound_expressions.lemmas_Outcomes.{sound-then, sound-if}
use Rattle.dsde_sound_names.specs.given.sound_expressions.lemmas_Values.{Held, int-sound, option-sound}
use Rattle.dsde_sound_names.specs.given.sound_expressions.Places.{IsBlock}
use Rattle.dsde_sound_names.specs.given.sound_expressions.Laws.{KnownIsWithin}
use Rattle.dsde_sound_names.specs.given.sound_expressions.Bodies.{BodyStands, InitsStand, body_slots, moved_slots}
use Rattle.dsde_sim_tree.specs.given.language.Functions.{mean_of, block_of}
use Rattle.dsde_sound_names.specs.given.sound_expressions.Conditions.{Grown}
use Rattle.dsde_sound_names.specs.given.sound_expressions.Coded.{FunctionsAgree}
use Rattle.dsde_sim_tree.specs.given.formalism.System.{State, Ports}
use Rattle.dsde_system.specs.Body.{vars_of, body_vars, inits_from, after, due_after, due, sends, state_in, moved_by, internal, input_vars, is_flooded, seeing, external}
use Rattle.dsde_system.specs.Fitting.{Fill, Reach, IsInTime}
use Rattle.dsde_sound_structures.proofs.Filling.{fits-vars, fill-append, fill-take, fill-drop, fits-fill, fits-append, drop-past, take-all}
use Rattle.dsde_sound_structures.proofs.Inputs.{inputs-fit}
use Rattle.dsde_sound_structures.proofs.ComponentParts.{Left, expr-sound, block-sound, phase-sound}

in-time : (number : ℕ) → nat_lt number (2 ^ 63) ≡ true → number < 2 ^ 63
in-time number h = grind (arith, h)

-- the time of a next event
after-sound : (at time : ℕ) (number : ℤ) → Sound false IsInTime (after at time number)
after-sound at time (pos number) =
    sound-if false IsInTime (nat_lt (time + number) (2 ^ 63)) (Ok (At (time + number))) (Err (Fault TimeTooFar at)) (in-time (time + number)) (λ h. refl)
after-sound at time (negsuc number) = refl

due-after-sound : (types : Types) (at time : ℕ) (held : Option Value) → Held types false ty.Int held → Sound false IsInTime (due_after at time held)
due-after-sound types at time None h = tt
due-after-sound types at time (Some own) h =
    sound-then false (λ (n : ℤ). fits_int n ≡ true) IsInTime (int_of own) (λ number. after at time number) (int-sound types false own h) (λ number fits. after-sound at time number)

-- the slots of the state variables among those that a block leaves
cut-middle : (ps ss more rest : List Field) → take (length ss) (drop (length ps) (((ps ++ ss) ++ more) ++ rest)) ≡ ss
cut-middle ps ss more rest =
    ap (λ (l : List Field). take (length ss) (drop (length ps) l)) (append_assoc (ps ++ ss) more rest ∙ append_assoc ps ss (more ++ rest))
    ∙ ap (λ (l : List Field). take (length ss) l) (drop-past ps (ss ++ (more ++ rest))) ∙ take-all ss (more ++ rest)

state-fill : (model : Model) (own : Own) (slots more scope : List Field) (end : Scene) → slots ≡ body_slots model own ++ more → Grown slots scope → Fits (types_of model) end.vars scope
    → Fill (types_of model) (state_slots model own) (state_in model own end)
state-fill model own slots more scope end are grown fits =
    let ps : List Field = param_slots model own in
    let ss : List Field = state_slots model own in
    let cut : take (length ss) (drop (length ps) scope) ≡ ss =
    ap (λ (l : List Field). take (length ss) (drop (length ps) l)) (grown.is ∙ ap (λ (l : List Field). l ++ grown.more) are) ∙ cut-middle ps ss more grown.more in
    subst (λ (l : List Field). Fill (types_of model) l (state_in model own end)) cut
    (fill-take (types_of model) (length ss) (drop (length ps) scope) (drop (length ps) (values_in end.vars))
    (fill-drop (types_of model) (length ps) scope (values_in end.vars) (fits-fill (types_of model) end.vars scope fits)))

module _ (model : Model) (right : IsRight model) (expressions : ExpressionsAgree) (blocks : BlocksAgree) (within : KnownIsWithin) (functions : FunctionsAgree) where
  -- the first values of state variables, behind those that are done
  inits-sound : (slots before : List Field) (vars : Vars) (done : State) (states : List StateDecl) (numbers : List ExprId)
      → InitsStand model slots states numbers → Fits (types_of model) vars slots → Fill (types_of model) before done
      → Sound false (Fill (types_of model) (before ++ state_fields (whole_of model) states)) (inits_from model done states vars)
  inits-sound slots before vars done [] [] stands fits fill = subst (λ (l : List Field). Fill (types_of model) l done) (sym (append-nil before)) fill
  inits-sound slots before vars done [] (number ∷ numbers) stands fits fill = absurd stands
  inits-sound slots before vars done (state ∷ states) [] stands fits fill = absurd stands
  inits-sound slots before vars done (state ∷ states) (number ∷ numbers) stands fits fill =
      let t : Ty = by_text (whole_of model).words state.ty in
      let field : Field = record { name = state.name.name; ty = t } in
      sound-then false (Typed (types_of model) t) (Fill (types_of model) (before ++ (field ∷ state_fields (whole_of model) states)))
      (mean_of model state.value vars) (λ first. inits_from model (done ++ first ∷ []) states (with_var state.name.name first vars))
      (expr-sound model right expressions within functions false slots number.0 state.value t stands.0 vars fits)
      (λ first typed.
      subst (λ (l : List Field). Sound false (Fill (types_of model) l) (inits_from model (done ++ first ∷ []) states (with_var state.name.name first vars)))
      (append_assoc before (field ∷ []) (state_fields (whole_of model) states))
      (inits-sound (slots ++ field ∷ []) (before ++ field ∷ []) (with_var state.name.name first vars) (done ++ first ∷ []) states numbers stands.1
      (fits-append (types_of model) vars (record { name = state.name.name; value = first } ∷ []) slots (field ∷ []) fits (refl, typed, tt))
      (fill-append (types_of model) before (field ∷ []) done (first ∷ []) fill (typed, tt))))

  module _ (own : Own) (code : Code) (body : BodyStands model own code) (args : List Value) (fill : Fill (types_of model) (param_slots model own) args) where
    pub init-sound : Sound false (Fill (types_of model) (state_slots model own)) (inits_from model [] own.body.states (vars_of (param_slots model own) args))
    init-sound =
        inits-sound (param_slots model own) [] (vars_of (param_slots model own) args) [] own.body.states code.inits body.inits
        (fits-vars (types_of model) (param_slots model own) args fill) tt

    module _ (state : State) (full : Fill (types_of model) (state_slots model own) state) where
      abbrev vars : Vars
      vars = body_vars model own args state

      body-fits : Fits (types_of model) vars (body_slots model own)
      body-fits =
          fits-append (types_of model) (vars_of (param_slots model own) args) (vars_of (state_slots model own) state) (param_slots model own) (state_slots model own)
          (fits-vars (types_of model) (param_slots model own) args fill) (fits-vars (types_of model) (state_slots model own) state full)

      pub due-sound : (time : ℕ) → Sound false IsInTime (due model own args state time)
      due-sound time =
          sound-then false (Typed (types_of model) (ty.Opt ty.Int)) IsInTime (mean_of model own.body.advance vars)
          (λ advance. option_of advance >>= (λ held. due_after own.body.advance_at time held))
          (expr-sound model right expressions within functions false (body_slots model own) code.advance.0 own.body.advance (ty.Opt ty.Int) body.advance vars body-fits)
          (λ advance typed.
          sound-then false (Held (types_of model) false ty.Int) IsInTime (option_of advance) (λ held. due_after own.body.advance_at time held)
          (option-sound (types_of model) false advance ty.Int typed) (due-after-sound (types_of model) own.body.advance_at time))

      pub sends-sound : Sound false (AllSent (types_of model) (body_outs model own)) (sends model own args state)
      sends-sound =
          phase-sound model (body_slots model own) (body_outs model own) (AllSent (types_of model) (body_outs model own)) code.output own.body.output
          (Ok []) (λ phase. lifted (block_of model (body_outs model own) phase.stmts (scene vars [])) >>= (λ end. Ok end.sends)) body.output tt
          (λ phase block is.
          sound-then false (Left (types_of model) (body_slots model own) (body_outs model own)) (AllSent (types_of model) (body_outs model own))
          (lifted (block_of model (body_outs model own) phase.stmts (scene vars []))) (λ end. Ok end.sends)
          (block-sound model right blocks within functions (body_slots model own) (body_outs model own) block.0 phase.stmts is vars body-fits) (λ end left. left.sent))

      -- a block that leaves a state
      moved-sound : (more : List Field) (sight : Vars) (phase : Phase) (block : BlockId) → IsBlock model (body_slots model own ++ more) [] block.0 phase.stmts
          → Fits (types_of model) sight (body_slots model own ++ more) → Sound false (Fill (types_of model) (state_slots model own)) (moved_by model own phase sight)
      moved-sound more sight phase block is fits =
          sound-then false (Left (types_of model) (body_slots model own ++ more) []) (Fill (types_of model) (state_slots model own))
          (lifted (block_of model [] phase.stmts (scene sight []))) (λ end. Ok (state_in model own end))
          (block-sound model right blocks within functions (body_slots model own ++ more) [] block.0 phase.stmts is sight fits)
          (λ end left. state-fill model own (body_slots model own ++ more) more left.scope end refl left.grown left.fits)

      pub internal-sound : Sound false (Fill (types_of model) (state_slots model own)) (internal model own args state)
      internal-sound =
          let plain : body_slots model own ++ [] ≡ body_slots model own = append-nil (body_slots model own) in
          phase-sound model (body_slots model own) [] (Fill (types_of model) (state_slots model own)) code.internal own.body.internal
          (Ok state) (λ phase. moved_by model own phase vars) body.internal full
          (λ phase block is.
          moved-sound [] vars phase block (subst (λ (l : List Field). IsBlock model l [] block.0 phase.stmts) (sym plain) is)
          (subst (λ (l : List Field). Fits (types_of model) vars l) (sym plain) body-fits))

      module _ (elapsed : ℕ) (got : Ports) (moment : IsMoment elapsed) (reach : Reach (types_of model) (body_ins model own) got) where
        pub seeing-sound : (phase : Phase) (block : BlockId) → IsBlock model (moved_slots model own) [] block.0 phase.stmts
            → Sound false (Fill (types_of model) (state_slots model own)) (seeing model own phase args state elapsed got)
        seeing-sound phase block is =
            sound-if false (Fill (types_of model) (state_slots model own)) (is_flooded got) (Err (Fault RangeTooLong phase.at))
            (moved_by model own phase (vars ++ input_vars model own elapsed got)) (λ flood. refl)
            (λ few. moved-sound (input_fields (body_ins model own)) (vars ++ input_vars model own elapsed got) phase block is
            (fits-append (types_of model) vars (input_vars model own elapsed got) (body_slots model own) (input_fields (body_ins model own)) body-fits (inputs-fit model own elapsed got moment reach few)))

        pub external-sound : Sound false (Fill (types_of model) (state_slots model own)) (external model own args state elapsed got)
        external-sound =
            phase-sound model (moved_slots model own) [] (Fill (types_of model) (state_slots model own)) code.external own.body.external
            (Ok state) (λ phase. seeing model own phase args state elapsed got) body.external full seeing-sound
