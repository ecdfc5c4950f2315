-- Blocks of a body.
use Rattle.std.proofs.Common.{◌≡◌, ℕ, ◌+◌, ◌≤◌, List, [], ◌++◌, length, take, drop, Option, Some, None, Result, Ok, refl, sym, ◌∙◌, ap, subst, length-append, append_assoc, arith}
use Rattle.dsde_language.specs.given.syntax.decl_Model.{Model}
use Rattle.dsde_language.specs.given.syntax.decl_Phase.{Phase}
use Rattle.dsde_values.specs.declared.types.Field.{Field}
use Rattle.dsde_values.specs.declared.value.Value.{Value}
use Rattle.dsde_faults.specs.declared.end.EvalEnd.{EvalEnd}
use Rattle.dsde_language.specs.declared.node_ids.BlockId.{BlockId}
use Rattle.dsde_language.specs.DeclaredModels.{types_of, Own, param_slots, state_slots}
use Rattle.dsde_language.specs.Outcome.{Gives}
use Rattle.dsde_language.specs.Meaning.{Vars}
use Rattle.dsde_language.specs.Typed.{Fits, values_in}
use Rattle.dsde_system.specs.given.sound_expressions.Places.{IsBlock}
use Rattle.dsde_system.specs.given.sound_expressions.Bodies.{PhaseStands, body_slots}
use Rattle.dsde_system.specs.given.formalism.System.{State}
use Rattle.dsde_system.specs.Body.{moved_by}
use Rattle.dsde_system.specs.Fitting.{Fill}
use Rattle.dsde_atomic.specs.Steps.{Moved}
use Rattle.dsde_atomic.proofs.Filling.{fill-length, drop-past, take-all}

same-block : (a b : BlockId) → (let r : Option BlockId = Some a in r) ≡ Some b → a ≡ b
same-block a b e = cc

-- A phase that stands at a number is there, and one that stands at none is not.
pub record IsThere (model : Model) (slots outs : List Field) (block : BlockId) (found : Option Phase) : Type 0 where
  pub phase : Phase
  pub is : found ≡ Some phase
  pub stands : IsBlock model slots outs block.0 phase.stmts

pub there : (model : Model) (slots outs : List Field) (number : Option BlockId) (block : BlockId) (found : Option Phase) → number ≡ Some block → PhaseStands model slots outs number found → IsThere model slots outs block found
there model slots outs None block found is stands = cc
there model slots outs (Some own) block None is stands = absurd stands
there model slots outs (Some own) block (Some phase) is stands =
    record { phase = phase; is = refl; stands = subst (λ (b : BlockId). IsBlock model slots outs b.0 phase.stmts) (same-block own block is) stands }

pub not-there : (model : Model) (slots outs : List Field) (number : Option BlockId) (found : Option Phase) → number ≡ None → PhaseStands model slots outs number found → found ≡ None
not-there model slots outs None None is stands = refl
not-there model slots outs None (Some phase) is stands = absurd stands
not-there model slots outs (Some own) found is stands = cc

cut-middle : (ps ss more : List Field) → take (length ss) (drop (length ps) ((ps ++ ss) ++ more)) ≡ ss
cut-middle ps ss more =
    ap (λ (l : List Field). take (length ss) (drop (length ps) l)) (append_assoc ps ss more)
    ∙ ap (λ (l : List Field). take (length ss) l) (drop-past ps (ss ++ more)) ∙ take-all ss more

few-of : (ps ss more : List Field) → length ps + length ss ≤ length ((ps ++ ss) ++ more)
few-of ps ss more =
    let one : length ((ps ++ ss) ++ more) ≡ length (ps ++ ss) + length more = length-append (ps ++ ss) more in
    let two : length (ps ++ ss) ≡ length ps + length ss = length-append ps ss in
    omega (arith, one, two)

module _ (model : Model) (own : Own) (args state : List Value) (fill : Fill (types_of model) (param_slots model own) args) (full : Fill (types_of model) (state_slots model own) state) where
  module _ (slots more : List Field) (are_slots : slots ≡ body_slots model own ++ more) (vars : Vars) (values : List Value) (fits : Fits (types_of model) vars slots) (are : values_in vars ≡ values)
      (phase : Phase) (block : ℕ) (is : IsBlock model slots [] block phase.stmts) (result : Result State EvalEnd) (moved : Moved model block values (length args) (length state) result) where
    sized : Moved model block values (length (param_slots model own)) (length (state_slots model own)) result
    sized =
        subst (λ (n : ℕ). Moved model block values (length (param_slots model own)) n result) (fill-length (types_of model) (state_slots model own) state full)
        (subst (λ (n : ℕ). Moved model block values n (length state) result) (fill-length (types_of model) (param_slots model own) args fill) moved)

    pub phase-gives : Gives (moved_by model own phase vars) result
    phase-gives = sized.gives slots phase.stmts vars is fits are

    pub phase-fits : (after : State) → result ≡ Ok after → Fill (types_of model) (state_slots model own) after
    phase-fits after given =
        let few : length (param_slots model own) + length (state_slots model own) ≤ length slots =
        subst (λ (l : List Field). length (param_slots model own) + length (state_slots model own) ≤ length l) (sym are_slots) (few-of (param_slots model own) (state_slots model own) more) in
        let cut : take (length (state_slots model own)) (drop (length (param_slots model own)) slots) ≡ state_slots model own =
        ap (λ (l : List Field). take (length (state_slots model own)) (drop (length (param_slots model own)) l)) are_slots ∙ cut-middle (param_slots model own) (state_slots model own) more in
        subst (λ (l : List Field). Fill (types_of model) l after) cut (sized.fits slots phase.stmts vars after is fits are few given)

-- The same by other names of its values and counts.
pub resized : (model : Model) (block : ℕ) (values other : List Value) (params few states many : ℕ) (result : Result State EvalEnd)
    → values ≡ other → params ≡ few → states ≡ many → Moved model block values params states result → Moved model block other few many result
resized model block values other params few states many result e f g moved =
    subst (λ (l : List Value). Moved model block l few many result) e
    (subst (λ (n : ℕ). Moved model block values n many result) f (subst (λ (n : ℕ). Moved model block values params n result) g moved))
