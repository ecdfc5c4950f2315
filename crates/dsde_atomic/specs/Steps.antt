-- What the parts of a component's start and move take and give.
use Rattle.std.specs.Prelude.{◌≡◌, ℕ, ◌+◌, ◌≤◌, List, [], length, take, drop, Option, Some, Result, Ok, Err, slice_get}
use Rattle.dsde_language.specs.given.syntax.stmt_Stmt.{Stmt}
use Rattle.dsde_language.specs.given.syntax.decl_Model.{Model}
use Rattle.dsde_language.specs.given.syntax.decl_Phase.{Phase}
use Rattle.dsde_values.specs.declared.types.Field.{Field}
use Rattle.dsde_values.specs.declared.value.Value.{Value}
use Rattle.dsde_values.specs.declared.when.When.{When}
use Rattle.dsde_faults.specs.declared.kind.Site.{Site}
use Rattle.dsde_faults.specs.declared.end.EvalEnd.{EvalEnd}
use Rattle.dsde_faults.specs.declared.end.EvalEnd.TheVariants as eval_end
use Rattle.dsde_faults.specs.declared.end.LeafEnd.{LeafEnd}
use Rattle.dsde_faults.specs.declared.end.LeafEnd.TheVariants as leaf_end
use Rattle.dsde_language.specs.DeclaredModels.{types_of, Own, owns_of, param_slots, state_slots}
use Rattle.dsde_language.specs.Outcome.{Outcome, ◌>>=◌, Gives, option_of}
use Rattle.dsde_language.specs.Meaning.{Vars, scene}
use Rattle.dsde_language.specs.Flow.{lifted}
use Rattle.dsde_language.specs.Typed.{Fits, values_in}
use Rattle.dsde_system.specs.given.sound_expressions.Places.{IsBlock}
use Rattle.dsde_system.specs.given.sound_expressions.Bodies.{body_slots, moved_slots}
use Rattle.dsde_language.specs.Functions.{block_of}
use Rattle.dsde_system.specs.given.formalism.System.{State, Ports}
use Rattle.dsde_system.specs.given.formalism.Leaf as formalism
use Rattle.dsde_system.specs.Body.{due_after, inits_from, vars_of, seeing, at_site}
use Rattle.dsde_system.specs.Fitting.{Fill}

-- an end in a part of a component
abbrev pub sited : Site → EvalEnd → LeafEnd
sited site (eval_end.Fault kind at) = leaf_end.Fault site kind at
sited site eval_end.Memory = leaf_end.Memory

-- the atomic model or network with a number
abbrev pub own_at : Model → ℕ → Option Own
own_at model number = slice_get (owns_of model.decls) number

-- Values are what a body sees: arguments, and behind them state variables.
pub record FitsBody (model : Model) (number : ℕ) (values : List Value) : Type 0 where
  pub own : Own
  pub found : own_at model number ≡ Some own
  pub fill : Fill (types_of model) (body_slots model own) values

-- when a component is due next, by the value of its advance
abbrev pub due_by : ℕ → ℕ → Value → Outcome When
due_by at time advance = option_of advance >>= (λ held. due_after at time held)

-- what the first values of the state variables come to, behind the arguments
abbrev pub Begun : Model → Own → List Value → Result (Unit {0}) EvalEnd → List Value → Type 0
Begun model own args (Ok _) after =
    (inits_from model [] own.body.states (vars_of (param_slots model own) args) ≡ Ok (drop (length args) after))
    × Fill (types_of model) (state_slots model own) (drop (length args) after) × (length args ≤ length after)
Begun model own args (Err end) after = Gives (inits_from model [] own.body.states (vars_of (param_slots model own) args)) (Err end)

abbrev pub Begins : Model → ℕ → List Value → Result (Unit {0}) EvalEnd → List Value → Type 0
Begins model number args result after = (own : Own) → own_at model number ≡ Some own → Begun model own args result after

-- the values behind the arguments, as many as there are state variables
abbrev pub part : ℕ → ℕ → List Value → List Value
part params states values = take states (drop params values)

-- Some block with this number sends nothing, and these are values of what it sees.
pub record CanMove (model : Model) (number : ℕ) (values : List Value) : Type 0 where
  pub slots : List Field
  pub stmts : List Stmt
  pub vars : Vars
  pub is : IsBlock model slots [] number stmts
  pub fits : Fits (types_of model) vars slots
  pub are : values_in vars ≡ values

-- What the state variables are behind any block with this number, over the values that it sees: of their
-- types.
pub record Moved (model : Model) (number : ℕ) (values : List Value) (params states : ℕ) (result : Result State EvalEnd) : Type 0 where
  pub gives : (slots : List Field) (stmts : List Stmt) (vars : Vars)
      → IsBlock model slots [] number stmts → Fits (types_of model) vars slots → values_in vars ≡ values
      → Gives (lifted (block_of model [] stmts (scene vars [])) >>= (λ end. Ok (part params states (values_in end.vars)))) result
  pub fits : (slots : List Field) (stmts : List Stmt) (vars : Vars) (state : State)
      → IsBlock model slots [] number stmts → Fits (types_of model) vars slots → values_in vars ≡ values → params + states ≤ length slots
      → result ≡ Ok state → Fill (types_of model) (take states (drop params slots)) state

-- A block that sees the input, with this number and place.
pub record IsPhase (model : Model) (number block at : ℕ) (own : Own) (phase : Phase) : Type 0 where
  pub found : own_at model number ≡ Some own
  pub is : IsBlock model (moved_slots model own) [] block phase.stmts
  pub place : at ≡ phase.at

pub record HasPhase (model : Model) (number block at : ℕ) : Type 0 where
  pub own : Own
  pub phase : Phase
  pub is : IsPhase model number block at own phase

-- what the state is behind a block that sees the input
abbrev pub Sees : Model → ℕ → ℕ → ℕ → Site → List Value → State → ℕ → Ports → Result State LeafEnd → Type 0
Sees model number block at site args state elapsed got result =
    (own : Own) (phase : Phase) → IsPhase model number block at own phase
    → formalism.Gives (at_site site (seeing model own phase args state elapsed got)) result
