-- The functions of a body: of an atomic model, or of the executive of a network.
use Rattle.std.specs.Prelude.{ℕ, ◌+◌, ◌^◌, nat_lt, ℤ, pos, negsuc, Bool, if◌then◌else◌, List, [], ◌∷◌, ◌++◌, length, map, take, drop, Option, Some, None, Result, Ok, Err}
use Rattle.std.specs.List.{list_any}
use Rattle.dsde_sound_expressions.specs.given.syntax.decl_Model.{Model}
use Rattle.dsde_sound_expressions.specs.given.syntax.decl_Phase.{Phase}
use Rattle.dsde_sound_expressions.specs.given.syntax.decl_StateDecl.{StateDecl}
use Rattle.dsde_executive_plans.specs.given.values.arrival_Item.{Item}
use Rattle.dsde_executive_plans.specs.given.values.types_Field.{Field}
use Rattle.dsde_executive_plans.specs.given.values.value_Value.{Value}
use Rattle.dsde_executive_plans.specs.given.values.value_Value_TheVariants as value
use Rattle.dsde_executive_plans.specs.given.values.when_When.{When}
use Rattle.dsde_executive_plans.specs.given.values.when_When_TheVariants.{At, Never}
use Rattle.dsde_sound_expressions.specs.given.faults.kind_FaultKind_TheVariants.{NegativeAdvance, TimeTooFar, RangeTooLong}
use Rattle.dsde_sound_expressions.specs.given.faults.kind_Site.{Site}
use Rattle.dsde_sound_expressions.specs.given.faults.kind_Site_TheVariants as site
use Rattle.dsde_sound_expressions.specs.given.faults.end_LeafEnd.{LeafEnd}
use Rattle.dsde_sound_expressions.specs.given.faults.end_LeafEnd_TheVariants as leaf_end
use Rattle.dsde_sound_expressions.specs.given.language.Names.{elapsed_name}
use Rattle.dsde_sound_expressions.specs.given.language.Outcome.{Fault, Stuck, Outcome, ◌>>=◌, int_of, option_of}
use Rattle.dsde_sound_expressions.specs.given.language.Meaning.{Vars, Scene, scene, with_var}
use Rattle.dsde_sound_expressions.specs.given.language.Flow.{lifted}
use Rattle.dsde_sound_expressions.specs.given.language.Typed.{values_in}
use Rattle.dsde_sound_expressions.specs.given.language.DeclaredModels.{Own, body_ins, body_outs, param_slots, state_slots}
use Rattle.dsde_sound_expressions.specs.given.language.Functions.{mean_of, block_of}
use Rattle.dsde_formalism.specs.System.{State, Ports}
use Rattle.dsde_formalism.specs.Leaf as formalism

-- An outcome in a part of a component. What is stuck is met by no model in which nothing is wrong; its
-- place here is of no account.
abbrev pub at_site : {A : Type 0} → Site → Outcome A → Result A LeafEnd
at_site own (Ok value) = Ok value
at_site own (Err (Fault kind at)) = Err (leaf_end.Fault own kind at)
at_site own (Err Stuck) = Err leaf_end.Memory

-- names with values, one each in their order
abbrev pub vars_of : List Field → List Value → Vars
vars_of (field ∷ fields) (own ∷ values) = record { name = field.name; value = own } ∷ vars_of fields values
vars_of _ _ = []

-- what a body sees: its parameters with the arguments, and its state variables
abbrev pub body_vars : Model → Own → List Value → State → Vars
body_vars model own args state = vars_of (param_slots model own) args ++ vars_of (state_slots model own) state

-- the first values of state variables, each over what is seen before it; behind those that are done
abbrev pub inits_from : Model → State → List StateDecl → Vars → Outcome State
inits_from model done [] vars = Ok done
inits_from model done (state ∷ states) vars =
    mean_of model state.value vars >>= (λ first.
    inits_from model (done ++ first ∷ []) states (with_var state.name.name first vars))

-- the time of a next event, by the time of the last one and the advance
abbrev pub after : ℕ → ℕ → ℤ → Outcome When
after at time (pos number) = if nat_lt (time + number) (2 ^ 63) then Ok (At (time + number)) else Err (Fault TimeTooFar at)
after at time (negsuc number) = Err (Fault NegativeAdvance at)

abbrev pub due_after : ℕ → ℕ → Option Value → Outcome When
due_after at time None = Ok Never
due_after at time (Some own) = int_of own >>= (λ number. after at time number)

-- when a component of this state, whose last event is at this time, is due next
abbrev pub due : Model → Own → List Value → State → ℕ → Outcome When
due model own args state time =
    mean_of model own.body.advance (body_vars model own args state) >>= (λ advance.
    option_of advance >>= (λ held. due_after own.body.advance_at time held))

-- what the output block sends, in the order in which it ran
abbrev pub sends : Model → Own → List Value → State → Outcome (List Item)
sends model own args state = elim own.body.output [
  | None ↦ Ok []
  | Some phase ↦ lifted (block_of model (body_outs model own) phase.stmts (scene (body_vars model own args state) [])) >>= (λ end. Ok end.sends)
]

-- the values of the state variables at the end of a block
abbrev pub state_in : Model → Own → Scene → State
state_in model own end = take (length (state_slots model own)) (drop (length (param_slots model own)) (values_in end.vars))

-- the state behind a block over these variables
abbrev pub moved_by : Model → Own → Phase → Vars → Outcome State
moved_by model own phase vars = lifted (block_of model [] phase.stmts (scene vars [])) >>= (λ end. Ok (state_in model own end))

-- An internal transition that is omitted keeps the state.
abbrev pub internal : Model → Own → List Value → State → Outcome State
internal model own args state = elim own.body.internal [
  | None ↦ Ok state
  | Some phase ↦ moved_by model own phase (body_vars model own args state)
]

-- the values that came at each in port, as a list
abbrev pub lists_of : Ports → List Value
lists_of got = map (λ values. value.List values) got

-- what came at each in port, and the time elapsed
abbrev pub input_vars : Model → Own → ℕ → Ports → Vars
input_vars model own elapsed got =
    vars_of (body_ins model own) (lists_of got) ++ record { name = elapsed_name; value = value.Int (pos elapsed) } ∷ []

-- too many values came at one in port
abbrev pub is_flooded : Ports → Bool
is_flooded got = list_any (λ values. nat_lt 65536 (length values)) got

-- the state behind a block that sees the input
abbrev pub seeing : Model → Own → Phase → List Value → State → ℕ → Ports → Outcome State
seeing model own phase args state elapsed got =
    if is_flooded got then Err (Fault RangeTooLong phase.at)
    else moved_by model own phase (body_vars model own args state ++ input_vars model own elapsed got)

-- An external transition that is omitted keeps the state; a model with an in port has one.
abbrev pub external : Model → Own → List Value → State → ℕ → Ports → Outcome State
external model own args state elapsed got = elim own.body.external [
  | None ↦ Ok state
  | Some phase ↦ seeing model own phase args state elapsed got
]

-- A confluent transition that is omitted is the internal one, and then the external one with no time elapsed.
abbrev pub confluent : Model → Own → List Value → State → ℕ → Ports → Result State LeafEnd
confluent model own args state elapsed got = elim own.body.confluent [
  | Some phase ↦ at_site site.Confluent (seeing model own phase args state elapsed got)
  | None ↦ formalism.◌>>=◌ (at_site site.Internal (internal model own args state)) (λ moved.
      at_site site.External (external model own args moved 0 got))
]
