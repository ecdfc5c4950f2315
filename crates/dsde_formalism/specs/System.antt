-- The formalism: what the models of a system are (A. C. Chow and B. P. Zeigler, "Parallel DEVS", WSC
-- 1994; F. J. Barros, "Modeling Formalisms for Dynamic Structure Systems", ACM TOMACS 7(4), 1997).
use Rattle.std.specs.Prelude.{ℕ, Bool, List, Result}
use Rattle.dsde_values.specs.declared.arrival.Item.{Item}
use Rattle.dsde_values.specs.declared.value.Value.{Value}
use Rattle.dsde_values.specs.declared.when.When.{When}
use Rattle.dsde_language.specs.given.faults.end_LeafEnd.{LeafEnd}
use Rattle.dsde_language.specs.declared.ids.ModelId.{ModelId}
use Rattle.dsde_structure.specs.declared.plan.Plan.{Plan}
use Rattle.dsde_structure.specs.Gather.{Translation}
pub use Rattle.dsde_structure.specs.Gather.{Ports}

-- the values of state variables
abbrev pub State : Type 0
State = List Value

-- An atomic component, or an executive: its initial state, the time of its next internal event for a
-- state and the time of its last event, what it sends, and its transitions: the internal one, and
-- those by the time elapsed and the values that came. Each may fault, with the part of the component
-- in which the fault comes and its place. `at` is the place of the component itself.
pub record Component : Type 0 where
  pub at : ℕ
  pub ins : ℕ
  pub outs : ℕ
  pub init : Result State LeafEnd
  pub advance : State → ℕ → Result When LeafEnd
  pub output : State → Result (List Item) LeafEnd
  pub internal : State → Result State LeafEnd
  pub external : State → ℕ → Ports → Result State LeafEnd
  pub confluent : State → ℕ → Ports → Result State LeafEnd

-- A network: its place, its ports, and the structure that goes with a state of its executive.
pub record Network : Type 0 where
  pub at : ℕ
  pub ins : ℕ
  pub outs : ℕ
  pub structure : State → Result Plan LeafEnd

-- a model with arguments
pub record Chosen : Type 0 where
  pub model : ModelId
  pub args : List Value

-- The models of a system, each with arguments: an atomic component, or a network and its executive;
-- what translations make of values; and the model that runs.
pub record System : Type 0 where
  pub is_network : ModelId → Bool
  pub component : ModelId → List Value → Component
  pub network : ModelId → List Value → Network
  pub translate : Translation
  pub top : Result Chosen LeafEnd
