-- Where the faults of a system stand: at tokens of its text, which has so many.
use Rattle.std.specs.Prelude.{◌≡◌, ◌<◌, ℕ, List, length, Result, Ok, Err}
use Rattle.dsde_syntax.specs.declared.decl.Model.{Model}
use Rattle.dsde_syntax.specs.Grammar.{tokens_of}
use Rattle.dsde_syntax.specs.Shape.{IsShaped}
use Rattle.dsde_values.specs.declared.value.Value.{Value}
use Rattle.dsde_language.specs.declared.ids.ModelId.{ModelId}
use Rattle.dsde_faults.specs.declared.end.LeafEnd.{LeafEnd}
use Rattle.dsde_faults.specs.declared.end.LeafEnd.TheVariants as leaf_end
use Rattle.dsde_formalism.specs.System.{State, Ports, Component, Network, Chosen, System}
use Rattle.dsde_system.specs.Program.{system}

-- What has no value ends in this way.
abbrev pub Ends : {A H : Type 0} → (H → Type 0) → Result A H → Type 0
Ends P (Ok value) = Unit {0}
Ends P (Err why) = P why

-- A fault of a component stands at one of so many tokens.
abbrev pub IsLeafBelow : ℕ → LeafEnd → Type 0
IsLeafBelow n (leaf_end.Fault site kind at) = at < n
IsLeafBelow n leaf_end.Memory = Unit {0}

-- So do a component, and all faults of its functions.
pub record IsComponentBelow (n : ℕ) (own : Component) : Type 0 where
  pub place : own.at < n
  pub init : Ends (IsLeafBelow n) own.init
  pub advance : (state : State) (time : ℕ) → Ends (IsLeafBelow n) (own.advance state time)
  pub output : (state : State) → Ends (IsLeafBelow n) (own.output state)
  pub internal : (state : State) → Ends (IsLeafBelow n) (own.internal state)
  pub external : (state : State) (elapsed : ℕ) (got : Ports) → Ends (IsLeafBelow n) (own.external state elapsed got)
  pub confluent : (state : State) (elapsed : ℕ) (got : Ports) → Ends (IsLeafBelow n) (own.confluent state elapsed got)

-- So do a network, and all faults of its structures.
pub record IsNetworkBelow (n : ℕ) (own : Network) : Type 0 where
  pub place : own.at < n
  pub structure : (state : State) → Ends (IsLeafBelow n) (own.structure state)

-- So do all components and networks of a system.
pub record IsSystemBelow (n : ℕ) (system : System) : Type 0 where
  pub component : (number : ModelId) (args : List Value) → IsComponentBelow n (system.component number args)
  pub network : (number : ModelId) (args : List Value) → IsNetworkBelow n (system.network number args)

-- Where the arguments of what runs fault, the fault stands at a token of the text.
abbrev pub TopsAreBelow : Type 0
TopsAreBelow = (model : Model) → IsShaped model → Ends (IsLeafBelow (length (tokens_of model))) (system model).top

-- Where something runs, all components and networks and their faults stand at tokens of the text.
abbrev pub SystemsAreBelow : Type 0
SystemsAreBelow = (model : Model) (chosen : Chosen) → IsShaped model → (system model).top ≡ Ok chosen → IsSystemBelow (length (tokens_of model)) (system model)
