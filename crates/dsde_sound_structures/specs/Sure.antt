-- What the components of a model in which nothing is wrong come to.
use Rattle.std.specs.Prelude.{◌≡◌, ℕ, true, List, Some, Result, Ok, Err, slice_get}
use Rattle.dsde_sim_tree.specs.given.syntax.decl_Model.{Model}
use Rattle.dsde_values.specs.declared.value.Value.{Value}
use Rattle.dsde_values.specs.When.{IsMoment}
use Rattle.dsde_faults.specs.declared.end.LeafEnd.{LeafEnd}
use Rattle.dsde_faults.specs.declared.end.LeafEnd.TheVariants as leaf_end
use Rattle.dsde_sim_tree.specs.given.language.ids_ModelId.{ModelId}
use Rattle.dsde_sim_tree.specs.given.language.Right.{IsRight}
use Rattle.dsde_sim_tree.specs.given.structure.plan_Plan.{Plan}
use Rattle.dsde_sim_tree.specs.given.language.DeclaredModels.{top_number, Own, owns_of}
use Rattle.dsde_sim_tree.specs.given.formalism.System.{State, Ports, Chosen}
use Rattle.dsde_system.specs.Program.{system}
use Rattle.dsde_system.specs.Fitting.{FitsArgs, FitsState, FitsInputs, FitsSends, IsInTime}
use Rattle.dsde_system.specs.Plans.{FitsPlan}

-- A step of a component comes to a value of which this holds, or to a fault; it is never left without an
-- end, which in the definitions would look like want of memory.
abbrev pub Sure : {A : Type 0} → (A → Type 0) → Result A LeafEnd → Type 0
Sure Holds (Ok value) = Holds value
Sure Holds (Err (leaf_end.Fault site kind at)) = Unit {0}
Sure Holds (Err leaf_end.Memory) = ⊥

-- The functions of the component of a model with arguments, each where its state and what it received fit.
pub record IsSure (model : Model) (number : ModelId) (args : List Value) : Type 0 where
  pub init : Sure (FitsState model number.0) ((system model).component number args).init
  pub advance : (state : State) (time : ℕ) → FitsState model number.0 state → Sure IsInTime (((system model).component number args).advance state time)
  pub output : (state : State) → FitsState model number.0 state → Sure (FitsSends model number.0) (((system model).component number args).output state)
  pub internal : (state : State) → FitsState model number.0 state → Sure (FitsState model number.0) (((system model).component number args).internal state)
  pub external : (state : State) (elapsed : ℕ) (got : Ports) → FitsState model number.0 state → IsMoment elapsed → FitsInputs model number.0 got
      → Sure (FitsState model number.0) (((system model).component number args).external state elapsed got)
  pub confluent : (state : State) (elapsed : ℕ) (got : Ports) → FitsState model number.0 state → IsMoment elapsed → FitsInputs model number.0 got
      → Sure (FitsState model number.0) (((system model).component number args).confluent state elapsed got)

abbrev pub ComponentsAreSure : Type 0
ComponentsAreSure = (model : Model) (number : ModelId) (args : List Value) → IsRight model → FitsArgs model number.0 args → IsSure model number args

-- A plan fits the network with this number.
pub record FitsNetwork (model : Model) (number : ℕ) (plan : Plan) : Type 0 where
  pub own : Own
  pub found : slice_get (owns_of model.decls) number ≡ Some own
  pub fits : FitsPlan model own plan

abbrev pub StructuresAreSure : Type 0
StructuresAreSure =
    (model : Model) (number : ModelId) (args : List Value) (state : State)
    → IsRight model → (system model).is_network number ≡ true → FitsArgs model number.0 args → FitsState model number.0 state
    → Sure (FitsNetwork model number.0) (((system model).network number args).structure state)

-- The model that runs is chosen, with arguments that fit it.
pub record FitsChosen (model : Model) (chosen : Chosen) : Type 0 where
  pub is : chosen.model ≡ top_number model
  pub args : FitsArgs model chosen.model.0 chosen.args

abbrev pub TopIsSure : Type 0
TopIsSure = (model : Model) → IsRight model → Sure (FitsChosen model) (system model).top
