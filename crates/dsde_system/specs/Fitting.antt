-- What fits a program: arguments, components, what comes to them and what they send.
use Rattle.std.specs.Prelude.{◌≡◌, ℕ, ◌<◌, List, [], ◌∷◌, length, Some, Result, Ok, Err, slice_get}
use Rattle.dsde_sound_expressions.specs.given.syntax.decl_Model.{Model}
use Rattle.dsde_executive_plans.specs.given.values.arrival_Item.{Item}
use Rattle.dsde_executive_plans.specs.given.values.types_Field.{Field}
use Rattle.dsde_executive_plans.specs.given.values.types_Ty.{Ty}
use Rattle.dsde_executive_plans.specs.given.values.types_Types.{Types}
use Rattle.dsde_executive_plans.specs.given.values.value_Value.{Value}
use Rattle.dsde_executive_plans.specs.given.values.when_When.{When}
use Rattle.dsde_executive_plans.specs.given.values.when_When_TheVariants.{At, Never}
use Rattle.dsde_executive_plans.specs.given.values.When.{IsMoment}
use Rattle.dsde_sound_expressions.specs.given.faults.end_LeafEnd.{LeafEnd}
use Rattle.dsde_sound_expressions.specs.given.faults.end_LeafEnd_TheVariants as leaf_end
use Rattle.dsde_sound_expressions.specs.given.language.ids_ModelId.{ModelId}
use Rattle.dsde_sound_expressions.specs.given.language.DeclaredModels.{types_of, Own, owns_of, param_slots, state_slots, body_ins, body_outs}
use Rattle.dsde_sound_expressions.specs.given.language.NodeModels.{infos_of}
use Rattle.dsde_sound_expressions.specs.given.language.Typed.{Typed, AllSent}
use Rattle.dsde_formalism.specs.declared.leaf.Leaf.{Leaf}
use Rattle.dsde_formalism.specs.System.{Ports, Chosen}

-- Values have the types of these fields, one each in their order.
abbrev pub Fill : Types → List Field → List Value → Type 0
Fill types [] [] = Unit {0}
Fill types (field ∷ fields) (value ∷ values) = Typed types field.ty value × Fill types fields values
Fill types _ _ = ⊥

-- Each of these values has this type.
abbrev pub AreOf : Types → Ty → List Value → Type 0
AreOf types ty [] = Unit {0}
AreOf types ty (value ∷ values) = Typed types ty value × AreOf types ty values

-- There is a list of values for each of these ports, in their order, of its type.
abbrev pub Reach : Types → List Field → Ports → Type 0
Reach types [] [] = Unit {0}
Reach types (port ∷ ports) (values ∷ got) = AreOf types port.ty values × Reach types ports got
Reach types _ _ = ⊥

-- not past the last moment of a run
abbrev pub IsInTime : When → Type 0
IsInTime (At time) = IsMoment time
IsInTime Never = Unit {0}

-- Values are arguments of the model with this number.
pub record FitsArgs (model : Model) (number : ℕ) (args : List Value) : Type 0 where
  pub below : number < length (infos_of model)
  pub own : Own
  pub found : slice_get (owns_of model.decls) number ≡ Some own
  pub fill : Fill (types_of model) (param_slots model own) args

-- Values are those of the state variables of the model with this number.
pub record FitsState (model : Model) (number : ℕ) (state : List Value) : Type 0 where
  pub own : Own
  pub found : slice_get (owns_of model.decls) number ≡ Some own
  pub fill : Fill (types_of model) (state_slots model own) state

-- A component is one of a model of the program: its arguments and its state have their types, and its
-- times are moments of a run.
pub record FitsLeaf (model : Model) (leaf : Leaf) : Type 0 where
  pub below : leaf.model.0 < length (infos_of model)
  pub own : Own
  pub found : slice_get (owns_of model.decls) leaf.model.0 ≡ Some own
  pub args : Fill (types_of model) (param_slots model own) leaf.args
  pub state : Fill (types_of model) (state_slots model own) leaf.state
  pub last : IsMoment leaf.last
  pub next : IsInTime leaf.next

-- What comes to the body of the model with this number: a list for each of its in ports, of its type.
pub record FitsInputs (model : Model) (number : ℕ) (got : Ports) : Type 0 where
  pub own : Own
  pub found : slice_get (owns_of model.decls) number ≡ Some own
  pub reach : Reach (types_of model) (body_ins model own) got

-- What the body of the model with this number sends goes by its out ports, and has their types.
pub record FitsSends (model : Model) (number : ℕ) (sends : List Item) : Type 0 where
  pub own : Own
  pub found : slice_get (owns_of model.decls) number ≡ Some own
  pub sent : AllSent (types_of model) (body_outs model own) sends

-- The answer is the arguments of the model that is chosen, which is the one with this number, or memory
-- ran out.
abbrev pub Topped : Result Chosen LeafEnd → ModelId → Result (List Value) LeafEnd → Type 0
Topped top model (Ok args) = top ≡ Ok (record { model = model; args = args })
Topped top model (Err (leaf_end.Fault site kind at)) = top ≡ Err (leaf_end.Fault site kind at)
Topped top model (Err leaf_end.Memory) = Unit {0}
