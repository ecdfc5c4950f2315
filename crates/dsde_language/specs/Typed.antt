-- Values that have a type, and outcomes that no model meets in which nothing is wrong.
use Rattle.std.specs.Prelude.{◌≡◌, Bool, true, false, List, [], ◌∷◌, map, Some, Ok, Err, slice_get}
use Rattle.dsde_values.specs.declared.arrival.Item.{Item}
use Rattle.dsde_values.specs.declared.types.Field.{Field}
use Rattle.dsde_values.specs.declared.types.Ty.{Ty}
use Rattle.dsde_values.specs.declared.types.Types.{Types}
use Rattle.dsde_values.specs.declared.value.Value.{Value}
use Rattle.dsde_values.specs.Value.{has_type}
use Rattle.dsde_language.specs.Outcome.{Halt, Fault, Stuck, Outcome}
use Rattle.dsde_language.specs.Flow.{Flow, stopped}
use Rattle.dsde_language.specs.Meaning.{Var, Vars, Scene}
use Rattle.dsde_language.specs.MeaningTables.{State, state_of}

-- A value has a type.
pub record Typed (types : Types) (ty : Ty) (value : Value) : Type 0 where
  pub has : has_type types value ty ≡ true

-- An outcome is a value of which this holds, or, where it need not be total, a fault; it is never stuck.
abbrev pub Sound : {A : Type 0} → Bool → (A → Type 0) → Outcome A → Type 0
Sound total Holds (Ok value) = Holds value
Sound total Holds (Err (Fault kind at)) = total ≡ false
Sound total Holds (Err Stuck) = ⊥

-- Values have these types, one each in their order.
abbrev pub AllTyped : Types → List Ty → List Value → Type 0
AllTyped types [] [] = Unit {0}
AllTyped types (ty ∷ tys) (value ∷ values) = Typed types ty value × AllTyped types tys values
AllTyped types _ _ = ⊥

-- Variables are those of slots, with values of their types.
abbrev pub Fits : Types → Vars → List Field → Type 0
Fits types [] [] = Unit {0}
Fits types (var ∷ vars) (field ∷ fields) = (var.name ≡ field.name) × Typed types field.ty var.value × Fits types vars fields
Fits types _ _ = ⊥

-- the values of variables
abbrev pub values_in : Vars → List Value
values_in = map (λ (var : Var). var.value)

-- An item that was sent has the type of its out port.
pub record IsSent (types : Types) (outs : List Field) (item : Item) : Type 0 where
  pub port : Field
  pub found : slice_get outs item.port ≡ Some port
  pub has : Typed types port.ty item.value

abbrev pub AllSent : Types → List Field → List Item → Type 0
AllSent types outs [] = Unit {0}
AllSent types outs (item ∷ items) = IsSent types outs item × AllSent types outs items

-- Statements stop at a fault alone.
abbrev pub Faults : Halt → Type 0
Faults (Fault kind at) = Unit {0}
Faults Stuck = ⊥

-- Statements leave variables of these slots, or stop at a fault; what they sent fits its ports at either end.
abbrev pub Lands : Types → List Field → List Field → Flow Scene Scene → Type 0
Lands types outs slots (Ok after) = Fits types after.vars slots × AllSent types outs after.sends
Lands types outs slots (Err end) = Faults end.halt × AllSent types outs end.state.sends

-- variables by their slots
abbrev pub shown : Scene → State
shown scene = state_of (values_in scene.vars) scene.sends

abbrev pub seen : Flow Scene Scene → Flow State State
seen (Ok after) = Ok (shown after)
seen (Err end) = stopped (shown end.state) end.halt
