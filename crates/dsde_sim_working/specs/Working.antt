-- A program at work, and what may come to it.
use Rattle.std.specs.Prelude.{◌≡◌, ℕ, ◌≤◌, false, List, Option, Some, None, Result, Ok, Err, IfSome, slice_get}
use Rattle.dsde_syntax.specs.declared.decl.Model.{Model}
use Rattle.dsde_values.specs.declared.arrival.Arrival.{Arrival}
use Rattle.dsde_values.specs.declared.arrival.Item.{Item}
use Rattle.dsde_values.specs.When.{IsMoment}
use Rattle.dsde_values.specs.declared.value.Value.{Value}
use Rattle.dsde_language.specs.declared.ids.ModelId.{ModelId}
use Rattle.dsde_language.specs.DeclaredModels.{types_of, Own, owns_of}
use Rattle.dsde_language.specs.Typed.{AllSent}
use Rattle.dsde_system.specs.Plans.{ways}
use Rattle.dsde_sim_tree.specs.given.formalism.System.{Chosen}
use Rattle.dsde_sim_tree.specs.declared.fault.TurnEnd.{TurnEnd}
use Rattle.dsde_sim_tree.specs.declared.sim.Sim.{Sim}
use Rattle.dsde_sim_tree.specs.Tree.{parts, model_of}
use Rattle.dsde_sim_tree.specs.declared.step.TheConstants.{MOST_PARTS}
use Rattle.dsde_sim_tree.specs.Engine.{Engine}
use Rattle.dsde_system.specs.Program.{system}
use Rattle.dsde_sim_moving.specs.Fitting.{FitsTree}
use Rattle.dsde_sim_movers.specs.Stands.{StandsEngine}

-- a program, and the engine that runs it
pub record Working : Type 0 where
  pub program : Model
  pub engine : Engine

-- the engine as one of this program
abbrev pub working : Model → Engine → Working
working program engine = record { program = program; engine = engine }

-- Items come to a part of the model with this number: each by one of its in ports, with that port's type.
pub record FitsItems (model : Model) (number : ℕ) (items : List Item) : Type 0 where
  pub own : Own
  pub found : slice_get (owns_of model.decls) number ≡ Some own
  pub come : AllSent (types_of model) (ways model own false) items

-- A record comes at a moment of a run, and its items come to the root.
pub record Comes (model : Model) (root : ModelId) (head : Arrival) : Type 0 where
  pub early : IsMoment head.time
  pub fits : FitsItems model root.0 head.items

-- The head of the input, if there is one, comes to this program at work.
abbrev pub HeadComes : Working → Option Arrival → Type 0
HeadComes own head = IfSome own.engine.tree (λ tree. IfSome head (Comes own.program (model_of tree)))

-- A tree is one of the program, with no more parts alive than there may be.
pub record Stands (model : Model) (tree : Sim) : Type 0 where
  pub fits : FitsTree model tree
  pub within : parts tree ≤ MOST_PARTS

abbrev pub StandsIf : Model → Option Sim → Type 0
StandsIf model None = Unit {0}
StandsIf model (Some tree) = Stands model tree

-- An engine of this program stands at a moment of a run: its tree has the structures of its executives'
-- states and times that go with its advances.
pub record StandsAt (model : Model) (engine : Engine) : Type 0 where
  pub stands : StandsEngine (system model) engine
  pub moment : IsMoment engine.time

-- The root of an engine's tree is of this model.
abbrev pub IsRoot : ModelId → Engine → Type 0
IsRoot model engine = IfSome engine.tree (λ tree. model_of tree ≡ model)

-- arguments, with their model
abbrev pub chosen_by : ModelId → Result (List Value) TurnEnd → Result Chosen TurnEnd
chosen_by model (Ok args) = Ok (record { model = model; args = args })
chosen_by model (Err end) = Err end
