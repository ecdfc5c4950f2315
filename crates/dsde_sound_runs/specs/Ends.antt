-- What comes to a model that runs, and that its runs end.
use Rattle.std.specs.Prelude.{◌≡◌, ℕ, false, List, Option, Some, Ok, IfSome, slice_get}
use Rattle.dsde_syntax.specs.declared.decl.Model.{Model}
use Rattle.dsde_values.specs.declared.arrival.Arrival.{Arrival}
use Rattle.dsde_values.specs.declared.arrival.Item.{Item}
use Rattle.dsde_values.specs.When.{IsMoment}
use Rattle.dsde_language.specs.DeclaredModels.{Own, owns_of, top_ins, top_number, types_of}
use Rattle.dsde_language.specs.Right.{IsRight}
use Rattle.dsde_input.specs.Reader.{IsOffence}
use Rattle.dsde_input_records.specs.Records.{Records, end, bad, one}
use Rattle.dsde_sim_tree.specs.declared.event.Finish.{Finish}
use Rattle.dsde_sim_starting.specs.Fitting.{FitsTree}
use Rattle.dsde_sim_tree.specs.declared.sim.Sim.{Sim}
use Rattle.dsde_sim_tree.specs.Tree.{model_of}
use Rattle.dsde_sim_tree.specs.declared.step.Step.{Step}
use Rattle.dsde_sim_tree.specs.Engine.{Engine}
use Rattle.dsde_sim_tree.specs.Turn.{advance, start}
use Rattle.dsde_language.specs.Typed.{AllSent}
use Rattle.dsde_run_meaning.specs.Run.{Run, Spots, run, records_in}
use Rattle.dsde_sim_starting.specs.given.system.Plans.{ways}
use Rattle.dsde_sim_starting.specs.given.system.Program.{system}

-- Items come by in ports of the model with this number, each a value of its port's type.
pub record ComeBy (model : Model) (number : ℕ) (items : List Item) : Type 0 where
  pub own : Own
  pub found : slice_get (owns_of model.decls) number ≡ Some own
  pub come : AllSent (types_of model) (ways model own false) items

-- A record comes to the model that runs, at a moment of a run.
pub record Arrives (model : Model) (head : Arrival) : Type 0 where
  pub early : IsMoment head.time
  pub items : ComeBy model (top_number model).0 head.items

-- All records come to the model that runs, up to the end or to a line that is none; no read failed.
abbrev pub AllArrive : Model → Records → Type 0
AllArrive model end = Unit {0}
AllArrive model (bad offence) = IsOffence offence
AllArrive model (one head later) = Arrives model head × AllArrive model later

-- A run has an end.
pub record HasEnd (own : Run) : Type 0 where
  pub how : Finish
  pub is : own.end ≡ Some how

abbrev pub RunsEnd : Type 0
RunsEnd =
    (model : Model) (spots : Spots) (records : Records) (turns : ℕ)
    → IsRight model → AllArrive model records → HasEnd (run (system model) spots records turns)

abbrev pub InputsArrive : Type 0
InputsArrive = (model : Model) (bytes : List ℕ) → IsRight model → AllArrive model (records_in (top_ins model) (types_of model) bytes)

-- An engine has a tree of the program, and its root is of the model that runs.
pub record FitsEngine (model : Model) (engine : Engine) : Type 0 where
  pub tree : Sim
  pub is : engine.tree ≡ Some tree
  pub fits : FitsTree model tree
  pub root : model_of tree ≡ top_number model

-- An engine that starts has one, and one that has it keeps it in its next turn, whatever record comes.
abbrev pub StartFits : Type 0
StartFits = (model : Model) (engine : Engine) → IsRight model → (start (system model)).end ≡ Ok engine → FitsEngine model engine

abbrev pub AdvanceFits : Type 0
AdvanceFits =
    (model : Model) (engine : Engine) (head : Option Arrival) (answer : Step × Engine)
    → IsRight model → FitsEngine model engine → IfSome head (Arrives model) → (advance (system model) engine head).end ≡ Ok answer → FitsEngine model answer.1
