-- A run of a program, by the definitions of runs of a system.
use Rattle.std.specs.Prelude.{ℕ, Bool, List, Option}
use Rattle.dsde_syntax.specs.declared.decl.Model.{Model}
use Rattle.dsde_values.specs.declared.arrival.Arrival.{Arrival}
use Rattle.dsde_input_records.specs.Records.{Records}
use Rattle.dsde_language.specs.DeclaredModels.{top_ins, types_of}
use Rattle.dsde_image_rows.specs.given.system.Program.{system}
use Rattle.dsde_sim_tree.specs.declared.event.Event.{Event}
use Rattle.dsde_sim_tree.specs.declared.fault.TurnEnd.{TurnEnd}
use Rattle.dsde_sim_tree.specs.declared.step.Step.{Step}
use Rattle.dsde_sim_tree.specs.Engine.{Engine}
use Rattle.dsde_sim_tree.specs.Told.{Told}
use Rattle.dsde_sim_tree.specs.Turn as turn
use Rattle.dsde_run_meaning.specs.Run as runs
use Rattle.dsde_run_meaning.specs.Run.{Run, Spots}
use Rattle.dsde_trace.specs.Pick as pick
use Rattle.dsde_trace.specs.Text as text
use Rattle.dsde_trace.specs.declared.pick.Pick.{Pick}

-- A model that runs, and the line and the column of each place of its text.
pub record Running : Type 0 where
  pub model : Model
  pub spots : Spots

abbrev pub running : Model → Spots → Running
running model spots = record { model = model; spots = spots }

-- its start, a turn of it, and its runs
abbrev pub start : Running → Told Engine
start own = turn.start (system own.model)

abbrev pub advance : Running → Engine → Option Arrival → Told (Step × Engine)
advance own engine head = turn.advance (system own.model) engine head

abbrev pub faulted : Running → TurnEnd → ℕ → ℕ → Engine → Run
faulted own = runs.faulted own.spots

abbrev pub turn_on : Running → Engine → Option Arrival → (Bool → Engine → Run) → Run
turn_on own = runs.turn_on (system own.model) own.spots

abbrev pub go : Running → ℕ → Records → Engine → Run
go own = runs.go (system own.model) own.spots

abbrev pub run : Running → Records → ℕ → Run
run own = runs.run (system own.model) own.spots

-- the same by engines that advance in another way: one turn, turns one after the other, and turns behind a start
abbrev pub turn_by : {State : Type 0} → (State → Engine) → (State → Option Arrival → Told (Step × State)) → Running → State → Option Arrival → (Bool → State → Run) → Run
turn_by engine advance own = runs.turn_by engine advance own.spots

abbrev pub go_by : {State : Type 0} → (State → Engine) → (State → Option Arrival → Told (Step × State)) → Running → ℕ → Records → State → Run
go_by engine advance own = runs.go_by engine advance own.spots

abbrev pub run_by : {State : Type 0} → (State → Engine) → (State → Option Arrival → Told (Step × State)) → Told State → Running → Records → ℕ → Run
run_by engine advance begins own = runs.run_by engine advance begins own.spots

-- the records of an input to it
abbrev pub records_in : Running → List ℕ → Records
records_in own bytes = runs.records_in (top_ins own.model) (types_of own.model) bytes

-- the line of an event of it; that line where a selection keeps it; and the lines of its trace that are kept
abbrev pub event_text : Running → Event → List ℕ
event_text own = text.event_text own.model

abbrev pub kept_line : Running → Pick → Event → List ℕ
kept_line own = pick.kept_line own.model

abbrev pub kept_text : Running → Pick → List Event → List ℕ
kept_text own = pick.kept_text own.model
