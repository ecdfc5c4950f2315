-- A whole run of a system on the records of an input: its events, of which the last says how it ended, and the engine before that end.
use Rattle.std.specs.Prelude.{ℕ, zero, suc, ◌+◌, Bool, if◌then◌else◌, List, [], ◌∷◌, ◌++◌, Option, Some, None, unwrap_or, Ok, Err, slice_get}
use Rattle.dsde_values.specs.declared.arrival.Arrival.{Arrival}
use Rattle.dsde_values.specs.declared.types.Field.{Field}
use Rattle.dsde_values.specs.declared.types.Types.{Types}
use Rattle.dsde_input_records.specs.declared.end.InputEnd.{InputEnd}
use Rattle.dsde_input_records.specs.declared.end.InputEnd.TheVariants as input_end
use Rattle.dsde_input_records.specs.declared.end.InputEnd.TheVariants.{BadLine, Backwards, LineTooLong, ReadFault}
use Rattle.dsde_input_records.specs.Lines.{lines}
use Rattle.dsde_input_records.specs.Records.{Records, end, bad, one, records_of}
use Rattle.dsde_sim_tree.specs.given.formalism.System.{System}
use Rattle.dsde_sim_tree.specs.declared.event.Event.{Event}
use Rattle.dsde_sim_tree.specs.declared.event.Event.TheVariants as event
use Rattle.dsde_sim_tree.specs.declared.event.Finish.{Finish}
use Rattle.dsde_sim_tree.specs.declared.event.Finish.TheVariants as how
use Rattle.dsde_sim_tree.specs.declared.event.InputKind.TheVariants as kind
use Rattle.dsde_sim_tree.specs.declared.fault.TurnEnd.{TurnEnd}
use Rattle.dsde_sim_tree.specs.declared.fault.TurnEnd.TheVariants.{Fault, Memory}
use Rattle.dsde_sim_tree.specs.Told.{Told}
use Rattle.dsde_sim_tree.specs.declared.step.Step.{Step}
use Rattle.dsde_sim_tree.specs.declared.step.Step.TheVariants.{Turned, Quiet}
use Rattle.dsde_sim_tree.specs.Engine.{Engine, next_of}
use Rattle.dsde_sim_tree.specs.Turn.{start, advance, turn_time}

-- What a run tells, how it ended, and the engine before the turn in which it did. A run that is cut short has no end.
pub record Run : Type 0 where
  pub events : List Event
  pub end : Option Finish
  pub state : Engine

-- the end of a run
abbrev pub ended : Finish → ℕ → ℕ → Engine → Run
ended how turns time engine = record { events = event.Finish how turns time ∷ []; end = Some how; state = engine }

-- a run that is cut short here
abbrev pub cut : Engine → Run
cut engine = record { events = []; end = None; state = engine }

-- events, and then the rest of the run
abbrev pub preceded : List Event → Run → Run
preceded events rest = record { events = events ++ rest.events; end = rest.end; state = rest.state }

-- the line and the column of each place of a model's text
abbrev pub Spots : Type 0
Spots = List (ℕ × ℕ)

-- the line and the column of a place; those of one that the text has not are 0
abbrev pub spot_at : Spots → ℕ → ℕ × ℕ
spot_at spots at = unwrap_or (slice_get spots at) (0, 0)

-- the end of a run whose start or turn does not come to its end
abbrev pub faulted : Spots → TurnEnd → ℕ → ℕ → Engine → Run
faulted spots (Fault path site kind at) turns time engine =
    ended (how.Fault (record { path = path; site = site; kind = kind; line = (spot_at spots at).0; column = (spot_at spots at).1 })) turns time engine
faulted spots Memory turns time engine = cut engine

-- the end of a run that wants a line which is no record, or cannot be read
abbrev pub offended : InputEnd → Engine → Run
offended (BadLine line) engine = ended (how.Input kind.BadLine line) engine.turn engine.time engine
offended (Backwards line) engine = ended (how.Input kind.Backwards line) engine.turn engine.time engine
offended (LineTooLong line) engine = ended (how.Input kind.LineTooLong line) engine.turn engine.time engine
offended ReadFault engine = cut engine
offended input_end.Memory engine = cut engine

-- One turn with this head of the input, and what comes later where it is done. A run stands at a state between two
-- turns: an engine, and whatever else an advance goes by.
abbrev pub turn_by : {State : Type 0} → (State → Engine) → (State → Option Arrival → Told (Step × State)) → Spots → State → Option Arrival → (Bool → State → Run) → Run
turn_by engine advance spots own head later = preceded (advance own head).events (elim (advance own head).end [
  | Ok answer ↦ elim answer.0 [
    | Turned took_input ↦ later took_input answer.1
    | Quiet ↦ ended how.Quiet (engine own).turn (engine own).time (engine own)
  ]
  | Err why ↦ faulted spots why ((engine own).turn + 1) (unwrap_or (turn_time (next_of (engine own)) head) (engine own).time) (engine own)
])

-- at most this many turns from a state, each by this advance, on these records, each of which is the head until it is taken
abbrev pub go_by : {State : Type 0} → (State → Engine) → (State → Option Arrival → Told (Step × State)) → Spots → ℕ → Records → State → Run
go_by engine advance spots zero records own = ended how.Bound (engine own).turn (engine own).time (engine own)
go_by engine advance spots (suc turns) (bad offence) own = offended offence (engine own)
go_by engine advance spots (suc turns) end own = turn_by engine advance spots own None (λ took_input after. go_by engine advance spots turns end after)
go_by engine advance spots (suc turns) (one head later) own =
    turn_by engine advance spots own (Some head) (λ took_input after. go_by engine advance spots turns (if took_input then later else one head later) after)

-- the engine alone
abbrev pub alone : Engine → Engine
alone engine = engine

-- one turn of an engine in path order, and at most this many of them
abbrev pub turn_on : System → Spots → Engine → Option Arrival → (Bool → Engine → Run) → Run
turn_on system = turn_by alone (advance system)

abbrev pub go : System → Spots → ℕ → Records → Engine → Run
go system = go_by alone (advance system)

-- an engine that has not started
abbrev pub unstarted : Engine
unstarted = record { tree = None; turn = 0; time = 0; taken = 0 }

-- a start, and then at most this many turns, each by this advance, on these records
abbrev pub run_by : {State : Type 0} → (State → Engine) → (State → Option Arrival → Told (Step × State)) → Told State → Spots → Records → ℕ → Run
run_by engine advance begins spots records turns = preceded begins.events (elim begins.end [
  | Ok own ↦ go_by engine advance spots turns records own
  | Err why ↦ faulted spots why 0 0 unstarted
])

-- a system's start, and then at most this many turns in path order on these records
abbrev pub run : System → Spots → Records → ℕ → Run
run system = run_by alone (advance system) (start system)

-- the records of an input to a model with these in ports, over its table of types
abbrev pub records_in : List Field → Types → List ℕ → Records
records_in ports types bytes = records_of ports types 0 (lines bytes) 0 None
