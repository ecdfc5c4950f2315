-- The turns of a run, one after the other, and that each is delivered.
use Rattle.std.specs.Prelude.{◌≡◌, ℕ, zero, suc, Bool, if◌then◌else◌, List, [], ◌∷◌, ◌++◌, Option, Some, None, Ok, Err}
use Rattle.std.specs.List.{AllByRecursion, flat_map}
use Rattle.dsde_values.specs.declared.arrival.Arrival.{Arrival}
use Rattle.dsde_input_records.specs.Records.{Records, end, bad, one}
use Rattle.dsde_formalism.specs.System.{System}
use Rattle.dsde_sim_tree.specs.declared.event.Event.{Event}
use Rattle.dsde_sim_tree.specs.declared.event.Event.TheVariants.{Finish}
use Rattle.dsde_sim_tree.specs.declared.step.Step.TheVariants.{Turned, Quiet}
use Rattle.dsde_sim_tree.specs.Engine.{Engine}
use Rattle.dsde_sim_tree.specs.Turn.{start, advance}
use Rattle.dsde_sim_movers.specs.Delivered.{IsTurnDelivered}

-- a turn of a run: the engine before it, and the head of the input that it has
pub record RunTurn : Type 0 where
  pub engine : Engine
  pub head : Option Arrival

-- the turn that an engine takes with this head, if it takes one, and those that come later where it is done
abbrev pub turns_on : System → Engine → Option Arrival → (Bool → Engine → List RunTurn) → List RunTurn
turns_on system engine head later = elim (advance system engine head).end [
  | Ok answer ↦ elim answer.0 [
    | Turned took_input ↦ record { engine = engine; head = head } ∷ later took_input answer.1
    | Quiet ↦ []
  ]
  | Err why ↦ record { engine = engine; head = head } ∷ []
]

-- at most this many turns of an engine on these records, each of which is the head until it is taken
abbrev pub turns_of : System → ℕ → Records → Engine → List RunTurn
turns_of system zero records engine = []
turns_of system (suc turns) (bad offence) engine = []
turns_of system (suc turns) end engine = turns_on system engine None (λ took_input after. turns_of system turns end after)
turns_of system (suc turns) (one head later) engine =
    turns_on system engine (Some head) (λ took_input after. turns_of system turns (if took_input then later else one head later) after)

-- the turns of a run on these records, at most this many
abbrev pub run_turns : System → Records → ℕ → List RunTurn
run_turns system records turns = elim (start system).end [
  | Ok engine ↦ turns_of system turns records engine
  | Err why ↦ []
]

-- what a turn tells
abbrev pub told_by : System → RunTurn → List Event
told_by system own = (advance system own.engine own.head).events

-- A turn reaches only parts of the tree before it and none that it added, and each part receives what
-- the links of that tree carry to it, up to a fault.
abbrev pub IsRunTurnDelivered : System → RunTurn → Type 0
IsRunTurnDelivered system own = IsTurnDelivered system own.engine own.head (told_by system own) (advance system own.engine own.head).end

abbrev pub IsFinish : Event → Type 0
IsFinish (Finish how turns time) = Unit {0}
IsFinish _ = ⊥

-- These are the events of the turns, and at most the line behind them that says how the run ended.
pub record AreOfTurns (system : System) (turns : List RunTurn) (events : List Event) : Type 0 where
  pub last : List Event
  pub finish : AllByRecursion IsFinish last
  pub are : events ≡ flat_map (told_by system) turns ++ last
