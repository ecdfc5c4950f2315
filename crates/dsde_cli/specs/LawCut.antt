-- A run that is cut between two turns and goes on later. This project's profile.
use Rattle.std.specs.Prelude.{ℕ, zero, suc, Bool, if◌then◌else◌, ◌+◌, ◌≡◌, ◌≤◌, ◌⊎◌, List, [], ◌∷◌, ◌++◌, Option, Some, None, Result, Ok, Err}
use Rattle.dsde_values.specs.declared.arrival.Arrival.{Arrival}
use Rattle.dsde_values.specs.declared.types.Field.{Field}
use Rattle.dsde_values.specs.declared.types.Types.{Types}
use Rattle.dsde_input_records.specs.Records.{Records, end, bad, one}
use Rattle.dsde_input.specs.Skipped.{Unskipped, floored_in, skipped}
use Rattle.dsde_formalism.specs.System.{System}
use Rattle.dsde_sim_tree.specs.declared.event.Event.{Event}
use Rattle.dsde_sim_tree.specs.declared.event.Event.TheVariants as event
use Rattle.dsde_sim_tree.specs.declared.event.Finish.{Finish}
use Rattle.dsde_sim_tree.specs.declared.event.Finish.TheVariants as how
use Rattle.dsde_sim_tree.specs.declared.step.Step.TheVariants.{Turned, Quiet}
use Rattle.dsde_sim_tree.specs.Engine.{Engine}
use Rattle.dsde_sim_tree.specs.Turn.{advance}
use Rattle.dsde_sound_runs.specs.given.run_meaning.Run.{Run, Spots, preceded, go, records_in}

-- where a run stands: its engine, and the records that it has not taken
pub record Standing : Type 0 where
  pub engine : Engine
  pub rest : Records

abbrev pub standing : Engine → Records → Standing
standing engine rest = record { engine = engine; rest = rest }

-- where a run stands behind one turn with this head: where it stood, if the turn was none
abbrev pub stands_on : System → Engine → Option Arrival → Standing → (Bool → Engine → Standing) → Standing
stands_on system engine head here later = elim (advance system engine head).end [
  | Ok answer ↦ elim answer.0 [ Turned took_input ↦ later took_input answer.1 | Quiet ↦ here ]
  | Err why ↦ here
]

-- where a run of at most this many turns stands at its end
abbrev pub reached : System → ℕ → Records → Engine → Standing
reached system zero records engine = standing engine records
reached system (suc turns) (bad offence) engine = standing engine (bad offence)
reached system (suc turns) end engine =
    stands_on system engine None (standing engine end) (λ took_input after. reached system turns end after)
reached system (suc turns) (one head later) engine =
    stands_on system engine (Some head) (standing engine (one head later)) (λ took_input after. reached system turns (if took_input then later else one head later) after)

-- the records that an engine goes on with, which has taken some of them at a time
abbrev pub records_behind : List Field → Types → List ℕ → Engine → Result Records Unskipped
records_behind ports types bytes engine =
    skipped engine.taken (floored_in ports types engine.taken engine.time bytes)

-- A run can go on for so many turns: it was cut by its bound, or fell quiet and goes on for some.
abbrev pub CanGoOn : Run → ℕ → Type 0
CanGoOn first turns = (first.end ≡ Some how.Bound) ⊎ ((first.end ≡ Some how.Quiet) × (1 ≤ turns))

-- Without its last event, which says how it ended, and followed by another, a run is the whole.
pub record GoesOnAs (first later whole : Run) : Type 0 where
  pub front : List Event
  pub how : Finish
  pub turns : ℕ
  pub time : ℕ
  pub is : first.events ≡ front ++ event.Finish how turns time ∷ []
  pub whole_is : whole ≡ preceded front later

-- Where a run of an engine that has taken nothing ends by its bound or quiet, its last engine is the one with
-- which it stands; the records behind those that it took are those with which it goes on, with the floor at
-- its time; and it goes on as the run of all turns does.
pub record IsCutRight (system : System) (spots : Spots) (ports : List Field) (types : Types) (bytes : List ℕ) (engine : Engine) (turns more : ℕ) : Type 0 where
  pub rest : records_behind ports types bytes (reached system turns (records_in ports types bytes) engine).engine
      ≡ Ok (reached system turns (records_in ports types bytes) engine).rest
  pub state : (go system spots turns (records_in ports types bytes) engine).state ≡ (reached system turns (records_in ports types bytes) engine).engine
  pub goes_on : GoesOnAs (go system spots turns (records_in ports types bytes) engine)
      (go system spots more (reached system turns (records_in ports types bytes) engine).rest (reached system turns (records_in ports types bytes) engine).engine)
      (go system spots (turns + more) (records_in ports types bytes) engine)

abbrev pub RunsCanBeCut : Type 0
RunsCanBeCut =
    (system : System) (spots : Spots) (ports : List Field) (types : Types) (bytes : List ℕ) (engine : Engine) (turns more : ℕ)
    → engine.taken ≡ 0 → engine.time ≡ 0
    → CanGoOn (go system spots turns (records_in ports types bytes) engine) more
    → IsCutRight system spots ports types bytes engine turns more
