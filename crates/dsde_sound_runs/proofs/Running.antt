-- Runs come to an end.
use Rattle.std.proofs.Common.{ℕ, zero, suc, ◌+◌, Bool, true, false, List, Option, Some, None, Result, Ok, Err, unwrap_or, refl}
use Rattle.std.specs.Prelude.{IfSome, if◌then◌else◌}
use Rattle.dsde_syntax.specs.declared.decl.Model.{Model}
use Rattle.dsde_values.specs.declared.arrival.Arrival.{Arrival}
use Rattle.dsde_input.specs.Reader.{IsOffence}
use Rattle.dsde_input_records.specs.declared.end.InputEnd.{InputEnd}
use Rattle.dsde_input_records.specs.declared.end.InputEnd.TheVariants as input_end
use Rattle.dsde_input_records.specs.Records.{Records, end, bad, one}
use Rattle.dsde_sim_starting.specs.given.system.Program.{system}
use Rattle.dsde_sim_tree.specs.declared.event.Event.{Event}
use Rattle.dsde_sim_tree.specs.declared.event.Finish.TheVariants as how
use Rattle.dsde_sim_tree.specs.declared.fault.TurnEnd.{TurnEnd}
use Rattle.dsde_sim_tree.specs.declared.fault.TurnEnd.TheVariants as turn_end
use Rattle.dsde_sim_tree.specs.Told.{Told}
use Rattle.dsde_sim_tree.specs.declared.step.Step.{Step}
use Rattle.dsde_sim_tree.specs.declared.step.Step.TheVariants.{Turned, Quiet}
use Rattle.dsde_sim_tree.specs.Engine.{Engine, next_of}
use Rattle.dsde_sim_tree.specs.Turn.{start, advance, turn_time}
use Rattle.dsde_run_meaning.specs.Run.{Run, Spots, alone, ended, faulted, go_by, offended, preceded, run, run_by, turn_by, unstarted}
use Rattle.dsde_sound_runs.specs.Ends.{AllArrive, Arrives, HasEnd}
use Rattle.dsde_sound_runs.proofs.Relied.{Laws}
use Rattle.dsde_sound_runs.proofs.Safe.{Safe}
use Rattle.dsde_sound_runs.proofs.Turning.{Stands, engine-advances, engine-starts}

offence-ends : (offence : InputEnd) (engine : Engine) → IsOffence offence → HasEnd (offended offence engine)
offence-ends (input_end.BadLine line) engine is = record { how = _; is = refl }
offence-ends (input_end.Backwards line) engine is = record { how = _; is = refl }
offence-ends (input_end.LineTooLong line) engine is = record { how = _; is = refl }
offence-ends input_end.ReadFault engine is = absurd is
offence-ends input_end.Memory engine is = absurd is

-- Runs by an engine that advances in some way, each of whose turns comes to an end.
module _ (model : Model) (spots : Spots) (State : Type 0) (engine : State → Engine) (advance : State → Option Arrival → Told (Step × State)) (P : State → Type 0)
    (advances : (own : State) → P own → (head : Option Arrival) → IfSome head (Arrives model) → Safe (λ answer. P answer.1) (advance own head).end) where
  abbrev Later : Type 0
  Later = Bool → State → Run

  abbrev GoesOn : Later → Type 0
  GoesOn later = (took_input : Bool) (after : State) → P after → HasEnd (later took_input after)

  by-end : (end : Result (Step × State) TurnEnd) (events : List Event) (later : Later) (own : Engine) (number moment : ℕ) → Safe (λ answer. P answer.1) end → GoesOn later
      → HasEnd (preceded events (elim end [
        | Ok answer ↦ elim answer.0 [
          | Turned took_input ↦ later took_input answer.1
          | Quiet ↦ ended how.Quiet own.turn own.time own
        ]
        | Err why ↦ faulted spots why number moment own
      ]))
  by-end (Ok (Turned took_input, after)) events later own number moment safe goes = let rest = goes took_input after safe in record { how = rest.how; is = rest.is }
  by-end (Ok (Quiet, after)) events later own number moment safe goes = record { how = _; is = refl }
  by-end (Err (turn_end.Fault path site kind place)) events later own number moment safe goes = record { how = _; is = refl }
  by-end (Err turn_end.Memory) events later own number moment safe goes = absurd safe

  turn-ends : (own : State) → P own → (head : Option Arrival) → IfSome head (Arrives model) → (later : Later) → GoesOn later → HasEnd (turn_by engine advance spots own head later)
  turn-ends own stands head arrive later goes =
      by-end (advance own head).end (advance own head).events later (engine own) ((engine own).turn + 1) (unwrap_or (turn_time (next_of (engine own)) head) (engine own).time)
      (advances own stands head arrive) goes

  arrive-if : (took_input : Bool) (head : Arrival) (later : Records) → Arrives model head → AllArrive model later → AllArrive model (if took_input then later else one head later)
  arrive-if true head later own all = all
  arrive-if false head later own all = (own, all)

  goes-to-end : (turns : ℕ) (records : Records) (own : State) → P own → AllArrive model records → HasEnd (go_by engine advance spots turns records own)
  goes-to-end zero records own stands arrive = record { how = _; is = refl }
  goes-to-end (suc turns) (bad offence) own stands arrive = offence-ends offence (engine own) arrive
  goes-to-end (suc turns) end own stands arrive =
      turn-ends own stands None tt (λ took_input after. go_by engine advance spots turns end after) (λ took_input after stands. goes-to-end turns end after stands tt)
  goes-to-end (suc turns) (one head later) own stands arrive =
      turn-ends own stands (Some head) arrive.0 (λ took_input after. go_by engine advance spots turns (if took_input then later else one head later) after)
      (λ took_input after stands. goes-to-end turns (if took_input then later else one head later) after stands (arrive-if took_input head later arrive.0 arrive.1))

  by-start : (end : Result State TurnEnd) (events : List Event) (turns : ℕ) (records : Records) → Safe P end → AllArrive model records
      → HasEnd (preceded events (elim end [ Ok own ↦ go_by engine advance spots turns records own | Err why ↦ faulted spots why 0 0 unstarted ]))
  by-start (Ok own) events turns records safe arrive = let rest = goes-to-end turns records own safe arrive in record { how = rest.how; is = rest.is }
  by-start (Err (turn_end.Fault path site kind place)) events turns records safe arrive = record { how = _; is = refl }
  by-start (Err turn_end.Memory) events turns records safe arrive = absurd safe

  -- so do they behind a start that comes to one
  pub all-end : (begins : Told State) → Safe P begins.end → (records : Records) (turns : ℕ) → AllArrive model records → HasEnd (run_by engine advance begins spots records turns)
  all-end begins safe records turns arrive = by-start begins.end begins.events turns records safe arrive

pub runs-end : (model : Model) → Laws model → (spots : Spots) (records : Records) (turns : ℕ) → AllArrive model records → HasEnd (run (system model) spots records turns)
runs-end model laws spots records turns arrive =
    all-end model spots Engine alone (advance (system model)) (Stands model) (engine-advances model laws) (start (system model)) (engine-starts model laws) records turns arrive
