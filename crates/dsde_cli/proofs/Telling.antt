-- What a run tells is what its turns tell, and how it ended.
use Rattle.std.proofs.Common.{◌≡◌, ℕ, zero, suc, ◌+◌, Bool, List, [], ◌∷◌, ◌++◌, Option, Some, None, Result, Ok, Err, refl, sym, ◌∙◌, ap, append_assoc, append-nil, subst}
use Rattle.std.specs.Prelude.{if◌then◌else◌, unwrap_or}
use Rattle.std.specs.List.{AllByRecursion, flat_map}
use Rattle.dsde_values.specs.declared.arrival.Arrival.{Arrival}
use Rattle.dsde_input_records.specs.declared.end.InputEnd.{InputEnd}
use Rattle.dsde_input_records.specs.declared.end.InputEnd.TheVariants as input_end
use Rattle.dsde_input_records.specs.Records.{Records, end, bad, one}
use Rattle.dsde_formalism.specs.System.{System}
use Rattle.dsde_sim_tree.specs.declared.event.Event.{Event}
use Rattle.dsde_sim_tree.specs.declared.event.Finish.TheVariants as how
use Rattle.dsde_sim_tree.specs.declared.fault.TurnEnd.{TurnEnd}
use Rattle.dsde_sim_tree.specs.declared.fault.TurnEnd.TheVariants.{Fault, Memory}
use Rattle.dsde_sim_tree.specs.Told.{Told}
use Rattle.dsde_sim_tree.specs.declared.sim.Sim.{Sim}
use Rattle.dsde_sim_tree.specs.declared.step.Step.{Step}
use Rattle.dsde_sim_tree.specs.declared.step.Step.TheVariants.{Turned, Quiet}
use Rattle.dsde_sim_tree.specs.Engine.{Engine, next_of, turned}
use Rattle.dsde_sim_tree.specs.Turn.{advance, after_turn, is_taken, items_at, start, turn, turn_time}
use Rattle.dsde_sound_runs.specs.given.run_meaning.Run.{Run, Spots, ended, faulted, go, offended, run, turn_on, unstarted}
use Rattle.dsde_sim_movers.specs.lemmas.Steps.{same-ok, never-ok, split-then}
use Rattle.dsde_cli.specs.DeliveredTurns.{AreOfTurns, IsFinish, RunTurn, run_turns, told_by, turns_of, turns_on}
use Rattle.dsde_cli.proofs.DeliveryKeeping.{advance_in}

-- a last line alone
alone : (own : List Event) → AllByRecursion IsFinish own → (system : System) → AreOfTurns system [] own
alone own all system = record { last = own; finish = all; are = refl }

offence-ends : (why : InputEnd) (engine : Engine) → AllByRecursion IsFinish (offended why engine).events
offence-ends (input_end.BadLine line) engine = (tt, tt)
offence-ends (input_end.Backwards line) engine = (tt, tt)
offence-ends (input_end.LineTooLong line) engine = (tt, tt)
offence-ends input_end.ReadFault engine = tt
offence-ends input_end.Memory engine = tt

fault-ends : (spots : Spots) (why : TurnEnd) (turns time : ℕ) (engine : Engine) → AllByRecursion IsFinish (faulted spots why turns time engine).events
fault-ends spots (Fault path site kind at) turns time engine = (tt, tt)
fault-ends spots Memory turns time engine = tt

module _ (system : System) (spots : Spots) where
  -- where there is no turn, nothing is told
  quiet-by : (engine : Engine) (head : Option Arrival) (after : Engine) (own : Option Sim) (next : Option ℕ) → (advance_in system engine head own next).end ≡ Ok (Quiet, after) → (advance_in system engine head own next).events ≡ []
  quiet-by engine head after (Some tree) None is = refl
  quiet-by engine head after (Some tree) (Some time) is =
      let first = turn system tree (engine.turn + 1) time (items_at head time) in
      let done = split-then first.events first.end (after_turn engine head time) (Quiet, after) is in
      let same = ap (λ (answer : Step × Engine). answer.0) (same-ok (Turned (is_taken head time), turned engine done.0 time (is_taken head time)) (Quiet, after) done.2) in
      absurd (cc same)
  quiet-by engine head after None next is = absurd (never-ok Memory (Quiet, after) is)

  quiet-tells : (engine : Engine) (head : Option Arrival) (after : Engine) → (advance system engine head).end ≡ Ok (Quiet, after) → (advance system engine head).events ≡ []
  quiet-tells engine head after is = quiet-by engine head after engine.tree (turn_time (next_of engine) head) is

  module _ (engine : Engine) (head : Option Arrival) (later : Bool → Engine → Run) (turns : Bool → Engine → List RunTurn)
      (each : (took : Bool) (after : Engine) → AreOfTurns system (turns took after) (later took after).events) where
    abbrev this : RunTurn
    this = record { engine = engine; head = head }

    abbrev step : Told (Step × Engine)
    step = advance system engine head

    abbrev turns_behind : Step → Engine → List RunTurn
    turns_behind own after = elim own [ Turned took_input ↦ this ∷ turns took_input after | Quiet ↦ [] ]

    abbrev rest_behind : Step → Engine → Run
    rest_behind own after = elim own [ Turned took_input ↦ later took_input after | Quiet ↦ ended how.Quiet engine.turn engine.time engine ]

    on-step : (own : Step) (after : Engine) → step.end ≡ Ok (own, after) → AreOfTurns system (turns_behind own after) (step.events ++ (rest_behind own after).events)
    on-step (Turned took_input) after is =
        let rest = each took_input after in
        record {
          last = rest.last;
          finish = rest.finish;
          are = ap (λ (own : List Event). step.events ++ own) rest.are ∙ sym (append_assoc step.events (flat_map (told_by system) (turns took_input after)) rest.last);
        }
    on-step Quiet after is =
        let last = (ended how.Quiet engine.turn engine.time engine).events in
        record { last = last; finish = (tt, tt); are = ap (λ (own : List Event). own ++ last) (quiet-tells engine head after is) }

    abbrev turns_at : Result (Step × Engine) TurnEnd → List RunTurn
    turns_at came = elim came [ Ok answer ↦ turns_behind answer.0 answer.1 | Err why ↦ this ∷ [] ]

    abbrev rest_at : Result (Step × Engine) TurnEnd → Run
    rest_at came = elim came [
      | Ok answer ↦ rest_behind answer.0 answer.1
      | Err why ↦ faulted spots why (engine.turn + 1) (unwrap_or (turn_time (next_of engine) head) engine.time) engine
    ]

    on-by : (came : Result (Step × Engine) TurnEnd) → step.end ≡ came → AreOfTurns system (turns_at came) (step.events ++ (rest_at came).events)
    on-by (Ok answer) is = on-step answer.0 answer.1 is
    on-by (Err why) is =
        let time = unwrap_or (turn_time (next_of engine) head) engine.time in
        let last = (faulted spots why (engine.turn + 1) time engine).events in
        record { last = last; finish = fault-ends spots why (engine.turn + 1) time engine; are = ap (λ (own : List Event). own ++ last) (sym (append-nil step.events)) }

    on-tells : AreOfTurns system (turns_on system engine head turns) (turn_on system spots engine head later).events
    on-tells = on-by step.end refl

  pub go-tells : (turns : ℕ) (records : Records) (engine : Engine) → AreOfTurns system (turns_of system turns records engine) (go system spots turns records engine).events
  go-tells zero records engine = alone (ended how.Bound engine.turn engine.time engine).events (tt, tt) system
  go-tells (suc turns) (bad offence) engine = alone (offended offence engine).events (offence-ends offence engine) system
  go-tells (suc turns) end engine =
      on-tells engine None (λ took_input after. go system spots turns end after) (λ took_input after. turns_of system turns end after) (λ took_input after. go-tells turns end after)
  go-tells (suc turns) (one head later) engine =
      on-tells engine (Some head) (λ took_input after. go system spots turns (if took_input then later else one head later) after)
      (λ took_input after. turns_of system turns (if took_input then later else one head later) after)
      (λ took_input after. go-tells turns (if took_input then later else one head later) after)

  pub run-tells : (records : Records) (turns : ℕ) (engine : Engine) → (start system).end ≡ Ok engine →
      ((run system spots records turns).events ≡ (start system).events ++ (go system spots turns records engine).events)
      × AreOfTurns system (run_turns system records turns) (go system spots turns records engine).events
  run-tells records turns engine is =
      let rest = λ (came : Result Engine TurnEnd). (let own : Run = elim came [ Ok begun ↦ go system spots turns records begun | Err why ↦ faulted spots why 0 0 unstarted ] in own) in
      let taken = λ (came : Result Engine TurnEnd). (let own : List RunTurn = elim came [ Ok begun ↦ turns_of system turns records begun | Err why ↦ [] ] in own) in (
        ap (λ (came : Result Engine TurnEnd). (start system).events ++ (rest came).events) is,
        subst (λ (own : List RunTurn). AreOfTurns system own (go system spots turns records engine).events) (sym (ap taken is)) (go-tells turns records engine),
      )
