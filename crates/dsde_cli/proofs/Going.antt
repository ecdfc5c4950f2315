-- A run goes on where it stands as the whole run does.
use Rattle.std.proofs.Common.{◌≡◌, ℕ, zero, suc, ◌+◌, ◌≤◌, inl, inr, Bool, List, [], ◌++◌, Option, Some, None, refl, sym, ap, subst, ◌∙◌, append_assoc, arith}
use Rattle.std.specs.Prelude.{if◌then◌else◌, Ok, Err, unwrap_or}
use Rattle.dsde_values.specs.declared.arrival.Arrival.{Arrival}
use Rattle.dsde_input_records.specs.declared.end.InputEnd.{InputEnd}
use Rattle.dsde_input_records.specs.declared.end.InputEnd.TheVariants as input_end
use Rattle.dsde_input_records.specs.Records.{Records, end, bad, one}
use Rattle.dsde_formalism.specs.System.{System}
use Rattle.dsde_sim_tree.specs.declared.event.Event.{Event}
use Rattle.dsde_sim_tree.specs.declared.event.Finish.TheVariants as how
use Rattle.dsde_sim_tree.specs.declared.fault.TurnEnd.{TurnEnd}
use Rattle.dsde_sim_tree.specs.declared.fault.TurnEnd.TheVariants as turn_end
use Rattle.dsde_sim_tree.specs.declared.step.Step.TheVariants.{Turned, Quiet}
use Rattle.dsde_sim_tree.specs.Engine.{Engine, next_of}
use Rattle.dsde_sim_tree.specs.Turn.{advance, turn_time}
use Rattle.dsde_sound_runs.specs.given.run_meaning.Run.{Run, Spots, ended, preceded, faulted, offended, turn_on, go}
use Rattle.dsde_cli.specs.LawCut.{Standing, standing, reached, CanGoOn, GoesOnAs}
use Rattle.dsde_cli.proofs.CutTurning.{Answer, fell_quiet, quiet-tells}

fault-ends : (spots : Spots) (why : TurnEnd) (turns time more : ℕ) (engine : Engine) → CanGoOn (faulted spots why turns time engine) more → ⊥
fault-ends spots (turn_end.Fault path site kind at) turns time more engine (inl is) = absurd (cc is)
fault-ends spots (turn_end.Fault path site kind at) turns time more engine (inr is) = absurd (cc is.0)
fault-ends spots turn_end.Memory turns time more engine (inl is) = absurd (cc is)
fault-ends spots turn_end.Memory turns time more engine (inr is) = absurd (cc is.0)

offence-ends : (why : InputEnd) (engine : Engine) (more : ℕ) → CanGoOn (offended why engine) more → ⊥
offence-ends (input_end.BadLine line) engine more (inl is) = absurd (cc is)
offence-ends (input_end.BadLine line) engine more (inr is) = absurd (cc is.0)
offence-ends (input_end.Backwards line) engine more (inl is) = absurd (cc is)
offence-ends (input_end.Backwards line) engine more (inr is) = absurd (cc is.0)
offence-ends (input_end.LineTooLong line) engine more (inl is) = absurd (cc is)
offence-ends (input_end.LineTooLong line) engine more (inr is) = absurd (cc is.0)
offence-ends input_end.ReadFault engine more (inl is) = absurd (cc is)
offence-ends input_end.ReadFault engine more (inr is) = absurd (cc is.0)
offence-ends input_end.Memory engine more (inl is) = absurd (cc is)
offence-ends input_end.Memory engine more (inr is) = absurd (cc is.0)

quiet-goes : (turns time more : ℕ) (engine : Engine) → CanGoOn (ended how.Quiet turns time engine) more → 1 ≤ more
quiet-goes turns time more engine (inl is) = absurd (cc is)
quiet-goes turns time more engine (inr is) = is.1

-- One turn, by what it tells and comes to.
module _ (events : List Event) (turns time more : ℕ) (engine : Engine) (faults : TurnEnd → Run) (no_fault : (why : TurnEnd) → CanGoOn (faults why) more → ⊥) where
  abbrev run_on : Answer → (Bool → Engine → Run) → Run
  run_on answer later = preceded events (elim answer [
    | Ok own ↦ elim own.0 [ Turned took_input ↦ later took_input own.1 | Quiet ↦ ended how.Quiet turns time engine ]
    | Err why ↦ faults why
  ])

  abbrev stand_on : Answer → Standing → (Bool → Engine → Standing) → Standing
  stand_on answer here later = elim answer [
    | Ok own ↦ elim own.0 [ Turned took_input ↦ later took_input own.1 | Quiet ↦ here ]
    | Err why ↦ here
  ]

  module _ (here : Standing) (first whole : Bool → Engine → Run) (reach : Bool → Engine → Standing) (go_on : Standing → Run) where
    one-turn : (answer : Answer)
        → ((took : Bool) (after : Engine) → CanGoOn (first took after) more → GoesOnAs (first took after) (go_on (reach took after)) (whole took after))
        → ((after : Engine) → answer ≡ fell_quiet after → 1 ≤ more → go_on here ≡ ended how.Quiet turns time engine)
        → CanGoOn (run_on answer first) more
        → GoesOnAs (run_on answer first) (go_on (stand_on answer here reach)) (run_on answer whole)
    one-turn (Ok (Turned took, after)) goes quiet can =
        let later = goes took after can in
        record {
          front = events ++ later.front;
          how = later.how;
          turns = later.turns;
          time = later.time;
          is = ap (λ (own : List Event). events ++ own) later.is ∙ sym (append_assoc events later.front _);
          whole_is = ap (preceded events) later.whole_is ∙ ap (λ (own : List Event). let run : Run = record { events = own; end = (go_on (reach took after)).end; state = (go_on (reach took after)).state } in run) (sym (append_assoc events later.front _));
        }
    one-turn (Ok (Quiet, after)) goes quiet can = record {
      front = events;
      how = how.Quiet;
      turns = turns;
      time = time;
      is = refl;
      whole_is = ap (preceded events) (sym (quiet after refl (quiet-goes turns time more engine can)));
    }
    one-turn (Err why) goes quiet can = absurd (no_fault why can)

module _ (system : System) (spots : Spots) where
  abbrev faults : Engine → Option Arrival → TurnEnd → Run
  faults engine head why = faulted spots why (engine.turn + 1) (unwrap_or (turn_time (next_of engine) head) engine.time) engine

  never : (engine : Engine) (head : Option Arrival) (more : ℕ) (why : TurnEnd) → CanGoOn (faults engine head why) more → ⊥
  never engine head more why = fault-ends spots why _ _ more engine

  -- the first turn of a run that falls quiet is none
  falls-quiet : (engine after : Engine) (head : Option Arrival) (later : Bool → Engine → Run) → (advance system engine head).end ≡ fell_quiet after →
      turn_on system spots engine head later ≡ ended how.Quiet engine.turn engine.time engine
  falls-quiet engine after head later is =
      ap (λ (own : List Event). run_on own engine.turn engine.time 0 engine (faults engine head) (never engine head 0) (advance system engine head).end later) (quiet-tells system engine head after is)
      ∙ ap (λ (own : Answer). run_on [] engine.turn engine.time 0 engine (faults engine head) (never engine head 0) own later) is

  abbrev go_on : ℕ → Standing → Run
  go_on more place = go system spots more place.rest place.engine

  quiet-again : (more : ℕ) (records : Records) (engine after : Engine) (head : Option Arrival) →
      ((turns : ℕ) → (later : Bool → Engine → Run) × (go system spots (suc turns) records engine ≡ turn_on system spots engine head later)) →
      (advance system engine head).end ≡ fell_quiet after → 1 ≤ more → go system spots more records engine ≡ ended how.Quiet engine.turn engine.time engine
  quiet-again zero records engine after head opens is some = absurd (omega arith)
  quiet-again (suc more) records engine after head opens is some =
      let own = opens more in own.1 ∙ falls-quiet engine after head own.0 is

  pub goes-on : (turns more : ℕ) (records : Records) (engine : Engine) → CanGoOn (go system spots turns records engine) more →
      GoesOnAs (go system spots turns records engine) (go_on more (reached system turns records engine)) (go system spots (turns + more) records engine)
  goes-on zero more records engine can =
      let same : zero + more ≡ more = omega arith in
      subst (λ (n : ℕ). GoesOnAs (go system spots zero records engine) (go_on more (standing engine records)) (go system spots n records engine)) (sym same)
      (record { front = []; how = how.Bound; turns = engine.turn; time = engine.time; is = refl; whole_is = refl })
  goes-on (suc turns) more (bad why) engine can = absurd (offence-ends why engine more can)
  goes-on (suc turns) more end engine can =
      let same : suc turns + more ≡ suc (turns + more) = omega arith in
      subst (λ (n : ℕ). GoesOnAs (go system spots (suc turns) end engine) (go_on more (reached system (suc turns) end engine)) (go system spots n end engine)) (sym same)
      (one-turn (advance system engine None).events engine.turn engine.time more engine (faults engine None) (never engine None more)
      (standing engine end)
      (λ took after. go system spots turns end after) (λ took after. go system spots (turns + more) end after) (λ took after. reached system turns end after) (go_on more)
      (advance system engine None).end
      (λ took after. goes-on turns more end after)
      (λ after is. quiet-again more end engine after None (λ n. ((λ took after. go system spots n end after), refl)) is)
      can)
  goes-on (suc turns) more (one head later) engine can =
      let same : suc turns + more ≡ suc (turns + more) = omega arith in
      subst (λ (n : ℕ). GoesOnAs (go system spots (suc turns) (one head later) engine) (go_on more (reached system (suc turns) (one head later) engine)) (go system spots n (one head later) engine)) (sym same)
      (one-turn (advance system engine (Some head)).events engine.turn engine.time more engine (faults engine (Some head)) (never engine (Some head) more)
      (standing engine (one head later))
      (λ took after. go system spots turns (if took then later else one head later) after) (λ took after. go system spots (turns + more) (if took then later else one head later) after)
      (λ took after. reached system turns (if took then later else one head later) after) (go_on more)
      (advance system engine (Some head)).end
      (λ took after. goes-on turns more (if took then later else one head later) after)
      (λ after is. quiet-again more (one head later) engine after (Some head) (λ n. ((λ took after. go system spots n (if took then later else one head later) after), refl)) is)
      can)

  -- one turn, and the engine behind it
  state-on : (answer : Answer) (events : List Event) (engine : Engine) (rest : Records) (faults : TurnEnd → Run) (first : Bool → Engine → Run) (reach : Bool → Engine → Standing)
      → ((why : TurnEnd) → (faults why).state ≡ engine) → ((took : Bool) (after : Engine) → (first took after).state ≡ (reach took after).engine)
      → (let run : Run = preceded events (elim answer [
        | Ok own ↦ elim own.0 [ Turned took_input ↦ first took_input own.1 | Quiet ↦ ended how.Quiet engine.turn engine.time engine ]
        | Err why ↦ faults why
      ]) in
      let place : Standing = elim answer [
        | Ok own ↦ elim own.0 [ Turned took_input ↦ reach took_input own.1 | Quiet ↦ standing engine rest ]
        | Err why ↦ standing engine rest
      ] in run.state ≡ place.engine)
  state-on (Ok (Turned took, after)) events engine rest faults first reach faulty goes = goes took after
  state-on (Ok (Quiet, after)) events engine rest faults first reach faulty goes = refl
  state-on (Err why) events engine rest faults first reach faulty goes = faulty why

  fault-state : (why : TurnEnd) (turns time : ℕ) (engine : Engine) → (faulted spots why turns time engine).state ≡ engine
  fault-state (turn_end.Fault path site kind at) turns time engine = refl
  fault-state turn_end.Memory turns time engine = refl

  offence-state : (why : InputEnd) (engine : Engine) → (offended why engine).state ≡ engine
  offence-state (input_end.BadLine line) engine = refl
  offence-state (input_end.Backwards line) engine = refl
  offence-state (input_end.LineTooLong line) engine = refl
  offence-state input_end.ReadFault engine = refl
  offence-state input_end.Memory engine = refl

  -- the engine before the turn in which a run ends is that with which it stands
  pub state-is : (turns : ℕ) (records : Records) (engine : Engine) → (go system spots turns records engine).state ≡ (reached system turns records engine).engine
  state-is zero records engine = refl
  state-is (suc turns) (bad why) engine = offence-state why engine
  state-is (suc turns) end engine =
      state-on (advance system engine None).end (advance system engine None).events engine end (faults engine None) (λ took after. go system spots turns end after) (λ took after. reached system turns end after)
      (λ why. fault-state why _ _ engine) (λ took after. state-is turns end after)
  state-is (suc turns) (one head later) engine =
      state-on (advance system engine (Some head)).end (advance system engine (Some head)).events engine (one head later) (faults engine (Some head))
      (λ took after. go system spots turns (if took then later else one head later) after) (λ took after. reached system turns (if took then later else one head later) after)
      (λ why. fault-state why _ _ engine) (λ took after. state-is turns (if took then later else one head later) after)
