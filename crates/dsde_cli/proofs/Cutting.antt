-- A run from the start of a system is cut, and goes on from its last engine.
use Rattle.std.proofs.Common.{◌≡◌, ℕ, ◌+◌, List, ◌++◌, refl, sym, ap, subst, ◌∙◌, inl, inr, append_assoc}
use Rattle.std.specs.Prelude.{Result, Ok, Err}
use Rattle.dsde_values.specs.declared.types.Field.{Field}
use Rattle.dsde_values.specs.declared.types.Types.{Types}
use Rattle.dsde_input_records.specs.Records.{Records}
use Rattle.dsde_formalism.specs.System.{System}
use Rattle.dsde_sim_tree.specs.declared.event.Event.{Event}
use Rattle.dsde_sim_tree.specs.declared.fault.TurnEnd.{TurnEnd}
use Rattle.dsde_sim_tree.specs.declared.fault.TurnEnd.TheVariants as turn_end
use Rattle.dsde_sim_tree.specs.Told.{Told}
use Rattle.dsde_sim_tree.specs.Engine.{Engine}
use Rattle.dsde_sim_tree.specs.Turn.{advance, start}
use Rattle.dsde_sound_runs.specs.given.run_meaning.Run.{Run, Spots, alone, faulted, go, preceded, records_in, run, run_by, unstarted}
use Rattle.dsde_cli.specs.LawCut.{CanGoOn, GoesOnAs, RunsCanBeCut, reached, records_behind}
use Rattle.dsde_cli.specs.Standing.{HasBegun, RunsBegin}

-- Where a run stands at its end, and that it goes on there as the whole run does.
pub record IsCut (system : System) (spots : Spots) (ports : List Field) (types : Types) (bytes : List ℕ) (more : ℕ) (first whole : Run) : Type 0 where
  pub at : Engine
  pub rest : Records
  pub state : first.state ≡ at
  pub behind : records_behind ports types bytes at ≡ Ok rest
  pub goes_on : GoesOnAs first (go system spots more rest at) whole

-- a run that faulted does not go on
fault-stops : (spots : Spots) (why : TurnEnd) (turns time more : ℕ) (engine : Engine) → CanGoOn (faulted spots why turns time engine) more → ⊥
fault-stops spots (turn_end.Fault path site kind at) turns time more engine (inl is) = absurd (cc is)
fault-stops spots (turn_end.Fault path site kind at) turns time more engine (inr is) = absurd (cc is.0)
fault-stops spots turn_end.Memory turns time more engine (inl is) = absurd (cc is)
fault-stops spots turn_end.Memory turns time more engine (inr is) = absurd (cc is.0)

can-behind : (events : List Event) (own : Run) (more : ℕ) → CanGoOn (preceded events own) more → CanGoOn own more
can-behind events own more can = can

-- behind the same events a run goes on
goes-behind : (events : List Event) (first later whole : Run) → GoesOnAs first later whole → GoesOnAs (preceded events first) later (preceded events whole)
goes-behind events first later whole goes = record {
  front = events ++ goes.front;
  how = goes.how;
  turns = goes.turns;
  time = goes.time;
  is = ap (λ (own : List Event). events ++ own) goes.is ∙ sym (append_assoc events goes.front _);
  whole_is = ap (preceded events) goes.whole_is ∙ ap (λ (own : List Event). let one : Run = record { events = own; end = later.end; state = later.state } in one) (sym (append_assoc events goes.front later.events));
}

module _ (system : System) (spots : Spots) (ports : List Field) (types : Types) (bytes : List ℕ) (more : ℕ) where
  -- and so it is cut
  cut-behind : (events : List Event) (first whole : Run) (at : Engine) (rest : Records) → first.state ≡ at → records_behind ports types bytes at ≡ Ok rest → GoesOnAs first (go system spots more rest at) whole →
      IsCut system spots ports types bytes more (preceded events first) (preceded events whole)
  cut-behind events first whole at rest state behind goes = record {
    at = at;
    rest = rest;
    state = state;
    behind = behind;
    goes_on = goes-behind events first (go system spots more rest at) whole goes;
  }

  cut-along : (first own whole all : Run) → first ≡ own → whole ≡ all → IsCut system spots ports types bytes more first whole → IsCut system spots ports types bytes more own all
  cut-along first own whole all same whole_same cut =
      subst (λ (one : Run). IsCut system spots ports types bytes more one all) same (subst (λ (one : Run). IsCut system spots ports types bytes more first one) whole_same cut)

  -- so many turns on the input
  abbrev turns_on : ℕ → Engine → Run
  turns_on turns engine = go system spots turns (records_in ports types bytes) engine

  -- a run behind what a start came to
  abbrev run_behind : ℕ → Result Engine TurnEnd → List Event → Run
  run_behind turns answer events = preceded events (elim answer [ Ok engine ↦ turns_on turns engine | Err why ↦ faulted spots why 0 0 unstarted ])

  run-as : (begins : Told Engine) (turns : ℕ) → run_by alone (advance system) begins spots (records_in ports types bytes) turns ≡ run_behind turns begins.end begins.events
  run-as begins turns = refl

  module _ (cuts : RunsCanBeCut) (turns : ℕ) where
    cut-by : (answer : Result Engine TurnEnd) (events : List Event) (first whole : Run) → first ≡ run_behind turns answer events → whole ≡ run_behind (turns + more) answer events →
        ((engine : Engine) → (let own : Result Engine TurnEnd = Ok engine in answer ≡ own) → HasBegun engine) → CanGoOn first more → IsCut system spots ports types bytes more first whole
    cut-by (Ok engine) events first whole is whole_is begun can =
        let begin = begun engine refl in
        let stand = reached system turns (records_in ports types bytes) engine in
        let right = cuts system spots ports types bytes engine turns more begin.taken begin.time (can-behind events (turns_on turns engine) more (subst (λ (own : Run). CanGoOn own more) is can)) in
        cut-along (preceded events (turns_on turns engine)) first (preceded events (turns_on (turns + more) engine)) whole (sym is) (sym whole_is)
        (cut-behind events (turns_on turns engine) (turns_on (turns + more) engine) stand.engine stand.rest right.state right.rest right.goes_on)
    cut-by (Err why) events first whole is whole_is begun can =
        absurd (fault-stops spots why 0 0 more unstarted (can-behind events (faulted spots why 0 0 unstarted) more (subst (λ (own : Run). CanGoOn own more) is can)))

    -- It is so behind a start that has done nothing.
    cut-begun : (begins : Told Engine) (first whole : Run) → first ≡ run_by alone (advance system) begins spots (records_in ports types bytes) turns →
        whole ≡ run_by alone (advance system) begins spots (records_in ports types bytes) (turns + more) → ((engine : Engine) → begins.end ≡ Ok engine → HasBegun engine) → CanGoOn first more →
        IsCut system spots ports types bytes more first whole
    cut-begun begins first whole is whole_is begun can = cut-by begins.end begins.events first whole (is ∙ run-as begins turns) (whole_is ∙ run-as begins (turns + more)) begun can

    -- A run from the start is cut where it can go on.
    pub run-cut : RunsBegin → (first whole : Run) → first ≡ run system spots (records_in ports types bytes) turns → whole ≡ run system spots (records_in ports types bytes) (turns + more) → CanGoOn first more →
        IsCut system spots ports types bytes more first whole
    run-cut begin first whole is whole_is can = cut-begun (start system) first whole is whole_is (begin system) can
