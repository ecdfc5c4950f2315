-- A turn that does not come to its end.
use Rattle.std.proofs.Common.{◌≡◌, ℕ, ◌+◌, Bool, List, [], ◌++◌, Result, Ok, Err, IfOk, unwrap_or, ap, subst, sym, ◌∙◌, append_assoc}
use Rattle.std.specs.Prelude.{Option, Some, None}
use Rattle.std.proofs.lemmas.Grind.{flat_map-append}
use Rattle.std.proofs.lemmas.List.{append-nil}
use Rattle.dsde_values.specs.declared.arrival.Arrival.{Arrival}
use Rattle.dsde_sim_tree.specs.declared.event.Event.{Event}
use Rattle.dsde_sim_tree.specs.declared.event.Event.TheVariants as event
use Rattle.dsde_sim_tree.specs.declared.event.Finish.{Finish}
use Rattle.dsde_sim_tree.specs.declared.event.Finish.TheVariants as how
use Rattle.dsde_sim_tree.specs.declared.fault.TurnEnd.{TurnEnd}
use Rattle.dsde_sim_tree.specs.declared.fault.TurnEnd.TheVariants.{Fault, Memory}
use Rattle.dsde_faults.specs.declared.kind.FaultKind.{FaultKind}
use Rattle.dsde_faults.specs.declared.kind.Site.{Site}
use Rattle.dsde_values.specs.declared.path.Path.{Path}
use Rattle.dsde_sim_tree.specs.Told as turn
use Rattle.dsde_sim_tree.specs.declared.step.Step.{Step}
use Rattle.dsde_sim_tree.specs.declared.step.Step.TheVariants.{Quiet}
use Rattle.dsde_sim_tree.specs.Engine.{Engine, next_of}
use Rattle.dsde_sim_tree.specs.Turn.{turn_time}
use Rattle.dsde_trace.specs.declared.pick.Pick.{Pick}
use Rattle.dsde_run.specs.Run.{Running, event_text, faulted, turn_by, kept_line, kept_text}
use Rattle.dsde_run_meaning.specs.Run.{Run, ended, preceded}
use Rattle.dsde_run.specs.Reading.{IsWhole}
use Rattle.dsde_run.specs.Steps.{EndsIn}

-- it ends where the turn does not come to its end
turn_by-faulted : {State : Type 0} (engine_of : State → Engine) (advance : State → Option Arrival → turn.Told (Step × State)) (own : Running) (state : State) (head : Option Arrival) (why : TurnEnd) (later : Bool → State → Run) → (advance state head).end ≡ Err why →
    turn_by engine_of advance own state head later ≡ preceded (advance state head).events (faulted own why ((engine_of state).turn + 1) (unwrap_or (turn_time (next_of (engine_of state)) head) (engine_of state).time) (engine_of state))
turn_by-faulted engine_of advance own state head why later e = rw e

-- the last line is kept by every selection
pub kept-ended : (own : Running) (pick : Pick) (how : Finish) (turns time : ℕ) (engine : Engine) → kept_text own pick (ended how turns time engine).events ≡ event_text own (event.Finish how turns time)
kept-ended own pick how turns time engine = append-nil (event_text own (event.Finish how turns time))

-- a fault is the end of no whole trace
not_whole : (own : Running) (path : Path) (site : Site) (kind : FaultKind) (at : ℕ) (answer : Finish) (turns time : ℕ) (engine : Engine) →
    faulted own (Fault path site kind at) turns time engine ≡ ended answer turns time engine → IsWhole answer → ⊥
not_whole own path site kind at how.Bound turns time engine same is = let two = ap (λ run. run.end) same in cc two
not_whole own path site kind at how.Quiet turns time engine same is = let two = ap (λ run. run.end) same in cc two
not_whole own path site kind at (how.Input sort line) turns time engine same is = let two = ap (λ run. run.end) same in cc two
not_whole own path site kind at (how.Fault fault) turns time engine same is = is

pub EndsIn-faulted : {State : Type 0} (engine_of : State → Engine) (advance : State → Option Arrival → turn.Told (Step × State)) (own : Running) (pick : Pick) (state : State) (after : Engine) (head : Option Arrival) (why : TurnEnd) (answer : Finish) (turns time : ℕ) (begun told : List Event) (old mid new : List ℕ) →
    begun ≡ [] → turn.Tells (advance state head) begun told (Err why) →
    ((engine : Engine) → faulted own why turns time engine ≡ ended answer turns time engine) →
    turns ≡ (engine_of state).turn + 1 → time ≡ unwrap_or (turn_time (next_of (engine_of state)) head) (engine_of state).time →
    mid ≡ old ++ kept_text own pick told → new ≡ mid ++ event_text own (event.Finish answer turns time) →
    (later : Bool → State → Run) → EndsIn own pick (turn_by engine_of advance own state head later) after old new answer
EndsIn-faulted engine_of advance own pick state after head (Fault path site kind at) answer turns time begun told old mid new empty tells fault is_turns is_time written finished later =
    let told_all : told ≡ (advance state head).events = tells.0 ∙ ap (λ events. events ++ (advance state head).events) empty in
    let whole : turn_by engine_of advance own state head later ≡ preceded (advance state head).events (ended answer turns time (engine_of state)) =
    turn_by-faulted engine_of advance own state head (Fault path site kind at) later tells.1
    ∙ ap (λ n. preceded (advance state head).events (faulted own (Fault path site kind at) n (unwrap_or (turn_time (next_of (engine_of state)) head) (engine_of state).time) (engine_of state))) (sym is_turns)
    ∙ ap (λ t. preceded (advance state head).events (faulted own (Fault path site kind at) turns t (engine_of state))) (sym is_time)
    ∙ ap (preceded (advance state head).events) (fault (engine_of state)) in
    record {
      text =
          finished ∙ ap (λ line. mid ++ line) (sym (kept-ended own pick answer turns time (engine_of state)))
          ∙ ap (λ text. text ++ kept_text own pick (ended answer turns time (engine_of state)).events) (written ∙ ap (λ events. old ++ kept_text own pick events) told_all)
          ∙ append_assoc old (kept_text own pick (advance state head).events) (kept_text own pick (ended answer turns time (engine_of state)).events)
          ∙ ap (λ text. old ++ text) (sym (flat_map-append (kept_line own pick) (advance state head).events (ended answer turns time (engine_of state)).events))
          ∙ ap (λ run. old ++ kept_text own pick run.events) (sym whole);
      end = ap (λ run. run.end) whole;
      stands = λ is. absurd (not_whole own path site kind at answer turns time (engine_of state) (fault (engine_of state)) is);
    }
EndsIn-faulted engine_of advance own pick state after head Memory answer turns time begun told old mid new empty tells fault is_turns is_time written finished later =
    let never : None ≡ Some answer = ap (λ run. run.end) (fault (engine_of state)) in absurd (cc never)

-- it ends where nothing will ever be due
turn_by-quiet : {State : Type 0} (engine_of : State → Engine) (advance : State → Option Arrival → turn.Told (Step × State)) (own : Running) (state after : State) (head : Option Arrival) (later : Bool → State → Run) → (advance state head).end ≡ Ok (Quiet, after) →
    turn_by engine_of advance own state head later ≡ preceded (advance state head).events (ended how.Quiet (engine_of state).turn (engine_of state).time (engine_of state))
turn_by-quiet engine_of advance own state after head later e = rw e

pub EndsIn-quiet : {State : Type 0} (engine_of : State → Engine) (advance : State → Option Arrival → turn.Told (Step × State)) (own : Running) (pick : Pick) (state after : State) (head : Option Arrival) (turns time : ℕ) (begun told : List Event) (old mid new : List ℕ) →
    begun ≡ [] → turn.Tells (advance state head) begun told (Ok (Quiet, after)) → after ≡ state → turns ≡ (engine_of state).turn → time ≡ (engine_of state).time →
    mid ≡ old ++ kept_text own pick told → new ≡ mid ++ event_text own (event.Finish how.Quiet turns time) →
    (later : Bool → State → Run) → EndsIn own pick (turn_by engine_of advance own state head later) (engine_of after) old new how.Quiet
EndsIn-quiet engine_of advance own pick state after head turns time begun told old mid new empty tells same is_turns is_time written finished later =
    let told_all : told ≡ (advance state head).events = tells.0 ∙ ap (λ events. events ++ (advance state head).events) empty in
    let whole : turn_by engine_of advance own state head later ≡ preceded (advance state head).events (ended how.Quiet (engine_of state).turn (engine_of state).time (engine_of state)) =
    turn_by-quiet engine_of advance own state after head later tells.1 in
    let line : event_text own (event.Finish how.Quiet turns time) ≡ kept_text own pick (ended how.Quiet (engine_of state).turn (engine_of state).time (engine_of state)).events =
    ap (λ n. event_text own (event.Finish how.Quiet n time)) is_turns ∙ ap (λ t. event_text own (event.Finish how.Quiet (engine_of state).turn t)) is_time
    ∙ sym (kept-ended own pick how.Quiet (engine_of state).turn (engine_of state).time (engine_of state)) in
    record {
      text =
          finished ∙ ap (λ line. mid ++ line) line
          ∙ ap (λ text. text ++ kept_text own pick (ended how.Quiet (engine_of state).turn (engine_of state).time (engine_of state)).events) (written ∙ ap (λ events. old ++ kept_text own pick events) told_all)
          ∙ append_assoc old (kept_text own pick (advance state head).events) (kept_text own pick (ended how.Quiet (engine_of state).turn (engine_of state).time (engine_of state)).events)
          ∙ ap (λ text. old ++ text) (sym (flat_map-append (kept_line own pick) (advance state head).events (ended how.Quiet (engine_of state).turn (engine_of state).time (engine_of state)).events))
          ∙ ap (λ run. old ++ kept_text own pick run.events) (sym whole);
      end = ap (λ run. run.end) whole;
      stands = λ is. ap engine_of same ∙ sym (ap (λ run. run.state) whole);
    }

-- what holds where a step came to this
pub of-step : (P : Step → Type 0) (result : Result Step TurnEnd) (found step : Step) → result ≡ Ok found → found ≡ step → IfOk result P → P step
of-step P result found step is same holds = subst P same (subst (λ (result : Result Step TurnEnd). IfOk result P) is holds)
