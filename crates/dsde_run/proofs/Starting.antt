-- A whole run: its start, and then its turns.
use Rattle.std.proofs.Common.{◌≡◌, ◌≢◌, ℕ, List, [], ◌++◌, length, take, drop, refl, sym, subst, ◌∙◌, ap, append_assoc}
use Rattle.std.specs.Prelude.{Option, Result, Ok, Err, IfOk, IfErr, OnErr}
use Rattle.std.proofs.lemmas.Grind.{flat_map-append}
use Rattle.std.proofs.lemmas.List.{append-nil, take-append-drop}
use Rattle.std.proofs.Math.Seq.{take-append_seam}
use Rattle.dsde_values.specs.declared.path.Path.{Path}
use Rattle.dsde_faults.specs.declared.kind.FaultKind.{FaultKind}
use Rattle.dsde_faults.specs.declared.kind.Site.{Site}
use Rattle.dsde_run.proofs.Turning.{kept-ended}
use Rattle.dsde_io.specs.Bytes.{Gains, GainsFront}
use Rattle.dsde_input_records.specs.Records.{Records}
use Rattle.dsde_sim_tree.specs.declared.event.Event.{Event}
use Rattle.dsde_sim_tree.specs.declared.event.Event.TheVariants as event
use Rattle.dsde_sim_tree.specs.declared.event.Finish.{Finish}
use Rattle.dsde_sim_tree.specs.declared.event.Finish.TheVariants as how
use Rattle.dsde_sim_tree.specs.declared.fault.TurnEnd.{TurnEnd}
use Rattle.dsde_sim_tree.specs.declared.fault.TurnEnd.TheVariants as turn_end
use Rattle.dsde_sim_tree.specs.Told as turn
use Rattle.dsde_sim_tree.specs.declared.step.Step.{Step}
use Rattle.dsde_sim_tree.specs.Engine.{Engine}
use Rattle.dsde_values.specs.declared.arrival.Arrival.{Arrival}
use Rattle.dsde_trace.specs.declared.pick.Pick.{Pick}
use Rattle.dsde_run.specs.declared.run.Cut.{Cut}
use Rattle.dsde_run.specs.declared.run.Cut.TheVariants as cut
use Rattle.dsde_run.specs.Run.{Running, event_text, go_by, run_by, faulted, kept_line, kept_text}
use Rattle.dsde_run_meaning.specs.Run.{Run, preceded, ended, unstarted}
use Rattle.dsde_run.specs.Reading.{cut_after, feeds, IsWhole, TakesWanted, Tells, IsFront, Comes, ComesWhole, StartsFaulted}
use Rattle.dsde_run.specs.Reading as source
use Rattle.dsde_run.specs.Steps.{HandsOn, GoesOn}
use Rattle.dsde_run.proofs.Tolds.{Told-weaker}
use Rattle.dsde_run.proofs.Handing.{Gains-then, Gains-same, IsFront-more, IsFront-within, IsFront-failed}

run-started : {State : Type 0} (engine_of : State → Engine) (advance : State → Option Arrival → turn.Told (Step × State)) (begins : turn.Told State) (own : Running) (records : Records) (turns : ℕ) (state : State) → begins.end ≡ Ok state →
    run_by engine_of advance begins own records turns ≡ preceded begins.events (go_by engine_of advance own turns records state)
run-started engine_of advance begins own records turns state e = rw e

run-faulted : {State : Type 0} (engine_of : State → Engine) (advance : State → Option Arrival → turn.Told (Step × State)) (begins : turn.Told State) (own : Running) (records : Records) (turns : ℕ) (why : TurnEnd) → begins.end ≡ Err why →
    run_by engine_of advance begins own records turns ≡ preceded begins.events (faulted own why 0 0 unstarted)
run-faulted engine_of advance begins own records turns why e = rw e

-- the start of a run comes before its turns
pub GoesOn-start : {State : Type 0} (engine_of : State → Engine) (advance : State → Option Arrival → turn.Told (Step × State)) (begins : turn.Told State) (own : Running) (pick : Pick) (turns : ℕ) (state : State) (told : List Event) (empty text left : List ℕ) (old new : Option (List ℕ)) →
    turn.Tells begins [] told (Ok state) → empty ≡ [] → text ≡ empty ++ kept_text own pick told → HandsOn old new text left → left ≡ [] →
    (records : Records) → GoesOn own pick (run_by engine_of advance begins own records turns) (go_by engine_of advance own turns records state) old new []
GoesOn-start engine_of advance begins own pick turns state told empty text left old new tells bare written hands all records =
    let events : told ≡ begins.events = tells.0 in
    let later = go_by engine_of advance own turns records state in
    let whole = run-started engine_of advance begins own records turns state tells.1 in
    let piece : hands.piece ≡ kept_text own pick told = sym (append-nil hands.piece) ∙ ap (λ l. hands.piece ++ l) (sym all) ∙ sym hands.split ∙ written ∙ ap (λ l. l ++ kept_text own pick told) bare in
    record {
      piece = hands.piece;
      gained = hands.gained;
      text =
          ap (λ run. kept_text own pick run.events) whole
          ∙ flat_map-append (kept_line own pick) begins.events later.events
          ∙ ap (λ l. l ++ kept_text own pick later.events) (ap (kept_text own pick) (sym events) ∙ sym piece ∙ sym (append-nil hands.piece));
      end = ap (λ run. run.end) whole;
      state = ap (λ run. run.state) whole;
    }

module _ (own : Running) (pick : Pick) (tells rest : Records → Run) (all : Records) (old mid new : Option (List ℕ)) (goes : (records : Records) → GoesOn own pick (tells records) (rest records) old mid []) where
  behind : (records : Records) → kept_text own pick (tells records).events ≡ (goes records).piece ++ kept_text own pick (rest records).events
  behind records = (goes records).text ∙ ap (λ l. l ++ kept_text own pick (rest records).events) (append-nil (goes records).piece)

  front-behind : IsFront mid new (kept_text own pick (rest all).events) → IsFront old new (kept_text own pick (tells all).events)
  front-behind front = subst (IsFront old new) (sym (behind all)) (IsFront-more old mid new (goes all).piece (kept_text own pick (rest all).events) (goes all).gained front)

  -- what a run comes to behind its start
  pub comes-behind : (engine : Engine) (result : Result Finish Cut) (held before after : List ℕ) → Comes own pick rest all engine mid new result held before after → Comes own pick tells all engine old new result held before after
  comes-behind engine (Ok how) held before after comes = record {
    text = subst (Gains old new) (sym (behind all)) (Gains-then old mid new (goes all).piece (kept_text own pick (rest all).events) (goes all).gained comes.text);
    end = (goes all).end ∙ comes.end;
    stands = λ is. comes.stands is ∙ sym (goes all).state;
  }
  comes-behind engine (Err cut.ReadFault) held before after comes =
      let records = cut_after (feeds (held ++ comes.taken)) all in
      record {
        taken = comes.taken;
        split = comes.split;
        text = subst (Gains old new) (sym (behind records)) (Gains-then old mid new (goes records).piece (kept_text own pick (rest records).events) (goes records).gained comes.text);
        cut = (goes records).end ∙ comes.cut;
        front = front-behind comes.front;
        stands = comes.stands ∙ sym (goes records).state;
      }
  comes-behind engine (Err cut.Unwritten) held before after comes = front-behind comes
  comes-behind engine (Err cut.Memory) held before after comes = front-behind comes

  pub wanted-behind : (held before after : List ℕ) → TakesWanted rest all held before after → TakesWanted tells all held before after
  wanted-behind held before after takes = record {
    needed = takes.needed;
    past = takes.past;
    split = takes.split;
    size = takes.size;
    wanted = λ some. (goes (cut_after (feeds (held ++ takes.needed)) all)).end ∙ takes.wanted some;
  }

  pub front-mid : IsFront old mid (kept_text own pick (tells all).events)
  front-mid = record {
    count = length (goes all).piece;
    is = Gains-same old mid (goes all).piece (take (length (goes all).piece) (kept_text own pick (tells all).events))
        (sym (ap (take (length (goes all).piece)) (behind all) ∙ take-append_seam (goes all).piece (kept_text own pick (rest all).events))) (goes all).gained;
  }

-- The start's lines could not be handed on.
pub front-start : {State : Type 0} (engine_of : State → Engine) (advance : State → Option Arrival → turn.Told (Step × State)) (begins : turn.Told State) (own : Running) (pick : Pick) (turns : ℕ) (state : State) (told : List Event) (empty text : List ℕ) (old new : Option (List ℕ)) →
    turn.Tells begins [] told (Ok state) → empty ≡ [] → text ≡ empty ++ kept_text own pick told → GainsFront old new text →
    (records : Records) → IsFront old new (kept_text own pick (run_by engine_of advance begins own records turns).events)
front-start engine_of advance begins own pick turns state told empty text old new tells bare written failed records =
    let later = go_by engine_of advance own turns records state in
    let whole = run-started engine_of advance begins own records turns state tells.1 in
    IsFront-within old new text (kept_text own pick later.events) (kept_text own pick (run_by engine_of advance begins own records turns).events)
    (ap (λ run. kept_text own pick run.events) whole
    ∙ flat_map-append (kept_line own pick) begins.events later.events
    ∙ ap (λ l. l ++ kept_text own pick later.events) (ap (kept_text own pick) (sym tells.0) ∙ sym (written ∙ ap (λ l. l ++ kept_text own pick told) bare)))
    (IsFront-failed old new text failed)

-- what comes behind a start, by what the start came to
abbrev later_of : {State : Type 0} → (State → Engine) → (State → Option Arrival → turn.Told (Step × State)) → Running → Records → ℕ → Result State TurnEnd → Run
later_of engine_of advance own records turns answer = elim answer [ Ok state ↦ go_by engine_of advance own turns records state | Err why ↦ faulted own why 0 0 unstarted ]

-- What was told of a step is the first of its events.
told-first : {A : Type 0} (step : turn.Told A) (told : List Event) (why : TurnEnd) → turn.Tells step [] told (Err why) → (rest : List Event) × (step.events ≡ told ++ rest)
told-first step told (turn_end.Fault path site kind at) tells = ([], sym tells.0 ∙ sym (append-nil told))
told-first step told turn_end.Memory tells = (
  drop (length told) step.events,
  sym (take-append-drop (length told) step.events) ∙ ap (λ events. events ++ drop (length told) step.events) tells.front,
)

module _ {State : Type 0} (engine_of : State → Engine) (advance : State → Option Arrival → turn.Told (Step × State)) (begins : turn.Told State) (own : Running) (pick : Pick) (turns : ℕ) (records : Records) (told : List Event) (empty text : List ℕ) (old new : Option (List ℕ)) (before : List ℕ)
    (bare : empty ≡ []) (written : text ≡ empty ++ kept_text own pick told) where
  text_is : text ≡ kept_text own pick told
  text_is = written ∙ ap (λ l. l ++ kept_text own pick told) bare

  -- A start that faults, and its whole text.
  fault_text : (path : Path) (site : Site) (kind : FaultKind) (at : ℕ) → turn.Tells begins [] told (Err (turn_end.Fault path site kind at)) →
      kept_text own pick (run_by engine_of advance begins own records turns).events ≡ text ++ kept_text own pick (faulted own (turn_end.Fault path site kind at) 0 0 unstarted).events
  fault_text path site kind at tells =
      ap (λ run. kept_text own pick run.events) (run-faulted engine_of advance begins own records turns (turn_end.Fault path site kind at) tells.1)
      ∙ flat_map-append (kept_line own pick) begins.events (faulted own (turn_end.Fault path site kind at) 0 0 unstarted).events
      ∙ ap (λ l. l ++ kept_text own pick (faulted own (turn_end.Fault path site kind at) 0 0 unstarted).events) (ap (kept_text own pick) (sym tells.0) ∙ sym text_is)

  front_fault : (path : Path) (site : Site) (kind : FaultKind) (at : ℕ) → turn.Tells begins [] told (Err (turn_end.Fault path site kind at)) →
      IsFront old new (text ++ kept_text own pick (faulted own (turn_end.Fault path site kind at) 0 0 unstarted).events) → IsFront old new (kept_text own pick (run_by engine_of advance begins own records turns).events)
  front_fault path site kind at tells front = subst (IsFront old new) (sym (fault_text path site kind at tells)) front

  front_memory : turn.Tells begins [] told (Err turn_end.Memory) → IsFront old new (text ++ []) → IsFront old new (kept_text own pick (run_by engine_of advance begins own records turns).events)
  front_memory tells front =
      let first = told-first begins told turn_end.Memory tells in
      let later = later_of engine_of advance own records turns begins.end in
      IsFront-within old new (text ++ []) (kept_text own pick first.0 ++ kept_text own pick later.events) (kept_text own pick (run_by engine_of advance begins own records turns).events)
      (flat_map-append (kept_line own pick) begins.events later.events
      ∙ ap (λ l. l ++ kept_text own pick later.events) (ap (kept_text own pick) first.1 ∙ flat_map-append (kept_line own pick) told first.0)
      ∙ append_assoc (kept_text own pick told) (kept_text own pick first.0) (kept_text own pick later.events)
      ∙ ap (λ l. l ++ (kept_text own pick first.0 ++ kept_text own pick later.events)) (sym text_is ∙ sym (append-nil text)))
      front

  pub comes-unstarted : (why : TurnEnd) (result : Result Finish Cut) → turn.Tells begins [] told (Err why) → StartsFaulted own pick why text old new result →
      ComesWhole own pick (λ records. run_by engine_of advance begins own records turns) records old new result before before
  comes-unstarted (turn_end.Fault path site kind at) (Ok how) tells starts = (
    unstarted,
    record {
      text = subst (Gains old new) (ap (λ l. text ++ l) (sym (kept-ended own pick how 0 0 unstarted) ∙ ap (λ run. kept_text own pick run.events) (sym starts.0)) ∙ sym (fault_text path site kind at tells)) starts.1;
      end = ap (λ run. run.end) (run-faulted engine_of advance begins own records turns (turn_end.Fault path site kind at) tells.1) ∙ ap (λ run. run.end) starts.0;
      stands = λ is. absurd (starts.2 is);
    },
  )
  comes-unstarted (turn_end.Fault path site kind at) (Err cut.ReadFault) tells starts = absurd starts
  comes-unstarted (turn_end.Fault path site kind at) (Err cut.Unwritten) tells starts = (unstarted, front_fault path site kind at tells starts)
  comes-unstarted (turn_end.Fault path site kind at) (Err cut.Memory) tells starts = (unstarted, front_fault path site kind at tells starts)
  comes-unstarted turn_end.Memory (Ok how) tells starts = absurd (let two = ap (λ run. run.end) starts.0 in cc two)
  comes-unstarted turn_end.Memory (Err cut.ReadFault) tells starts = absurd starts
  comes-unstarted turn_end.Memory (Err cut.Unwritten) tells starts = (unstarted, front_memory tells starts)
  comes-unstarted turn_end.Memory (Err cut.Memory) tells starts = (unstarted, front_memory tells starts)

-- The last line of a run that did not start.
pub starts-finished : (own : Running) (pick : Pick) (why : TurnEnd) (how : Finish) (text : List ℕ) (old new : Option (List ℕ)) → ((turns time : ℕ) (engine : Engine) → faulted own why turns time engine ≡ ended how turns time engine) →
    (IsWhole how → ⊥) → (result : Result Finish Cut) → IfOk result (λ answer. (answer ≡ how) × Gains old new (text ++ event_text own (event.Finish how 0 0))) →
    OnErr result (IsFront old new (text ++ event_text own (event.Finish how 0 0))) → IfErr result (λ short. short ≢ cut.ReadFault) → StartsFaulted own pick why text old new result
starts-finished own pick why how text old new fault not_whole (Ok answer) ok front other =
    subst (λ answer. StartsFaulted own pick why text old new (Ok answer)) (sym ok.0) (fault 0 0 unstarted, ok.1, not_whole)
starts-finished own pick why how text old new fault not_whole (Err cut.ReadFault) ok front other = absurd (other refl)
starts-finished own pick why how text old new fault not_whole (Err cut.Unwritten) ok front other =
    subst (λ line. IsFront old new (text ++ line)) (sym (kept-ended own pick how 0 0 unstarted) ∙ ap (λ run. kept_text own pick run.events) (sym (fault 0 0 unstarted))) front
starts-finished own pick why how text old new fault not_whole (Err cut.Memory) ok front other =
    subst (λ line. IsFront old new (text ++ line)) (sym (kept-ended own pick how 0 0 unstarted) ∙ ap (λ run. kept_text own pick run.events) (sym (fault 0 0 unstarted))) front

-- it is no quiet end, and no failed read
pub unstarted-not_quiet : (own : Running) (pick : Pick) (why : TurnEnd) (text : List ℕ) (old new : Option (List ℕ)) (result : Result Finish Cut) → StartsFaulted own pick why text old new result → result ≢ Ok how.Quiet
unstarted-not_quiet own pick why text old new (Ok how.Quiet) starts quiet = starts.2 tt
unstarted-not_quiet own pick why text old new (Ok how.Bound) starts quiet = cc quiet
unstarted-not_quiet own pick why text old new (Ok (how.Input sort line)) starts quiet = cc quiet
unstarted-not_quiet own pick why text old new (Ok (how.Fault fault)) starts quiet = cc quiet
unstarted-not_quiet own pick why text old new (Err short) starts quiet = cc quiet

pub unstarted-not_read : (own : Running) (pick : Pick) (why : TurnEnd) (text : List ℕ) (old new : Option (List ℕ)) (result : Result Finish Cut) → StartsFaulted own pick why text old new result → result ≢ Err cut.ReadFault
unstarted-not_read own pick why text old new result starts is = subst (StartsFaulted own pick why text old new) is starts

-- cut short otherwise than by a failed read
pub comes-short : (own : Running) (pick : Pick) (tells : Records → Run) (all : Records) (old new : Option (List ℕ)) (why : Cut) (before after : List ℕ) → why ≢ cut.ReadFault → IsFront old new (kept_text own pick (tells all).events) →
    ComesWhole own pick tells all old new (Err why) before after
comes-short own pick tells all old new cut.ReadFault before after other front = absurd (other refl)
comes-short own pick tells all old new cut.Unwritten before after other front = (unstarted, front)
comes-short own pick tells all old new cut.Memory before after other front = (unstarted, front)

-- an engine stands where a whole run did
pub whole-stands : (own : Running) (pick : Pick) (tells : Records → Run) (records : List ℕ → Records) (engine : Engine) (old new left rest : Option (List ℕ)) (result : Result Finish Cut) →
    source.Told left rest (λ before. Comes own pick tells (records before) engine old new result [] before) →
    IfOk result (λ how. IsWhole how → source.Told left rest (λ before after. engine ≡ (tells (records before)).state))
whole-stands own pick tells records engine old new left rest (Ok how) comes = λ is. Told-weaker left rest comes (λ before after tells. tells.stands is)
whole-stands own pick tells records engine old new left rest (Err why) comes = tt
