-- How a run ends whose events are counted.
use Rattle.std.proofs.Common.{◌≡◌, ℕ, ◌+◌, ◌-◌, Bool, true, List, [], ◌∷◌, ◌++◌, length, Result, Ok, Err, refl, sym, ap, subst, ◌∙◌, arith, append_assoc, length-append, unwrap_or}
use Rattle.std.specs.Prelude.{Option, Some, None, IfSome, is_some, slice_get}
use Rattle.std.specs.Option.{option_map_or}
use Rattle.std.proofs.lemmas.Option.{slice_get_read}
use Rattle.std.proofs.Math.Seq.{get_or-append_seam}
use Rattle.dsde_values.specs.declared.arrival.Arrival.{Arrival}
use Rattle.dsde_values.specs.Path.{root}
use Rattle.dsde_sim_tree.specs.given.formalism.System.{System, Chosen}
use Rattle.dsde_input_records.specs.Records.{Records, end}
use Rattle.dsde_sim_tree.specs.declared.event.Event.{Event}
use Rattle.dsde_sim_tree.specs.declared.event.Event.TheVariants as event
use Rattle.dsde_sim_tree.specs.declared.event.Finish.{Finish}
use Rattle.dsde_sim_tree.specs.declared.event.Finish.TheVariants as how
use Rattle.dsde_sim_tree.specs.declared.fault.TurnEnd.{TurnEnd}
use Rattle.dsde_sim_tree.specs.declared.fault.TurnEnd.TheVariants as turn_end
use Rattle.dsde_sim_tree.specs.Told as turn
use Rattle.dsde_sim_tree.specs.Told.{at, told, quietly, ◌then◌}
use Rattle.dsde_core.specs.given.sim_working.Working as sim
use Rattle.dsde_sim_tree.specs.declared.sim.Sim.{Sim}
use Rattle.dsde_sim_tree.specs.Tree.{model_of}
use Rattle.dsde_sim_tree.specs.declared.step.Step.TheVariants.{Turned, Quiet}
use Rattle.dsde_sim_tree.specs.Engine.{Engine, begun, next_of}
use Rattle.dsde_sim_tree.specs.Turn as turning
use Rattle.dsde_sim_tree.specs.Turn.{started_tree, turn_time}
use Rattle.dsde_trace.specs.declared.count.Summary.{Summary}
use Rattle.dsde_trace.specs.Count.{counts_from, none_counted}
use Rattle.dsde_trace.specs.Text.{end_text}
use Rattle.dsde_run_meaning.specs.Run.{Run, ended, preceded, unstarted}
use Rattle.dsde_run.specs.Reading.{IsWhole}
use Rattle.dsde_run.specs.Run.{Running, advance, event_text, faulted, go, run, start, turn_on}
use Rattle.dsde_run.specs.declared.count.Counted.{Counted}
use Rattle.dsde_run.specs.declared.count.Ending.{Ending}
use Rattle.dsde_run.specs.Counting.{Counts, EndsCounted, IsOwnEnd, TurnsCounted, counts_text, last_line, summary_text}
use Rattle.dsde_run.proofs.Counting.{counts-append}

-- Where there is no head, nothing comes.
pub nothing-comes : (own : sim.Working) → sim.HeadComes own None
nothing-comes own = by own.engine.tree
  where
    by : (tree : Option Sim) → IfSome tree (λ tree. IfSome None (sim.Comes own.program (model_of tree)))
    by None = tt
    by (Some tree) = tt

-- An end that is no fault.
pub own-end : (answer : Finish) → ¬ (IsWhole answer) → IsOwnEnd answer
own-end how.Bound whole = tt
own-end how.Quiet whole = tt
own-end (how.Fault fault) whole = tt
own-end (how.Input kind line) whole = absurd (whole tt)

-- an end, with its counts
abbrev pub ending_of : Finish → ℕ → ℕ → Ending
ending_of how turns time = record { how = how; turns = turns; time = time }

-- The run ends here.
pub ends-now : (summary : Summary) (answer : Finish) (turns time : ℕ) (engine : Engine) → EndsCounted summary (ended answer turns time engine) summary (ending_of answer turns time)
ends-now summary answer turns time engine = record { counted = refl; end = refl; told = []; last = refl }

-- Some events, and then the rest of the run.
pub ends-behind : (before mid after : Summary) (events : List Event) (rest : Run) (ending : Ending) → mid ≡ counts_from before events → EndsCounted mid rest after ending → EndsCounted before (preceded events rest) after ending
ends-behind before mid after events rest ending is ends = record {
  counted = ends.counted ∙ ap (λ (summary : Summary). counts_from summary rest.events) is ∙ sym (counts-append before events rest.events);
  end = ends.end;
  told = events ++ ends.told;
  last = ap (λ (own : List Event). events ++ own) ends.last ∙ sym (append_assoc events ends.told (event.Finish ending.how ending.turns ending.time ∷ []));
}

-- A step did not come to its end: the run ends with its events.
ends-fault : {A : Type 0} (own : Running) (step : turn.Told A) (begun told : List Event) (why : TurnEnd) (answer : Finish) (turns time : ℕ) (engine : Engine) (old new : Summary) →
    begun ≡ [] → turn.Tells step begun told (Err why) → ((turns time : ℕ) (engine : Engine) → faulted own why turns time engine ≡ ended answer turns time engine) → new ≡ counts_from old told →
    EndsCounted old (preceded step.events (faulted own why turns time engine)) new (ending_of answer turns time)
ends-fault own step begun told (turn_end.Fault path site kind at) answer turns time engine old new empty tells fault is =
    let all : told ≡ step.events = tells.0 ∙ ap (λ (events : List Event). events ++ step.events) empty in
    subst (λ (rest : Run). EndsCounted old (preceded step.events rest) new (ending_of answer turns time)) (sym (fault turns time engine))
    (ends-behind old new new step.events (ended answer turns time engine) (ending_of answer turns time) (is ∙ ap (counts_from old) all) (ends-now new answer turns time engine))
ends-fault own step begun told turn_end.Memory answer turns time engine old new empty tells fault is =
    let never : None ≡ Some answer = ap (λ (run : Run). run.end) (fault turns time engine) in absurd (cc never)

turn_on-faulted : (own : Running) (engine : Engine) (head : Option Arrival) (why : TurnEnd) (later : Bool → Engine → Run) → (advance own engine head).end ≡ Err why →
    turn_on own engine head later ≡ preceded (advance own engine head).events (faulted own why (engine.turn + 1) (unwrap_or (turn_time (next_of engine) head) engine.time) engine)
turn_on-faulted own engine head why later e = rw e

turn_on-quiet : (own : Running) (engine after : Engine) (head : Option Arrival) (later : Bool → Engine → Run) → (advance own engine head).end ≡ Ok (Quiet, after) →
    turn_on own engine head later ≡ preceded (advance own engine head).events (ended how.Quiet engine.turn engine.time engine)
turn_on-quiet own engine after head later e = rw e

turn_on-turned : (own : Running) (engine after : Engine) (head : Option Arrival) (took : Bool) (later : Bool → Engine → Run) → (advance own engine head).end ≡ Ok (Turned took, after) →
    turn_on own engine head later ≡ preceded (advance own engine head).events (later took after)
turn_on-turned own engine after head took later e = rw e

run-started : (own : Running) (records : Records) (turns : ℕ) (engine : Engine) → (start own).end ≡ Ok engine → run own records turns ≡ preceded (start own).events (go own turns records engine)
run-started own records turns engine e = rw e

run-faulted : (own : Running) (records : Records) (turns : ℕ) (why : TurnEnd) → (start own).end ≡ Err why → run own records turns ≡ preceded (start own).events (faulted own why 0 0 unstarted)
run-faulted own records turns why e = rw e

-- the events of a step that came to its end
told-all : {A : Type 0} (step : turn.Told A) (begun told : List Event) (value : A) → begun ≡ [] → turn.Tells step begun told (Ok value) → told ≡ step.events
told-all step begun told value empty tells = tells.0 ∙ ap (λ (events : List Event). events ++ step.events) empty

-- what a step that failed came to
told-end : {A : Type 0} (step : turn.Told A) (begun told : List Event) (why : TurnEnd) (Holds : Type 0) → turn.Tells step begun told (Err why) →
    (step.end ≡ Err why → Holds) → (why ≡ turn_end.Memory → Holds) → Holds
told-end step begun told (turn_end.Fault path site kind at) Holds tells ends other = ends tells.1
told-end step begun told turn_end.Memory Holds tells ends other = other refl

module _ (own : Running) (engine : Engine) (begun told : List Event) (old new : Summary) (empty : begun ≡ []) (is : new ≡ counts_from old told) where
  -- a turn is done
  pub turn-counted : (took : Bool) (after : Engine) → turn.Tells (advance own engine None) begun told (Ok (Turned took, after)) → TurnsCounted own engine after old new
  turn-counted took after tells = record {
    took = took;
    counted = is ∙ ap (counts_from old) (told-all (advance own engine None) begun told (Turned took, after) empty tells);
    comes = tells.1;
  }

  -- nothing will ever be due
  pub quiet-counted : (after : Engine) → turn.Tells (advance own engine None) begun told (Ok (Quiet, after)) → (later : Bool → Engine → Run) →
      EndsCounted old (turn_on own engine None later) new (ending_of how.Quiet engine.turn engine.time)
  quiet-counted after tells later =
      subst (λ (run : Run). EndsCounted old run new (ending_of how.Quiet engine.turn engine.time)) (sym (turn_on-quiet own engine after None later tells.1))
      (ends-behind old new new (advance own engine None).events (ended how.Quiet engine.turn engine.time engine) (ending_of how.Quiet engine.turn engine.time)
      (is ∙ ap (counts_from old) (told-all (advance own engine None) begun told (Quiet, after) empty tells)) (ends-now new how.Quiet engine.turn engine.time engine))

  -- the turn did not come to its end
  pub fault-counted : (why : TurnEnd) (answer : Finish) (turns time : ℕ) → turn.Tells (advance own engine None) begun told (Err why) →
      ((turns time : ℕ) (engine : Engine) → faulted own why turns time engine ≡ ended answer turns time engine) →
      turns ≡ engine.turn + 1 → time ≡ unwrap_or (turn_time (next_of engine) None) engine.time → (later : Bool → Engine → Run) →
      EndsCounted old (turn_on own engine None later) new (ending_of answer turns time)
  fault-counted why answer turns time tells fault is_turns is_time later =
      told-end (advance own engine None) begun told why (EndsCounted old (turn_on own engine None later) new (ending_of answer turns time)) tells
      (λ ends.
      let whole : turn_on own engine None later ≡ preceded (advance own engine None).events (faulted own why turns time engine) =
      turn_on-faulted own engine None why later ends
      ∙ ap (λ n. preceded (advance own engine None).events (faulted own why n (unwrap_or (turn_time (next_of engine) None) engine.time) engine)) (sym is_turns)
      ∙ ap (λ t. preceded (advance own engine None).events (faulted own why turns t engine)) (sym is_time) in
      subst (λ (run : Run). EndsCounted old run new (ending_of answer turns time)) (sym whole)
      (ends-fault own (advance own engine None) begun told why answer turns time engine old new empty tells fault is))
      (λ memory. let never : None ≡ Some answer = ap (λ (run : Run). run.end) (rw memory at (fault turns time engine)) in absurd (cc never))

-- A turn, and then the rest of the run.
pub counted-then : (own : Running) (engine after : Engine) (old mid new : Summary) (later : Engine → Run) (ending : Ending) → TurnsCounted own engine after old mid →
    EndsCounted mid (later after) new ending → EndsCounted old (turn_on own engine None (λ took after. later after)) new ending
counted-then own engine after old mid new later ending turns ends =
    subst (λ (run : Run). EndsCounted old run new ending) (sym (turn_on-turned own engine after None turns.took (λ took after. later after) turns.comes))
    (ends-behind old mid new (advance own engine None).events (later after) ending turns.counted ends)

-- what was counted of a whole run
counts-all : (run : Run) (counted : Counted) → EndsCounted none_counted run counted.summary (ending_of counted.how counted.turns counted.time) → Counts run counted
counts-all run counted ends = record { summary = ends.counted; end = ends.end; told = ends.told; last = ends.last }

-- a start, and the turns behind it
pub counts-started : (own : Running) (turns : ℕ) (engine : Engine) (begun told : List Event) (mid : Summary) (counted : Counted) → begun ≡ [] → turn.Tells (start own) begun told (Ok engine) →
    mid ≡ counts_from none_counted told → EndsCounted mid (go own turns end engine) counted.summary (ending_of counted.how counted.turns counted.time) → Counts (run own end turns) counted
counts-started own turns engine begun told mid counted empty tells is ends =
    counts-all (run own end turns) counted
    (subst (λ (run : Run). EndsCounted none_counted run counted.summary (ending_of counted.how counted.turns counted.time)) (sym (run-started own end turns engine tells.1))
    (ends-behind none_counted mid counted.summary (start own).events (go own turns end engine) (ending_of counted.how counted.turns counted.time)
    (is ∙ ap (counts_from none_counted) (told-all (start own) begun told engine empty tells)) ends))

-- a start that did not come to its end
pub counts-unstarted : (own : Running) (turns : ℕ) (begun told : List Event) (why : TurnEnd) (counted : Counted) → begun ≡ [] → turn.Tells (start own) begun told (Err why) →
    ((turns time : ℕ) (engine : Engine) → faulted own why turns time engine ≡ ended counted.how turns time engine) → counted.turns ≡ 0 → counted.time ≡ 0 →
    counted.summary ≡ counts_from none_counted told → Counts (run own end turns) counted
counts-unstarted own turns begun told why counted empty tells fault none at_start is =
    counts-all (run own end turns) counted
    (told-end (start own) begun told why (EndsCounted none_counted (run own end turns) counted.summary (ending_of counted.how counted.turns counted.time)) tells
    (λ ends.
    rw (none, at_start)
    (subst (λ (run : Run). EndsCounted none_counted run counted.summary (ending_of counted.how 0 0)) (sym (run-faulted own end turns why ends))
    (ends-fault own (start own) begun told why counted.how 0 0 unstarted none_counted counted.summary empty tells fault is)))
    (λ memory. let never : None ≡ Some counted.how = ap (λ (run : Run). run.end) (rw memory at (fault 0 0 unstarted)) in absurd (cc never)))

-- the last of a list
last_of : (told : List Event) (own : Event) → slice_get (told ++ own ∷ []) (length (told ++ own ∷ []) - 1) ≡ Some own
last_of told own =
    let size : length (told ++ own ∷ []) ≡ length told + 1 = length-append told (own ∷ []) in
    let place : length (told ++ own ∷ []) - 1 ≡ length told = omega (arith, size) in
    ap (slice_get (told ++ own ∷ [])) place
    ∙ slice_get_read (told ++ own ∷ []) (length (told ++ own ∷ [])) (length told) own refl (omega (arith, size)) (sym (get_or-append_seam told own [] own))

-- the summary of a run, by what was counted of it
pub summary-of : (own : Running) (run : Run) (counted : Counted) → Counts run counted → counts_text counted.summary ++ end_text counted.how counted.turns counted.time ≡ summary_text own run
summary-of own run counted counts =
    ap (λ (summary : Summary). counts_text summary ++ end_text counted.how counted.turns counted.time) counts.summary
    ∙ ap (λ line. counts_text (counts_from none_counted run.events) ++ line)
    (sym (ap (last_line own) counts.last
    ∙ ap (λ (found : Option Event). option_map_or (event_text own) found []) (last_of counts.told (event.Finish counted.how counted.turns counted.time))))

-- a step that comes to its end has a first part that does
ends-first : {A B : Type 0} (end : Result A TurnEnd) (step : turn.Told A) (next : A → turn.Told B) (value : B) → step.end ≡ end →
    (step then next).end ≡ Ok value → (first : A) × ((next first).end ≡ Ok value)
ends-first (Ok first) step next value is ends = (first, rw is at ends)
ends-first (Err why) step next value is ends = let two = rw is at ends in absurd (cc two)

same_ok : {A : Type 0} (this that : A) → ◌≡◌ {A = Result A TurnEnd} (Ok this) (Ok that) → this ≡ that
same_ok this that same = cc same

-- An engine that has started has a tree, and no turn of it is done.
pub record IsBegun (engine : Engine) : Type 0 where
  pub has_tree : is_some engine.tree ≡ true
  pub none_done : engine.turn ≡ 0

pub is_begun : (system : System) (engine : Engine) → (turning.start system).end ≡ Ok engine → IsBegun engine
is_begun system engine ends =
    let first = ends-first (at root system.top) (quietly (at root system.top))
    (λ (chosen : Chosen). started_tree system chosen.model chosen.args then (λ own. told [] (begun own))) engine refl ends in
    let second = ends-first (started_tree system first.0.model first.0.args).end (started_tree system first.0.model first.0.args)
    (λ own. told [] (begun own)) engine refl first.1 in
    let is : begun second.0 ≡ engine = same_ok (begun second.0) engine second.1 in
    record {
      has_tree = ap (λ (engine : Engine). is_some engine.tree) (sym is);
      none_done = ap (λ (engine : Engine). engine.turn) (sym is);
    }
