-- What the functions that run a model append, hand on and answer.
use Rattle.std.specs.Prelude.{ℕ, ◌+◌, ◌≡◌, ◌≢◌, ◌≤◌, ◌^◌, true, false, Bool, List, [], ◌∷◌, ◌++◌, length, Option, Some, None, is_some, Result, Ok, Err, IfOk, IfErr, IfSome}
use Rattle.dsde_io.specs.Bytes.{Gains, GainsFront}
use Rattle.dsde_values.specs.When.{IsMoment}
use Rattle.dsde_input_records.specs.Record.{AreItems}
use Rattle.dsde_language.specs.declared.ids.ModelId.{ModelId}
use Rattle.dsde_language.specs.DeclaredModels.{top_ins, top_number, types_of}
use Rattle.dsde_core.specs.given.sim_working.Working as sim
use Rattle.dsde_core.specs.given.sim_working.Working.{HeadComes, working}
use Rattle.dsde_values.specs.declared.arrival.Arrival.{Arrival}
use Rattle.dsde_input_records.specs.declared.end.InputEnd.{InputEnd}
use Rattle.dsde_input_records.specs.declared.end.InputEnd.TheVariants.{ReadFault}
use Rattle.dsde_input_records.specs.Records.{Records, end, bad, one}
use Rattle.dsde_sim_tree.specs.Told.{Told, Tells}
use Rattle.dsde_sim_tree.specs.declared.event.Event.{Event}
use Rattle.dsde_sim_tree.specs.declared.event.Event.TheVariants as event
use Rattle.dsde_sim_tree.specs.declared.fault.TurnEnd.{TurnEnd}
use Rattle.dsde_sim_tree.specs.declared.step.Step.{Step}
use Rattle.dsde_syntax.specs.declared.decl.Model.{Model}
use Rattle.dsde_sim_tree.specs.declared.event.Finish.{Finish}
use Rattle.dsde_sim_tree.specs.Engine.{Engine}
use Rattle.dsde_input.specs.Reader.{Reader, IsOffence, least_time, to_come, records, TakesOfLine}
use Rattle.dsde_trace.specs.declared.pick.Pick.{Pick}
use Rattle.dsde_trace.specs.declared.pick.Pick.TheVariants.{Outputs}
use Rattle.dsde_run.specs.declared.run.Head.{Head}
use Rattle.dsde_run.specs.declared.run.Head.TheVariants.{Wanted, Over, Is}
use Rattle.dsde_run.specs.declared.run.Unready.{Unready}
use Rattle.dsde_run.specs.declared.run.Unready.TheVariants as unready
use Rattle.dsde_run.specs.declared.run.After.{After}
use Rattle.dsde_run.specs.declared.run.After.TheVariants.{Turned, Ended}
use Rattle.dsde_run.specs.Run.{Running, event_text, turn_by, kept_text}
use Rattle.dsde_run.specs.Advancing.{IsTurned}
use Rattle.dsde_run_meaning.specs.Run.{Run, offended, ended}
use Rattle.dsde_run.specs.Reading.{feeds, IsWhole, TakesWanted, IsFront}
use Rattle.dsde_run.specs.declared.run.Cut.{Cut}
use Rattle.dsde_run.specs.declared.run.Cut.TheVariants as cut

-- Some of what was kept was handed on to the sink, from its front.
pub record HandsOn (old new : Option (List ℕ)) (before after : List ℕ) : Type 0 where
  pub piece : List ℕ
  pub gained : Gains old new piece
  pub split : before ≡ piece ++ after

-- The root of the tree is of the model that runs.
abbrev pub IsRoot : Running → Engine → Type 0
IsRoot own engine = sim.IsRoot (top_number own.model) engine

-- The text gained what a run tells before the rest of it.
pub record GoesIn (own : Running) (pick : Pick) (whole rest : Run) (old new : List ℕ) : Type 0 where
  pub piece : List ℕ
  pub gained : new ≡ old ++ piece
  pub text : kept_text own pick whole.events ≡ piece ++ kept_text own pick rest.events
  pub end : whole.end ≡ rest.end
  pub state : whole.state ≡ rest.state

-- The text gained all that a run tells, and the answer is how it ended.
pub record EndsIn (own : Running) (pick : Pick) (run : Run) (engine : Engine) (old new : List ℕ) (how : Finish) : Type 0 where
  pub text : new ≡ old ++ kept_text own pick run.events
  pub end : run.end ≡ Some how
  pub stands : IsWhole how → engine ≡ run.state

-- What the sink gained, and then what is kept in the text, is what a run tells before the rest of it.
pub record GoesOn (own : Running) (pick : Pick) (whole rest : Run) (old new : Option (List ℕ)) (buffer : List ℕ) : Type 0 where
  pub piece : List ℕ
  pub gained : Gains old new piece
  pub text : kept_text own pick whole.events ≡ (piece ++ buffer) ++ kept_text own pick rest.events
  pub end : whole.end ≡ rest.end
  pub state : whole.state ≡ rest.state

-- One turn is done, or the run ended with it, whatever comes later.
abbrev pub Turns : {State : Type 0} → (State → Engine) → (State → Option Arrival → Told (Step × State)) → Running → Pick → State → Option Arrival → State → List ℕ → List ℕ → After → Type 0
Turns {State} engine advance own pick before head after old new (Turned took_input) =
    (later : Bool → State → Run) → GoesIn own pick (turn_by engine advance own before head later) (later took_input after) old new
Turns {State} engine advance own pick before head after old new (Ended how) =
    (later : Bool → State → Run) → EndsIn own pick (turn_by engine advance own before head later) (engine after) old new how

-- the line of an end
abbrev pub line_of : Running → Run → List ℕ
line_of own run = kept_text own Outputs run.events

-- The sink gained what was kept, and the last line of a run that wants a line which is no record.
pub record Stops (own : Running) (why : InputEnd) (turns time : ℕ) (text : List ℕ) (old new : Option (List ℕ)) (how : Finish) : Type 0 where
  pub is : IsOffence why
  pub end : (engine : Engine) → engine.turn ≡ turns → engine.time ≡ time → offended why engine ≡ ended how turns time engine
  pub gained : Gains old new (text ++ event_text own (event.Finish how turns time))

-- the record that is the head, where there is one
abbrev pub record_of : Head → Option Arrival
record_of Wanted = None
record_of Over = None
record_of (Is arrival) = Some arrival

-- A record comes at a moment of a run, by the in ports of the model.
pub record ComesBy (own : Running) (arrival : Arrival) : Type 0 where
  pub early : IsMoment arrival.time
  pub items : AreItems (top_ins own.model) (types_of own.model) arrival.items

-- A record that comes by the in ports of the model comes to the root.
abbrev pub ItemsCome : Running → Type 0
ItemsCome own =
    (engine : Engine) (head : Option Arrival) → IsRoot own engine → IfSome head (ComesBy own) → HeadComes (working own.model engine) head

-- The head comes by the in ports of the model, and not before this time; nor does the next record that the reader gives.
abbrev pub Waits : Running → ℕ → Reader → Head → Type 0
Waits own time reader Wanted = time ≤ least_time reader
Waits own time reader Over = Unit {0}
Waits own time reader (Is arrival) = ComesBy own arrival × (time ≤ arrival.time) × (reader.last ≡ Some arrival.time)

-- a head, if there is one, and then records
abbrev pub with_head : Head → Records → Records
with_head Wanted later = later
with_head Over later = later
with_head (Is arrival) later = one arrival later

-- the head behind a turn that took it or left it
abbrev pub passed : Head → Bool → Head
passed (Is arrival) true = Wanted
passed head took_input = head

-- the records that a reader has still to give
abbrev pub to_give : Running → Reader → List ℕ → Records
to_give own reader left = records (top_ins own.model) (types_of own.model) reader (to_come reader left)

-- some records, and then more
abbrev pub ahead : List Arrival → Records → Records
ahead [] later = later
ahead (first ∷ given) later = one first (ahead given later)

-- A head was asked for: a record came, or the input is at its end.
pub record Asked (own : Running) (old new : Reader) (head : Head) (before after : List ℕ) : Type 0 where
  pub takes : TakesOfLine old before after
  pub is : head ≢ Wanted
  pub first : to_give own old before ≡ with_head head (to_give own new after)
  pub counted : (arrival : Arrival) → head ≡ Is arrival → new.ended ≡ false → (old.ended ≡ false) × (feeds (old.held ++ (takes.of_line ++ takes.piece)) ≡ 1 + feeds new.held)
  pub over : head ≡ Over → (to_give own new after ≡ end) × (new.ended ≡ true)
  pub read_out : (old.ended ≡ true → before ≡ []) → new.ended ≡ true → after ≡ []

-- The head that was asked for is no record, or is not there.
pub record Refused (own : Running) (old : Reader) (why : InputEnd) (before after : List ℕ) : Type 0 where
  pub takes : TakesOfLine old before after
  pub offence : IsOffence why → to_give own old before ≡ bad why
  pub unread : why ≡ ReadFault → (old.ended ≡ false) × (feeds (old.held ++ (takes.of_line ++ takes.piece)) ≡ 0)

-- All stays as it was.
pub record Stays (old new : Reader) (head found : Head) (sink after_sink : Option (List ℕ)) (text after_text before after : List ℕ) : Type 0 where
  pub same_reader : new ≡ old
  pub same_head : found ≡ head
  pub same_sink : after_sink ≡ sink
  pub same_text : after_text ≡ text
  pub same_source : after ≡ before

-- The head was asked for: where it was not yet, what was kept of the trace was handed on before.
abbrev pub IsReady : Running → Reader → Reader → Head → Head → Option (List ℕ) → Option (List ℕ) → List ℕ → List ℕ → List ℕ → List ℕ → Type 0
IsReady own old new Wanted found sink after_sink text after_text before after = HandsOn sink after_sink text after_text × Asked own old new found before after
IsReady own old new head found sink after_sink text after_text before after = Stays old new head found sink after_sink text after_text before after

-- The head that was asked for is not there.
abbrev pub IsUnready : Running → Reader → Head → Option (List ℕ) → Option (List ℕ) → List ℕ → List ℕ → Unready → List ℕ → List ℕ → Type 0
IsUnready own old head sink after_sink text after_text (unready.Refused why) before after =
    (head ≡ Wanted) × HandsOn sink after_sink text [] × (after_text ≡ []) × Refused own old why before after
IsUnready own old head sink after_sink text after_text (unready.Unwritten cut) before after = GainsFront sink after_sink text × (after ≡ before)

-- A run whose head is not there has ended, or is cut short.
abbrev pub Halts : Running → Unready → ℕ → ℕ → List ℕ → Option (List ℕ) → Option (List ℕ) → Result Finish Cut → Type 0
Halts own (unready.Refused why) turns time text old new result =
    IfOk result (Stops own why turns time text old new)
    × (result ≡ Err cut.ReadFault → (why ≡ ReadFault) × (new ≡ old))
    × IfErr result (λ short. short ≢ cut.ReadFault → (engine : Engine) → engine.turn ≡ turns → engine.time ≡ time → IsFront old new (text ++ line_of own (offended why engine)))
Halts own (unready.Unwritten short) turns time text old new result = (result ≡ Err short) × (new ≡ old)

-- A run stands before a turn: with the records that were given, what it tells is what was handed
-- on, what is kept, and then what is left of it, whatever records follow.
pub record Stands (own : Running) (pick : Pick) (tells rest : Records → Run) (all : Records) (from reader : Reader) (head : Head) (old new : Option (List ℕ)) (buffer before after : List ℕ) : Type 0 where
  pub given : List Arrival
  pub known : all ≡ ahead given (to_give own reader after)
  pub takes : TakesWanted tells all from.held before after
  pub counted : reader.ended ≡ false → feeds (from.held ++ (takes.needed ++ takes.past)) ≡ length given + feeds reader.held
  pub over : head ≡ Over → (to_give own reader after ≡ end) × (reader.ended ≡ true)
  pub read_out : from.ended ≡ false → reader.ended ≡ true → after ≡ []
  pub goes : (later : Records) → (head ≡ Over → later ≡ end) → GoesOn own pick (tells (ahead given later)) (rest (with_head head later)) old new buffer

-- An engine is ready for the turn behind that of this engine, which had this head of the input.
pub record IsNext (before after : Engine) (head : Option Arrival) (took_input : Bool) : Type 0 where
  pub fresh : is_some after.tree ≡ true
  pub turned : IsTurned before after head took_input
  pub root : (number : ModelId) → sim.IsRoot number before → sim.IsRoot number after

-- The engine is ready for a turn more where the run goes on.
abbrev pub Readies : Engine → Engine → Option Arrival → After → Type 0
Readies before after head (Turned took_input) = IsNext before after head took_input
Readies before after head (Ended how) = Unit {0}

-- At most 2^33 parts were born in a turn behind which the run goes on: so many there were before, and so many are there after.
abbrev pub Bears : ℕ → ℕ → After → Type 0
Bears before after (Turned took_input) = after ≤ before + 2 ^ 33
Bears before after (Ended how) = Unit {0}

-- The engine is not spent where the run ends otherwise than by a fault.
abbrev pub IsUnspent : Engine → After → Type 0
IsUnspent engine (Turned took_input) = is_some engine.tree ≡ true
IsUnspent engine (Ended how) = IsWhole how → is_some engine.tree ≡ true

-- An engine that has started has a tree, and no turn of it is done.
pub record IsBegun (engine : Engine) : Type 0 where
  pub has_tree : is_some engine.tree ≡ true
  pub none_done : engine.turn ≡ 0
  pub at_start : engine.time ≡ 0

-- An engine has started as one of the program that runs.
pub record Starts (own : Running) (program : Model) (engine : Engine) : Type 0 where
  pub is_program : program ≡ own.model
  pub root : IsRoot own engine
  pub begun : IsBegun engine

-- These are the events of a start, and it came to this.
abbrev pub Begins : {Machine State : Type 0} → (Machine → State) → Told State → List Event → Result Machine TurnEnd → Type 0
Begins state begins events (Ok own) = Tells begins [] events (Ok (state own))
Begins state begins events (Err why) = Tells begins [] events (Err why)
