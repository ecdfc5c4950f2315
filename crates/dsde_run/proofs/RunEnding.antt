-- What a run comes to, exit by exit.
use Rattle.std.proofs.Common.{◌≡◌, ◌≢◌, ℕ, suc, List, [], ◌++◌, refl, sym, subst, ◌∙◌, ap}
use Rattle.std.specs.Prelude.{Option, None, Result, Ok, Err, IfOk, IfErr, OnErr}
use Rattle.std.proofs.lemmas.List.{append-nil}
use Rattle.dsde_io.specs.Bytes.{Gains, GainsFront}
use Rattle.dsde_input_records.specs.declared.end.InputEnd.{InputEnd}
use Rattle.dsde_input_records.specs.declared.end.InputEnd.TheVariants as input_end
use Rattle.dsde_input_records.specs.declared.end.InputEnd.TheVariants.{ReadFault}
use Rattle.dsde_input_records.specs.Records.{Records, bad}
use Rattle.dsde_sim_tree.specs.declared.event.Event.TheVariants as event
use Rattle.dsde_sim_tree.specs.declared.event.Finish.{Finish}
use Rattle.dsde_sim_tree.specs.declared.event.Finish.TheVariants as how
use Rattle.dsde_sim_tree.specs.Told.{Told}
use Rattle.dsde_sim_tree.specs.declared.step.Step.{Step}
use Rattle.dsde_sim_tree.specs.Engine.{Engine}
use Rattle.dsde_values.specs.declared.arrival.Arrival.{Arrival}
use Rattle.dsde_input.specs.Reader.{Reader}
use Rattle.dsde_trace.specs.declared.pick.Pick.{Pick}
use Rattle.dsde_run.specs.declared.run.Cut.{Cut}
use Rattle.dsde_run.specs.declared.run.Cut.TheVariants as cut
use Rattle.dsde_run.specs.declared.run.Head.{Head}
use Rattle.dsde_run.specs.declared.run.Head.TheVariants.{Wanted}
use Rattle.dsde_run.specs.declared.run.After.TheVariants.{Ended}
use Rattle.dsde_run.specs.declared.run.Unready.{Unready}
use Rattle.dsde_run.specs.declared.run.Unready.TheVariants as unready
use Rattle.dsde_run.specs.Run.{Running, event_text, go_by}
use Rattle.dsde_run_meaning.specs.Run.{Run, ended, offended}
use Rattle.dsde_run_meaning.specs.Run as run
use Rattle.dsde_run.specs.Reading.{TakesWanted, Tells, IsFront, Comes}
use Rattle.dsde_run.specs.Steps.{Turns, Stops, line_of, record_of, Refused, IsUnready, Halts, Stands}
use Rattle.dsde_trace.specs.declared.pick.Pick.TheVariants.{Outputs}
use Rattle.dsde_run.proofs.Turning.{kept-ended}
use Rattle.dsde_run.proofs.Standing.{stands-handed, taken-refused, tells-refused, cut-refused, front-unwritten, front-refused, tells-bound, front-bound, tells-ended, front-ended}

module _ (own : Running) (pick : Pick) (tells : Records → Run) (all : Records) (from reader : Reader) (old sink new : Option (List ℕ)) (before : List ℕ) where
  module _ (rest : Records → Run) (engine : Engine) (why : InputEnd) (is : rest (bad why) ≡ offended why engine) (cuts : rest (bad ReadFault) ≡ run.cut engine) (mid after : List ℕ)
      (stands : Stands own pick tells rest all from reader Wanted old sink [] before mid) (refused : Refused own reader why mid after) where
    refused_by : (result : Result Finish Cut) → IfOk result (Stops own why engine.turn engine.time [] sink new) → (result ≡ Err cut.ReadFault → (why ≡ ReadFault) × (new ≡ sink)) →
        IfErr result (λ short. short ≢ cut.ReadFault → IsFront sink new ([] ++ line_of own (offended why engine))) →
        Comes own pick tells all engine old new result from.held before after
    refused_by (Ok how) ok unread front =
        tells-refused own pick tells rest (ap (λ run. run.end) cuts) all from reader old sink [] before mid stands why how engine new after is refused ok
    refused_by (Err cut.ReadFault) ok unread front =
        let fault = unread refl in
        cut-refused own pick tells rest (ap (λ run. run.end) cuts) all from reader old sink [] before mid stands engine new after cuts (subst (λ why. Refused own reader why mid after) fault.0 refused) refl fault.1
    refused_by (Err cut.Unwritten) ok unread front =
        front-refused own pick tells rest all from reader old sink new [] before mid after engine why stands is refused (front (λ same. absurd (cc same)))
    refused_by (Err cut.Memory) ok unread front =
        front-refused own pick tells rest all from reader old sink new [] before mid after engine why stands is refused (front (λ same. absurd (cc same)))

  unwritten_by : (rest : Records → Run) (engine : Engine) (after : List ℕ) (head : Head) (text : List ℕ) (why : Cut) → Stands own pick tells rest all from reader head old sink text before after →
      GainsFront sink new text → why ≢ cut.ReadFault → Comes own pick tells all engine old new (Err why) from.held before after
  unwritten_by rest engine after head text cut.ReadFault stands failed other = absurd (other refl)
  unwritten_by rest engine after head text cut.Unwritten stands failed other = front-unwritten own pick tells rest all from reader head old sink new text before after stands failed
  unwritten_by rest engine after head text cut.Memory stands failed other = front-unwritten own pick tells rest all from reader head old sink new text before after stands failed

  -- What is kept could not be handed on.
  pub comes-unwritten : (rest : Records → Run) (engine : Engine) (after : List ℕ) (head : Head) (text : List ℕ) (why : Cut) (result : Result Finish Cut) → result ≡ Err why → Stands own pick tells rest all from reader head old sink text before after →
      GainsFront sink new text → why ≢ cut.ReadFault → Comes own pick tells all engine old new result from.held before after
  comes-unwritten rest engine after head text why result is stands failed other =
      subst (λ result. Comes own pick tells all engine old new result from.held before after) (sym is) (unwritten_by rest engine after head text why stands failed other)

  -- The run ended with a turn.
  pub comes-ended : {State : Type 0} (engine_of : State → Engine) (advance : State → Option Arrival → Told (Step × State)) (turns : ℕ) (state after_state : State) (head : Head) (how : Finish) (text more after : List ℕ) →
      Stands own pick tells (λ records. go_by engine_of advance own (suc turns) records state) all from reader head old sink text before after → head ≢ Wanted →
      Turns engine_of advance own pick state (record_of head) after_state text more (Ended how) → (result : Result Finish Cut) →
      IfOk result (λ answer. (answer ≡ how) × Gains sink new more) → OnErr result (GainsFront sink new more) → IfErr result (λ why. why ≢ cut.ReadFault) →
      Comes own pick tells all (engine_of after_state) old new result from.held before after
  comes-ended engine_of advance turns state after_state head how text more after stands known ended (Ok answer) ok failed other =
      subst (Tells own pick (tells all) (engine_of after_state) old new) (sym ok.0)
      (tells-ended own pick tells engine_of advance turns state from reader all head after_state how old sink new text more [] before after stands known ended
      (record { piece = more; gained = ok.1; split = sym (append-nil more) }) refl)
  comes-ended engine_of advance turns state after_state head how text more after stands known ended (Err cut.ReadFault) ok failed other = absurd (other refl)
  comes-ended engine_of advance turns state after_state head how text more after stands known ended (Err cut.Unwritten) ok failed other =
      front-ended own pick tells engine_of advance turns state from reader all head after_state how old sink new text more before after stands known ended failed
  comes-ended engine_of advance turns state after_state head how text more after stands known ended (Err cut.Memory) ok failed other =
      front-ended own pick tells engine_of advance turns state from reader all head after_state how old sink new text more before after stands known ended failed

  -- The run ended at its bound.
  pub comes-bound : (rest : Records → Run) (engine : Engine) (head : Head) (turns time : ℕ) (text after : List ℕ) →
      Stands own pick tells rest all from reader head old sink text before after → ((records : Records) → rest records ≡ ended how.Bound engine.turn engine.time engine) → turns ≡ engine.turn → time ≡ engine.time →
      (result : Result Finish Cut) → IfOk result (λ answer. (answer ≡ how.Bound) × Gains sink new (text ++ event_text own (event.Finish how.Bound turns time))) →
      OnErr result (IsFront sink new (text ++ event_text own (event.Finish how.Bound turns time))) → IfErr result (λ why. why ≢ cut.ReadFault) →
      Comes own pick tells all engine old new result from.held before after
  comes-bound rest engine head turns time text after stands is is_turns is_time (Ok answer) ok failed other =
      subst (Tells own pick (tells all) engine old new) (sym ok.0)
      (tells-bound own pick tells rest all from reader head engine turns time old sink new text before after stands is is_turns is_time ok.1)
  comes-bound rest engine head turns time text after stands is is_turns is_time (Err cut.ReadFault) ok failed other = absurd (other refl)
  comes-bound rest engine head turns time text after stands is is_turns is_time (Err cut.Unwritten) ok failed other =
      front-bound own pick tells rest all from reader head engine turns time old sink new text before after stands is is_turns is_time failed
  comes-bound rest engine head turns time text after stands is is_turns is_time (Err cut.Memory) ok failed other =
      front-bound own pick tells rest all from reader head engine turns time old sink new text before after stands is is_turns is_time failed

-- an offence is no quiet end
pub not_quiet : (own : Running) (why : InputEnd) (turns time : ℕ) (text : List ℕ) (old new : Option (List ℕ)) (result : Result Finish Cut) → IfOk result (Stops own why turns time text old new) →
    (engine : Engine) → engine.turn ≡ turns → engine.time ≡ time → result ≢ Ok how.Quiet
not_quiet own why turns time text old new (Err short) stops engine is_turn is_time quiet = cc quiet
not_quiet own why turns time text old new (Ok answer) stops engine is_turn is_time quiet =
    let is : answer ≡ how.Quiet = cc quiet in
    offence why (stops.end engine is_turn is_time ∙ ap (λ answer. ended answer turns time engine) is)
  where
    offence : (why : InputEnd) → offended why engine ≢ ended how.Quiet turns time engine
    offence (input_end.BadLine line) same = let two = ap (λ run. run.end) same in cc two
    offence (input_end.Backwards line) same = let two = ap (λ run. run.end) same in cc two
    offence (input_end.LineTooLong line) same = let two = ap (λ run. run.end) same in cc two
    offence input_end.ReadFault same = let two = ap (λ run. run.end) same in cc two
    offence input_end.Memory same = let two = ap (λ run. run.end) same in cc two

-- The last line of a run that wants a line which is no record could not be written.
pub front-stopped : (own : Running) (why : InputEnd) (how : Finish) (turns time : ℕ) (text : List ℕ) (old new : Option (List ℕ)) (result : Result Finish Cut) →
    ((engine : Engine) → offended why engine ≡ ended how engine.turn engine.time engine) → OnErr result (IsFront old new (text ++ event_text own (event.Finish how turns time))) →
    IfErr result (λ short. short ≢ cut.ReadFault → (engine : Engine) → engine.turn ≡ turns → engine.time ≡ time → IsFront old new (text ++ line_of own (offended why engine)))
front-stopped own why how turns time text old new (Ok answer) is front = tt
front-stopped own why how turns time text old new (Err short) is front = λ other engine is_turn is_time.
    subst (λ line. IsFront old new (text ++ line))
    (ap (λ n. event_text own (event.Finish how n time)) (sym is_turn) ∙ ap (λ t. event_text own (event.Finish how engine.turn t)) (sym is_time)
    ∙ sym (kept-ended own Outputs how engine.turn engine.time engine) ∙ ap (line_of own) (sym (is engine))) front

-- The head is not there.
module _ (own : Running) (pick : Pick) (tells : Records → Run) (all : Records) (from reader : Reader) (old start sink new : Option (List ℕ)) (before mid after : List ℕ)
    (rest : Records → Run) (engine : Engine) (is : (why : InputEnd) → rest (bad why) ≡ offended why engine) (head : Head) (text after_text : List ℕ) (turns time : ℕ) (is_turn : engine.turn ≡ turns) (is_time : engine.time ≡ time) where
  halts_by : (why : InputEnd) (result : Result Finish Cut) → Stands own pick tells rest all from reader head old start text before mid → IsUnready own reader head start sink text after_text (unready.Refused why) mid after →
      Halts own (unready.Refused why) turns time after_text sink new result → Comes own pick tells all engine old new result from.held before after
  halts_by why result stands lacks halts =
      let wanted = subst (λ head. Stands own pick tells rest all from reader head old start text before mid) lacks.0 stands in
      refused_by own pick tells all from reader old sink new before rest engine why (is why) (is ReadFault) mid after
      (stands-handed own pick tells rest all from reader Wanted old start sink text [] before mid wanted lacks.1) lacks.3 result
      (subst (λ text. IfOk result (Stops own why engine.turn engine.time text sink new)) lacks.2
      (subst (λ turns. IfOk result (Stops own why turns engine.time after_text sink new)) (sym is_turn) (subst (λ time. IfOk result (Stops own why turns time after_text sink new)) (sym is_time) halts.0)))
      halts.1 (of result halts.2)
    where
      of : (result : Result Finish Cut) →
          IfErr result (λ short. short ≢ cut.ReadFault → (engine : Engine) → engine.turn ≡ turns → engine.time ≡ time → IsFront sink new (after_text ++ line_of own (offended why engine))) →
          IfErr result (λ short. short ≢ cut.ReadFault → IsFront sink new ([] ++ line_of own (offended why engine)))
      of (Ok answer) front = tt
      of (Err short) front = λ other. subst (λ text. IsFront sink new (text ++ line_of own (offended why engine))) lacks.2 (front other engine is_turn is_time)

  pub comes-halted : (why : Unready) (result : Result Finish Cut) → Stands own pick tells rest all from reader head old start text before mid → IsUnready own reader head start sink text after_text why mid after →
      why ≢ unready.Unwritten cut.ReadFault → Halts own why turns time after_text sink new result → Comes own pick tells all engine old new result from.held before after
  comes-halted (unready.Refused why) result stands lacks other halts = halts_by why result stands lacks halts
  comes-halted (unready.Unwritten short) result stands lacks other halts =
      comes-unwritten own pick tells all from reader old start new before rest engine after head text short result halts.0 (subst (λ mid. Stands own pick tells rest all from reader head old start text before mid) (sym lacks.1) stands)
      (subst (λ sink. GainsFront start sink text) (sym halts.1) lacks.0) (λ same. other (ap unready.Unwritten same))

  pub taken-halted : (rest (bad ReadFault)).end ≡ None → (why : Unready) → Stands own pick tells rest all from reader head old start text before mid → IsUnready own reader head start sink text after_text why mid after →
      TakesWanted tells all from.held before after
  taken-halted cuts (unready.Refused why) stands lacks =
      taken-refused own pick tells rest cuts all from reader old start text before mid
      (subst (λ head. Stands own pick tells rest all from reader head old start text before mid) lacks.0 stands) why after lacks.3
  taken-halted cuts (unready.Unwritten short) stands lacks = subst (TakesWanted tells all from.held before) (sym lacks.1) stands.takes

-- a run that halts does not end quietly
pub halts-not_quiet : (own : Running) (why : Unready) (turns time : ℕ) (text : List ℕ) (old new : Option (List ℕ)) (result : Result Finish Cut) → Halts own why turns time text old new result →
    (engine : Engine) → engine.turn ≡ turns → engine.time ≡ time → result ≢ Ok how.Quiet
halts-not_quiet own (unready.Refused why) turns time text old new result halts engine is_turn is_time quiet = not_quiet own why turns time text old new result halts.0 engine is_turn is_time quiet
halts-not_quiet own (unready.Unwritten short) turns time text old new result halts engine is_turn is_time quiet = let two = sym halts.0 ∙ quiet in cc two
