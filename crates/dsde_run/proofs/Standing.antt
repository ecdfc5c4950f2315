-- A run before a turn, and what each step does to it.
use Rattle.std.proofs.Common.{◌≡◌, ◌≢◌, ℕ, ◌≤◌, suc, Bool, true, false, cond, List, [], ◌∷◌, ◌++◌, length, refl, sym, subst, ◌∙◌, ap, arith, append_assoc, length-append}
use Rattle.std.specs.Prelude.{Option, None}
use Rattle.std.proofs.lemmas.List.{append-nil}
use Rattle.dsde_io.specs.Bytes.{Gains, GainsFront}
use Rattle.dsde_values.specs.declared.arrival.Arrival.{Arrival}
use Rattle.dsde_input_records.specs.declared.end.InputEnd.{InputEnd}
use Rattle.dsde_input_records.specs.declared.end.InputEnd.TheVariants as input_end
use Rattle.dsde_input_records.specs.declared.end.InputEnd.TheVariants.{ReadFault}
use Rattle.dsde_input_records.specs.Records.{Records, end, bad, one}
use Rattle.dsde_sim_tree.specs.declared.event.Event.TheVariants as event
use Rattle.dsde_sim_tree.specs.declared.event.Finish.{Finish}
use Rattle.dsde_sim_tree.specs.declared.event.Finish.TheVariants as how
use Rattle.dsde_sim_tree.specs.Told.{Told}
use Rattle.dsde_sim_tree.specs.declared.step.Step.{Step}
use Rattle.dsde_sim_tree.specs.Engine.{Engine}
use Rattle.dsde_input.specs.Reader.{Reader, IsOffence, has_line, with_more, TakesOfLine}
use Rattle.dsde_trace.specs.declared.pick.Pick.{Pick}
use Rattle.dsde_run.specs.declared.run.Head.{Head}
use Rattle.dsde_run.specs.declared.run.Head.TheVariants.{Wanted, Over, Is}
use Rattle.dsde_run.specs.declared.run.After.TheVariants.{Turned, Ended}
use Rattle.dsde_run.specs.Run.{Running, event_text, go_by, turn_by, kept_text}
use Rattle.dsde_run_meaning.specs.Run.{Run, ended, cut, offended}
use Rattle.dsde_run.specs.Reading.{feeds, cut_after, TakesWanted, Tells, IsCutShort, IsFront}
use Rattle.dsde_run.specs.Steps.{HandsOn, GoesOn, Turns, Stops, line_of, record_of, with_head, passed, to_give, ahead, Asked, Refused, IsReady, Stands}
use Rattle.dsde_run.proofs.Feeds.{feeds-append, feeds-none, line_parts}
use Rattle.dsde_run.proofs.Handing.{GoesOn-none, GoesOn-turned, GoesOn-handed, Tells-all, Tells-ended, front-gone, front-failed, IsFront-failed}
use Rattle.dsde_run.proofs.Turning.{kept-ended}

-- one record more
ahead-more : (given : List Arrival) (arrival : Arrival) (later : Records) → ahead (given ++ arrival ∷ []) later ≡ ahead given (one arrival later)
ahead-more [] arrival later = refl
ahead-more (first ∷ given) arrival later = ap (one first) (ahead-more given arrival later)

-- the first records, as many as were given
cut_after-ahead : (given : List Arrival) (later : Records) → cut_after (length given) (ahead given later) ≡ ahead given (bad ReadFault)
cut_after-ahead [] later = refl
cut_after-ahead (first ∷ given) later = ap (one first) (cut_after-ahead given later)

-- What was taken, and bytes of a line more.
record More {tells : Records → Run} {all : Records} {held before mid : List ℕ} (takes : TakesWanted tells all held before mid) (bytes after : List ℕ) : Type 0 where
  more : TakesWanted tells all held before after
  is : more.needed ++ more.past ≡ (takes.needed ++ takes.past) ++ bytes

module _ (own : Running) (pick : Pick) (tells : Records → Run) where
  -- at the start nothing is taken
  pub stands-first : (reader : Reader) (sink : Option (List ℕ)) (bytes : List ℕ) → Stands own pick tells tells (to_give own reader bytes) reader reader Wanted sink sink [] bytes bytes
  stands-first reader sink bytes = record {
    given = [];
    known = refl;
    takes = record { needed = []; past = []; split = refl; size = omega arith; wanted = λ some. absurd (some refl) };
    counted = λ unended. ap feeds (append-nil reader.held) ∙ omega arith;
    over = λ same. absurd (cc same);
    read_out = λ unended ended. absurd (let two = sym unended ∙ ended in cc two);
    goes = λ later over. GoesOn-none own pick (tells later) sink;
  }

  -- Some of what was kept is handed on.
  pub stands-handed : (rest : Records → Run) (all : Records) (from reader : Reader) (head : Head) (old sink after_sink : Option (List ℕ)) (text after_text before after : List ℕ) →
      Stands own pick tells rest all from reader head old sink text before after → HandsOn sink after_sink text after_text → Stands own pick tells rest all from reader head old after_sink after_text before after
  stands-handed rest all from reader head old sink after_sink text after_text before after stands hands = record {
    given = stands.given;
    known = stands.known;
    takes = stands.takes;
    counted = stands.counted;
    over = stands.over;
    read_out = stands.read_out;
    goes = λ later over. GoesOn-handed own pick (tells (ahead stands.given later)) (rest (with_head head later)) old sink after_sink text after_text (stands.goes later over) hands;
  }

  -- all its records, those given and those to come
  all-stands : (rest : Records → Run) (all : Records) (from reader : Reader) (head : Head) (old sink : Option (List ℕ)) (text before after : List ℕ) →
      Stands own pick tells rest all from reader head old sink text before after → GoesOn own pick (tells all) (rest (with_head head (to_give own reader after))) old sink text
  all-stands rest all from reader head old sink text before after stands =
      rw (← stands.known) at (stands.goes (to_give own reader after) (λ same. (stands.over same).0))

  -- What the sink has is a front of what the run tells.
  pub front-stands : (rest : Records → Run) (all : Records) (from reader : Reader) (head : Head) (old sink : Option (List ℕ)) (text before after : List ℕ) →
      Stands own pick tells rest all from reader head old sink text before after → IsFront old sink (kept_text own pick (tells all).events)
  front-stands rest all from reader head old sink text before after stands =
      front-gone own pick (tells all) (rest (with_head head (to_give own reader after))) old sink text (all-stands rest all from reader head old sink text before after stands)

  module _ (rest : Records → Run) (cuts : (rest (bad ReadFault)).end ≡ None) (all : Records) (from reader : Reader) (old sink : Option (List ℕ)) (text before mid : List ℕ)
      (stands : Stands own pick tells rest all from reader Wanted old sink text before mid) where
    -- the run over the records given wants more
    wants : (tells (cut_after (length stands.given) all)).end ≡ None
    wants =
        ap (λ records. (tells (cut_after (length stands.given) records)).end) stands.known
        ∙ ap (λ records. (tells records).end) (cut_after-ahead stands.given (to_give own reader mid))
        ∙ (stands.goes (bad ReadFault) (λ same. absurd (cc same))).end
        ∙ cuts

    -- some bytes more are taken
    take_some : (of_line piece after : List ℕ) → mid ≡ (of_line ++ piece) ++ after → length piece ≤ 4096 → has_line (with_more reader of_line) ≡ false → More stands.takes (of_line ++ piece) after
    take_some of_line piece after split size lacks =
        let parts = line_parts (with_more reader of_line) lacks in
        let none : feeds (reader.held ++ of_line) ≡ 0 = feeds-none (reader.held ++ of_line) parts.1 in
        let count : feeds (from.held ++ ((stands.takes.needed ++ stands.takes.past) ++ of_line)) ≡ length stands.given =
        ap feeds (sym (append_assoc from.held (stands.takes.needed ++ stands.takes.past) of_line))
        ∙ omega (arith, feeds-append (from.held ++ (stands.takes.needed ++ stands.takes.past)) of_line, stands.counted parts.0, feeds-append reader.held of_line, none) in
        record {
          more = record {
            needed = (stands.takes.needed ++ stands.takes.past) ++ of_line;
            past = piece;
            split =
                stands.takes.split ∙ ap (λ l. (stands.takes.needed ++ stands.takes.past) ++ l) (split ∙ append_assoc of_line piece after)
                ∙ sym (append_assoc (stands.takes.needed ++ stands.takes.past) of_line (piece ++ after))
                ∙ sym (append_assoc ((stands.takes.needed ++ stands.takes.past) ++ of_line) piece after);
            size = size;
            wanted = λ some. ap (λ n. (tells (cut_after n all)).end) count ∙ wants;
          };
          is = append_assoc (stands.takes.needed ++ stands.takes.past) of_line piece;
        }

    take_by : (of_line piece after : List ℕ) → mid ≡ (of_line ++ piece) ++ after → length piece ≤ 4096 → (of_line ++ piece ≢ [] → has_line (with_more reader of_line) ≡ false) →
        More stands.takes (of_line ++ piece) after
    take_by [] [] after split size lacks = record {
      more = record {
        needed = stands.takes.needed;
        past = stands.takes.past;
        split = stands.takes.split ∙ ap (λ l. (stands.takes.needed ++ stands.takes.past) ++ l) split;
        size = stands.takes.size;
        wanted = stands.takes.wanted;
      };
      is = sym (append-nil (stands.takes.needed ++ stands.takes.past));
    }
    take_by [] (byte ∷ piece) after split size lacks = take_some [] (byte ∷ piece) after split size (lacks (λ none. absurd (cc none)))
    take_by (byte ∷ of_line) piece after split size lacks = take_some (byte ∷ of_line) piece after split size (lacks (λ none. absurd (cc none)))

    take_more : (after : List ℕ) → (takes : TakesOfLine reader mid after) → More stands.takes (takes.of_line ++ takes.piece) after
    take_more after takes = take_by takes.of_line takes.piece after takes.split takes.size takes.wanted

    stands-asked_by : (head : Head) (new : Reader) (after : List ℕ) → Asked own reader new head mid after → Stands own pick tells rest all from new head old sink text before after
    stands-asked_by Wanted new after asked = absurd (asked.is refl)
    stands-asked_by Over new after asked = record {
      given = stands.given;
      known = stands.known ∙ ap (ahead stands.given) asked.first;
      takes = (take_more after asked.takes).more;
      counted = λ unended. absurd (let two = sym unended ∙ (asked.over refl).1 in cc two);
      over = asked.over;
      read_out = λ unended. asked.read_out (stands.read_out unended);
      goes = λ later over. stands.goes later (λ same. absurd (cc same));
    }
    stands-asked_by (Is arrival) new after asked = record {
      given = stands.given ++ arrival ∷ [];
      known = stands.known ∙ ap (ahead stands.given) asked.first ∙ sym (ahead-more stands.given arrival (to_give own new after));
      takes = (take_more after asked.takes).more;
      counted = λ unended.
          let line = asked.counted arrival refl unended in
          ap (λ l. feeds (from.held ++ l)) (take_more after asked.takes).is
          ∙ ap feeds (sym (append_assoc from.held (stands.takes.needed ++ stands.takes.past) (asked.takes.of_line ++ asked.takes.piece)))
          ∙ omega (
            arith,
            feeds-append (from.held ++ (stands.takes.needed ++ stands.takes.past)) (asked.takes.of_line ++ asked.takes.piece),
            stands.counted line.0,
            line.1,
            feeds-append reader.held (asked.takes.of_line ++ asked.takes.piece),
            length-append stands.given (arrival ∷ []),
          );
      over = λ same. absurd (cc same);
      read_out = λ unended. asked.read_out (stands.read_out unended);
      goes = λ later over. rw (ahead-more stands.given arrival later) (stands.goes (one arrival later) (λ same. absurd (cc same)));
    }

    -- It was refused: what was taken is wanted.
    pub taken-refused : (why : InputEnd) (after : List ℕ) → Refused own reader why mid after → TakesWanted tells all from.held before after
    taken-refused why after refused = (take_more after refused.takes).more

    -- It is no record: so the run ends.
    pub tells-refused : (why : InputEnd) (how : Finish) (engine : Engine) (new : Option (List ℕ)) (after : List ℕ) → rest (bad why) ≡ offended why engine → Refused own reader why mid after →
        Stops own why engine.turn engine.time text sink new how → Tells own pick (tells all) engine old new how
    tells-refused why how engine new after is refused stops =
        let first = refused.offence stops.is in
        let whole : all ≡ ahead stands.given (bad why) = stands.known ∙ ap (ahead stands.given) first in
        let line : rest (bad why) ≡ ended how engine.turn engine.time engine = is ∙ stops.end engine refl refl in
        rw (← whole) at (
        Tells-all own pick (tells (ahead stands.given (bad why))) (ended how engine.turn engine.time engine) engine how old sink new text
        (subst (λ run. GoesOn own pick (tells (ahead stands.given (bad why))) run old sink text) line (stands.goes (bad why) (λ same. absurd (cc same))))
        (subst (λ line. Gains sink new (text ++ line)) (sym (kept-ended own pick how engine.turn engine.time engine)) stops.gained) refl (λ is. refl))

    -- It could not be read: so the run is cut short.
    pub cut-refused : (engine : Engine) (new : Option (List ℕ)) (after : List ℕ) → rest (bad ReadFault) ≡ cut engine → Refused own reader ReadFault mid after → text ≡ [] → new ≡ sink →
        IsCutShort own pick tells all engine old new from.held before after
    cut-refused engine new after is refused empty same =
        let fault = refused.unread refl in
        let more = take_more after refused.takes in
        let count : feeds (from.held ++ (more.more.needed ++ more.more.past)) ≡ length stands.given =
        ap (λ l. feeds (from.held ++ l)) more.is
        ∙ ap feeds (sym (append_assoc from.held (stands.takes.needed ++ stands.takes.past) (refused.takes.of_line ++ refused.takes.piece)))
        ∙ omega (
          arith,
          feeds-append (from.held ++ (stands.takes.needed ++ stands.takes.past)) (refused.takes.of_line ++ refused.takes.piece),
          stands.counted fault.0,
          fault.1,
          feeds-append reader.held (refused.takes.of_line ++ refused.takes.piece),
        ) in
        let whole : cut_after (feeds (from.held ++ (more.more.needed ++ more.more.past))) all ≡ ahead stands.given (bad ReadFault) =
        ap (λ count. cut_after count all) count ∙ ap (cut_after (length stands.given)) stands.known ∙ cut_after-ahead stands.given (to_give own reader mid) in
        let goes : GoesOn own pick (tells (ahead stands.given (bad ReadFault))) (cut engine) old sink [] =
        subst (λ run. GoesOn own pick (tells (ahead stands.given (bad ReadFault))) run old sink []) is
        (subst (GoesOn own pick (tells (ahead stands.given (bad ReadFault))) (rest (bad ReadFault)) old sink) empty (stands.goes (bad ReadFault) (λ same. absurd (cc same)))) in
        let text_is : goes.piece ≡ kept_text own pick (tells (ahead stands.given (bad ReadFault))).events = sym (goes.text ∙ append-nil (goes.piece ++ []) ∙ append-nil goes.piece) in
        record {
          taken = more.more.needed ++ more.more.past;
          split = more.more.split;
          text = subst (λ records. Gains old new (kept_text own pick (tells records).events)) (sym whole)
              (subst (λ new. Gains old new (kept_text own pick (tells (ahead stands.given (bad ReadFault))).events)) (sym same) (subst (Gains old sink) text_is goes.gained));
          cut = ap (λ records. (tells records).end) whole ∙ goes.end;
          front = subst (λ new. IsFront old new (kept_text own pick (tells all).events)) (sym same) (front-stands rest all from reader Wanted old sink text before mid stands);
          stands = sym (ap (λ records. (tells records).state) whole ∙ goes.state);
        }

  -- The head was asked for.
  pub stands-ready : (rest : Records → Run) → (rest (bad ReadFault)).end ≡ None → (all : Records) (from reader new : Reader) (head found : Head) (old sink after_sink : Option (List ℕ)) (text after_text before mid after : List ℕ) →
      Stands own pick tells rest all from reader head old sink text before mid → IsReady own reader new head found sink after_sink text after_text mid after →
      Stands own pick tells rest all from new found old after_sink after_text before after
  stands-ready rest cuts all from reader new Wanted found old sink after_sink text after_text before mid after stands ready =
      stands-asked_by rest cuts all from reader old after_sink after_text before mid
      (stands-handed rest all from reader Wanted old sink after_sink text after_text before mid stands ready.0) found new after ready.1
  stands-ready rest cuts all from reader new Over found old sink after_sink text after_text before mid after stands ready =
      rw (ready.same_reader, ready.same_head, ready.same_sink, ready.same_text, ready.same_source) stands
  stands-ready rest cuts all from reader new (Is arrival) found old sink after_sink text after_text before mid after stands ready =
      rw (ready.same_reader, ready.same_head, ready.same_sink, ready.same_text, ready.same_source) stands

  -- What was kept could not be handed on.
  pub front-unwritten : (rest : Records → Run) (all : Records) (from reader : Reader) (head : Head) (old sink new : Option (List ℕ)) (text before after : List ℕ) →
      Stands own pick tells rest all from reader head old sink text before after → GainsFront sink new text → IsFront old new (kept_text own pick (tells all).events)
  front-unwritten rest all from reader head old sink new text before after stands failed =
      front-failed own pick (tells all) (rest (with_head head (to_give own reader after))) old sink new text text (all-stands rest all from reader head old sink text before after stands)
      (kept_text own pick (rest (with_head head (to_give own reader after))).events) refl (IsFront-failed sink new text failed)

  -- The run ends at its bound.
  pub tells-bound : (rest : Records → Run) (all : Records) (from reader : Reader) (head : Head) (engine : Engine) (turns time : ℕ) (old sink new : Option (List ℕ)) (text before after : List ℕ) →
      Stands own pick tells rest all from reader head old sink text before after → ((records : Records) → rest records ≡ ended how.Bound engine.turn engine.time engine) → turns ≡ engine.turn → time ≡ engine.time →
      Gains sink new (text ++ event_text own (event.Finish how.Bound turns time)) → Tells own pick (tells all) engine old new how.Bound
  tells-bound rest all from reader head engine turns time old sink new text before after stands is is_turns is_time gains =
      let line : event_text own (event.Finish how.Bound turns time) ≡ kept_text own pick (ended how.Bound engine.turn engine.time engine).events =
      ap (λ n. event_text own (event.Finish how.Bound n time)) is_turns ∙ ap (λ t. event_text own (event.Finish how.Bound engine.turn t)) is_time
      ∙ sym (kept-ended own pick how.Bound engine.turn engine.time engine) in
      Tells-all own pick (tells all) (ended how.Bound engine.turn engine.time engine) engine how.Bound old sink new text
      (subst (λ run. GoesOn own pick (tells all) run old sink text) (is (with_head head (to_give own reader after))) (all-stands rest all from reader head old sink text before after stands))
      (subst (λ line. Gains sink new (text ++ line)) line gains) refl (λ is. refl)

  -- Its last line could not be written.
  pub front-bound : (rest : Records → Run) (all : Records) (from reader : Reader) (head : Head) (engine : Engine) (turns time : ℕ) (old sink new : Option (List ℕ)) (text before after : List ℕ) →
      Stands own pick tells rest all from reader head old sink text before after → ((records : Records) → rest records ≡ ended how.Bound engine.turn engine.time engine) → turns ≡ engine.turn → time ≡ engine.time →
      IsFront sink new (text ++ event_text own (event.Finish how.Bound turns time)) → IsFront old new (kept_text own pick (tells all).events)
  front-bound rest all from reader head engine turns time old sink new text before after stands is is_turns is_time front =
      let line : event_text own (event.Finish how.Bound turns time) ≡ kept_text own pick (ended how.Bound engine.turn engine.time engine).events =
      ap (λ n. event_text own (event.Finish how.Bound n time)) is_turns ∙ ap (λ t. event_text own (event.Finish how.Bound engine.turn t)) is_time
      ∙ sym (kept-ended own pick how.Bound engine.turn engine.time engine) in
      front-failed own pick (tells all) (ended how.Bound engine.turn engine.time engine) old sink new text (text ++ event_text own (event.Finish how.Bound turns time))
      (subst (λ run. GoesOn own pick (tells all) run old sink text) (is (with_head head (to_give own reader after))) (all-stands rest all from reader head old sink text before after stands))
      [] (ap (λ line. text ++ line) (sym line) ∙ sym (append-nil (text ++ event_text own (event.Finish how.Bound turns time)))) front

  -- The last line of a run that wants a line which is no record could not be written, or memory ran out.
  pub front-refused : (rest : Records → Run) (all : Records) (from reader : Reader) (old sink new : Option (List ℕ)) (text before mid after : List ℕ) (engine : Engine) (why : InputEnd) →
      Stands own pick tells rest all from reader Wanted old sink text before mid → rest (bad why) ≡ offended why engine → Refused own reader why mid after →
      IsFront sink new (text ++ line_of own (offended why engine)) → IsFront old new (kept_text own pick (tells all).events)
  front-refused rest all from reader old sink new text before mid after engine why stands is refused front = by why stands is refused.offence front
    where
      offence : (why : InputEnd) → IsOffence why → kept_text own pick (offended why engine).events ≡ line_of own (offended why engine)
      offence (input_end.BadLine line) is = refl
      offence (input_end.Backwards line) is = refl
      offence (input_end.LineTooLong line) is = refl
      offence input_end.ReadFault is = refl
      offence input_end.Memory is = refl

      bad_line : (why : InputEnd) → IsOffence why → Stands own pick tells rest all from reader Wanted old sink text before mid → rest (bad why) ≡ offended why engine → (IsOffence why → to_give own reader mid ≡ bad why) →
          IsFront sink new (text ++ line_of own (offended why engine)) → IsFront old new (kept_text own pick (tells all).events)
      bad_line why are stands is refused front =
          front-failed own pick (tells all) (offended why engine) old sink new text (text ++ line_of own (offended why engine))
          (subst (λ run. GoesOn own pick (tells all) run old sink text) (ap rest (refused are) ∙ is) (all-stands rest all from reader Wanted old sink text before mid stands))
          [] (ap (λ line. text ++ line) (offence why are) ∙ sym (append-nil (text ++ line_of own (offended why engine)))) front

      nothing : Stands own pick tells rest all from reader Wanted old sink text before mid → IsFront sink new (text ++ []) → IsFront old new (kept_text own pick (tells all).events)
      nothing stands front =
          front-failed own pick (tells all) (rest (to_give own reader mid)) old sink new text (text ++ [])
          (all-stands rest all from reader Wanted old sink text before mid stands) (kept_text own pick (rest (to_give own reader mid)).events) (ap (λ l. l ++ kept_text own pick (rest (to_give own reader mid)).events) (sym (append-nil text))) front

      by : (why : InputEnd) → Stands own pick tells rest all from reader Wanted old sink text before mid → rest (bad why) ≡ offended why engine → (IsOffence why → to_give own reader mid ≡ bad why) →
          IsFront sink new (text ++ line_of own (offended why engine)) → IsFront old new (kept_text own pick (tells all).events)
      by (input_end.BadLine line) stands is refused front = bad_line (input_end.BadLine line) tt stands is refused front
      by (input_end.Backwards line) stands is refused front = bad_line (input_end.Backwards line) tt stands is refused front
      by (input_end.LineTooLong line) stands is refused front = bad_line (input_end.LineTooLong line) tt stands is refused front
      by input_end.ReadFault stands is refused front = nothing stands front
      by input_end.Memory stands is refused front = nothing stands front

  module _ {State : Type 0} (engine_of : State → Engine) (advance : State → Option Arrival → Told (Step × State)) (turns : ℕ) (state : State) (from reader : Reader) where
    abbrev later_on : Head → Records → Bool → State → Run
    later_on Wanted later took_input after = go_by engine_of advance own turns later after
    later_on Over later took_input after = go_by engine_of advance own turns end after
    later_on (Is head) later took_input after = go_by engine_of advance own turns (cond took_input later (one head later)) after

    -- a turn is on its head
    go-turn_by : (head : Head) (later : Records) → head ≢ Wanted → (head ≡ Over → later ≡ end) → go_by engine_of advance own (suc turns) (with_head head later) state ≡ turn_by engine_of advance own state (record_of head) (later_on head later)
    go-turn_by Wanted later known over = absurd (known refl)
    go-turn_by Over later known over = rw (over refl) refl
    go-turn_by (Is head) later known over = refl

    -- behind it the records are those behind the head that is left
    later_on-passed : (head : Head) (later : Records) (took_input : Bool) (after : State) → head ≢ Wanted → (head ≡ Over → later ≡ end) →
        later_on head later took_input after ≡ go_by engine_of advance own turns (with_head (passed head took_input) later) after
    later_on-passed Wanted later took_input after known over = absurd (known refl)
    later_on-passed Over later took_input after known over = rw (over refl) refl
    later_on-passed (Is head) later true after known over = refl
    later_on-passed (Is head) later false after known over = refl

    still_over : (head : Head) (took_input : Bool) → head ≡ Over → passed head took_input ≡ Over
    still_over Wanted took_input same = absurd (cc same)
    still_over Over took_input same = refl
    still_over (Is head) took_input same = absurd (cc same)

    was_over : (head : Head) (took_input : Bool) → passed head took_input ≡ Over → head ≡ Over
    was_over Wanted took_input same = absurd (cc same)
    was_over Over took_input same = refl
    was_over (Is head) true same = absurd (cc same)
    was_over (Is head) false same = absurd (cc same)

    -- One turn is done.
    pub stands-turned : (all : Records) (head : Head) (after_state : State) (took_input : Bool) (old sink : Option (List ℕ)) (text more before after : List ℕ) →
        Stands own pick tells (λ records. go_by engine_of advance own (suc turns) records state) all from reader head old sink text before after → head ≢ Wanted →
        Turns engine_of advance own pick state (record_of head) after_state text more (Turned took_input) →
        Stands own pick tells (λ records. go_by engine_of advance own turns records after_state) all from reader (passed head took_input) old sink more before after
    stands-turned all head after_state took_input old sink text more before after stands known turned = record {
      given = stands.given;
      known = stands.known;
      takes = stands.takes;
      counted = stands.counted;
      over = λ same. stands.over (was_over head took_input same);
      read_out = stands.read_out;
      goes = λ later over.
          let none : head ≡ Over → later ≡ end = λ same. over (still_over head took_input same) in
          let first = rw (go-turn_by head later known none) at (stands.goes later none) in
          let second = rw (later_on-passed head later took_input after_state known none) at (turned (later_on head later)) in
          GoesOn-turned own pick (tells (ahead stands.given later)) (turn_by engine_of advance own state (record_of head) (later_on head later))
          (go_by engine_of advance own turns (with_head (passed head took_input) later) after_state) old sink text more first second;
    }

    on_head : (all : Records) (head : Head) (old sink : Option (List ℕ)) (text before after : List ℕ) →
        Stands own pick tells (λ records. go_by engine_of advance own (suc turns) records state) all from reader head old sink text before after → head ≢ Wanted →
        GoesOn own pick (tells all) (turn_by engine_of advance own state (record_of head) (later_on head (to_give own reader after))) old sink text
    on_head all head old sink text before after stands known =
        rw (go-turn_by head (to_give own reader after) known (λ same. (stands.over same).0)) at
        (all-stands (λ records. go_by engine_of advance own (suc turns) records state) all from reader head old sink text before after stands)

    -- The run ended with a turn, and all is written.
    pub tells-ended : (all : Records) (head : Head) (after_state : State) (how : Finish) (old sink new : Option (List ℕ)) (text more left before after : List ℕ) →
        Stands own pick tells (λ records. go_by engine_of advance own (suc turns) records state) all from reader head old sink text before after → head ≢ Wanted →
        Turns engine_of advance own pick state (record_of head) after_state text more (Ended how) → HandsOn sink new more left → left ≡ [] → Tells own pick (tells all) (engine_of after_state) old new how
    tells-ended all head after_state how old sink new text more left before after stands known ended hands empty =
        Tells-ended own pick (tells all) (turn_by engine_of advance own state (record_of head) (later_on head (to_give own reader after))) (engine_of after_state) how old sink new text more
        (on_head all head old sink text before after stands known) (ended (later_on head (to_give own reader after))) (subst (HandsOn sink new more) empty hands)

    -- The run ended with a turn, and not all could be written.
    pub front-ended : (all : Records) (head : Head) (after_state : State) (how : Finish) (old sink new : Option (List ℕ)) (text more before after : List ℕ) →
        Stands own pick tells (λ records. go_by engine_of advance own (suc turns) records state) all from reader head old sink text before after → head ≢ Wanted →
        Turns engine_of advance own pick state (record_of head) after_state text more (Ended how) → GainsFront sink new more → IsFront old new (kept_text own pick (tells all).events)
    front-ended all head after_state how old sink new text more before after stands known ended failed =
        let run = turn_by engine_of advance own state (record_of head) (later_on head (to_give own reader after)) in
        front-failed own pick (tells all) run old sink new text more (on_head all head old sink text before after stands known) []
        (sym (ended (later_on head (to_give own reader after))).text ∙ sym (append-nil more)) (IsFront-failed sink new more failed)
