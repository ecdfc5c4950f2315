-- Records are skipped, and the turns of a run follow.
use Rattle.std.proofs.Common.{◌≡◌, ◌≢◌, ◌<◌, ◌≤◌, ℕ, zero, suc, ◌+◌, ◌==◌, Bool, true, false, List, [], ◌∷◌, ◌++◌, length, Option, Some, None, refl, sym, ap, subst, ◌∙◌, inl, inr, arith, append_assoc}
use Rattle.std.specs.Prelude.{if◌then◌else◌, Result, Ok, Err}
use Rattle.std.proofs.lemmas.List.{append-nil, append_cancel_right}
use Rattle.dsde_values.specs.declared.types.Field.{Field}
use Rattle.dsde_values.specs.declared.types.Types.{Types}
use Rattle.dsde_language.specs.DeclaredModels.{top_ins, types_of}
use Rattle.dsde_input_records.specs.declared.end.InputEnd.{InputEnd}
use Rattle.dsde_input_records.specs.declared.end.InputEnd.TheVariants as input_end
use Rattle.dsde_input_records.specs.Records.{Records, end, bad, one}
use Rattle.dsde_input.specs.Reader.{Reader}
use Rattle.dsde_input.specs.declared.skipping.SkipEnd.{SkipEnd}
use Rattle.dsde_input.specs.declared.skipping.SkipEnd.TheVariants as skip_end
use Rattle.dsde_input.specs.Skipped.{Unskipped, floored_in, offence, skipped}
use Rattle.dsde_input.specs.Skipping.{HoldsLines, IsBehind, IsStopped, IsUnread, IsWanting, TakesSkipped}
use Rattle.dsde_input.specs.Skipping as skipping
use Rattle.dsde_io.specs.Bytes.{Gains}
use Rattle.dsde_sim_tree.specs.declared.event.Finish.{Finish}
use Rattle.dsde_sim_tree.specs.Engine.{Engine}
use Rattle.dsde_trace.specs.declared.pick.Pick.{Pick}
use Rattle.dsde_run_meaning.specs.Run.{Run, cut, offended}
use Rattle.dsde_run.specs.declared.run.Cut.{Cut}
use Rattle.dsde_run.specs.declared.run.Cut.TheVariants as short
use Rattle.dsde_run.specs.Reading.{Comes, IsCutShort, IsFront, TakesWanted, Tells, Told, cut_after, feeds}
use Rattle.dsde_run.specs.Run.{Running, go, kept_text}
use Rattle.dsde_run.specs.Steps.{to_give}
use Rattle.dsde_run.specs.Resumed.{records_for, resumed_on, unskipped}
use Rattle.dsde_run.specs.Resuming.{ComesBack, stopped_as, taken_up}

abbrev Left : Type 0
Left = Result Records Unskipped

same-feeds : (bytes : List ℕ) → feeds bytes ≡ skipping.feeds bytes
same-feeds [] = refl
same-feeds (byte ∷ bytes) = ap (λ (n : ℕ). (if byte == 10 then 1 else 0) + n) (same-feeds bytes)

feeds-append : (first other : List ℕ) → feeds (first ++ other) ≡ feeds first + feeds other
feeds-append [] other = omega arith
feeds-append (byte ∷ first) other = omega (arith, feeds-append first other)

one-more : (n m : ℕ) → suc n + m ≡ suc (n + m)
one-more n m = omega arith

-- the first records are skipped, and some of the others cut
skipped-cut : (count more : ℕ) (all later : Records) → skipped count all ≡ Ok later → skipped count (cut_after (count + more) all) ≡ Ok (cut_after more later)
skipped-cut zero more all later is =
    let same : zero + more ≡ more = omega arith in
    ap (λ (n : ℕ). let left : Left = Ok (cut_after n all) in left) same ∙ ap (λ (records : Records). let left : Left = Ok (cut_after more records) in left) (ok-is is)
  where
    ok-is : {x y : Records} → (let own : Left = Ok x in own ≡ Ok y) → x ≡ y
    ok-is is = cc
skipped-cut (suc count) more end later is = absurd (cc is)
skipped-cut (suc count) more (bad why) later is = absurd (cc is)
skipped-cut (suc count) more (one first rest) later is =
    ap (λ (n : ℕ). skipped (suc count) (cut_after n (one first rest))) (one-more count more) ∙ skipped-cut count more rest later is

-- fewer records are there than are to be skipped
cut-wanting : (lines count : ℕ) (all rest : Records) → lines < count → skipped lines all ≡ Ok rest → skipped count (cut_after lines all) ≡ Err (offence input_end.ReadFault)
cut-wanting lines zero all rest fewer is = absurd (omega (arith, fewer))
cut-wanting zero (suc count) all rest fewer is = refl
cut-wanting (suc lines) (suc count) end rest fewer is = absurd (cc is)
cut-wanting (suc lines) (suc count) (bad why) rest fewer is = absurd (cc is)
cut-wanting (suc lines) (suc count) (one first later) rest fewer is = cut-wanting lines count later rest (omega (arith, fewer)) is

-- all but the last are there
cut-last : (lines : ℕ) (all later : Records) → skipped (suc lines) all ≡ Ok later → skipped (suc lines) (cut_after lines all) ≡ Err (offence input_end.ReadFault)
cut-last zero all later is = refl
cut-last (suc lines) end later is = absurd (cc is)
cut-last (suc lines) (bad why) later is = absurd (cc is)
cut-last (suc lines) (one first rest) later is = cut-last lines rest later is

nothing : (first second : List ℕ) → first ++ second ≡ [] → (first ≡ []) × (second ≡ [])
nothing [] second is = (refl, is)
nothing (byte ∷ first) second is = absurd (cc is)

Gains-none : (old : Option (List ℕ)) → Gains old old []
Gains-none None = tt
Gains-none (Some bytes) = ap Some (sym (append-nil bytes))

IsFront-none : (old : Option (List ℕ)) (text : List ℕ) → IsFront old old text
IsFront-none old text = record { count = 0; is = Gains-none old }

module _ (own : Running) (pick : Pick) (turns : ℕ) (engine : Engine) where
  abbrev tells : Records → Run
  tells = resumed_on own turns engine

  abbrev goes : Records → Run
  goes records = go own turns records engine

  abbrev by_left : Left → Run
  by_left left = elim left [ Ok rest ↦ go own turns rest engine | Err why ↦ unskipped why engine ]

  -- where fewer records are there than are to be skipped, nothing is told
  wants : (all : Records) (lines : ℕ) → IsWanting engine.taken all lines → tells (cut_after lines all) ≡ cut engine
  wants all lines wanting = ap by_left (cut-wanting lines engine.taken all wanting.rest wanting.fewer wanting.there)

  wants-of : (all : Records) (bytes : List ℕ) → IsWanting engine.taken all (skipping.feeds bytes) → tells (cut_after (feeds bytes) all) ≡ cut engine
  wants-of all bytes wanting = ap (λ (n : ℕ). tells (cut_after n all)) (same-feeds bytes) ∙ wants all (skipping.feeds bytes) wanting

  -- a bad line is among the records that are skipped
  bad-back : (why : InputEnd) (how : Finish) (sink : Option (List ℕ)) (before : List ℕ) → (offended why engine).end ≡ Some how → (offended why engine).state ≡ engine →
      skipped engine.taken (records_for own engine before) ≡ Err (offence why) → Tells own pick (tells (records_for own engine before)) engine sink sink how
  bad-back why how sink before ends stands is =
      subst (λ (run : Run). Tells own pick run engine sink sink how) (sym (ap by_left is)) (record { text = Gains-none sink; end = ends; stands = λ whole. sym stands })

  -- a read failed before they were skipped
  unread-back : (sink : Option (List ℕ)) (before after : List ℕ) → IsUnread engine.taken (records_for own engine before) before after →
      IsCutShort own pick tells (records_for own engine before) engine sink sink [] before after
  unread-back sink before after unread =
      let is = wants-of (records_for own engine before) unread.taken unread.wants in
      record {
        taken = unread.taken;
        split = unread.split;
        text = subst (λ (run : Run). Gains sink sink (kept_text own pick run.events)) (sym is) (Gains-none sink);
        cut = ap (λ (run : Run). run.end) is;
        front = IsFront-none sink _;
        stands = sym (ap (λ (run : Run). run.state) is);
      }

  -- The records could not be skipped.
  pub stopped-back : (why : SkipEnd) (sink : Option (List ℕ)) (before after : List ℕ) → IsStopped engine.taken (records_for own engine before) why before after →
      ComesBack own pick turns engine engine sink sink (stopped_as why) before after
  stopped-back skip_end.Few sink before after stopped = (stopped.too_few refl, Gains-none sink)
  stopped-back (skip_end.Refused (input_end.BadLine line)) sink before after stopped = bad-back (input_end.BadLine line) _ sink before refl refl (stopped.refused (input_end.BadLine line) refl tt)
  stopped-back (skip_end.Refused (input_end.Backwards line)) sink before after stopped = bad-back (input_end.Backwards line) _ sink before refl refl (stopped.refused (input_end.Backwards line) refl tt)
  stopped-back (skip_end.Refused (input_end.LineTooLong line)) sink before after stopped = bad-back (input_end.LineTooLong line) _ sink before refl refl (stopped.refused (input_end.LineTooLong line) refl tt)
  stopped-back (skip_end.Refused input_end.ReadFault) sink before after stopped = unread-back sink before after (stopped.unread refl)
  stopped-back (skip_end.Refused input_end.Memory) sink before after stopped = IsFront-none sink _

  -- What is taken for the skip is wanted.
  pub skip-wanted : (all : Records) (before after : List ℕ) → TakesSkipped engine.taken all before after → TakesWanted tells all [] before after
  skip-wanted all before after takes = record {
    needed = takes.needed;
    past = takes.past;
    split = takes.split;
    size = takes.size;
    wanted = λ some. ap (λ (run : Run). run.end) (wants-of all takes.needed (takes.wanted some));
  }

  module _ (all : Records) (reader : Reader) (before mid : List ℕ) (behind : IsBehind (top_ins own.model) (types_of own.model) engine.taken all reader before mid) where
    -- what is told is what the turns tell on the records that the reader gives
    pub tells-behind : tells all ≡ goes (to_give own reader mid)
    tells-behind = ap by_left behind.rest

    -- it is so on the records of some of the bytes
    tells-cut : (bytes extra after : List ℕ) → mid ≡ (bytes ++ extra) ++ after → (goes (cut_after (feeds (reader.held ++ bytes)) (to_give own reader mid))).end ≡ None →
        tells (cut_after (feeds (behind.taken ++ bytes)) all) ≡ goes (cut_after (feeds (reader.held ++ bytes)) (to_give own reader mid))
    tells-cut bytes extra after split cuts = by-held behind.held
      where
        none-of : (turns : ℕ) (lines : ℕ) (rest : Records) → lines ≡ 0 → (go own turns (cut_after lines rest) engine).end ≡ None → cut engine ≡ go own turns (cut_after lines rest) engine
        none-of zero lines rest none ends = absurd (cc ends)
        none-of (suc turns) lines rest none ends = rw none refl

        last : (lines : ℕ) → suc lines ≡ engine.taken → tells (cut_after lines all) ≡ cut engine
        last lines is =
            ap by_left (ap (λ (n : ℕ). skipped n (cut_after lines all)) (sym is) ∙ cut-last lines all (to_give own reader mid) (ap (λ (n : ℕ). skipped n all) is ∙ behind.rest))

        by-held : HoldsLines engine.taken reader behind.taken → tells (cut_after (feeds (behind.taken ++ bytes)) all) ≡ goes (cut_after (feeds (reader.held ++ bytes)) (to_give own reader mid))
        by-held (inl is) =
            let lines : feeds (behind.taken ++ bytes) ≡ engine.taken + feeds (reader.held ++ bytes) =
            omega (arith, feeds-append behind.taken bytes, feeds-append reader.held bytes, is, same-feeds behind.taken, same-feeds reader.held) in
            ap (λ (n : ℕ). tells (cut_after n all)) lines ∙ ap by_left (skipped-cut engine.taken (feeds (reader.held ++ bytes)) all (to_give own reader mid) behind.rest)
        by-held (inr is) =
            let parts = nothing (bytes ++ extra) after (sym split ∙ behind.over is.0) in
            let none : bytes ≡ [] = (nothing bytes extra parts.0).0 in
            let held : feeds (reader.held ++ bytes) ≡ 0 = ap (λ (l : List ℕ). feeds (l ++ bytes)) is.1 ∙ ap feeds none in
            let lines : feeds (behind.taken ++ bytes) ≡ feeds behind.taken = omega (arith, feeds-append behind.taken bytes, ap feeds none) in
            let all_but : suc (feeds behind.taken) ≡ engine.taken = omega (arith, is.2, same-feeds behind.taken) in
            ap (λ (n : ℕ). tells (cut_after n all)) lines ∙ last (feeds behind.taken) all_but ∙ none-of turns (feeds (reader.held ++ bytes)) (to_give own reader mid) held cuts

    -- What the turns take is wanted.
    pub turns-wanted : (after : List ℕ) → TakesSkipped engine.taken all before mid → TakesWanted goes (to_give own reader mid) reader.held mid after → TakesWanted tells all [] before after
    turns-wanted after first second = by-bytes second.needed second.past second.split second.size second.wanted
      where
        same-taken : first.needed ++ first.past ≡ behind.taken
        same-taken = append_cancel_right (first.needed ++ first.past) behind.taken mid (sym first.split ∙ behind.split)

        more : (needed past : List ℕ) → mid ≡ (needed ++ past) ++ after → length past ≤ 4096 → (goes (cut_after (feeds (reader.held ++ needed)) (to_give own reader mid))).end ≡ None → TakesWanted tells all [] before after
        more needed past split size cuts = record {
          needed = behind.taken ++ needed;
          past = past;
          split = behind.split ∙ ap (λ l. behind.taken ++ l) (split ∙ append_assoc needed past after) ∙ sym (append_assoc behind.taken needed (past ++ after)) ∙ sym (append_assoc (behind.taken ++ needed) past after);
          size = size;
          wanted = λ some. ap (λ (run : Run). run.end) (tells-cut needed past after split cuts) ∙ cuts;
        }

        by-bytes : (needed past : List ℕ) → mid ≡ (needed ++ past) ++ after → length past ≤ 4096 →
            (needed ++ past ≢ [] → (goes (cut_after (feeds (reader.held ++ needed)) (to_give own reader mid))).end ≡ None) → TakesWanted tells all [] before after
        by-bytes [] [] split size wanted = subst (TakesWanted tells all [] before) split (skip-wanted all before mid first)
        by-bytes [] (byte ∷ past) split size wanted = more [] (byte ∷ past) split size (wanted (λ none. absurd (cc none)))
        by-bytes (byte ∷ needed) past split size wanted = more (byte ∷ needed) past split size (wanted (λ none. absurd (cc none)))

    -- What the turns come to is what is told.
    pub turns-back : (stands : Engine) (old new : Option (List ℕ)) (result : Result Finish Cut) (after : List ℕ) → all ≡ records_for own engine before →
        Comes own pick goes (to_give own reader mid) stands old new result reader.held mid after → ComesBack own pick turns engine stands old new (taken_up result) before after
    turns-back stands old new (Ok how) after whole comes =
        subst (λ (run : Run). Tells own pick run stands old new how) (sym tells-behind ∙ ap tells whole) comes
    turns-back stands old new (Err short.ReadFault) after whole comes =
        let is = tells-cut comes.taken [] after (comes.split ∙ ap (λ l. l ++ after) (sym (append-nil comes.taken))) comes.cut in
        subst (λ (records : Records). IsCutShort own pick tells records stands old new [] before after) whole (record {
          taken = behind.taken ++ comes.taken;
          split = behind.split ∙ ap (λ l. behind.taken ++ l) comes.split ∙ sym (append_assoc behind.taken comes.taken after);
          text = subst (λ (run : Run). Gains old new (kept_text own pick run.events)) (sym is) comes.text;
          cut = ap (λ (run : Run). run.end) is ∙ comes.cut;
          front = subst (λ (run : Run). IsFront old new (kept_text own pick run.events)) (sym tells-behind) comes.front;
          stands = comes.stands ∙ sym (ap (λ (run : Run). run.state) is);
        })
    turns-back stands old new (Err short.Unwritten) after whole comes = subst (λ (run : Run). IsFront old new (kept_text own pick run.events)) (sym tells-behind ∙ ap tells whole) comes
    turns-back stands old new (Err short.Memory) after whole comes = subst (λ (run : Run). IsFront old new (kept_text own pick run.events)) (sym tells-behind ∙ ap tells whole) comes

    -- A run that falls quiet has read the input to its end.
    pub quiet-back : (after : List ℕ) → TakesWanted goes (to_give own reader mid) reader.held mid after → (reader.ended ≡ false → after ≡ []) → after ≡ []
    quiet-back after takes quiet = by-end reader.ended refl
      where
        by-end : (ended : Bool) → reader.ended ≡ ended → after ≡ []
        by-end false is = quiet is
        by-end true is = (nothing (takes.needed ++ takes.past) after (sym takes.split ∙ behind.over is)).1

-- What holds of two calls, one after the other.
told-then : {P Q R : List ℕ → List ℕ → Type 0} (a b c : Option (List ℕ)) → Told a b P → Told b c Q → ((before mid after : List ℕ) → P before mid → Q mid after → R before after) → Told a c R
told-then None b c first second both = tt
told-then (Some before) None c first second both = absurd first
told-then (Some before) (Some mid) None first second both = absurd second
told-then (Some before) (Some mid) (Some after) first second both = both before mid after first second

told-weaker : {P Q : List ℕ → List ℕ → Type 0} (a b : Option (List ℕ)) → Told a b P → ((before after : List ℕ) → P before after → Q before after) → Told a b Q
told-weaker None b first weaker = tt
told-weaker (Some before) None first weaker = absurd first
told-weaker (Some before) (Some after) first weaker = weaker before after first

-- what an engine skips: by which ports, of which types, how many, and to which time
module _ (own : Running) (engine : Engine) (ports : List Field) (types : Types) (count floor : ℕ) (is_ports : ports ≡ top_ins own.model) (is_types : types ≡ types_of own.model) (is_count : count ≡ engine.taken) (is_floor : floor ≡ engine.time) where
  for-engine : (P : List Field → Types → ℕ → ℕ → Type 0) → P ports types count floor → P (top_ins own.model) (types_of own.model) engine.taken engine.time
  for-engine P holds =
      subst (λ (floor : ℕ). P (top_ins own.model) (types_of own.model) engine.taken floor) is_floor
      (subst (λ (count : ℕ). P (top_ins own.model) (types_of own.model) count floor) is_count
      (subst (λ (types : Types). P (top_ins own.model) types count floor) is_types
      (subst (λ (ports : List Field). P ports types count floor) is_ports holds)))

  module _ (pick : Pick) (turns : ℕ) (a b : Option (List ℕ)) where
    pub told-stopped : (why : SkipEnd) (sink : Option (List ℕ)) → Told a b (λ before after. IsStopped count (floored_in ports types count floor before) why before after) →
        Told a b (ComesBack own pick turns engine engine sink sink (stopped_as why))
    told-stopped why sink stopped =
        told-weaker a b (for-engine (λ ports types count floor. Told a b (λ before after. IsStopped count (floored_in ports types count floor before) why before after)) stopped)
        (λ before after. stopped-back own pick turns engine why sink before after)

    pub told-skipped : Told a b (λ before after. TakesSkipped count (floored_in ports types count floor before) before after) →
        Told a b (λ before after. TakesWanted (resumed_on own turns engine) (records_for own engine before) [] before after)
    told-skipped takes =
        told-weaker a b (for-engine (λ ports types count floor. Told a b (λ before after. TakesSkipped count (floored_in ports types count floor before) before after)) takes)
        (λ before after. skip-wanted own pick turns engine (records_for own engine before) before after)

    module _ (c : Option (List ℕ)) (reader : Reader) (behind : Told a b (λ before after. IsBehind ports types count (floored_in ports types count floor before) reader before after)) where
      is-behind : Told a b (λ before after. IsBehind (top_ins own.model) (types_of own.model) engine.taken (records_for own engine before) reader before after)
      is-behind = for-engine (λ ports types count floor. Told a b (λ before after. IsBehind ports types count (floored_in ports types count floor before) reader before after)) behind

      pub told-back : (stands : Engine) (old new : Option (List ℕ)) (result : Result Finish Cut) →
          Told b c (λ before after. Comes own pick (λ records. go own turns records engine) (to_give own reader before) stands old new result reader.held before after) →
          Told a c (ComesBack own pick turns engine stands old new (taken_up result))
      told-back stands old new result comes =
          told-then a b c is-behind comes (λ before mid after own_behind its. turns-back own pick turns engine (records_for own engine before) reader before mid own_behind stands old new result after refl its)

      pub told-taken : Told a b (λ before after. TakesSkipped count (floored_in ports types count floor before) before after) →
          Told b c (λ before after. TakesWanted (λ records. go own turns records engine) (to_give own reader before) reader.held before after) →
          Told a c (λ before after. TakesWanted (resumed_on own turns engine) (records_for own engine before) [] before after)
      told-taken first second =
          told-then a b c (for-engine (λ ports types count floor. Told a b (λ before after. IsBehind ports types count (floored_in ports types count floor before) reader before after × TakesSkipped count (floored_in ports types count floor before) before after))
          (both _ _ a b behind first)) second
          (λ before mid after own_behind its. turns-wanted own pick turns engine (records_for own engine before) reader before mid own_behind.0 after own_behind.1 its)
        where
          both : (P Q : List ℕ → List ℕ → Type 0) (a b : Option (List ℕ)) → Told a b P → Told a b Q → Told a b (λ before after. P before after × Q before after)
          both P Q None b first second = tt
          both P Q (Some before) None first second = absurd first
          both P Q (Some before) (Some after) first second = (first, second)

      pub told-quiet : Told b c (λ before after. TakesWanted (λ records. go own turns records engine) (to_give own reader before) reader.held before after) →
          (reader.ended ≡ false → Told b c (λ _ after. after ≡ [])) → Told a c (λ _ after. after ≡ [])
      told-quiet takes quiet =
          told-then a b c is-behind (by-end _ b c takes quiet) (λ before mid after own_behind its. quiet-back own pick turns engine (records_for own engine before) reader before mid own_behind after its.0 its.1)
        where
          by-end : (P : List ℕ → List ℕ → Type 0) (b c : Option (List ℕ)) → Told b c P → (reader.ended ≡ false → Told b c (λ _ after. after ≡ [])) → Told b c (λ before after. P before after × (reader.ended ≡ false → after ≡ []))
          by-end P None c takes quiet = tt
          by-end P (Some before) None takes quiet = absurd takes
          by-end P (Some before) (Some after) takes quiet = (takes, quiet)
