-- A reader stands behind some records, and what each step does to it.
use Rattle.std.proofs.Common.{◌≡◌, ◌≢◌, ◌≤◌, ◌<◌, ℕ, zero, suc, ◌+◌, ◌-◌, Bool, true, false, List, [], ◌∷◌, ◌++◌, length, Option, Some, None, refl, sym, ap, subst, ◌∙◌, inl, inr, arith, append_assoc}
use Rattle.std.specs.Prelude.{IfSome, IsSomeAnd, max, Result, Ok, Err}
use Rattle.std.proofs.lemmas.List.{append-nil}
use Rattle.dsde_values.specs.declared.types.Field.{Field}
use Rattle.dsde_values.specs.declared.types.Types.{Types}
use Rattle.dsde_input_records.specs.declared.end.InputEnd.{InputEnd}
use Rattle.dsde_input_records.specs.declared.end.InputEnd.TheVariants as end_of
use Rattle.dsde_input_records.specs.Lines.{lines}
use Rattle.dsde_input_records.specs.Records.{Records, end, bad, one, records_of}
use Rattle.dsde_input.specs.Reader.{Reader, IsOffence, TakesOfLine, fresh, has_line, to_come, with_more}
use Rattle.dsde_input.specs.declared.skipping.SkipEnd.TheVariants as skip_end
use Rattle.dsde_input.specs.Skipped.{Unskipped, offence, floored_in, records_from, skipped}
use Rattle.dsde_input.specs.Skipping.{HoldsLines, IsBehind, IsOver, IsRefused, IsStopped, IsWanting, Passes, PassesOne, TakesSkipped, feeds, from}
use Rattle.dsde_input.proofs.LineFeeds.{feeds-append, feeds-none, line_parts}

abbrev Left : Type 0
Left = Result Records Unskipped

ok-is : {x y : Records} → (let own : Left = Ok x in own ≡ Ok y) → x ≡ y
ok-is is = cc

one-more : (n m : ℕ) → suc n + m ≡ suc (n + m)
one-more n m = omega arith

-- some records are skipped, and then others
pub skipped-more : (first second : ℕ) (all later : Records) → skipped first all ≡ Ok later → skipped (first + second) all ≡ skipped second later
skipped-more zero second all later is = let same : zero + second ≡ second = omega arith in ap (λ (n : ℕ). skipped n all) same ∙ ap (skipped second) (ok-is is)
skipped-more (suc first) second end later is = absurd (cc is)
skipped-more (suc first) second (bad why) later is = absurd (cc is)
skipped-more (suc first) second (one head rest) later is = ap (λ (n : ℕ). skipped n (one head rest)) (one-more first second) ∙ skipped-more first second rest later is

-- What holds of two calls, one after the other.
pub told-then : {P Q R : List ℕ → List ℕ → Type 0} (a b c : Option (List ℕ)) → IfSome a (λ x. IsSomeAnd b (P x)) → IfSome b (λ y. IsSomeAnd c (Q y)) → ((x y z : List ℕ) → P x y → Q y z → R x z) → IfSome a (λ x. IsSomeAnd c (R x))
told-then None b c first second join = tt
told-then (Some x) None c first second join = absurd first
told-then (Some x) (Some y) None first second join = absurd second
told-then (Some x) (Some y) (Some z) first second join = join x y z first second

pub told-weaker : {P Q : List ℕ → List ℕ → Type 0} (a b : Option (List ℕ)) → IfSome a (λ x. IsSomeAnd b (P x)) → ((x y : List ℕ) → P x y → Q x y) → IfSome a (λ x. IsSomeAnd b (Q x))
told-weaker None b first weaker = tt
told-weaker (Some x) None first weaker = absurd first
told-weaker (Some x) (Some y) first weaker = weaker x y first

pub told-same : (a : Option (List ℕ)) (P : List ℕ → List ℕ → Type 0) → ((bytes : List ℕ) → P bytes bytes) → IfSome a (λ x. IsSomeAnd a (P x))
told-same None P same = tt
told-same (Some bytes) P same = same bytes

-- Nothing is taken.
pub takes-none : (count : ℕ) (all : Records) (bytes : List ℕ) → TakesSkipped count all bytes bytes
takes-none count all bytes = record { needed = []; past = []; split = refl; size = omega arith; wanted = λ some. absurd (some refl) }

-- Nothing is said of a call without memory.
pub stopped-memory : (count : ℕ) (all : Records) (before after : List ℕ) → IsStopped count all (skip_end.Refused end_of.Memory) before after
stopped-memory count all before after = record {
  too_few = λ same. absurd (cc same);
  refused = λ why same is. absurd (let memory : end_of.Memory ≡ why = cc same in subst IsOffence (sym memory) is);
  unread = λ same. absurd (cc same);
}

-- What was taken, and bytes of a line more.
record More {count : ℕ} {all : Records} {before mid : List ℕ} (takes : TakesSkipped count all before mid) (bytes after : List ℕ) : Type 0 where
  more : TakesSkipped count all before after
  is : more.needed ++ more.past ≡ (takes.needed ++ takes.past) ++ bytes

module _ (ports : List Field) (types : Types) (count floor : ℕ) where
  abbrev all_in : List ℕ → Records
  all_in before = floored_in ports types count floor before

  -- So many records are passed over.
  pub record Stands (done : ℕ) (reader : Reader) (before now : List ℕ) : Type 0 where
    pub rest : skipped done (all_in before) ≡ Ok (from ports types (count - done) floor reader now)
    pub takes : TakesSkipped count (all_in before) before now
    pub held : HoldsLines done reader (takes.needed ++ takes.past)
    pub over : reader.ended ≡ true → now ≡ []

  pub stands-first : (reader : Reader) (bytes : List ℕ) → reader ≡ fresh → Stands 0 reader bytes bytes
  stands-first reader bytes is =
      let none : count - 0 ≡ count = omega arith in
      subst (λ (reader : Reader). Stands 0 reader bytes bytes) (sym is) (record {
        rest = ap (λ (n : ℕ). let left : Left = Ok (from ports types n floor fresh bytes) in left) (sym none);
        takes = record { needed = []; past = []; split = refl; size = omega arith; wanted = λ some. absurd (some refl) };
        held = inl refl;
        over = λ ended. absurd (cc ended);
      })

  module _ (done : ℕ) (reader : Reader) (before mid : List ℕ) (within : done < count) (stands : Stands done reader before mid) where
    abbrev taken : List ℕ
    taken = stands.takes.needed ++ stands.takes.past

    -- some bytes more are taken
    take_some : (of_line piece after : List ℕ) → mid ≡ (of_line ++ piece) ++ after → length piece ≤ 4096 → has_line (with_more reader of_line) ≡ false → More stands.takes (of_line ++ piece) after
    take_some of_line piece after split size lacks =
        let parts = line_parts (with_more reader of_line) lacks in
        let none : feeds (reader.held ++ of_line) ≡ 0 = feeds-none (reader.held ++ of_line) parts.1 in
        let lines : feeds (taken ++ of_line) ≡ done = by-held parts.0 none stands.held in
        record {
          more = record {
            needed = taken ++ of_line;
            past = piece;
            split =
                stands.takes.split ∙ ap (λ l. taken ++ l) (split ∙ append_assoc of_line piece after)
                ∙ sym (append_assoc taken of_line (piece ++ after))
                ∙ sym (append_assoc (taken ++ of_line) piece after);
            size = size;
            wanted = λ some. subst (IsWanting count (all_in before)) (sym lines) (record { fewer = within; rest = from ports types (count - done) floor reader mid; there = stands.rest });
          };
          is = append_assoc taken of_line piece;
        }
      where
        by-held : reader.ended ≡ false → feeds (reader.held ++ of_line) ≡ 0 → HoldsLines done reader taken → feeds (taken ++ of_line) ≡ done
        by-held unended none (inl is) = omega (arith, feeds-append taken of_line, is, feeds-append reader.held of_line, none)
        by-held unended none (inr is) = absurd (let two = sym unended ∙ is.0 in cc two)

    take_by : (of_line piece after : List ℕ) → mid ≡ (of_line ++ piece) ++ after → length piece ≤ 4096 → (of_line ++ piece ≢ [] → has_line (with_more reader of_line) ≡ false) →
        More stands.takes (of_line ++ piece) after
    take_by [] [] after split size lacks = record {
      more = record {
        needed = stands.takes.needed;
        past = stands.takes.past;
        split = stands.takes.split ∙ ap (λ l. taken ++ l) split;
        size = stands.takes.size;
        wanted = stands.takes.wanted;
      };
      is = sym (append-nil taken);
    }
    take_by [] (byte ∷ piece) after split size lacks = take_some [] (byte ∷ piece) after split size (lacks (λ none. absurd (cc none)))
    take_by (byte ∷ of_line) piece after split size lacks = take_some (byte ∷ of_line) piece after split size (lacks (λ none. absurd (cc none)))

    take_more : (after : List ℕ) → (takes : TakesOfLine reader mid after) → More stands.takes (takes.of_line ++ takes.piece) after
    take_more after takes = take_by takes.of_line takes.piece after takes.split takes.size takes.wanted

    pub takes-more : (after : List ℕ) → TakesOfLine reader mid after → TakesSkipped count (all_in before) before after
    takes-more after takes = (take_more after takes).more

    next-left : count - done ≡ suc (count - (done + 1))
    next-left = omega (arith, within)

    -- where so many were skipped, and not all
    left-is : skipped count (all_in before) ≡ skipped (suc (count - (done + 1))) (from ports types (suc (count - (done + 1))) floor reader mid)
    left-is =
        let whole : done + (count - done) ≡ count = omega (arith, within) in
        ap (λ (n : ℕ). skipped n (all_in before)) (sym whole)
        ∙ skipped-more done (count - done) (all_in before) (from ports types (count - done) floor reader mid) stands.rest
        ∙ ap (λ (n : ℕ). skipped n (from ports types n floor reader mid)) next-left

    -- One more is passed over.
    pub stands-more : (new : Reader) (after : List ℕ) → Passes ports types reader new mid after → Stands (done + 1) new before after
    stands-more new after passes =
        let more = take_more after passes.takes in
        record {
          rest =
              skipped-more done 1 (all_in before) (from ports types (count - done) floor reader mid) stands.rest
              ∙ ap (λ (n : ℕ). skipped 1 (from ports types n floor reader mid)) next-left
              ∙ ap (skipped 1) (passes.first (count - (done + 1)) floor);
          takes = more.more;
          held = subst (HoldsLines (done + 1) new) (sym more.is) (by-held stands.held (passes.held stands.over));
          over = passes.over stands.over;
        }
      where
        none-left : (held : List ℕ) → reader.ended ≡ true → reader.held ≡ [] → ⊥
        none-left held ended none =
            let bytes : to_come reader mid ≡ [] = rw ended none in
            let first = sym (ap (λ (bytes : List ℕ). records_from ports types 1 floor (lines bytes) reader.number reader.last) bytes) ∙ passes.first 0 floor in
            absurd (cc first)

        by-held : HoldsLines done reader taken → HoldsLines 1 new (reader.held ++ (passes.takes.of_line ++ passes.takes.piece)) → HoldsLines (done + 1) new (taken ++ (passes.takes.of_line ++ passes.takes.piece))
        by-held (inl is) (inl own) = inl (omega (arith, is, own, feeds-append taken (passes.takes.of_line ++ passes.takes.piece), feeds-append reader.held (passes.takes.of_line ++ passes.takes.piece)))
        by-held (inl is) (inr own) = inr (own.0, own.1, omega (arith, is, own.2, feeds-append taken (passes.takes.of_line ++ passes.takes.piece), feeds-append reader.held (passes.takes.of_line ++ passes.takes.piece)))
        by-held (inr is) own = absurd (none-left reader.held is.0 is.1)

    -- There is none more.
    pub stopped-over : (after : List ℕ) → IsOver ports types reader mid after → IsStopped count (all_in before) skip_end.Few before after
    stopped-over after over = record {
      too_few = λ same. left-is ∙ ap (skipped (suc (count - (done + 1)))) (over.none (count - (done + 1)) floor);
      refused = λ why same is. absurd (cc same);
      unread = λ same. absurd (cc same);
    }

    -- The next is refused.
    pub stopped-refused : (why : InputEnd) (after : List ℕ) → IsRefused ports types reader why mid after → IsStopped count (all_in before) (skip_end.Refused why) before after
    stopped-refused why after refused = record {
      too_few = λ same. absurd (cc same);
      refused = λ own same is.
          let whys : why ≡ own = cc same in
          let offends : IsOffence why = subst IsOffence (sym whys) is in
          left-is ∙ ap (skipped (suc (count - (done + 1)))) (refused.first offends (count - (done + 1)) floor) ∙ ap (λ (because : InputEnd). let left : Left = Err (offence because) in left) whys;
      unread = λ same.
          let whys : why ≡ end_of.ReadFault = cc same in
          let fault = refused.unread whys in
          let more = take_more after refused.takes in
          record {
            taken = more.more.needed ++ more.more.past;
            split = more.more.split;
            wants = subst (IsWanting count (all_in before)) (sym (ap feeds more.is ∙ by-held fault.0 fault.1 stands.held)) (record { fewer = within; rest = from ports types (count - done) floor reader mid; there = stands.rest });
          };
    }
      where
        by-held : reader.ended ≡ false → feeds (reader.held ++ (refused.takes.of_line ++ refused.takes.piece)) ≡ 0 → HoldsLines done reader taken → feeds (taken ++ (refused.takes.of_line ++ refused.takes.piece)) ≡ done
        by-held unended none (inl is) = omega (arith, feeds-append taken (refused.takes.of_line ++ refused.takes.piece), is, feeds-append reader.held (refused.takes.of_line ++ refused.takes.piece), none)
        by-held unended none (inr is) = absurd (let two = sym unended ∙ is.0 in cc two)

  -- All are passed over.
  pub behind-all : (done : ℕ) (reader new : Reader) (before after : List ℕ) → done ≡ count → reader.floor ≡ 0 → reader.offence ≡ None → new ≡ record reader { floor = max reader.floor floor } → Stands done reader before after →
      IsBehind ports types count (all_in before) new before after
  behind-all done reader new before after all low lawful is stands =
      let none : count - done ≡ 0 = omega (arith, all) in
      let high : max reader.floor floor ≡ floor = ap (λ (n : ℕ). max n floor) low ∙ omega arith in
      subst (λ (new : Reader). IsBehind ports types count (all_in before) new before after) (sym is) (record {
        rest =
            ap (λ (n : ℕ). skipped n (all_in before)) (sym all) ∙ stands.rest
            ∙ ap (λ (n : ℕ). let left : Left = Ok (from ports types n floor reader after) in left) none
            ∙ ap (λ (least : ℕ). let left : Left = Ok (records_of ports types least (lines (to_come reader after)) reader.number reader.last) in left) (sym high)
            ∙ ap (λ (found : Option InputEnd). let left : Left = Ok (elim found [ Some why ↦ bad why | None ↦ records_of ports types (max reader.floor floor) (lines (to_come reader after)) reader.number reader.last ]) in left) (sym lawful);
        taken = stands.takes.needed ++ stands.takes.past;
        split = stands.takes.split;
        held = subst (λ (n : ℕ). HoldsLines n reader (stands.takes.needed ++ stands.takes.past)) all stands.held;
        over = stands.over;
      })

  -- What is taken of a step more.
  pub takes-one : (done : ℕ) (reader new : Reader) (found : Bool) (before mid after : List ℕ) → done < count → Stands done reader before mid → PassesOne ports types reader new found mid after → TakesSkipped count (all_in before) before after
  takes-one done reader new true before mid after within stands passes = takes-more done reader before mid within stands after passes.takes
  takes-one done reader new false before mid after within stands passes = takes-more done reader before mid within stands after passes.takes

  -- A step more, by what it found.
  pub stands-found : (done : ℕ) (reader new : Reader) (found : Bool) (before mid after : List ℕ) → found ≡ true → done < count → Stands done reader before mid → PassesOne ports types reader new found mid after → Stands (done + 1) new before after
  stands-found done reader new found before mid after is within stands passes =
      stands-more done reader before mid within stands new after (subst (λ (found : Bool). PassesOne ports types reader new found mid after) is passes)

  pub stopped-found : (done : ℕ) (reader new : Reader) (found : Bool) (before mid after : List ℕ) → found ≡ false → done < count → Stands done reader before mid → PassesOne ports types reader new found mid after →
      IsStopped count (all_in before) skip_end.Few before after
  stopped-found done reader new found before mid after is within stands passes =
      stopped-over done reader before mid within stands after (subst (λ (found : Bool). PassesOne ports types reader new found mid after) is passes)
