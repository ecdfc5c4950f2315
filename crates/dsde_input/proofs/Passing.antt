-- One record is passed over.
use Rattle.std.proofs.Common.{◌≡◌, ℕ, suc, ◌+◌, ◌==◌, max, Bool, true, false, List, [], ◌∷◌, ◌++◌, length, drop, Option, Some, None, refl, sym, ap, ◌∙◌, ◌⊎◌, inl, inr, arith, append_assoc}
use Rattle.std.specs.Prelude.{IfSome, IsSomeAnd, OnSome, is_some, if◌then◌else◌, unwrap_or, Result, Ok, Err}
use Rattle.std.proofs.lemmas.List.{append-nil, append_cancel_right, take-append-drop}
use Rattle.dsde_values.specs.declared.arrival.Arrival.{Arrival}
use Rattle.dsde_values.specs.declared.types.Field.{Field}
use Rattle.dsde_values.specs.declared.types.Types.{Types}
use Rattle.dsde_input_records.specs.declared.end.InputEnd.{InputEnd}
use Rattle.dsde_input_records.specs.declared.end.InputEnd.TheVariants as end_of
use Rattle.dsde_input_records.specs.Lines.{lines, begin, behind_line}
use Rattle.dsde_input_records.specs.Records.{Records, end, bad, one, next_number, line_record, before, records_of}
use Rattle.dsde_input.specs.Reader.{Reader, IsOffence, Moves, SeesEnd, TakesLine, TakesOfLine, Tells, records, given, has_line, to_come}
use Rattle.dsde_input.specs.Skipped.{records_from}
use Rattle.dsde_input.specs.Skipping.{HoldsLines, IsRefused, PassesOne, feeds, from}
use Rattle.dsde_input.specs.lemmas.Flooring.{opened, no-end}
use Rattle.dsde_input.proofs.LineFeeds.{feeds-append, feeds-behind, feeds-lacks, feeds-none, line_parts, seen_line}

tail-is : {x y : List ℕ} {xs ys : List (List ℕ)} → x ∷ xs ≡ y ∷ ys → xs ≡ ys
tail-is is = cc

begins : (byte : ℕ) (all : List (List ℕ)) (line : List ℕ) (rest : List (List ℕ)) → begin byte all ≡ line ∷ rest → ((all ≡ []) × (rest ≡ [])) ⊎ ((first : List ℕ) × (all ≡ first ∷ rest))
begins byte [] line rest is = inl (refl, sym (tail-is is))
begins byte (first ∷ all) line rest is = inr (first, ap (λ own. first ∷ own) (tail-is is))

some-lines : (byte : ℕ) (bytes : List ℕ) → lines (byte ∷ bytes) ≡ [] → ⊥
some-lines byte bytes is = by-feed (byte == 10) (lines bytes) is
  where
    by-feed : (feed : Bool) (all : List (List ℕ)) → (if feed then [] ∷ all else begin byte all) ≡ [] → ⊥
    by-feed true all is = absurd (cc is)
    by-feed false [] is = absurd (cc is)
    by-feed false (line ∷ all) is = absurd (cc is)

no-bytes : (bytes : List ℕ) → lines bytes ≡ [] → lines (behind_line bytes) ≡ []
no-bytes [] is = refl
no-bytes (byte ∷ bytes) is = absurd (some-lines byte bytes is)

-- the lines behind the first
lines-behind : (bytes line : List ℕ) (rest : List (List ℕ)) → lines bytes ≡ line ∷ rest → lines (behind_line bytes) ≡ rest
lines-behind [] line rest is = absurd (cc is)
lines-behind (byte ∷ bytes) line rest is = by-feed (byte == 10) (λ first is. lines-behind bytes first rest is) is
  where
    by-feed : (feed : Bool) → ((first : List ℕ) → lines bytes ≡ first ∷ rest → lines (behind_line bytes) ≡ rest) → (if feed then [] ∷ lines bytes else begin byte (lines bytes)) ≡ line ∷ rest →
        lines (if feed then bytes else behind_line bytes) ≡ rest
    by-feed true goes is = tail-is is
    by-feed false goes is = elim (begins byte (lines bytes) line rest is) [ inl none ↦ no-bytes bytes none.0 ∙ sym none.1 | inr some ↦ goes some.0 some.1 ]

some_same : (first second : List ℕ) → Some first ≡ Some second → first ≡ second
some_same first second same = cc same

-- where the end is seen nothing is left
read_out_by : (ended : Bool) (old new : Reader) (before after : List ℕ) → old.ended ≡ ended → (has_line old ≡ true → Some after ≡ Some before) → SeesEnd old new (Some before) (Some after) →
    (old.ended ≡ true → before ≡ []) → new.ended ≡ true → after ≡ []
read_out_by false old new before after is idle sees empty over = sees is over
read_out_by true old new before after is idle sees empty over = some_same after before (idle (seen_line old is)) ∙ empty is

-- how many line feeds are taken with a line
line-counted : (old new : Reader) (before after : List ℕ) → (takes : TakesOfLine old before after) → (line : TakesLine old new before after) →
    feeds (old.held ++ (takes.of_line ++ takes.piece)) ≡ 1 + feeds new.held
line-counted old new before after takes line =
    let is : old.held ++ (takes.of_line ++ takes.piece) ≡ line.line.line ++ 10 ∷ new.held =
    append_cancel_right (old.held ++ (takes.of_line ++ takes.piece)) (line.line.line ++ 10 ∷ new.held) after
    (append_assoc old.held (takes.of_line ++ takes.piece) after ∙ ap (λ l. old.held ++ l) (sym takes.split) ∙ line.line.is ∙ sym (append_assoc line.line.line (10 ∷ new.held) after)) in
    ap feeds is ∙ feeds-append line.line.line (10 ∷ new.held) ∙ ap (λ n. n + (1 + feeds new.held)) (feeds-lacks line.line.line line.line.lacks) ∙ omega arith

-- what is to come is what was held and what was taken, where nothing is left
all-come : (ended : Bool) (old : Reader) (before taken : List ℕ) → old.ended ≡ ended → (old.ended ≡ true → before ≡ []) → before ≡ taken → to_come old before ≡ old.held ++ taken
all-come false old before taken is empty same = rw is (ap (λ l. old.held ++ l) same)
all-come true old before taken is empty same = rw is (sym (append-nil old.held) ∙ ap (λ l. old.held ++ l) (sym (empty is) ∙ same))

-- how many line feeds are taken with the last line
last-counted : (old new : Reader) (before after taken : List ℕ) → before ≡ taken ++ after → after ≡ [] → new.ended ≡ true → (old.ended ≡ true → before ≡ []) →
    to_come new after ≡ behind_line (to_come old before) → HoldsLines 1 new (old.held ++ taken)
last-counted old new before after taken split none ended empty behind =
    let all : to_come old before ≡ old.held ++ taken = all-come old.ended old before taken refl empty (split ∙ ap (λ l. taken ++ l) none ∙ append-nil taken) in
    let held : new.held ≡ behind_line (old.held ++ taken) = sym (rw ended refl) ∙ behind ∙ ap behind_line all in
    by-feeds held (feeds-behind (old.held ++ taken))
  where
    by-feeds : new.held ≡ behind_line (old.held ++ taken) → (feeds (old.held ++ taken) ≡ 1 + feeds (behind_line (old.held ++ taken))) ⊎ ((feeds (old.held ++ taken) ≡ 0) × (behind_line (old.held ++ taken) ≡ [])) →
        HoldsLines 1 new (old.held ++ taken)
    by-feeds held (inl is) = inl (is ∙ ap (λ l. 1 + feeds l) (sym held))
    by-feeds held (inr is) = inr (ended, held ∙ is.1, ap suc is.0)

module _ (ports : List Field) (types : Types) where
  records-are : (reader : Reader) (bytes : List ℕ) → reader.floor ≡ 0 → reader.offence ≡ None → records ports types reader bytes ≡ records_of ports types 0 (lines bytes) reader.number reader.last
  records-are reader bytes floor lawful =
      ap (λ (offence : Option InputEnd). elim offence [ Some why ↦ bad why | None ↦ records_of ports types reader.floor (lines bytes) reader.number reader.last ]) lawful
      ∙ ap (λ (floor : ℕ). records_of ports types floor (lines bytes) reader.number reader.last) floor

  module _ (old new : Reader) (left rest : List ℕ) (floor : old.floor ≡ 0) (lawful : old.offence ≡ None) where
    first-passed : (arrival : Arrival) (later : Records) → records ports types old (to_come old left) ≡ one arrival later → new.number ≡ next_number old.number → new.last ≡ Some arrival.time →
        to_come new rest ≡ behind_line (to_come old left) → (count at : ℕ) → from ports types (suc count) at old left ≡ one arrival (from ports types count at new rest)
    first-passed arrival later is number last behind count at =
        let own = opened ports types (lines (to_come old left)) old.number old.last arrival later (sym (records-are old (to_come old left) floor lawful) ∙ is) in
        ap (λ (all : List (List ℕ)). records_from ports types (suc count) at all old.number old.last) own.is
        ∙ ap (λ (found : Result Arrival InputEnd). before found (λ arrival. records_from ports types count at own.rest (next_number old.number) (Some arrival.time))) (own.reads (max (unwrap_or old.last 0) 0) (omega (arith, own.late)))
        ∙ ap (one arrival)
        (ap (λ (all : List (List ℕ)). records_from ports types count at all (next_number old.number) (Some arrival.time)) (sym (ap lines behind ∙ lines-behind (to_come old left) own.line own.rest own.is))
        ∙ ap (λ (number : ℕ). records_from ports types count at (lines (to_come new rest)) number (Some arrival.time)) (sym number)
        ∙ ap (λ (last : Option ℕ). records_from ports types count at (lines (to_come new rest)) new.number last) (sym last))

    none-passed : records ports types old (to_come old left) ≡ end → (count at : ℕ) → from ports types (suc count) at old left ≡ end
    none-passed is count at = by-lines (lines (to_come old left)) (sym (records-are old (to_come old left) floor lawful) ∙ is)
      where
        by-lines : (all : List (List ℕ)) → records_of ports types 0 all old.number old.last ≡ end → records_from ports types (suc count) at all old.number old.last ≡ end
        by-lines [] is = refl
        by-lines (line ∷ all) is = absurd (no-end ports types _ _ (sym is))

    bad-first : (why : InputEnd) → records ports types old (to_come old left) ≡ bad why → (count at : ℕ) → from ports types (suc count) at old left ≡ bad why
    bad-first why is count at = by-lines (lines (to_come old left)) (sym (records-are old (to_come old left) floor lawful) ∙ is)
      where
        by-line : (found : Result Arrival InputEnd) (first second : Arrival → Records) → before found first ≡ bad why → before found second ≡ bad why
        by-line (Ok arrival) first second is = absurd (cc is)
        by-line (Err own) first second is = is

        by-lines : (all : List (List ℕ)) → records_of ports types 0 all old.number old.last ≡ bad why → records_from ports types (suc count) at all old.number old.last ≡ bad why
        by-lines [] is = absurd (cc is)
        by-lines (line ∷ all) is = by-line (line_record ports types (next_number old.number) (max (unwrap_or old.last 0) 0) line) _ _ is

  -- A record was passed over, or there is none.
  pub passed-one : (found : Option Arrival) (a b : Option (List ℕ)) (old new : Reader) → old.floor ≡ 0 → old.offence ≡ None →
      IfSome a (λ before. IsSomeAnd b (λ after. let answer : Result (Option Arrival) InputEnd = Ok found in Tells (records ports types old (to_come old before)) (records ports types new (to_come new after)) answer)) →
      IfSome found (λ arrival. new ≡ record (given old arrival) { held = new.held; ended = new.ended }) →
      OnSome found (IfSome a (λ before. IsSomeAnd b (λ after. to_come new after ≡ behind_line (to_come old before)))) →
      IfSome a (λ before. IsSomeAnd b (λ after. TakesOfLine old before after)) →
      OnSome found (new.ended ≡ false → IfSome a (λ before. IsSomeAnd b (λ after. TakesLine old new before after))) →
      (has_line old ≡ true → b ≡ a) → SeesEnd old new a b →
      IfSome a (λ before. IsSomeAnd b (λ after. PassesOne ports types old new (is_some found) before after))
  passed-one found None b old new floor lawful tells is behind of_line line idle sees = tt
  passed-one found (Some x) None old new floor lawful tells is behind of_line line idle sees = tells
  passed-one None (Some x) (Some y) old new floor lawful tells is behind of_line line idle sees = record { takes = of_line; none = none-passed old new x y floor lawful tells.0 }
  passed-one (Some arrival) (Some x) (Some y) old new floor lawful tells is behind of_line line idle sees =
      let over : (old.ended ≡ true → x ≡ []) → new.ended ≡ true → y ≡ [] = read_out_by old.ended old new x y refl idle sees in
      record {
        takes = of_line;
        arrival = arrival;
        first = first-passed old new x y floor lawful arrival (records ports types new (to_come new y)) tells (ap (λ (r : Reader). r.number) is) (ap (λ (r : Reader). r.last) is) behind;
        over = over;
        held = λ empty. by-end new.ended refl empty (over empty);
      }
    where
      by-end : (ended : Bool) → new.ended ≡ ended → (old.ended ≡ true → x ≡ []) → (new.ended ≡ true → y ≡ []) → HoldsLines 1 new (old.held ++ (of_line.of_line ++ of_line.piece))
      by-end false at empty over = inl (line-counted old new x y of_line (line at))
      by-end true at empty over = last-counted old new x y (of_line.of_line ++ of_line.piece) of_line.split (over at) at empty behind

  -- an offence is the first of what is to come
  told_bad : (why : InputEnd) (old new : Records) → IsOffence why → (let answer : Result (Option Arrival) InputEnd = Err why in Tells old new answer) → old ≡ bad why
  told_bad (end_of.BadLine line) old new is tells = tells.0
  told_bad (end_of.Backwards line) old new is tells = tells.0
  told_bad (end_of.LineTooLong line) old new is tells = tells.0
  told_bad end_of.ReadFault old new is tells = absurd is
  told_bad end_of.Memory old new is tells = absurd is

  -- what was taken of a line that is not whole has no line feed
  unread : (old new : Reader) (before after : List ℕ) → (takes : TakesOfLine old before after) → Moves old new (Some before) (Some after) → has_line new ≡ false →
      feeds (old.held ++ (takes.of_line ++ takes.piece)) ≡ 0
  unread old new before after takes moves none =
      let piece : takes.of_line ++ takes.piece ≡ drop (length old.held) new.held =
      append_cancel_right (takes.of_line ++ takes.piece) (drop (length old.held) new.held) after (sym takes.split ∙ moves.taken) in
      let held : old.held ++ (takes.of_line ++ takes.piece) ≡ new.held =
      ap (λ l. old.held ++ l) piece ∙ ap (λ l. l ++ drop (length old.held) new.held) (sym moves.front) ∙ take-append-drop (length old.held) new.held in
      ap feeds held ∙ feeds-none new.held (line_parts new none).1

  -- The next line is no record, or is not there.
  pub refused-one : (why : InputEnd) (a b : Option (List ℕ)) (old new : Reader) → old.floor ≡ 0 → old.offence ≡ None →
      IfSome a (λ before. IsSomeAnd b (λ after. let answer : Result (Option Arrival) InputEnd = Err why in Tells (records ports types old (to_come old before)) (records ports types new (to_come new after)) answer)) →
      IfSome a (λ before. IsSomeAnd b (λ after. TakesOfLine old before after)) →
      (why ≡ end_of.ReadFault → Moves old new a b) → (why ≡ end_of.ReadFault → (has_line old ≡ false) × (has_line new ≡ false)) →
      IfSome a (λ before. IsSomeAnd b (λ after. IsRefused ports types old why before after))
  refused-one why None b old new floor lawful tells of_line moves wanted = tt
  refused-one why (Some x) None old new floor lawful tells of_line moves wanted = of_line
  refused-one why (Some x) (Some y) old new floor lawful tells of_line moves wanted = record {
    takes = of_line;
    first = λ is. bad-first old new x y floor lawful why (told_bad why _ _ is tells);
    unread = λ is. ((line_parts old (wanted is).0).0, unread old new x y of_line (moves is) (wanted is).1);
  }
