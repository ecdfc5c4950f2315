-- The first of the lines to come, where all of it is held that is needed.
use Rattle.std.proofs.Common.{◌≡◌, ◌≢◌, ℕ, ◌<◌, Bool, true, false, ◌||◌, cond, nat_lt, List, [], ◌∷◌, ◌++◌, length, refl, sym, ◌∙◌, ap, subst, arith, append_assoc, length-append, inl, inr, ◌⊎◌, ⊎_elim}
use Rattle.std.specs.Prelude.{Option, Some, None, is_some, unwrap_or, max, Result, Ok, Err}
use Rattle.std.proofs.lemmas.Bool.Decides.{nat_tests}
use Rattle.dsde_values.specs.declared.arrival.Arrival.{Arrival}
use Rattle.dsde_values.specs.declared.types.Field.{Field}
use Rattle.dsde_values.specs.declared.types.Types.{Types}
use Rattle.dsde_input_parser.specs.given.input_records.end_InputEnd.{InputEnd}
use Rattle.dsde_input_parser.specs.given.input_records.end_InputEnd_TheVariants as end_of
use Rattle.dsde_input_parser.specs.given.input_records.Lines.{Lacks, begin, lines, behind_line}
use Rattle.dsde_input_parser.specs.given.input_records.Lines.{without_last}
use Rattle.dsde_input_parser.specs.given.input_records.Record.{record_of}
use Rattle.dsde_input_parser.specs.given.input_records.Records.{Records, bad, one, next_number, judged, line_record, before, records_of}
use Rattle.dsde_input.specs.Reader.{Reader, IsOffence, Tells, records, to_come, has_feed, has_line, given, IsLineOf, Opens}
use Rattle.dsde_input.proofs.Feeds.{no_feed, position-none}

-- a line, its line feed, and the rest
lines-line : (line rest : List ℕ) → Lacks 10 line → lines (line ++ 10 ∷ rest) ≡ line ∷ lines rest
lines-line [] rest lacks = refl
lines-line (byte ∷ line) rest lacks = rw (no_feed byte lacks.0, lines-line line rest lacks.1) refl

-- the last line, without a line feed
lines-last : (byte : ℕ) (line : List ℕ) → Lacks 10 (byte ∷ line) → lines (byte ∷ line) ≡ (byte ∷ line) ∷ []
lines-last byte [] lacks = rw (no_feed byte lacks.0) refl
lines-last byte (next ∷ line) lacks = rw (no_feed byte lacks.0, lines-last next line lacks.1) refl

-- The first of some lines begins with these bytes.
record Begins (front : List ℕ) (all : List (List ℕ)) : Type 0 where
  more : List ℕ
  others : List (List ℕ)
  is : all ≡ (front ++ more) ∷ others

opens_begin : (byte : ℕ) (all : List (List ℕ)) → Begins (byte ∷ []) (begin byte all)
opens_begin byte [] = record { more = []; others = []; is = refl }
opens_begin byte (line ∷ all) = record { more = line; others = all; is = refl }

-- a line that goes on
lines-long : (byte : ℕ) (line left : List ℕ) → Lacks 10 (byte ∷ line) → Begins (byte ∷ line) (lines ((byte ∷ line) ++ left))
lines-long byte [] left lacks = rw (no_feed byte lacks.0) (opens_begin byte (lines left))
lines-long byte (next ∷ line) left lacks =
    let opens = lines-long next line left lacks.1 in
    rw (no_feed byte lacks.0) (record { more = opens.more; others = opens.others; is = ap (begin byte) opens.is })

pub behind_line-line : (line rest : List ℕ) → Lacks 10 line → behind_line (line ++ 10 ∷ rest) ≡ rest
behind_line-line [] rest lacks = refl
behind_line-line (byte ∷ line) rest lacks = rw (no_feed byte lacks.0) (behind_line-line line rest lacks.1)

pub behind_line-last : (line : List ℕ) → Lacks 10 line → behind_line line ≡ []
behind_line-last [] lacks = refl
behind_line-last (byte ∷ line) lacks = rw (no_feed byte lacks.0) (behind_line-last line lacks.1)

-- what is to come
abbrev come : Bool → List ℕ → List ℕ → List ℕ
come ended held left = cond ended held (held ++ left)

come_line : (ended : Bool) (line rest left : List ℕ) → come ended (line ++ 10 ∷ rest) left ≡ line ++ 10 ∷ come ended rest left
come_line true line rest left = refl
come_line false line rest left = append_assoc line (10 ∷ rest) left

-- The first line to come is the one that is held, or too long as that is.
record FirstLine (ended : Bool) (held line rest left : List ℕ) : Type 0 where
  first : List ℕ
  others : List (List ℕ)
  cut : lines (come ended held left) ≡ first ∷ others
  same : ((first ≡ line) × (others ≡ lines (come ended rest left)) × (behind_line (come ended held left) ≡ come ended rest left))
      ⊎ ((65536 < length first) × (65536 < length line))

-- a line with its line feed
first_fed : (ended : Bool) (held line rest left : List ℕ) → Lacks 10 line → held ≡ line ++ 10 ∷ rest → FirstLine ended held line rest left
first_fed ended held line rest left lacks is =
    let all : come ended held left ≡ line ++ 10 ∷ come ended rest left = ap (λ bytes. come ended bytes left) is ∙ come_line ended line rest left in
    record {
      first = line;
      others = lines (come ended rest left);
      cut = ap lines all ∙ lines-line line (come ended rest left) lacks;
      same = inl (refl, refl, ap behind_line all ∙ behind_line-line line (come ended rest left) lacks);
    }

-- a line without a line feed: the last, or one that is too long
first_open : (ended : Bool) (line left : List ℕ) → Lacks 10 line → line ≢ [] → (ended || nat_lt 65536 (length line) || false) ≡ true → FirstLine ended line line [] left
first_open ended [] left lacks some has = absurd (some refl)
first_open true (byte ∷ line) left lacks some has = record {
  first = byte ∷ line;
  others = [];
  cut = lines-last byte line lacks;
  same = inl (refl, refl, behind_line-last (byte ∷ line) lacks);
}
first_open false (byte ∷ line) left lacks some has =
    let opens = lines-long byte line left lacks in
    let long : 65536 < length (byte ∷ line) = grind (arith, nat_tests) in record {
      first = (byte ∷ line) ++ opens.more;
      others = opens.others;
      cut = opens.is;
      same = inr (omega (arith, long, length-append (byte ∷ line) opens.more), long);
    }

-- the first line to come
first_line : (reader : Reader) (line rest left : List ℕ) → has_line reader ≡ true → Opens reader.held line rest → FirstLine reader.ended reader.held line rest left
first_line reader line rest left has cut = ⊎_elim
    (λ fed. first_fed reader.ended reader.held line rest left cut.lacks fed)
    (λ whole.
    let none : has_feed reader.held ≡ false = ap has_feed whole.0 ∙ ap is_some (position-none line cut.lacks) in
    let here : (reader.ended || nat_lt 65536 (length line) || false) ≡ true =
    ap (λ feed. reader.ended || nat_lt 65536 (length line) || feed) (sym none)
    ∙ ap (λ held. reader.ended || nat_lt 65536 (length held) || has_feed reader.held) (sym whole.0) ∙ has in
    subst (λ rest. FirstLine reader.ended reader.held line rest left) (sym whole.1)
    (subst (λ held. FirstLine reader.ended held line [] left) (sym whole.0) (first_open reader.ended line left cut.lacks whole.2 here)))
    cut.cut

-- A line that is too long has that offence.
long_record : (ports : List Field) (types : Types) (number least : ℕ) (line : List ℕ) → 65536 < length line → line_record ports types number least line ≡ Err (end_of.LineTooLong number)
long_record ports types number least line long =
    let test : nat_lt 65536 (length line) ≡ true = grind (arith, nat_tests) in rw test refl

-- a line's offence is one
judged_offence : (number least : ℕ) (small : Bool) (arrival : Arrival) (offence : InputEnd) → cond small (Err (end_of.Backwards number)) (Ok arrival) ≡ Err offence → IsOffence offence
judged_offence number least true arrival offence is = let same : end_of.Backwards number ≡ offence = cc in subst IsOffence same tt
judged_offence number least false arrival offence is = absurd (cc)

record_offence : (number least : ℕ) (found : Option Arrival) (offence : InputEnd) → judged number least found ≡ Err offence → IsOffence offence
record_offence number least None offence is = let same : end_of.BadLine number ≡ offence = cc in subst IsOffence same tt
record_offence number least (Some arrival) offence is = judged_offence number least (nat_lt arrival.time least) arrival offence is

size_offence : (number least : ℕ) (long : Bool) (found : Option Arrival) (offence : InputEnd) → cond long (Err (end_of.LineTooLong number)) (judged number least found) ≡ Err offence → IsOffence offence
size_offence number least true found offence is = let same : end_of.LineTooLong number ≡ offence = cc in subst IsOffence same tt
size_offence number least false found offence is = record_offence number least found offence is

pub line_record-offence : (ports : List Field) (types : Types) (number least : ℕ) (line : List ℕ) (offence : InputEnd) → line_record ports types number least line ≡ Err offence → IsOffence offence
line_record-offence ports types number least line offence is =
    size_offence number least (nat_lt 65536 (length line)) (record_of ports types number (without_last 13 line)) offence is

pub Tells-bad : (old new : Records) (offence : InputEnd) → IsOffence offence → old ≡ bad offence → new ≡ bad offence → Tells old new (Err offence)
Tells-bad old new (end_of.BadLine number) is before after = (before, after)
Tells-bad old new (end_of.Backwards number) is before after = (before, after)
Tells-bad old new (end_of.LineTooLong number) is before after = (before, after)
Tells-bad old new end_of.ReadFault is before after = absurd is
Tells-bad old new end_of.Memory is before after = absurd is

-- what a line is, behind the last that was given
abbrev pub held_record : List Field → Types → Reader → List ℕ → Result Arrival InputEnd
held_record ports types reader line = line_record ports types (next_number reader.number) (max (unwrap_or reader.last 0) reader.floor) line

-- the records to come, where no offence was answered
records_lawful : (ports : List Field) (types : Types) (reader : Reader) (bytes : List ℕ) → reader.offence ≡ None → records ports types reader bytes ≡ records_of ports types reader.floor (lines bytes) reader.number reader.last
records_lawful ports types reader bytes lawful = rw lawful refl

-- behind the line that is held stands the rest
pub rest_is : (reader : Reader) (line rest : List ℕ) → Opens reader.held line rest → behind_line reader.held ≡ rest
rest_is reader line rest cut = ⊎_elim
    (λ fed. ap behind_line fed ∙ behind_line-line line rest cut.lacks)
    (λ whole. ap behind_line whole.0 ∙ behind_line-last line cut.lacks ∙ sym whole.1)
    cut.cut

module _ (ports : List Field) (types : Types) (reader : Reader) (lawful : reader.offence ≡ None) (has : has_line reader ≡ true) (line rest : List ℕ) (cut : Opens reader.held line rest) where
  same_record : (left : List ℕ) → held_record ports types reader (first_line reader line rest left has cut).first ≡ held_record ports types reader line
  same_record left = ⊎_elim
      (λ p. ap (held_record ports types reader) p.0)
      (λ p. long_record ports types (next_number reader.number) (max (unwrap_or reader.last 0) reader.floor) (first_line reader line rest left has cut).first p.0
      ∙ sym (long_record ports types (next_number reader.number) (max (unwrap_or reader.last 0) reader.floor) line p.1))
      (first_line reader line rest left has cut).same

  -- the records to come begin with what the line is
  first_records : (left : List ℕ) → records ports types reader (to_come reader left)
      ≡ before (held_record ports types reader line) (λ arrival. records_of ports types reader.floor (first_line reader line rest left has cut).others (next_number reader.number) (Some arrival.time))
  first_records left =
      records_lawful ports types reader (to_come reader left) lawful
      ∙ ap (λ all. records_of ports types reader.floor all reader.number reader.last) (first_line reader line rest left has cut).cut
      ∙ (ap (λ r. before r (λ arrival. records_of ports types reader.floor (first_line reader line rest left has cut).others (next_number reader.number) (Some arrival.time))) (same_record left))

  -- an offence
  pub records-bad : (offence : InputEnd) (left : List ℕ) → held_record ports types reader line ≡ Err offence → records ports types reader (to_come reader left) ≡ bad offence
  records-bad offence left is =
      first_records left ∙ ap (λ r. before r (λ arrival. records_of ports types reader.floor (first_line reader line rest left has cut).others (next_number reader.number) (Some arrival.time))) is

  -- The line is whole where it is a record.
  whole_line : (arrival : Arrival) (left : List ℕ) → held_record ports types reader line ≡ Ok arrival →
      ((first_line reader line rest left has cut).others ≡ lines (come reader.ended rest left)) × (behind_line (to_come reader left) ≡ come reader.ended rest left)
  whole_line arrival left is = ⊎_elim
      (λ p. (p.1, p.2))
      (λ p. absurd (let long = long_record ports types (next_number reader.number) (max (unwrap_or reader.last 0) reader.floor) line p.1 in cc))
      (first_line reader line rest left has cut).same

  rest_given : (arrival : Arrival) (left : List ℕ) → come reader.ended rest left ≡ to_come (given reader arrival) left
  rest_given arrival left = ap (λ held. come reader.ended held left) (sym (rest_is reader line rest cut))

  -- a record
  pub records-one : (arrival : Arrival) (left : List ℕ) → held_record ports types reader line ≡ Ok arrival →
      records ports types reader (to_come reader left) ≡ one arrival (records ports types (given reader arrival) (to_come (given reader arrival) left))
  records-one arrival left is =
      first_records left
      ∙ ap (λ r. before r (λ a. records_of ports types reader.floor (first_line reader line rest left has cut).others (next_number reader.number) (Some a.time))) is
      ∙ ap (λ all. one arrival (records_of ports types reader.floor all (next_number reader.number) (Some arrival.time))) ((whole_line arrival left is).0 ∙ ap lines (rest_given arrival left))
      ∙ ap (one arrival) (sym (records_lawful ports types (given reader arrival) (to_come (given reader arrival) left) lawful))

  pub taken : (arrival : Arrival) (left : List ℕ) → held_record ports types reader line ≡ Ok arrival → to_come (given reader arrival) left ≡ behind_line (to_come reader left)
  taken arrival left is = sym ((whole_line arrival left is).1 ∙ rest_given arrival left)

  -- It is whole with its line feed where the input's end was not seen.
  pub line-given : (arrival : Arrival) → held_record ports types reader line ≡ Ok arrival → reader.ended ≡ false → IsLineOf reader.held rest
  line-given arrival is unended = ⊎_elim
      (λ fed. record { line = line; is = fed; lacks = cut.lacks })
      (λ whole.
      let none : has_feed reader.held ≡ false = ap has_feed whole.0 ∙ ap is_some (position-none line cut.lacks) in
      let test : nat_lt 65536 (length line) ≡ true = long_by (nat_lt 65536 (length line)) (
      ap (λ feed. nat_lt 65536 (length line) || feed) (sym none)
      ∙ ap (λ held. nat_lt 65536 (length held) || has_feed reader.held) (sym whole.0)
      ∙ ap (λ ended. ended || nat_lt 65536 (length reader.held) || has_feed reader.held) (sym unended) ∙ has) in
      let long : 65536 < length line = grind (arith, nat_tests) in
      absurd (let bad = long_record ports types (next_number reader.number) (max (unwrap_or reader.last 0) reader.floor) line long in cc))
      cut.cut
    where
      long_by : (long : Bool) → (long || false) ≡ true → long ≡ true
      long_by true is = refl
      long_by false is = is

-- the reader after a record, field by field
pub given_is : (reader : Reader) (line rest : List ℕ) → Opens reader.held line rest → (arrival : Arrival) (held : List ℕ) (number : ℕ) → held ≡ rest → number ≡ next_number reader.number →
    (let new : Reader = record reader { held = held; number = number; last = Some arrival.time } in new) ≡ given reader arrival
given_is reader line rest cut arrival held number is next =
    ap (λ h. let new : Reader = record reader { held = h; number = number; last = Some arrival.time } in new) (is ∙ sym (rest_is reader line rest cut))
    ∙ ap (λ n. let new : Reader = record reader { held = behind_line reader.held; number = n; last = Some arrival.time } in new) next

module _ (ports : List Field) (types : Types) (reader old : Reader) (is_old : reader ≡ old) (lawful : old.offence ≡ None) (has : has_line old ≡ true) (line rest : List ℕ) (cut : Opens reader.held line rest) where
  inside_lawful : reader.offence ≡ None
  inside_lawful = ap (λ r. r.offence) is_old ∙ lawful

  inside_has : has_line reader ≡ true
  inside_has = ap has_line is_old ∙ has

  -- what a call says that gives a record
  pub gives_one : (new : Reader) (arrival : Arrival) (left : List ℕ) → new ≡ given reader arrival → held_record ports types reader line ≡ Ok arrival →
      records ports types old (to_come old left) ≡ one arrival (records ports types new (to_come new left))
  gives_one new arrival left is_new is =
      ap (λ r. records ports types r (to_come r left)) (sym is_old)
      ∙ records-one ports types reader inside_lawful inside_has line rest cut arrival left is
      ∙ ap (λ r. one arrival (records ports types r (to_come r left))) (sym is_new)

  pub gives_taken : (new : Reader) (arrival : Arrival) (left : List ℕ) → new ≡ given reader arrival → held_record ports types reader line ≡ Ok arrival →
      to_come new left ≡ behind_line (to_come old left)
  gives_taken new arrival left is_new is =
      ap (λ r. to_come r left) is_new ∙ taken ports types reader inside_lawful inside_has line rest cut arrival left is
      ∙ ap (λ r. behind_line (to_come r left)) is_old

  pub gives_line : (new : Reader) (arrival : Arrival) → new ≡ given reader arrival → held_record ports types reader line ≡ Ok arrival → old.ended ≡ false →
      IsLineOf old.held new.held
  gives_line new arrival is_new is unended =
      subst (λ r. IsLineOf r.held new.held) is_old
      (subst (λ rest. IsLineOf reader.held rest) (sym (rest_is reader line rest cut) ∙ ap (λ r. r.held) (sym is_new))
      (line-given ports types reader inside_lawful inside_has line rest cut arrival is (ap (λ r. r.ended) is_old ∙ unended)))

  -- what a call says that answers an offence
  pub gives_bad : (offence : InputEnd) (left : List ℕ) → held_record ports types reader line ≡ Err offence → Tells (records ports types old (to_come old left)) (bad offence) (Err offence)
  gives_bad offence left is =
      Tells-bad (records ports types old (to_come old left)) (bad offence) offence
      (line_record-offence ports types (next_number reader.number) (max (unwrap_or reader.last 0) reader.floor) line offence is)
      (ap (λ r. records ports types r (to_come r left)) (sym is_old) ∙ records-bad ports types reader inside_lawful inside_has line rest cut offence left is)
      refl
