-- Records with a floor, and the records behind some of them.
use Rattle.std.proofs.Common.{◌≡◌, ℕ, zero, suc, ◌≤◌, max, Bool, true, false, List, [], ◌∷◌, length, Option, Some, None, refl, sym, ap, subst, ◌∙◌, arith}
use Rattle.std.specs.Prelude.{if◌then◌else◌, nat_lt, unwrap_or, Result, Ok, Err}
use Rattle.std.proofs.lemmas.Bool.{ltb-false, le-ltb}
use Rattle.dsde_values.specs.declared.arrival.Arrival.{Arrival}
use Rattle.dsde_values.specs.declared.types.Field.{Field}
use Rattle.dsde_values.specs.declared.types.Types.{Types}
use Rattle.dsde_input_records.specs.declared.end.InputEnd.{InputEnd}
use Rattle.dsde_input_records.specs.declared.end.InputEnd.TheVariants.{Backwards, LineTooLong}
use Rattle.dsde_input_records.specs.Lines.{without_last}
use Rattle.dsde_input_records.specs.Record.{record_of}
use Rattle.dsde_input_records.specs.Records.{Records, end, one, next_number, judged, line_record, before, records_of}
use Rattle.dsde_input.specs.Skipped.{Unskipped, records_from, skipped}

abbrev Line : Type 0
Line = Result Arrival InputEnd

ok-is : (x y : Arrival) → (let own : Line = Ok x in own ≡ Ok y) → x ≡ y
ok-is x y is = cc

module _ (ports : List Field) (types : Types) where
  -- A line's record is none before the least time, and is the same where that time is another which it is not before.
  record Lasts (number least : ℕ) (line : List ℕ) (arrival : Arrival) : Type 0 where
    late : least ≤ arrival.time
    again : (other : ℕ) → other ≤ arrival.time → line_record ports types number other line ≡ Ok arrival

  lasts-judged : (number least : ℕ) (found : Option Arrival) (arrival : Arrival) → judged number least found ≡ Ok arrival →
      (least ≤ arrival.time) × ((other : ℕ) → other ≤ arrival.time → judged number other found ≡ Ok arrival)
  lasts-judged number least None arrival is = absurd (cc is)
  lasts-judged number least (Some own) arrival is = by-test (nat_lt own.time least) refl is
    where
      by-test : (early : Bool) → nat_lt own.time least ≡ early → (let line : Line = if early then Err (Backwards number) else Ok own in line ≡ Ok arrival) →
          (least ≤ arrival.time) × ((other : ℕ) → other ≤ arrival.time → judged number other (Some own) ≡ Ok arrival)
      by-test true early is = absurd (cc is)
      by-test false early is =
          let same = ok-is own arrival is in (
            subst (λ (own : Arrival). least ≤ own.time) same (ltb-false own.time least early),
            λ other within. subst (λ (one : Arrival). judged number other (Some own) ≡ Ok one) same
                (let late : other ≤ own.time = subst (λ (one : Arrival). other ≤ one.time) (sym same) within in rw (le-ltb own.time other late) refl),
          )

  lasts : (number least : ℕ) (line : List ℕ) (arrival : Arrival) → line_record ports types number least line ≡ Ok arrival → Lasts number least line arrival
  lasts number least line arrival is = by-length (nat_lt 65536 (length line)) refl is
    where
      by-length : (long : Bool) → nat_lt 65536 (length line) ≡ long → (let line : Line = if long then Err (LineTooLong number) else judged number least (record_of ports types number (without_last 13 line)) in line ≡ Ok arrival) →
          Lasts number least line arrival
      by-length true long is = absurd (cc is)
      by-length false long is =
          let own = lasts-judged number least (record_of ports types number (without_last 13 line)) arrival is in
          record { late = own.0; again = λ other within. rw long (own.1 other within) }

  -- Behind a record, a floor before its time changes nothing.
  pub unfloored : (all : List (List ℕ)) (number floor time : ℕ) → floor ≤ time → records_of ports types floor all number (Some time) ≡ records_of ports types 0 all number (Some time)
  unfloored [] number floor time within = refl
  unfloored (line ∷ all) number floor time within =
      let least : max time floor ≡ max time 0 = omega arith in
      ap (λ (own : ℕ). before (line_record ports types (next_number number) own line) (λ arrival. records_of ports types floor all (next_number number) (Some arrival.time))) least
      ∙ behind (line_record ports types (next_number number) (max time 0) line) refl (λ at late. unfloored all (next_number number) floor at late)
    where
      behind : (found : Line) → line_record ports types (next_number number) (max time 0) line ≡ found →
          ((at : ℕ) → floor ≤ at → records_of ports types floor all (next_number number) (Some at) ≡ records_of ports types 0 all (next_number number) (Some at)) →
          before found (λ arrival. records_of ports types floor all (next_number number) (Some arrival.time)) ≡ before found (λ arrival. records_of ports types 0 all (next_number number) (Some arrival.time))
      behind (Ok arrival) is later = ap (one arrival) (later arrival.time (omega (arith, within, (lasts (next_number number) (max time 0) line arrival is).late)))
      behind (Err why) is later = refl

  -- Where a line stands there is a record or an offence.
  pub no-end : (found : Line) (behind : Arrival → Records) → end ≡ before found behind → ⊥
  no-end (Ok arrival) behind is = absurd (cc is)
  no-end (Err why) behind is = absurd (cc is)

  -- A record that is there is the first line's, and the others are behind it.
  pub record Opened (all : List (List ℕ)) (number : ℕ) (last : Option ℕ) (head : Arrival) (later : Records) : Type 0 where
    pub line : List ℕ
    pub rest : List (List ℕ)
    pub is : all ≡ line ∷ rest
    pub reads : (other : ℕ) → other ≤ head.time → line_record ports types (next_number number) other line ≡ Ok head
    pub late : unwrap_or last 0 ≤ head.time
    pub behind : later ≡ records_of ports types 0 rest (next_number number) (Some head.time)

  one-is : (a b : Arrival) (x y : Records) → (let own : Records = one a x in own ≡ one b y) → (a ≡ b) × (x ≡ y)
  one-is a b x y is = (cc, cc)

  pub opened : (all : List (List ℕ)) (number : ℕ) (last : Option ℕ) (head : Arrival) (later : Records) → records_of ports types 0 all number last ≡ one head later → Opened all number last head later
  opened [] number last head later is = absurd (cc is)
  opened (line ∷ all) number last head later is = by-line (line_record ports types (next_number number) (max (unwrap_or last 0) 0) line) refl is
    where
      by-line : (found : Line) → line_record ports types (next_number number) (max (unwrap_or last 0) 0) line ≡ found →
          before found (λ arrival. records_of ports types 0 all (next_number number) (Some arrival.time)) ≡ one head later → Opened (line ∷ all) number last head later
      by-line (Err why) at is = absurd (cc is)
      by-line (Ok arrival) at is =
          let same = one-is arrival head _ later is in
          let own = lasts (next_number number) (max (unwrap_or last 0) 0) line arrival at in
          subst (λ (head : Arrival). Opened (line ∷ all) number last head later) same.0 (record {
            line = line;
            rest = all;
            is = refl;
            reads = own.again;
            late = omega (arith, own.late);
            behind = sym same.1;
          })

  -- Records from a line on, with a floor that the first of them is not before, are those without it.
  pub floored : (all : List (List ℕ)) (number : ℕ) (last : Option ℕ) (head : Arrival) (later : Records) (floor : ℕ) → floor ≤ head.time →
      records_of ports types 0 all number last ≡ one head later → records_of ports types floor all number last ≡ one head later
  floored all number last head later floor within is =
      let own = opened all number last head later is in
      ap (λ (lines : List (List ℕ)). records_of ports types floor lines number last) own.is
      ∙ ap (λ (found : Line). before found (λ arrival. records_of ports types floor own.rest (next_number number) (Some arrival.time))) (own.reads (max (unwrap_or last 0) floor) (omega (arith, within, own.late)))
      ∙ ap (one head) (unfloored own.rest (next_number number) floor head.time within ∙ sym own.behind)

  -- where the lines stand behind the first records, of which there are so many: lines, number, time of the last
  abbrev pub passed : ℕ → List (List ℕ) → ℕ → Option ℕ → Option (List (List ℕ) × ℕ × Option ℕ)
  passed zero all number last = Some (all, number, last)
  passed (suc count) [] number last = None
  passed (suc count) (line ∷ all) number last = elim (line_record ports types (next_number number) (max (unwrap_or last 0) 0) line) [
    | Ok arrival ↦ passed count all (next_number number) (Some arrival.time)
    | Err why ↦ None
  ]

  abbrev Spot : Type 0
  Spot = List (List ℕ) × ℕ × Option ℕ

  some-is : (x y : Spot) → (let own : Option Spot = Some x in own ≡ Some y) → x ≡ y
  some-is x y is = cc

  abbrev pub records_at : ℕ → Spot → Records
  records_at floor spot = records_of ports types floor spot.0 spot.1 spot.2

  -- Skipping what was passed leaves the records from there on, whatever the floor.
  pub passed-skipped : (count : ℕ) (all : List (List ℕ)) (number : ℕ) (last : Option ℕ) (spot : Spot) (floor : ℕ) → passed count all number last ≡ Some spot →
      skipped count (records_from ports types count floor all number last) ≡ Ok (records_at floor spot)
  passed-skipped zero all number last spot floor is = ap (λ (own : Spot). let left : Result Records Unskipped = Ok (records_at floor own) in left) (some-is (all, number, last) spot is)
  passed-skipped (suc count) [] number last spot floor is = absurd (cc is)
  passed-skipped (suc count) (line ∷ all) number last spot floor is = by-line (line_record ports types (next_number number) (max (unwrap_or last 0) 0) line) (λ time. passed-skipped count all (next_number number) (Some time) spot floor) is
    where
      by-line : (found : Line) → ((time : ℕ) → passed count all (next_number number) (Some time) ≡ Some spot → skipped count (records_from ports types count floor all (next_number number) (Some time)) ≡ Ok (records_at floor spot)) →
          (let own : Option Spot = elim found [ Ok arrival ↦ passed count all (next_number number) (Some arrival.time) | Err why ↦ None ] in own ≡ Some spot) →
          skipped (suc count) (before found (λ arrival. records_from ports types count floor all (next_number number) (Some arrival.time))) ≡ Ok (records_at floor spot)
      by-line (Ok arrival) later is = later arrival.time is
      by-line (Err why) later is = absurd (cc is)

  -- One more record is passed.
  pub passed-more : (count : ℕ) (all : List (List ℕ)) (number : ℕ) (last : Option ℕ) (lines rest : List (List ℕ)) (line : List ℕ) (from : ℕ) (before_it : Option ℕ) (head : Arrival) →
      passed count all number last ≡ Some (lines, from, before_it) → lines ≡ line ∷ rest → line_record ports types (next_number from) (max (unwrap_or before_it 0) 0) line ≡ Ok head →
      passed (suc count) all number last ≡ Some (rest, next_number from, Some head.time)
  passed-more zero all number last lines rest line from before_it head at is reads =
      let same = some-is (all, number, last) (lines, from, before_it) at in
      ap (λ (own : Spot). passed 1 own.0 own.1 own.2) same
      ∙ ap (λ (own : List (List ℕ)). passed 1 own from before_it) is
      ∙ ap (λ (found : Line). let own : Option Spot = elim found [ Ok arrival ↦ Some (rest, next_number from, Some arrival.time) | Err why ↦ None ] in own) reads
  passed-more (suc count) [] number last lines rest line from before_it head at is reads = absurd (cc at)
  passed-more (suc count) (first ∷ all) number last lines rest line from before_it head at is reads = by-line (line_record ports types (next_number number) (max (unwrap_or last 0) 0) first) (λ time at. passed-more count all (next_number number) (Some time) lines rest line from before_it head at is reads) at
    where
      by-line : (found : Line) → ((time : ℕ) → passed count all (next_number number) (Some time) ≡ Some (lines, from, before_it) → passed (suc count) all (next_number number) (Some time) ≡ Some (rest, next_number from, Some head.time)) → (let own : Option Spot = elim found [ Ok arrival ↦ passed count all (next_number number) (Some arrival.time) | Err why ↦ None ] in own ≡ Some (lines, from, before_it)) →
          (let own : Option Spot = elim found [ Ok arrival ↦ passed (suc count) all (next_number number) (Some arrival.time) | Err why ↦ None ] in own ≡ Some (rest, next_number from, Some head.time))
      by-line (Ok arrival) later at = later arrival.time at
      by-line (Err why) later at = absurd (cc at)
