-- Bytes that move from a source to a reader.
use Rattle.std.proofs.Common.{◌≡◌, ℕ, ◌+◌, Bool, false, List, [], ◌∷◌, ◌++◌, ◌≤◌, length, take, drop, refl, sym, ◌∙◌, ap, subst, arith, append_assoc, length-append}
use Rattle.std.specs.Prelude.{true, Option, Some, None, Result, Ok, Err, IfOk, IfSome, OnSome, IsSomeAnd, MatchOption}
use Rattle.std.proofs.Math.Seq.{take-length, drop-append_seam}
use Rattle.std.proofs.lemmas.List.{take-take, length-take, length-drop, take-append-drop, drop-append-le}
use Rattle.dsde_values.specs.declared.arrival.Arrival.{Arrival}
use Rattle.dsde_values.specs.declared.types.Field.{Field}
use Rattle.dsde_values.specs.declared.types.Types.{Types}
use Rattle.dsde_input_parser.specs.given.input_records.end_InputEnd.{InputEnd}
use Rattle.dsde_io.specs.Bytes as io
use Rattle.dsde_input.specs.Reader.{Reader, Moves, to_come, records, Tells, has_line, with_more, given, IsLineOf, TakesOfLine, TakesLine, SeesEnd}
use Rattle.dsde_input.proofs.Feeds.{drop_whole}

-- Nothing moved.
pub Moves-none : (reader : Reader) (left : Option (List ℕ)) → Moves reader reader left left
Moves-none reader None = record { others = refl; front = take-length reader.held; told = tt; taken = tt; unended = λ is. is }
Moves-none reader (Some bytes) = record {
  others = refl;
  front = take-length reader.held;
  told = refl;
  taken = sym (ap (λ none. none ++ bytes) (drop_whole reader.held));
  unended = λ is. is;
}

grown : (first second third : List ℕ) → take (length first) second ≡ first → take (length second) third ≡ second → take (length first) third ≡ first
grown first second third once more =
    sym (take-take (length first) (length second) third (omega (arith, ap length once, length-take (length first) second)))
    ∙ ap (take (length first)) more
    ∙ once

-- what is held more in the end is what was held more in between, and then the rest
more_held : (first second third : List ℕ) → take (length first) second ≡ first → take (length second) third ≡ second →
    drop (length first) third ≡ drop (length first) second ++ drop (length second) third
more_held first second third once more =
    ap (drop (length first)) (sym (ap (λ front. front ++ drop (length second) third) (sym more) ∙ take-append-drop (length second) third))
    ∙ drop-append-le (length first) second (drop (length second) third) (omega (arith, ap length once, length-take (length first) second))

-- Some bytes moved, and then more.
pub Moves-then : (old mid new : Reader) (left between rest : Option (List ℕ)) → Moves old mid left between → Moves mid new between rest → Moves old new left rest
Moves-then old mid new None between rest first second = record {
  others = second.others ∙ ap (λ r. let s : Reader = record r { held = new.held; ended = new.ended } in s) first.others;
  front = grown old.held mid.held new.held first.front second.front;
  told = tt;
  taken = tt;
  unended = λ is. first.unended (second.unended is);
}
Moves-then old mid new (Some before) None rest first second = absurd first.told
Moves-then old mid new (Some before) (Some between) None first second = absurd second.told
Moves-then old mid new (Some before) (Some between) (Some after) first second = record {
  others = second.others ∙ ap (λ r. let s : Reader = record r { held = new.held; ended = new.ended } in s) first.others;
  front = grown old.held mid.held new.held first.front second.front;
  told = second.told ∙ first.told;
  taken =
      first.taken
      ∙ ap (λ bytes. drop (length old.held) mid.held ++ bytes) second.taken
      ∙ sym (append_assoc (drop (length old.held) mid.held) (drop (length mid.held) new.held) after)
      ∙ ap (λ bytes. bytes ++ after) (sym (more_held old.held mid.held new.held first.front second.front));
  unended = λ is. first.unended (second.unended is);
}

-- what is held is what was held, and then what was taken
held_more : (old mid : Reader) (left rest : Option (List ℕ)) → Moves old mid left rest → old.held ++ drop (length old.held) mid.held ≡ mid.held
held_more old mid left rest moves =
    ap (λ front. front ++ drop (length old.held) mid.held) (sym moves.front) ∙ take-append-drop (length old.held) mid.held

held_left : (reader : Reader) (left : List ℕ) → reader.ended ≡ false → to_come reader left ≡ reader.held ++ left
held_left reader left unended = rw unended refl

-- A piece was read.
pub Moves-piece : (old new : Reader) (left rest : Option (List ℕ)) → old.ended ≡ false → new ≡ (let r : Reader = record old { held = new.held } in r) → take (length old.held) new.held ≡ old.held →
    io.Takes left rest (drop (length old.held) new.held) → Moves old new left rest
Moves-piece old new None rest unended others front takes = record {
  others = others ∙ ap (λ ended. let r : Reader = record old { held = new.held; ended = ended } in r) (ap (λ r. r.ended) (sym others));
  front = front;
  told = tt;
  taken = tt;
  unended = λ is. unended;
}
Moves-piece old new (Some before) None unended others front takes = absurd takes
Moves-piece old new (Some before) (Some after) unended others front takes = record {
  others = others ∙ ap (λ ended. let r : Reader = record old { held = new.held; ended = ended } in r) (ap (λ r. r.ended) (sym others));
  front = front;
  told =
      held_left new after (ap (λ r. r.ended) others ∙ unended)
      ∙ ap (λ held. held ++ after) (sym (take-append-drop (length old.held) new.held) ∙ ap (λ l. l ++ drop (length old.held) new.held) front)
      ∙ append_assoc old.held (drop (length old.held) new.held) after
      ∙ ap (λ l. old.held ++ l) (sym takes)
      ∙ sym (held_left old before unended);
  taken = takes;
  unended = λ is. unended;
}

-- Nothing is taken of a line.
pub TakesOfLine-none : (reader : Reader) (left : Option (List ℕ)) → IfSome left (λ before. IsSomeAnd left (λ after. TakesOfLine reader before after))
TakesOfLine-none reader None = tt
TakesOfLine-none reader (Some bytes) = record { of_line = []; piece = []; split = refl; size = omega arith; wanted = λ some. absurd (some refl) }

-- what is not there yet
pub lacking : (ended : Bool) (reader : Reader) → reader.ended ≡ ended → has_line reader ≡ false → reader.ended ≡ false
lacking false reader is none = is
lacking true reader is none = absurd (let has : has_line reader ≡ true = rw is refl in cc)

-- A piece more is taken where the wanted line was not there.
pub TakesOfLine-piece : (old mid new : Reader) (left between rest : Option (List ℕ)) → Moves old mid left between → Moves mid new between rest → has_line mid ≡ false →
    length new.held ≤ length mid.held + 4096 → IfSome left (λ before. IsSomeAnd rest (λ after. TakesOfLine old before after))
TakesOfLine-piece old mid new None between rest first second none size = tt
TakesOfLine-piece old mid new (Some before) None rest first second none size = absurd first.told
TakesOfLine-piece old mid new (Some before) (Some between) None first second none size = absurd second.told
TakesOfLine-piece old mid new (Some before) (Some between) (Some after) first second none size =
    let open_mid : mid.ended ≡ false = lacking mid.ended mid refl none in
    let same : with_more old (drop (length old.held) mid.held) ≡ mid =
    ap (λ held. let r : Reader = record old { held = held } in r) (held_more old mid (Some before) (Some between) first)
    ∙ ap (λ ended. let r : Reader = record old { held = mid.held; ended = ended } in r) (first.unended open_mid ∙ sym open_mid)
    ∙ sym first.others in
    record {
      of_line = drop (length old.held) mid.held;
      piece = drop (length mid.held) new.held;
      split =
          first.taken ∙ ap (λ l. drop (length old.held) mid.held ++ l) second.taken
          ∙ sym (append_assoc (drop (length old.held) mid.held) (drop (length mid.held) new.held) after);
      size = omega (arith, size, length-drop (length mid.held) new.held);
      wanted = λ some. ap has_line same ∙ none;
    }

-- What moved ends its line, where a record is given and the input's end was not seen.
pub TakesLine-moved : (old mid new : Reader) (left rest : Option (List ℕ)) → Moves old mid left rest → IsLineOf mid.held new.held → mid.ended ≡ false →
    IfSome left (λ before. IsSomeAnd rest (λ after. TakesLine old new before after))
TakesLine-moved old mid new None rest moves line unended = tt
TakesLine-moved old mid new (Some before) None moves line unended = absurd moves.told
TakesLine-moved old mid new (Some before) (Some after) moves line unended = record {
  line = record {
    line = line.line;
    is =
        ap (λ l. old.held ++ l) moves.taken ∙ sym (append_assoc old.held (drop (length old.held) mid.held) after)
        ∙ ap (λ l. l ++ after) (held_more old mid (Some before) (Some after) moves ∙ line.is)
        ∙ append_assoc line.line (10 ∷ new.held) after;
    lacks = line.lacks;
  };
  unended = moves.unended unended;
}

-- The records to come stay the same, of the same bytes.
moved_records : (ports : List Field) (types : Types) (old new : Reader) (bytes : List ℕ) → new ≡ (let r : Reader = record old { held = new.held; ended = new.ended } in r) → records ports types new bytes ≡ records ports types old bytes
moved_records ports types old new bytes others = ap (λ r. records ports types r bytes) others

-- What an answer says of the records to come, where bytes moved before it.
pub Tells-moved : (ports : List Field) (types : Types) (old mid new : Reader) (left rest : Option (List ℕ)) (answer : Result (Option Arrival) InputEnd) → Moves old mid left rest →
    ((bytes : List ℕ) → Tells (records ports types mid (to_come mid bytes)) (records ports types new (to_come new bytes)) answer) →
    IfSome left (λ before. IsSomeAnd rest (λ after. Tells (records ports types old (to_come old before)) (records ports types new (to_come new after)) answer))
Tells-moved ports types old mid new None rest answer moves tells = tt
Tells-moved ports types old mid new (Some before) None answer moves tells = absurd moves.told
Tells-moved ports types old mid new (Some before) (Some after) answer moves tells =
    subst (λ first. Tells first (records ports types new (to_come new after)) answer)
    (moved_records ports types old mid (to_come mid after) moves.others ∙ ap (records ports types old) moves.told) (tells after)

-- What an answer says of the bytes taken, where it is a record.
pub line_answer : (old mid new : Reader) (left rest : Option (List ℕ)) (answer : Result (Option Arrival) InputEnd) → Moves old mid left rest →
    IfOk answer (λ found. MatchOption found ((new ≡ mid) × (mid.held ≡ []) × (mid.ended ≡ true)) (λ arrival. new ≡ given mid arrival)) →
    IfOk answer (λ found. OnSome found (mid.ended ≡ false → IsLineOf mid.held new.held)) →
    IfOk answer (λ found. OnSome found (new.ended ≡ false → IfSome left (λ before. IsSomeAnd rest (λ after. TakesLine old new before after))))
line_answer old mid new left rest (Ok (Some arrival)) moves is_given line = λ unended.
    let still : mid.ended ≡ false = sym (ap (λ r. r.ended) is_given) ∙ unended in TakesLine-moved old mid new left rest moves (line still) still
line_answer old mid new left rest (Ok None) moves is_given line = tt
line_answer old mid new left rest (Err end) moves is_given line = tt

nothing : (bytes : List ℕ) → length bytes ≡ 0 → bytes ≡ []
nothing [] size = refl
nothing (byte ∷ bytes) size = absurd (omega (arith, size))

held_at_end : (reader : Reader) (left : List ℕ) → reader.ended ≡ true → to_come reader left ≡ reader.held
held_at_end reader left ended = rw ended refl

-- Where the input's end was seen, all bytes moved.
Moves-end : (old mid : Reader) (left rest : Option (List ℕ)) → Moves old mid left rest → SeesEnd old mid left rest
Moves-end old mid None rest moves unended ended = tt
Moves-end old mid (Some before) None moves unended ended = absurd moves.told
Moves-end old mid (Some before) (Some after) moves unended ended =
    let all : mid.held ≡ old.held ++ before = sym (held_at_end mid after ended) ∙ moves.told ∙ held_left old before unended in
    let same : before ≡ before ++ after =
    moves.taken ∙ ap (λ held. drop (length old.held) held ++ after) all ∙ ap (λ bytes. bytes ++ after) (drop-append_seam old.held before) in
    nothing after (omega (arith, ap length same, length-append before after))

-- What an answer says of the input's end.
pub end_answer : (old mid new : Reader) (left rest : Option (List ℕ)) (answer : Result (Option Arrival) InputEnd) → Moves old mid left rest →
    IfOk answer (λ found. MatchOption found ((new ≡ mid) × (mid.held ≡ []) × (mid.ended ≡ true)) (λ arrival. new ≡ given mid arrival)) →
    IfOk answer (λ found. SeesEnd old new left rest)
end_answer old mid new left rest (Ok (Some arrival)) moves is_given = λ unended ended.
    Moves-end old mid left rest moves unended (sym (ap (λ r. r.ended) is_given) ∙ ended)
end_answer old mid new left rest (Ok None) moves is_given = λ unended ended. Moves-end old mid left rest moves unended is_given.2
end_answer old mid new left rest (Err end) moves is_given = tt
