-- What asking for the head of an input does, from what the reader says of it.
use Rattle.std.proofs.Common.{◌≡◌, ℕ, ◌+◌, Bool, true, false, List, [], ◌∷◌, ◌++◌, length, drop, refl, sym, ◌∙◌, ap, subst, arith, append_assoc}
use Rattle.std.specs.Prelude.{Option, Some, None, Result, Ok, Err, IfSome, IsSomeAnd}
use Rattle.std.proofs.lemmas.List.{append_cancel_right, take-append-drop}
use Rattle.dsde_values.specs.declared.arrival.Arrival.{Arrival}
use Rattle.dsde_values.specs.declared.types.Field.{Field}
use Rattle.dsde_values.specs.declared.types.Types.{Types}
use Rattle.dsde_input_records.specs.declared.end.InputEnd.{InputEnd}
use Rattle.dsde_input_records.specs.declared.end.InputEnd.TheVariants as input_end
use Rattle.dsde_input_records.specs.Records.{Records, bad}
use Rattle.dsde_input.specs.Reader.{Reader, to_come, records, has_line, IsOffence, Moves, TakesOfLine, TakesLine, SeesEnd}
use Rattle.dsde_input.specs.Reader as input
use Rattle.dsde_run.specs.declared.run.Head.TheVariants.{Over, Is}
use Rattle.dsde_language.specs.DeclaredModels.{top_ins, types_of}
use Rattle.dsde_run.specs.Run.{Running}
use Rattle.dsde_run.specs.Steps.{Asked, Refused, to_give}
use Rattle.dsde_run.specs.Reading.{Told, feeds}
use Rattle.dsde_run.proofs.Feeds.{feeds-append, feeds-lacks, feeds-none, line_parts, seen_line}

some_same : (first second : List ℕ) → Some first ≡ Some second → first ≡ second
some_same first second same = cc same

-- where the end is seen nothing is left
read_out_by : (ended : Bool) (old new : Reader) (before after : List ℕ) → old.ended ≡ ended → (has_line old ≡ true → Some after ≡ Some before) → SeesEnd old new (Some before) (Some after) →
    (old.ended ≡ true → before ≡ []) → new.ended ≡ true → after ≡ []
read_out_by false old new before after is idle sees empty over = sees is over
read_out_by true old new before after is idle sees empty over = some_same after before (idle (seen_line old is)) ∙ empty is

-- how many line feeds are taken with a line
line-counted : (old new : Reader) (before after : List ℕ) → (takes : TakesOfLine old before after) → (line : TakesLine old new before after) →
    feeds (old.held ++ (takes.of_line ++ takes.piece)) ≡ 1 + feeds new.held
line-counted old new before after takes line =
    let is : old.held ++ (takes.of_line ++ takes.piece) ≡ line.line.line ++ 10 ∷ new.held =
    append_cancel_right (old.held ++ (takes.of_line ++ takes.piece)) (line.line.line ++ 10 ∷ new.held) after
    (append_assoc old.held (takes.of_line ++ takes.piece) after ∙ ap (λ l. old.held ++ l) (sym takes.split) ∙ line.line.is ∙ sym (append_assoc line.line.line (10 ∷ new.held) after)) in
    ap feeds is ∙ feeds-append line.line.line (10 ∷ new.held) ∙ ap (λ n. n + (1 + feeds new.held)) (feeds-lacks line.line.line line.line.lacks) ∙ omega arith

-- A record came.
pub asked-one : (own : Running) (old new : Reader) (arrival : Arrival) (left rest : Option (List ℕ)) →
    IfSome left (λ before. IsSomeAnd rest (λ after. input.Tells (to_give own old before) (to_give own new after) (Ok (Some arrival)))) →
    IfSome left (λ before. IsSomeAnd rest (λ after. TakesOfLine old before after)) →
    (new.ended ≡ false → IfSome left (λ before. IsSomeAnd rest (λ after. TakesLine old new before after))) →
    (has_line old ≡ true → rest ≡ left) → SeesEnd old new left rest → Told left rest (Asked own old new (Is arrival))
asked-one own old new arrival None rest tells of_line line idle sees = tt
asked-one own old new arrival (Some before) None tells of_line line idle sees = absurd tells
asked-one own old new arrival (Some before) (Some after) tells of_line line idle sees = record {
  takes = of_line;
  is = λ same. absurd (cc same);
  first = tells;
  counted = λ other same unended. ((line unended).unended, line-counted old new before after of_line (line unended));
  over = λ same. absurd (cc same);
  read_out = read_out_by old.ended old new before after refl idle sees;
}

-- The input is at its end.
pub asked-over : (own : Running) (old new : Reader) (left rest : Option (List ℕ)) →
    IfSome left (λ before. IsSomeAnd rest (λ after. input.Tells (to_give own old before) (to_give own new after) (Ok None))) →
    IfSome left (λ before. IsSomeAnd rest (λ after. TakesOfLine old before after)) →
    new.ended ≡ true → (has_line old ≡ true → rest ≡ left) → SeesEnd old new left rest → Told left rest (Asked own old new Over)
asked-over own old new None rest tells of_line ended idle sees = tt
asked-over own old new (Some before) None tells of_line ended idle sees = absurd tells
asked-over own old new (Some before) (Some after) tells of_line ended idle sees = record {
  takes = of_line;
  is = λ same. absurd (cc same);
  first = tells.0 ∙ sym tells.1;
  counted = λ other same unended. absurd (cc same);
  over = λ same. (tells.1, ended);
  read_out = read_out_by old.ended old new before after refl idle sees;
}

-- an offence is the first of what is to come
told_bad : (why : InputEnd) (old new : Records) → IsOffence why → input.Tells old new (Err why) → old ≡ bad why
told_bad (input_end.BadLine line) old new is tells = tells.0
told_bad (input_end.Backwards line) old new is tells = tells.0
told_bad (input_end.LineTooLong line) old new is tells = tells.0
told_bad input_end.ReadFault old new is tells = absurd is
told_bad input_end.Memory old new is tells = absurd is

-- what was taken of a line that is not whole has no line feed
unread : (old new : Reader) (before after : List ℕ) → (takes : TakesOfLine old before after) → Moves old new (Some before) (Some after) → has_line new ≡ false →
    feeds (old.held ++ (takes.of_line ++ takes.piece)) ≡ 0
unread old new before after takes moves none =
    let piece : takes.of_line ++ takes.piece ≡ drop (length old.held) new.held =
    append_cancel_right (takes.of_line ++ takes.piece) (drop (length old.held) new.held) after (sym takes.split ∙ moves.taken) in
    let held : old.held ++ (takes.of_line ++ takes.piece) ≡ new.held =
    ap (λ l. old.held ++ l) piece ∙ ap (λ l. l ++ drop (length old.held) new.held) (sym moves.front) ∙ take-append-drop (length old.held) new.held in
    ap feeds held ∙ feeds-none new.held (line_parts new none).1

-- What asking answers where it is refused.
pub refused : (own : Running) (old new : Reader) (why : InputEnd) (left rest : Option (List ℕ)) →
    IfSome left (λ before. IsSomeAnd rest (λ after. input.Tells (to_give own old before) (to_give own new after) (Err why))) →
    IfSome left (λ before. IsSomeAnd rest (λ after. TakesOfLine old before after)) →
    (why ≡ input_end.ReadFault → Moves old new left rest) → (why ≡ input_end.ReadFault → (has_line old ≡ false) × (has_line new ≡ false)) →
    Told left rest (Refused own old why)
refused own old new why None rest tells of_line moves unread_line = tt
refused own old new why (Some before) None tells of_line moves unread_line = absurd of_line
refused own old new why (Some before) (Some after) tells of_line moves unread_line = record {
  takes = of_line;
  offence = λ is. told_bad why (to_give own old before) (to_give own new after) is tells;
  unread = λ is. ((line_parts old (unread_line is).0).0, unread old new before after of_line (moves is) (unread_line is).1);
}

-- The ports and the types are those of the model that runs.
pub of_model : (own : Running) (old new : Reader) (ports : List Field) (types : Types) (answer : Result (Option Arrival) InputEnd) (left rest : Option (List ℕ)) → ports ≡ (top_ins own.model) → types ≡ types_of own.model →
    IfSome left (λ before. IsSomeAnd rest (λ after. input.Tells (records ports types old (to_come old before)) (records ports types new (to_come new after)) answer)) →
    IfSome left (λ before. IsSomeAnd rest (λ after. input.Tells (to_give own old before) (to_give own new after) answer))
of_model own old new ports types answer left rest is_ports is_types tells =
    subst (λ (ports : List Field). IfSome left (λ before. IsSomeAnd rest (λ after. input.Tells (records ports (types_of own.model) old (to_come old before)) (records ports (types_of own.model) new (to_come new after)) answer))) is_ports
    (subst (λ (types : Types). IfSome left (λ before. IsSomeAnd rest (λ after. input.Tells (records ports types old (to_come old before)) (records ports types new (to_come new after)) answer))) is_types tells)
