-- A walk over a text from token to token.
use Rattle.std.proofs.Common.{◌≡◌, ℕ, suc, ◌+◌, ◌-◌, ◌<◌, ◌≤◌, Bool, true, false, List, [], ◌∷◌, ◌++◌, length, get_or, take, drop, Some, None, refl, sym, ap, subst, ◌∙◌, arith, add-one, drop-cons, length-append}
use Rattle.std.specs.Prelude.{slice_get, if◌then◌else◌}
use Rattle.std.proofs.lemmas.Option.{slice_get-get_or, slice_get_read, slice_get_past}
use Rattle.std.proofs.Math.ListN.{get_or-append}
use Rattle.std.proofs.Math.Seq.{get_or-append_seam}
use borrow.Author.Count.{below_more}
use Rattle.std.proofs.lemmas.List.{length-take-le}
use Rattle.std.proofs.lemmas.List.Sums.{count_by_more_yes, count_by_more_no, count_by-le-length, suffix_len-take_yes, suffix_len-take_no, suffix_len-le-length}
use Rattle.dsde_syntax.specs.declared.token.Token.{Token}
use Rattle.dsde_lexer.specs.declared.places.Spot.{Spot}
use Rattle.dsde_lexer.specs.Tokens.{AreInOrder}
use Rattle.dsde_lexer.specs.Lines.{ends_line, is_in_line, line_of, column_of, offset_of, place_of}
use Rattle.dsde_lexer.specs.Spots.{IsSpot, spot_behind}
use Rattle.dsde_lexer.proofs.OrderLemmas.{AreInOrder-later}

-- no line and no column is past the bytes before it
pub line_of-le : (bytes : List ℕ) (offset : ℕ) → offset ≤ length bytes → line_of bytes offset ≤ offset + 1
line_of-le bytes offset h =
    omega (arith, count_by-le-length ends_line (take offset bytes), length-take-le offset bytes h)

pub column_of-le : (bytes : List ℕ) (offset : ℕ) → offset ≤ length bytes → column_of bytes offset ≤ offset + 1
column_of-le bytes offset h =
    omega (arith, suffix_len-le-length is_in_line (take offset bytes), length-take-le offset bytes h)

-- behind a byte the line is the next one where the byte ends it
line_of-more : (bytes : List ℕ) (offset : ℕ) (ends : Bool) → offset < length bytes → ends_line (get_or bytes offset 0) ≡ ends → line_of bytes (offset + 1) ≡ (if ends then line_of bytes offset + 1 else line_of bytes offset)
line_of-more bytes offset true h is = omega (arith, count_by_more_yes ends_line bytes offset 0 h is)
line_of-more bytes offset false h is = omega (arith, count_by_more_no ends_line bytes offset 0 h is)

-- and the column is the first one there, or else the next one
column_of-more : (bytes : List ℕ) (offset : ℕ) (ends : Bool) → offset < length bytes → ends_line (get_or bytes offset 0) ≡ ends → column_of bytes (offset + 1) ≡ (if ends then 1 else column_of bytes offset + 1)
column_of-more bytes offset true h is =
    let less : offset + 1 - 1 ≡ offset = omega arith in
    let here : is_in_line (get_or bytes (offset + 1 - 1) 0) ≡ false = rw (less, is) refl in
    omega (arith, suffix_len-take_no is_in_line bytes (offset + 1) 0 (omega arith) (omega arith) here)
column_of-more bytes offset false h is =
    let less : offset + 1 - 1 ≡ offset = omega arith in
    let here : is_in_line (get_or bytes (offset + 1 - 1) 0) ≡ true = rw (less, is) refl in
    let more = suffix_len-take_yes is_in_line bytes (offset + 1) 0 (omega arith) (omega arith) here in
    let more' = rw less at more in
    omega (arith, more')

pub IsSpot-behind : {bytes : List ℕ} {spot : Spot} → IsSpot bytes spot → spot.offset < length bytes → IsSpot bytes (spot_behind spot (get_or bytes spot.offset 0))
IsSpot-behind {bytes} {spot} is h =
    let ends = ends_line (get_or bytes spot.offset 0) in
    record {
      short = is.short;
      within = omega (arith, h);
      line = rw is.line (sym (line_of-more bytes spot.offset ends h refl));
      column = rw is.column (sym (column_of-more bytes spot.offset ends h refl));
    }

pub IsSpot-room : {bytes : List ℕ} {spot : Spot} → IsSpot bytes spot → spot.offset < length bytes → (spot.line ≤ 1048576) × (spot.column ≤ 1048576)
IsSpot-room {bytes} {spot} is h =
    (omega (arith, is.line, is.short, is.within, line_of-le bytes spot.offset is.within), omega (arith, is.column, is.short, is.within, column_of-le bytes spot.offset is.within))

AreInOrder-le : (at end : ℕ) (list : List Token) → AreInOrder at end list → at ≤ end
AreInOrder-le at end [] all = all
AreInOrder-le at end (token ∷ list) (begins, some, all) = omega (arith, begins, some, AreInOrder-le token.to end list all)

-- the places of the tokens before an index are gathered, and the walk has not passed the next one
pub record HasPlaces (bytes : List ℕ) (tokens : List Token) (index : ℕ) (spot : Spot) (spots : List (ℕ × ℕ)) : Type 0 where
  pub here : IsSpot bytes spot
  pub many : length spots ≡ index
  pub inside : index ≤ length tokens
  pub each : (at : ℕ) → at < index → slice_get spots at ≡ Some (place_of bytes tokens at)
  pub rest : AreInOrder spot.offset (length bytes) (drop index tokens)

pub record NextToken (bytes : List ℕ) (spot : Spot) (from : ℕ) : Type 0 where
  pub later : spot.offset ≤ from
  pub within : from ≤ length bytes

pub HasPlaces-next : {bytes : List ℕ} {tokens : List Token} {index : ℕ} {spot : Spot} {spots : List (ℕ × ℕ)} → HasPlaces bytes tokens index spot spots → index < length tokens → (token : Token) → token ≡ get_or tokens index token → NextToken bytes spot token.from
HasPlaces-next {bytes} {tokens} {index} {spot} {spots} has h token is =
    let rest = rw (drop-cons tokens index token h, ← is) at has.rest in
    record { later = rest.0; within = omega (arith, rest.0, rest.1, AreInOrder-le token.to (length bytes) (drop (suc index) tokens) rest.2) }

slice_get-last : {A : Type 0} (xs : List A) (x : A) (at : ℕ) → at ≡ length xs → slice_get (xs ++ x ∷ []) at ≡ Some x
slice_get-last xs x at h =
    let P : ℕ → Type 0 = λ n. slice_get (xs ++ x ∷ []) n ≡ Some x in
    subst P (sym h) (slice_get-get_or (xs ++ x ∷ []) (length xs) x (omega (arith, length-append xs (x ∷ []))) ∙ ap Some (get_or-append_seam xs x [] x))

slice_get-before : {A : Type 0} (xs : List A) (x : A) (at : ℕ) → at < length xs → slice_get (xs ++ x ∷ []) at ≡ slice_get xs at
slice_get-before xs x at h =
    slice_get-get_or (xs ++ x ∷ []) at x (omega (arith, length-append xs (x ∷ [])))
    ∙ (ap Some (get_or-append xs (x ∷ []) x at h) ∙ sym (slice_get-get_or xs at x h))

-- the line and the column of a spot are those of the place that begins there
spot-place : {bytes : List ℕ} (tokens : List Token) {spot : Spot} (at : ℕ) → IsSpot bytes spot → spot.offset ≡ offset_of bytes tokens at → (spot.line, spot.column) ≡ place_of bytes tokens at
spot-place {bytes} tokens {spot} at is here = rw (is.line, is.column, here) refl

record Gathered (bytes : List ℕ) (tokens : List Token) (count : ℕ) (spots : List (ℕ × ℕ)) : Type 0 where
  many : length spots ≡ count
  each : (at : ℕ) → at < count → slice_get spots at ≡ Some (place_of bytes tokens at)

Gathered-more : {bytes : List ℕ} {tokens : List Token} {count : ℕ} {spots : List (ℕ × ℕ)} (spot : ℕ × ℕ) → Gathered bytes tokens count spots → spot ≡ place_of bytes tokens count → Gathered bytes tokens (count + 1) (spots ++ spot ∷ [])
Gathered-more {bytes} {tokens} {count} {spots} spot has is =
    let P : ℕ → Type 0 = λ at. slice_get (spots ++ spot ∷ []) at ≡ Some (place_of bytes tokens at) in
    record {
      many = omega (arith, length-append spots (spot ∷ []), has.many);
      each = below_more P count
          (λ at less. slice_get-before spots spot at (omega (arith, less, has.many)) ∙ has.each at less)
          (slice_get-last spots spot count (sym has.many) ∙ ap Some is);
    }

pub HasPlaces-more : {bytes : List ℕ} {tokens : List Token} {index : ℕ} {spot : Spot} {spots : List (ℕ × ℕ)} → HasPlaces bytes tokens index spot spots → index < length tokens → (token : Token) → token ≡ get_or tokens index token → (next : Spot) → IsSpot bytes next → next.offset ≡ token.from → HasPlaces bytes tokens (index + 1) next (spots ++ (next.line, next.column) ∷ [])
HasPlaces-more {bytes} {tokens} {index} {spot} {spots} has h token is next there offset =
    let found : slice_get tokens index ≡ Some token = slice_get_read tokens (length tokens) index token refl h is in
    let here : next.offset ≡ offset_of bytes tokens index = rw found offset in
    let rest = rw (drop-cons tokens index token h, ← is) at has.rest in
    let more = Gathered-more {bytes = bytes} {tokens = tokens} (next.line, next.column) (record { many = has.many; each = has.each }) (spot-place tokens index there here) in
    record {
      here = there;
      many = more.many;
      inside = omega (arith, h);
      each = more.each;
      rest = rw (offset, add-one) (AreInOrder-later token.from token.to (length bytes) (drop (suc index) tokens) (omega (arith, rest.1)) rest.2);
    }

-- what is gathered in the end
pub record AllPlaces (bytes : List ℕ) (tokens : List Token) (spots : List (ℕ × ℕ)) : Type 0 where
  pub many : length spots ≡ length tokens + 1
  pub each : (at : ℕ) → at ≤ length tokens → slice_get spots at ≡ Some (place_of bytes tokens at)

pub HasPlaces-all : {bytes : List ℕ} {tokens : List Token} {index : ℕ} {spot : Spot} {spots : List (ℕ × ℕ)} → HasPlaces bytes tokens index spot spots → length tokens ≤ index → (last : Spot) → IsSpot bytes last → last.offset ≡ length bytes → AllPlaces bytes tokens (spots ++ (last.line, last.column) ∷ [])
HasPlaces-all {bytes} {tokens} {index} {spot} {spots} has h last there offset =
    let count : index ≡ length tokens = omega (arith, h, has.inside) in
    let none : slice_get tokens index ≡ None = slice_get_past tokens index h in
    let here : last.offset ≡ offset_of bytes tokens index = rw none offset in
    let more = Gathered-more {bytes = bytes} {tokens = tokens} (last.line, last.column) (record { many = has.many; each = has.each }) (spot-place tokens index there here) in
    record {
      many = omega (arith, more.many, count);
      each = λ at le. more.each at (omega (arith, le, count));
    }

pub HasPlaces-none : (bytes : List ℕ) (tokens : List Token) (spot : Spot) → IsSpot bytes spot → AreInOrder spot.offset (length bytes) tokens → HasPlaces bytes tokens 0 spot []
HasPlaces-none bytes tokens spot is all =
    record { here = is; many = refl; inside = omega arith; each = λ at less. absurd (omega arith); rest = all }

-- before the first byte
pub IsSpot-start : (bytes : List ℕ) → length bytes ≤ 1048576 → IsSpot bytes (record { offset = 0; line = 1; column = 1 })
IsSpot-start bytes short = record { short = short; within = omega arith; line = refl; column = refl }
