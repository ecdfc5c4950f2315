-- Words of a line.
use Rattle.std.proofs.Common.{◌≡◌, ◌≢◌, ℕ, ◌+◌, ◌-◌, ◌<◌, ◌^◌, ◌==◌, true, false, List, [], ◌∷◌, ◌++◌, length, take, drop, sym, ◌∙◌, ap, arith, decimal}
use Rattle.std.specs.Prelude.{Some, None}
use Rattle.std.specs.List.{position}
use Rattle.std.specs.Str.{bytes_eq}
use Rattle.std.specs.Str.Parse.{AllDigits}
use Rattle.std.proofs.lemmas.List.{take_rest}
use Rattle.std.proofs.lemmas.Fmt.{decimal_injective, decimal_is_IsNumeral}
use Rattle.std.proofs.lemmas.Slice.Eq.{bytes_eq-Decides}
use Rattle.std.proofs.lemmas.Str.Parse.{digit_from_value}
use Rattle.std.proofs.Math.Seq.{take-append_seam}
use Rattle.dsde_values.proofs.Fronts.{front_taken}
use Rattle.dsde_input_records.specs.Lines.{Lacks}
use Rattle.dsde_input_parser.specs.lemmas.Cuts.{cut_from_position, no_cut, same_cut}
use Rattle.dsde_trace_words.specs.Words.{Inverts, IsCount, IsPlace, IsSmall, place_text}

-- a text that is cut at the first such byte
pub cut_at : (byte : ℕ) (text : List ℕ) (place : ℕ) → position (λ other. other == byte) text ≡ Some place →
    (text ≡ take place text ++ byte ∷ take (length text - (place + 1)) (drop (place + 1) text)) × Lacks byte (take place text)
cut_at byte text place found =
    let cut = cut_from_position byte text place found in
    (cut.whole ∙ ap (λ rest. take place text ++ byte ∷ rest) (sym (take_rest text (place + 1))), cut.first)

-- a text that stands at the front
pub behind-some : (text front rest : List ℕ) → bytes_eq (take (length front) text) front ≡ true → rest ≡ drop (length front) text → text ≡ front ++ rest
behind-some text front rest same is = front_taken front text rest same is

pub behind-none : (text front : List ℕ) → bytes_eq (take (length front) text) front ≡ false → (rest : List ℕ) → text ≢ front ++ rest
behind-none text front other rest same =
    let here : take (length front) text ≡ front = ap (take (length front)) same ∙ take-append_seam front rest in
    let is : bytes_eq (take (length front) text) front ≡ true = (bytes_eq-Decides (take (length front) text) front).1 here in
    let two = sym other ∙ is in cc two

-- the number that a text is
pub number-is : (text : List ℕ) (number : ℕ) → text ≡ decimal number → IsCount number → Inverts IsCount decimal text (Some number)
number-is text number same fits = record { is = (fits, same); only = λ other is spelled. ap Some (decimal_injective number other fits is (sym same ∙ spelled)) }

-- and one of 32 bits
pub small-is : (text : List ℕ) (number : ℕ) → Inverts IsCount decimal text (Some number) → IsSmall number → Inverts IsSmall decimal text (Some number)
small-is text number inverts small = record { is = (small, inverts.is.1); only = λ other is spelled. inverts.only other (omega (arith, is)) spelled }

pub small-more : (text : List ℕ) (number : ℕ) → Inverts IsCount decimal text (Some number) → 4294967295 < number → Inverts IsSmall decimal text None
small-more text number inverts more = record {
  is = tt;
  only = λ other is spelled. let same : Some number ≡ Some other = inverts.only other (omega (arith, is)) spelled in let one : number ≡ other = cc same in absurd (omega (arith, one, is, more));
}

pub small-none : (text : List ℕ) → Inverts IsCount decimal text None → Inverts IsSmall decimal text None
small-none text inverts = record { is = tt; only = λ other is spelled. inverts.only other (omega (arith, is)) spelled }

Lacks-digits : (digits : List ℕ) → AllDigits 10 digits → Lacks 58 digits
Lacks-digits [] all = tt
Lacks-digits (digit ∷ digits) all =
    let here = digit_from_value digit all.0 in ((λ same. omega arith), Lacks-digits digits all.1)

-- A decimal has no colon.
Lacks-decimal : (number : ℕ) → number < 2 ^ 32 → Lacks 58 (decimal number)
Lacks-decimal number fits = Lacks-digits (decimal number) (decimal_is_IsNumeral number (omega (arith, fits))).0.1

-- A place is read, or is none.
pub place-uncut : (text : List ℕ) → Lacks 58 text → Inverts IsPlace place_text text None
place-uncut text lacks = record { is = tt; only = λ one is spelled. absurd (no_cut 58 text (decimal one.0) (decimal one.1) lacks spelled) }

module _ (text line column : List ℕ) (cut : text ≡ line ++ 58 ∷ column) (lacks : Lacks 58 line) where
  parts : (one : ℕ × ℕ) → IsPlace one → text ≡ place_text one → (line ≡ decimal one.0) × (column ≡ decimal one.1)
  parts one is spelled = same_cut 58 line column (decimal one.0) (decimal one.1) (sym cut ∙ spelled) lacks (Lacks-decimal one.0 is.0)

  pub place-no_line : Inverts IsSmall decimal line None → Inverts IsPlace place_text text None
  place-no_line inverts = record { is = tt; only = λ one is spelled. let none : None ≡ Some one.0 = inverts.only one.0 is.0 (parts one is spelled).0 in absurd (cc none) }

  pub place-no_column : Inverts IsSmall decimal column None → Inverts IsPlace place_text text None
  place-no_column inverts = record { is = tt; only = λ one is spelled. let none : None ≡ Some one.1 = inverts.only one.1 is.1 (parts one is spelled).1 in absurd (cc none) }

  pub place-is : (first second : ℕ) → Inverts IsSmall decimal line (Some first) → Inverts IsSmall decimal column (Some second) → Inverts IsPlace place_text text (Some (first, second))
  place-is first second one other = record {
    is = ((one.is.0, other.is.0), cut ∙ ap (λ front. front ++ 58 ∷ column) one.is.1 ∙ ap (λ rest. decimal first ++ 58 ∷ rest) other.is.1);
    only = λ place is spelled.
        let same = parts place is spelled in
        let lines : Some first ≡ Some place.0 = one.only place.0 is.0 same.0 in
        let columns : Some second ≡ Some place.1 = other.only place.1 is.1 same.1 in
        let a : first ≡ place.0 = cc lines in
        let b : second ≡ place.1 = cc columns in
        ap (λ n. Some (n, second)) a ∙ ap (λ n. Some (place.0, n)) b;
  }
