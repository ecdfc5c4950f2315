-- Numbers at the front of bytes: how far one goes, and that no other begins the same bytes.
use Rattle.std.proofs.Common.{◌==◌, zero-add, ◌≡◌, ℕ, suc, ◌+◌, ◌<◌, ℤ, pos, negsuc, Bool, true, false, ◌&&◌, cond, List, [], ◌∷◌, ◌++◌, length, take, drop, refl, sym, ◌∙◌, ap, arith, FitsSigned, decimal}
use Rattle.std.specs.Int.{w64}
use Rattle.std.specs.Fmt.{signed_decimal}
use Rattle.std.specs.Char.{digit_value}
use Rattle.std.specs.List.{prefix_len, take_while}
use Rattle.std.specs.Str.Parse.{AllDigits}
use Rattle.std.proofs.lemmas.Str.Parse.{digit_from_value}
use Rattle.std.proofs.lemmas.Fmt.{decimal_is_IsNumeral, signed_decimal_injective}
use Rattle.std.proofs.lemmas.List.Folds.{length-prefix_len}
use Rattle.std.proofs.lemmas.List.{take-append-drop, drop-drop}
use Rattle.std.proofs.Math.Seq.{take-append_seam}
use Rattle.std.proofs.Math.Numerals.{one-add}
use Rattle.std.proofs.lemmas.Bool.Decides.{nat_tests}
use Rattle.dsde_words.specs.Words.{is_word_byte, begins_word}
use Rattle.dsde_values.specs.Word.{ends_word, Begins}
use Rattle.dsde_values.specs.Value.{number_size}

-- a digit may stand in a word
pub is_word_byte-digit : (byte : ℕ) → digit_value byte < 10 → is_word_byte byte ≡ true
is_word_byte-digit byte small = let here = digit_from_value byte small in grind (arith, nat_tests)

-- digits, and then no word
prefix_len-digits : (digits rest : List ℕ) → AllDigits 10 digits → begins_word rest ≡ false → prefix_len is_word_byte (digits ++ rest) ≡ length digits
prefix_len-digits [] [] all none = refl
prefix_len-digits [] (byte ∷ rest) all none = rw none refl
prefix_len-digits (digit ∷ digits) rest all none =
    rw (is_word_byte-digit digit all.0, prefix_len-digits digits rest all.1 none) (omega arith)

-- digits end in a digit
ends_word-digits : (digits : List ℕ) → 0 < length digits → AllDigits 10 digits → ends_word digits ≡ true
ends_word-digits [] some all = absurd (omega arith)
ends_word-digits (digit ∷ []) some all = is_word_byte-digit digit all.0
ends_word-digits (digit ∷ next ∷ digits) some all = ends_word-digits (next ∷ digits) (omega arith) all.1

-- a word, and what follows it
word_length : (digits rest : List ℕ) → AllDigits 10 digits → begins_word rest ≡ false → length (take_while is_word_byte (digits ++ rest)) ≡ length digits
word_length digits rest all none =
    length-prefix_len is_word_byte (digits ++ rest) ∙ prefix_len-digits digits rest all none

number_size-digits : (digits rest : List ℕ) → 0 < length digits → AllDigits 10 digits → begins_word rest ≡ false → number_size (digits ++ rest) ≡ length digits
number_size-digits [] rest some all none = absurd (omega arith)
number_size-digits (digit ∷ digits) rest some all none =
    let here = digit_from_value digit all.0 in
    let plain : (digit == 45) ≡ false = grind (arith, nat_tests) in
    rw plain (zero-add _ ∙ word_length (digit ∷ digits) rest all none)

-- how far a number goes
number_size-signed_decimal : (number : ℤ) (rest : List ℕ) → FitsSigned w64 number → begins_word rest ≡ false → number_size (signed_decimal number ++ rest) ≡ length (signed_decimal number)
number_size-signed_decimal (pos n) rest fits none =
    let digits = (decimal_is_IsNumeral n (omega (arith, fits.sfits))).0 in
    number_size-digits (decimal n) rest digits.0 digits.1 none
number_size-signed_decimal (negsuc n) rest fits none =
    let digits = (decimal_is_IsNumeral (suc n) (omega (arith, fits.sfits))).0 in
    omega (arith, word_length (decimal (suc n)) rest digits.1 none)

ends_word-behind : (byte : ℕ) (bytes : List ℕ) → 0 < length bytes → ends_word bytes ≡ true → ends_word (byte ∷ bytes) ≡ true
ends_word-behind byte [] some ends = absurd (omega arith)
ends_word-behind byte (next ∷ bytes) some ends = ends

-- A number ends in a digit.
ends_word-signed_decimal : (number : ℤ) → FitsSigned w64 number → ends_word (signed_decimal number) ≡ true
ends_word-signed_decimal (pos n) fits =
    let digits = (decimal_is_IsNumeral n (omega (arith, fits.sfits))).0 in
    ends_word-digits (decimal n) digits.0 digits.1
ends_word-signed_decimal (negsuc n) fits =
    let digits = (decimal_is_IsNumeral (suc n) (omega (arith, fits.sfits))).0 in
    ends_word-behind 45 (decimal (suc n)) digits.0 (ends_word-digits (decimal (suc n)) digits.0 digits.1)

-- the number that begins the bytes
pub take-number_size : (number : ℤ) (bytes : List ℕ) → FitsSigned w64 number → Begins (signed_decimal number) bytes → take (number_size bytes) bytes ≡ signed_decimal number
take-number_size number bytes fits begins =
    let none : begins_word begins.rest ≡ false = rw (ends_word-signed_decimal number fits) at begins.ends in
    rw (begins.front, number_size-signed_decimal number begins.rest fits none) (take-append_seam (signed_decimal number) begins.rest)

behind_byte : (here : Bool) (byte : ℕ) (bytes : List ℕ) → here ≡ is_word_byte byte → begins_word (drop (prefix_len is_word_byte bytes) bytes) ≡ false → begins_word (drop (cond here (1 + prefix_len is_word_byte bytes) 0) (byte ∷ bytes)) ≡ false
behind_byte true byte bytes is behind = rw one-add behind
behind_byte false byte bytes is behind = sym is

-- No word is behind the longest word.
pub begins_word-behind : (bytes : List ℕ) → begins_word (drop (prefix_len is_word_byte bytes) bytes) ≡ false
begins_word-behind [] = refl
begins_word-behind (byte ∷ bytes) = behind_byte (is_word_byte byte) byte bytes refl (begins_word-behind bytes)

-- No word is behind a number.
begins_word-number : (sign : ℕ) (bytes : List ℕ) → begins_word (drop (sign + length (take_while is_word_byte (drop sign bytes))) bytes) ≡ false
begins_word-number sign bytes =
    rw (length-prefix_len is_word_byte (drop sign bytes), ← drop-drop (prefix_len is_word_byte (drop sign bytes)) sign bytes)
    (begins_word-behind (drop sign bytes))

and_false : (one other : Bool) → other ≡ false → (one && other) ≡ false
and_false true other none = none
and_false false other none = refl

-- what stands there begins the bytes
pub Begins-number_size : (number : ℤ) (bytes : List ℕ) → take (number_size bytes) bytes ≡ signed_decimal number → Begins (signed_decimal number) bytes
Begins-number_size number bytes same = record {
  rest = drop (number_size bytes) bytes;
  front = sym (take-append-drop (number_size bytes) bytes) ∙ ap (λ text. text ++ drop (number_size bytes) bytes) same;
  ends = and_false (ends_word (signed_decimal number)) _ (begins_word-number _ bytes);
}

-- Only one number begins the bytes.
pub only_number : (number other : ℤ) (bytes : List ℕ) → FitsSigned w64 number → FitsSigned w64 other → Begins (signed_decimal number) bytes → take (number_size bytes) bytes ≡ signed_decimal other → number ≡ other
only_number number other bytes fits other_fits begins same =
    signed_decimal_injective number other fits.sfits other_fits.sfits (sym (take-number_size number bytes fits begins) ∙ same)
