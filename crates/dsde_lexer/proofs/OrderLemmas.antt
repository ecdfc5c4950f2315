-- The tokens of a text stand one behind another within it.
use Rattle.std.proofs.Common.{◌≡◌, ℕ, zero, suc, ◌+◌, ◌-◌, ◌<◌, ◌≤◌, Bool, true, false, cond, List, [], ◌∷◌, length, Option, Some, None, Result, Ok, Err, refl, sym, subst, arith}
use Rattle.std.specs.Prelude.{IfOk, take_while, nat_lt, if◌then◌else◌, ◌==◌}
use Rattle.std.specs.Option.{option_map_or}
use Rattle.std.specs.Char.{is_ascii_digit}
use Rattle.std.proofs.lemmas.List.Sums.{take_while-cons}
use Rattle.std.proofs.lemmas.Bool.Decides.{Decides-eqb, nat_tests}
use Rattle.dsde_syntax.specs.declared.token.Token.{Token}
use Rattle.dsde_syntax.specs.declared.token.Tok.TheVariants as tok
use Rattle.dsde_syntax.specs.declared.token.Sign.{Sign}
use Rattle.dsde_words.specs.Words.{is_word_byte}
use Rattle.dsde_syntax.specs.Spelling.{sign_of, sign_text}
use Rattle.dsde_lexer.specs.declared.lexer.Front.{Front}
use Rattle.dsde_lexer.specs.declared.lexer.Front.TheVariants as front
use Rattle.dsde_lexer.specs.declared.lexer.LexError.{LexError}
use Rattle.dsde_lexer.specs.declared.lexer.LexError.TheVariants as lex_error
use Rattle.dsde_lexer.specs.Tokens.{is_blank, is_in_comment, word_piece, number_piece, sign_piece, front_of, placed, tokens_from, tokens, AreInOrder}
use Rattle.dsde_lexer.proofs.SignLemmas.{0-lt-sign_text, sign_of-within}

-- a fact of both arms of a choice
of_cond : {A : Type 0} (P : A → Type 0) (b : Bool) (x y : A) → (b ≡ true → P x) → (b ≡ false → P y) → P (cond b x y)
of_cond P true x y here there = here refl
of_cond P false x y here there = there refl

-- a piece takes at least one byte, and lies within the text
record Fits (text : List ℕ) (piece : Front × ℕ) : Type 0 where
  some : 0 < piece.1
  within : piece.1 ≤ length text

length-take_while-le : (p : ℕ → Bool) (text : List ℕ) → length (take_while p text) ≤ length text
length-take_while-le p [] = omega arith
length-take_while-le p (byte ∷ bytes) =
    let P : List ℕ → Type 0 = λ taken. length taken ≤ length (byte ∷ bytes) in
    rw (take_while-cons p byte bytes) (of_cond P (p byte) (byte ∷ take_while p bytes) [] (λ h. omega (arith, length-take_while-le p bytes)) (λ h. omega arith))

taken-Fits : (p : ℕ → Bool) (byte : ℕ) (bytes : List ℕ) (piece : Front) → p byte ≡ true → Fits (byte ∷ bytes) (piece, length (take_while p (byte ∷ bytes)))
taken-Fits p byte bytes piece h =
    let is : take_while p (byte ∷ bytes) ≡ byte ∷ take_while p bytes = rw (take_while-cons p byte bytes, h) refl in
    record { some = rw is (omega arith); within = length-take_while-le p (byte ∷ bytes) }

one-Fits : (byte : ℕ) (bytes : List ℕ) (piece : Front) → Fits (byte ∷ bytes) (piece, 1)
one-Fits byte bytes piece = record { some = omega arith; within = omega arith }

sign-Fits : (byte : ℕ) (bytes : List ℕ) (found : Option Sign) → found ≡ sign_of (byte ∷ bytes) → Fits (byte ∷ bytes) (option_map_or (λ mark. (front.Token (tok.Sign mark), length (sign_text mark))) found (front.BadByte, 1))
sign-Fits byte bytes None h = one-Fits byte bytes front.BadByte
sign-Fits byte bytes (Some mark) h =
    record { some = 0-lt-sign_text mark; within = sign_of-within (byte ∷ bytes) mark h }

hash_in_comment : (byte : ℕ) → (byte == 35) ≡ true → is_in_comment byte ≡ true
hash_in_comment byte h =
    let P : ℕ → Type 0 = λ own. is_in_comment own ≡ true in
    subst P (sym ((Decides-eqb byte 35).0 h)) refl

front_of-Fits : (byte : ℕ) (bytes : List ℕ) → Fits (byte ∷ bytes) (front_of (byte ∷ bytes))
front_of-Fits byte bytes =
    let text = byte ∷ bytes in
    let P : Front × ℕ → Type 0 = Fits text in
    let gap : Front × ℕ = (front.Gap, length (take_while is_in_comment text)) in
    let mark = sign_piece text in
    let word = if is_word_byte byte then word_piece text else mark in
    let number = if is_ascii_digit byte then number_piece text else word in
    let comment = if byte == 35 then gap else number in
    of_cond P (is_blank byte) (front.Gap, 1) comment (λ h. one-Fits byte bytes front.Gap) (λ h1.
    of_cond P (byte == 35) gap number (λ h. taken-Fits is_in_comment byte bytes front.Gap (hash_in_comment byte h)) (λ h2.
    of_cond P (is_ascii_digit byte) (number_piece text) word (λ h. taken-Fits is_ascii_digit byte bytes _ h) (λ h3.
    of_cond P (is_word_byte byte) (word_piece text) mark (λ h. taken-Fits is_word_byte byte bytes _ h) (λ h4.
    sign-Fits byte bytes (sign_of text) refl))))

pub AreInOrder-later : (at next end : ℕ) (list : List Token) → at ≤ next → AreInOrder next end list → AreInOrder at end list
AreInOrder-later at next end [] h all = omega (arith, all)
AreInOrder-later at next end (token ∷ list) h (begins, some, all) = (omega (arith, begins), some, all)

placed-in_order : (at size end : ℕ) (piece : Front) (behind : Result (List Token) LexError) → 0 < size → IfOk behind (AreInOrder (at + size) end) → IfOk (placed at size piece behind) (AreInOrder at end)
placed-in_order at size end front.Gap (Ok list) some all = AreInOrder-later at (at + size) end list (omega arith) all
placed-in_order at size end front.Gap (Err error) some all = tt
placed-in_order at size end (front.Token own) (Ok list) some all = (omega arith, omega arith, all)
placed-in_order at size end (front.Token own) (Err error) some all = tt
placed-in_order at size end front.BadByte behind some all = tt
placed-in_order at size end front.BadNumber behind some all = tt

tokens_from-in_order : (at inside : ℕ) (text : List ℕ) → inside ≤ length text → IfOk (tokens_from at inside text) (AreInOrder (at + inside) (at + length text))
unfolding tokens_from
tokens_from-in_order at inside [] h = omega arith
tokens_from-in_order at (suc inside) (byte ∷ bytes) h =
    let P : ℕ → ℕ → Type 0 = λ from end. IfOk (tokens_from (at + 1) inside bytes) (AreInOrder from end) in
    let from : at + 1 + inside ≡ at + suc inside = omega arith in
    let end : at + 1 + length bytes ≡ at + length (byte ∷ bytes) = omega arith in
    let own = tokens_from-in_order (at + 1) inside bytes (omega arith) in
    subst (λ (n : ℕ). P n (at + length (byte ∷ bytes))) from (subst (λ (n : ℕ). P (at + 1 + inside) n) end own)
tokens_from-in_order at zero (byte ∷ bytes) h =
    let piece = front_of (byte ∷ bytes) in
    let fits = front_of-Fits byte bytes in
    let behind = tokens_from (at + 1) (piece.1 - 1) bytes in
    let P : ℕ → ℕ → Type 0 = λ from end. IfOk behind (AreInOrder from end) in
    let from : at + 1 + (piece.1 - 1) ≡ at + piece.1 = omega (arith, fits.some) in
    let end : at + 1 + length bytes ≡ at + length (byte ∷ bytes) = omega arith in
    let own = tokens_from-in_order (at + 1) (piece.1 - 1) bytes (omega (arith, fits.some, fits.within)) in
    let all : P (at + piece.1) (at + length (byte ∷ bytes)) = subst (λ (n : ℕ). P n (at + length (byte ∷ bytes))) from (subst (λ (n : ℕ). P (at + 1 + (piece.1 - 1)) n) end own) in
    let Q : ℕ → Type 0 = λ from. IfOk (placed at piece.1 piece.0 behind) (AreInOrder from (at + length (byte ∷ bytes))) in
    let start : at ≡ at + 0 = omega arith in
    subst Q start (placed-in_order at piece.1 (at + length (byte ∷ bytes)) piece.0 behind fits.some all)

-- the tokens of a text stand one behind another within it
pub tokens-in_order : (bytes : List ℕ) (list : List Token) → tokens bytes ≡ Ok list → AreInOrder 0 (length bytes) list
tokens-in_order bytes list h =
    let P : Result (List Token) LexError → Type 0 = λ answer. IfOk answer (AreInOrder 0 (length bytes)) in
    let zero_first : 0 + length bytes ≡ length bytes = omega arith in
    let own : P (tokens_from 0 0 bytes) = subst (λ (n : ℕ). IfOk (tokens_from 0 0 bytes) (AreInOrder 0 n)) zero_first (tokens_from-in_order 0 0 bytes (omega arith)) in
    subst P h (of_cond P (nat_lt 1048576 (length bytes)) _ _ (λ long. tt) (λ short. own))

short_if : (long : Bool) (answer : Result (List Token) LexError) (list : List Token) → cond long (Err lex_error.TooLong) answer ≡ Ok list → long ≡ false
short_if true answer list h = cc
short_if false answer list h = refl

-- a text that has tokens is short enough
pub tokens-fit : (bytes : List ℕ) (list : List Token) → tokens bytes ≡ Ok list → length bytes ≤ 1048576
tokens-fit bytes list h =
    let short = short_if (nat_lt 1048576 (length bytes)) (tokens_from 0 0 bytes) list h in
    grind (arith, nat_tests)
