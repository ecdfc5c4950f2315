-- The identifiers and the numbers among the tokens of a text are well formed.
use Rattle.std.proofs.Common.{◌≡◌, ℕ, zero, suc, ◌+◌, ◌-◌, ◌≤◌, Bool, true, false, ◌&&◌, not, cond, List, [], ◌∷◌, length, drop, Option, Some, None, Result, Ok, Err, refl, subst, arith}
use Rattle.std.specs.Prelude.{⊤, All, IfOk, IsTrue, take_while, nat_le, nat_lt, if◌then◌else◌, ◌==◌}
use Rattle.std.specs.Option.{option_map_or}
use Rattle.std.specs.List.{list_all}
use Rattle.std.specs.Char.{is_ascii_digit}
use Rattle.std.specs.Str.Parse.{digits_value}
use Rattle.std.proofs.lemmas.List.Elements.{All-cons}
use Rattle.std.proofs.lemmas.List.Sums.{take_while-cons, list_all-from_AllPass}
use Rattle.std.proofs.lemmas.Bool.Decides.{nat_tests}
use Rattle.dsde_syntax.specs.declared.token.Token.{Token}
use Rattle.dsde_syntax.specs.declared.token.Tok.TheVariants as tok
use Rattle.dsde_words.specs.declared.key.Key.{Key}
use Rattle.dsde_syntax.specs.declared.token.Sign.{Sign}
use Rattle.dsde_lexer.specs.declared.lexer.Front.{Front}
use Rattle.dsde_lexer.specs.declared.lexer.Front.TheVariants as front
use Rattle.dsde_lexer.specs.declared.lexer.LexError.{LexError}
use Rattle.dsde_words.specs.Words.{IsIdentifier, is_word_byte, begins_word, is_word, key_of}
use Rattle.dsde_syntax.specs.Spelling.{IsToken, HasToken, sign_of, sign_text}
use Rattle.dsde_lexer.specs.Tokens.{is_blank, is_in_comment, word_piece, number_piece, sign_piece, front_of, before, placed, tokens_from, tokens}

-- a fact of both arms of a choice
of_cond : {A : Type 0} (P : A → Type 0) (b : Bool) (x y : A) → (b ≡ true → P x) → (b ≡ false → P y) → P (cond b x y)
of_cond P true x y here there = here refl
of_cond P false x y here there = there refl

abbrev IsGood : Front → Type 0
IsGood (front.Token own) = IsToken own
IsGood front.Gap = ⊤
IsGood front.BadByte = ⊤
IsGood front.BadNumber = ⊤

Good : Front × ℕ → Type 0
Good piece = IsGood piece.0

All-take_while : (p : ℕ → Bool) (text : List ℕ) → All (λ byte. IsTrue (p byte)) (take_while p text)
All-take_while p [] = λ k d h. absurd (omega arith)
All-take_while p (byte ∷ bytes) =
    rw (take_while-cons p byte bytes) (of_cond (All (λ own. IsTrue (p own))) (p byte) (byte ∷ take_while p bytes) [] (λ h. All-cons (λ own. IsTrue (p own)) byte _ h (All-take_while p bytes)) (λ h k d less. absurd (omega arith)))

word_token-good : (word : List ℕ) (found : Option Key) → key_of word ≡ found → (key_of word ≡ None → IsIdentifier word) → IsToken (option_map_or tok.Key found (tok.Ident word))
word_token-good word None h own = own h
word_token-good word (Some key) h own = tt

and-left : (a b : Bool) → (a && b) ≡ true → a ≡ true
and-left true b h = refl
and-left false b h = h

nat_le-true : (a b : ℕ) → nat_le a b ≡ true → a ≤ b
nat_le-true a b h = grind (arith, nat_tests)

number_piece-good : (text : List ℕ) → Good (number_piece text)
unfolding Good
number_piece-good text =
    let digits = take_while is_ascii_digit text in
    let behind = drop (length digits) text in
    let value = digits_value 10 digits in
    of_cond IsGood (nat_le value 9223372036854775807 && not (begins_word behind)) (front.Token (tok.Int value)) front.BadNumber (λ h. nat_le-true value 9223372036854775807 (and-left _ (not (begins_word behind)) h)) (λ h. tt)

sign-good : (found : Option Sign) → Good (option_map_or (λ mark. (front.Token (tok.Sign mark), length (sign_text mark))) found (front.BadByte, 1))
unfolding Good
sign-good None = tt
sign-good (Some mark) = tt

-- a word's first byte is no digit, and each is a word's
word-parts : (digit all : Bool) → digit ≡ false → all ≡ true → (not digit && all) ≡ true
word-parts digit all first each = rw (first, each) refl

word_piece-good : (byte : ℕ) (bytes : List ℕ) → is_ascii_digit byte ≡ false → is_word_byte byte ≡ true → Good (word_piece (byte ∷ bytes))
unfolding Good
word_piece-good byte bytes digit h =
    let word = take_while is_word_byte (byte ∷ bytes) in
    let rest = take_while is_word_byte bytes in
    let is : word ≡ byte ∷ rest = rw (take_while-cons is_word_byte byte bytes, h) refl in
    let all : list_all is_word_byte word ≡ true = list_all-from_AllPass is_word_byte word (All-take_while is_word_byte (byte ∷ bytes)) in
    let own : is_word word ≡ true = rw is (word-parts (is_ascii_digit byte) (list_all is_word_byte (byte ∷ rest)) digit (rw is at all)) in
    word_token-good word (key_of word) refl (λ free. record { word = own; free = free })

front_of-good : (text : List ℕ) → Good (front_of text)
unfolding Good
front_of-good [] = tt
front_of-good (byte ∷ bytes) =
    let text = byte ∷ bytes in
    let gap : Front × ℕ = (front.Gap, length (take_while is_in_comment text)) in
    let mark = sign_piece text in
    let word = if is_word_byte byte then word_piece text else mark in
    let number = if is_ascii_digit byte then number_piece text else word in
    let comment = if byte == 35 then gap else number in
    of_cond Good (is_blank byte) (front.Gap, 1) comment (λ h. tt) (λ h1.
    of_cond Good (byte == 35) gap number (λ h. tt) (λ h2.
    of_cond Good (is_ascii_digit byte) (number_piece text) word (λ h. number_piece-good text) (λ digit.
    of_cond Good (is_word_byte byte) (word_piece text) mark (λ h. word_piece-good byte bytes digit h) (λ h. sign-good (sign_of text)))))

before-good : (token : Token) (behind : Result (List Token) LexError) → HasToken token → IfOk behind (All HasToken) → IfOk (before (token ∷ []) behind) (All HasToken)
before-good token (Ok list) good all = All-cons HasToken token list good all
before-good token (Err error) good all = tt

placed-good : (at size : ℕ) (piece : Front) (behind : Result (List Token) LexError) → IsGood piece → IfOk behind (All HasToken) → IfOk (placed at size piece behind) (All HasToken)
placed-good at size front.Gap behind good all = all
placed-good at size (front.Token own) behind good all = before-good _ behind good all
placed-good at size front.BadByte behind good all = tt
placed-good at size front.BadNumber behind good all = tt

tokens_from-good : (at inside : ℕ) (text : List ℕ) → IfOk (tokens_from at inside text) (All HasToken)
unfolding tokens_from Good
tokens_from-good at inside [] = λ k d h. absurd (omega arith)
tokens_from-good at (suc inside) (byte ∷ bytes) = tokens_from-good (at + 1) inside bytes
tokens_from-good at zero (byte ∷ bytes) =
    let piece = front_of (byte ∷ bytes) in
    placed-good at piece.1 piece.0 _ (front_of-good (byte ∷ bytes)) (tokens_from-good (at + 1) (piece.1 - 1) bytes)

-- each token of a text is well formed
pub tokens-good : (bytes : List ℕ) (cut : List Token) → tokens bytes ≡ Ok cut → All HasToken cut
tokens-good bytes cut h =
    let P : Result (List Token) LexError → Type 0 = λ answer. IfOk answer (All HasToken) in
    subst P h (of_cond P (nat_lt 1048576 (length bytes)) _ _ (λ long. tt) (λ short. tokens_from-good 0 0 bytes))
