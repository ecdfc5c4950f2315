-- The tokens of a text.
use Rattle.std.specs.Prelude.{◌≤◌, ◌<◌, ℕ, zero, suc, ◌+◌, ◌-◌, Bool, ◌||◌, ◌&&◌, not, if◌then◌else◌, ◌==◌, nat_le, nat_lt, List, [], ◌∷◌, ◌++◌, length, drop, Result, Ok, Err, take_while}
use Rattle.std.specs.Option.{option_map_or}
use Rattle.std.specs.Str.Parse.{digits_value}
use Rattle.std.specs.Char.{is_ascii_digit}
use Rattle.dsde_syntax.specs.declared.token.Token.{Token}
use Rattle.dsde_syntax.specs.declared.token.Tok.{Tok}
use Rattle.dsde_syntax.specs.declared.token.Tok.TheVariants as tok
use Rattle.dsde_words.specs.Words.{key_of, is_word_byte, begins_word}
use Rattle.dsde_syntax.specs.Spelling.{sign_of, sign_text}
use Rattle.dsde_lexer.specs.declared.lexer.Front.{Front}
use Rattle.dsde_lexer.specs.declared.lexer.Front.TheVariants as front
use Rattle.dsde_lexer.specs.declared.lexer.LexError.{LexError}
use Rattle.dsde_lexer.specs.declared.lexer.LexError.TheVariants as lex_error

-- space, tab, carriage return and line feed separate tokens
abbrev pub is_blank : ℕ → Bool
is_blank byte = byte == 32 || byte == 9 || byte == 13 || byte == 10

-- a comment runs to the byte before a line feed
abbrev pub is_in_comment : ℕ → Bool
is_in_comment byte = not (byte == 10)

-- a word is a reserved one, or else an identifier
abbrev pub word_token : List ℕ → Tok
word_token word = option_map_or tok.Key (key_of word) (tok.Ident word)

-- digits are a number up to 2^63 - 1, where no letter and no `_` follows them
abbrev pub number_front : List ℕ → List ℕ → Front
number_front digits behind =
    if nat_le (digits_value 10 digits) 9223372036854775807 && not (begins_word behind)
    then front.Token (tok.Int (digits_value 10 digits))
    else front.BadNumber

-- the longest word at the front of a text
abbrev pub word_piece : List ℕ → Front × ℕ
word_piece text = let word = take_while is_word_byte text in (front.Token (word_token word), length word)

-- the longest number at the front of a text
abbrev pub number_piece : List ℕ → Front × ℕ
number_piece text =
    let digits = take_while is_ascii_digit text in (number_front digits (drop (length digits) text), length digits)

-- the longest sign at the front of a text
abbrev pub sign_piece : List ℕ → Front × ℕ
sign_piece text =
    option_map_or (λ mark. (front.Token (tok.Sign mark), length (sign_text mark))) (sign_of text) (front.BadByte, 1)

-- the one piece at the front of a text, and how many bytes it has
abbrev pub front_of : List ℕ → Front × ℕ
front_of [] = (front.Gap, 0)
front_of (byte ∷ bytes) =
    let text = byte ∷ bytes in
    if is_blank byte then (front.Gap, 1)
    else (if byte == 35 then (front.Gap, length (take_while is_in_comment text))
    else (if is_ascii_digit byte then number_piece text
    else (if is_word_byte byte then word_piece text
    else sign_piece text)))

-- tokens, and then those of the text behind them
abbrev pub before : List Token → Result (List Token) LexError → Result (List Token) LexError
before first (Ok behind) = Ok (first ++ behind)
before first (Err error) = Err error

-- a piece at an offset, and then the tokens of the text behind it
abbrev pub placed : ℕ → ℕ → Front → Result (List Token) LexError → Result (List Token) LexError
placed at size front.Gap behind = behind
placed at size (front.Token t) behind = before (record { tok = t; from = at; to = at + size } ∷ []) behind
placed at size front.BadByte behind = Err (lex_error.BadByte at)
placed at size front.BadNumber behind = Err (lex_error.BadNumber at)

-- the tokens of a text at an offset, whose first bytes, as many as `inside`, belong to the piece
-- before it: the text is cut from left to right, each piece whole
unfoldable pub tokens_from : ℕ → ℕ → List ℕ → Result (List Token) LexError
tokens_from at inside [] = Ok []
tokens_from at (suc inside) (byte ∷ bytes) = tokens_from (at + 1) inside bytes
tokens_from at zero (byte ∷ bytes) =
    let piece = front_of (byte ∷ bytes) in placed at piece.1 piece.0 (tokens_from (at + 1) (piece.1 - 1) bytes)

-- the tokens of a text, or the first offence against their rules
abbrev pub tokens : List ℕ → Result (List Token) LexError
tokens bytes = if nat_lt 1048576 (length bytes) then Err lex_error.TooLong else tokens_from 0 0 bytes

-- tokens that stand one behind another, each with a byte at least, between two offsets
abbrev pub AreInOrder : ℕ → ℕ → List Token → Type 0
AreInOrder at end [] = at ≤ end
AreInOrder at end (token ∷ tokens) = (at ≤ token.from) × (token.from < token.to) × AreInOrder token.to end tokens
