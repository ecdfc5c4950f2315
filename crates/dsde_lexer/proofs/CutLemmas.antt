-- A text is cut, or offends at a byte, or is too long.
use Rattle.std.proofs.Common.{◌≡◌, ◌≢◌, ℕ, zero, suc, ◌+◌, ◌-◌, ◌<◌, Bool, true, false, nat_lt, List, [], ◌∷◌, length, Result, Ok, Err, refl, arith}
use Rattle.std.proofs.lemmas.Bool.Decides.{nat_tests}
use Rattle.dsde_syntax.specs.declared.token.Token.{Token}
use Rattle.dsde_lexer.specs.declared.lexer.Front.{Front}
use Rattle.dsde_lexer.specs.declared.lexer.Front.TheVariants as front
use Rattle.dsde_lexer.specs.declared.lexer.LexError.{LexError}
use Rattle.dsde_lexer.specs.declared.lexer.LexError.TheVariants as lex_error
use Rattle.dsde_lexer.specs.Tokens.{front_of, placed, tokens_from, tokens}

-- an error that stands at no byte
record OfNoByte (error : LexError) : Type 0 where
  byte : (offset : ℕ) → lex_error.BadByte offset ≢ error
  number : (offset : ℕ) → lex_error.BadNumber offset ≢ error

same_error : (error other : LexError) → ◌≡◌ {A = Result (List Token) LexError} (Err error) (Err other) → error ≡ other
same_error error other is = cc

-- no piece of a text is such an error
placed-never : (error : LexError) → OfNoByte error → (at size : ℕ) (piece : Front) (behind : Result (List Token) LexError) → behind ≢ Err error → placed at size piece behind ≢ Err error
placed-never error none at size front.Gap behind never is = never is
placed-never error none at size (front.Token tok) (Ok rest) never is = cc
placed-never error none at size (front.Token tok) (Err other) never is = never is
placed-never error none at size front.BadByte behind never is = none.byte at (same_error (lex_error.BadByte at) error is)
placed-never error none at size front.BadNumber behind never is = none.number at (same_error (lex_error.BadNumber at) error is)

tokens_from-never : (error : LexError) → OfNoByte error → (at inside : ℕ) (bytes : List ℕ) → tokens_from at inside bytes ≢ Err error
unfolding tokens_from
tokens_from-never error none at inside [] is = cc
tokens_from-never error none at (suc inside) (byte ∷ bytes) is = tokens_from-never error none (at + 1) inside bytes is
tokens_from-never error none at zero (byte ∷ bytes) is =
    let piece = front_of (byte ∷ bytes) in
    placed-never error none at piece.1 piece.0 (tokens_from (at + 1) (piece.1 - 1) bytes) (tokens_from-never error none (at + 1) (piece.1 - 1) bytes) is

long_by : (more : Bool) (bytes : List ℕ) → nat_lt 1048576 (length bytes) ≡ more → tokens bytes ≡ Err lex_error.TooLong → 1048576 < length bytes
long_by true bytes more is = grind (arith, nat_tests)
long_by false bytes more is =
    let whole : tokens_from 0 0 bytes ≡ Err lex_error.TooLong = rw more at is in
    absurd (tokens_from-never lex_error.TooLong (record { byte = λ offset same. cc; number = λ offset same. cc }) 0 0 bytes whole)

-- a text that is too long is
pub long : (bytes : List ℕ) → tokens bytes ≡ Err lex_error.TooLong → 1048576 < length bytes
long bytes is = long_by (nat_lt 1048576 (length bytes)) bytes refl is

no_memory_by : (more : Bool) (bytes : List ℕ) → nat_lt 1048576 (length bytes) ≡ more → tokens bytes ≢ Err lex_error.Memory
no_memory_by true bytes more is =
    let other : ◌≡◌ {A = Result (List Token) LexError} (Err lex_error.TooLong) (Err lex_error.Memory) = rw more at is in
    cc
no_memory_by false bytes more is =
    let whole : tokens_from 0 0 bytes ≡ Err lex_error.Memory = rw more at is in
    tokens_from-never lex_error.Memory (record { byte = λ offset same. cc; number = λ offset same. cc }) 0 0 bytes whole

pub no_memory : (bytes : List ℕ) → tokens bytes ≢ Err lex_error.Memory
no_memory bytes = no_memory_by (nat_lt 1048576 (length bytes)) bytes refl
