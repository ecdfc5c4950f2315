-- A text has no more tokens than bytes.
use Rattle.std.proofs.Common.{◌≡◌, ℕ, zero, suc, ◌+◌, ◌-◌, ◌≤◌, Bool, true, false, nat_lt, List, [], ◌∷◌, length, Result, Ok, Err, refl, subst, arith}
use Rattle.std.proofs.lemmas.Bool.Decides.{nat_tests}
use Rattle.dsde_syntax.specs.declared.token.Token.{Token}
use Rattle.dsde_lexer.specs.declared.lexer.Front.{Front}
use Rattle.dsde_lexer.specs.declared.lexer.Front.TheVariants as front
use Rattle.dsde_lexer.specs.declared.lexer.LexError.{LexError}
use Rattle.dsde_lexer.specs.Tokens.{front_of, placed, tokens_from, tokens}

-- a piece of a text is one token at most
placed-size : (at size : ℕ) (piece : Front) (behind : Result (List Token) LexError) (cut : List Token) (most : ℕ) →
    ((rest : List Token) → behind ≡ Ok rest → length rest ≤ most) → placed at size piece behind ≡ Ok cut → length cut ≤ most + 1
placed-size at size front.Gap behind cut most few is = omega (arith, few cut is)
placed-size at size (front.Token tok) (Ok rest) cut most few is =
    let same : record { tok = tok; from = at; to = at + size } ∷ rest ≡ cut = cc is in subst (λ cut. length cut ≤ most + 1) same (omega (arith, few rest refl))
placed-size at size (front.Token tok) (Err error) cut most few is = absurd (cc is)
placed-size at size front.BadByte behind cut most few is = absurd (cc is)
placed-size at size front.BadNumber behind cut most few is = absurd (cc is)

tokens_from-size : (at inside : ℕ) (bytes : List ℕ) (cut : List Token) → tokens_from at inside bytes ≡ Ok cut → length cut ≤ length bytes
unfolding tokens_from
tokens_from-size at zero [] cut is = let same : [] ≡ cut = cc is in subst (λ cut. length cut ≤ 0) same (omega arith)
tokens_from-size at (suc inside) [] cut is = let same : [] ≡ cut = cc is in subst (λ cut. length cut ≤ 0) same (omega arith)
tokens_from-size at (suc inside) (byte ∷ bytes) cut is = omega (arith, tokens_from-size (at + 1) inside bytes cut is)
tokens_from-size at zero (byte ∷ bytes) cut is =
    let piece = front_of (byte ∷ bytes) in
    omega (
      arith,
      placed-size at piece.1 piece.0 (tokens_from (at + 1) (piece.1 - 1) bytes) cut (length bytes)
          (λ rest same. tokens_from-size (at + 1) (piece.1 - 1) bytes rest same) is,
    )

tokens-size_by : (long : Bool) (bytes : List ℕ) (cut : List Token) → nat_lt 1048576 (length bytes) ≡ long → tokens bytes ≡ Ok cut → length cut ≤ 1048576
tokens-size_by true bytes cut long is = absurd (let refused = rw long at is in cc refused)
tokens-size_by false bytes cut long is =
    let short : length bytes ≤ 1048576 = grind (arith, nat_tests) in
    omega (arith, short, tokens_from-size 0 0 bytes cut (rw long at is))

pub tokens-size : (bytes : List ℕ) (cut : List Token) → tokens bytes ≡ Ok cut → length cut ≤ 1048576
tokens-size bytes cut is = tokens-size_by (nat_lt 1048576 (length bytes)) bytes cut refl is
