-- A text is cut into pieces from left to right.
use Rattle.std.proofs.Common.{◌≡◌, ℕ, zero, suc, ◌+◌, ◌-◌, ◌<◌, ◌≤◌, List, [], ◌∷◌, ◌++◌, length, take, drop, Result, Ok, Err, refl, sym, ap, subst, ◌∙◌, arith, append_assoc, append-nil, add-zero, ltb, false, take_all, length-drop}
use Rattle.std.proofs.lemmas.List.{drop-drop}
use Rattle.std.proofs.lemmas.Bool.{le-ltb}
use Rattle.dsde_syntax.specs.declared.token.Token.{Token}
use Rattle.dsde_lexer.specs.declared.lexer.Front.{Front}
use Rattle.dsde_lexer.specs.declared.lexer.Front.TheVariants as front
use Rattle.dsde_lexer.specs.declared.lexer.LexError.{LexError}
use Rattle.dsde_lexer.specs.declared.lexer.LexError.TheVariants as lex_error
use Rattle.dsde_syntax.specs.declared.token.Tok.{Tok}
use Rattle.dsde_lexer.specs.Tokens.{front_of, before, placed, tokens_from, tokens}
use Rattle.std.proofs.Math.ListN.{drop_of_length-le}

pub before-none : (behind : Result (List Token) LexError) → before [] behind ≡ behind
before-none (Ok tokens) = refl
before-none (Err error) = refl

pub before-append : (first next : List Token) (behind : Result (List Token) LexError) → before first (before next behind) ≡ before (first ++ next) behind
before-append first next (Ok tokens) = ap Ok (sym (append_assoc first next tokens))
before-append first next (Err error) = refl

-- the bytes that belong to the piece before are passed over
pub tokens_from-inside : (at inside : ℕ) (text : List ℕ) → inside ≤ length text → tokens_from at inside text ≡ tokens_from (at + inside) 0 (drop inside text)
unfolding tokens_from
tokens_from-inside at zero text h = rw add-zero refl
tokens_from-inside at (suc inside) [] h = absurd (omega arith)
tokens_from-inside at (suc inside) (byte ∷ bytes) h =
    let same : at + 1 + inside ≡ at + suc inside = omega arith in
    tokens_from-inside (at + 1) inside bytes (omega arith) ∙ ap (λ n. tokens_from n 0 (drop inside bytes)) same

-- the first piece, and then the text behind it
pub tokens_from-piece : (at size : ℕ) (piece : Front) (text : List ℕ) → (piece, size) ≡ front_of text → 0 < size → size ≤ length text → tokens_from at 0 text ≡ placed at size piece (tokens_from (at + size) 0 (drop size text))
unfolding tokens_from
tokens_from-piece at size piece [] is some within = absurd (omega arith)
tokens_from-piece at zero front (byte ∷ bytes) is some within = absurd (omega arith)
tokens_from-piece at (suc size) front (byte ∷ bytes) is some within =
    let less : suc size - 1 ≡ size = omega arith in
    let same : at + 1 + size ≡ at + suc size = omega arith in
    let after : tokens_from (at + 1) (suc size - 1) bytes ≡ tokens_from (at + suc size) 0 (drop size bytes) =
    ap (λ n. tokens_from (at + 1) n bytes) less ∙ (tokens_from-inside (at + 1) size bytes (omega arith) ∙ ap (λ n. tokens_from n 0 (drop size bytes)) same) in
    let P : Front × ℕ → Type 0 = λ piece. placed at piece.1 piece.0 (tokens_from (at + 1) (piece.1 - 1) bytes) ≡ placed at (suc size) front (tokens_from (at + suc size) 0 (drop size bytes)) in
    subst P is (ap (placed at (suc size) front) after)

pub tokens-short : (bytes : List ℕ) → length bytes ≤ 1048576 → tokens bytes ≡ tokens_from 0 0 bytes
tokens-short bytes h = let long : ltb 1048576 (length bytes) ≡ false = le-ltb 1048576 (length bytes) h in rw long refl

-- the tokens that were cut off so far, followed by those of the rest, are those of the text
pub record HasCut (bytes : List ℕ) (at : ℕ) (first : List Token) : Type 0 where
  pub inside : at ≤ length bytes
  pub short : length bytes ≤ 1048576
  pub whole : before first (tokens_from at 0 (drop at bytes)) ≡ tokens_from 0 0 bytes

pub HasCut-none : (bytes : List ℕ) → length bytes ≤ 1048576 → HasCut bytes 0 []
HasCut-none bytes h = record { inside = omega arith; short = h; whole = before-none _ }

pub tokens-all : {bytes : List ℕ} {at : ℕ} {first : List Token} → HasCut bytes at first → length bytes ≤ at → tokens bytes ≡ Ok first
unfolding tokens_from
tokens-all {bytes} {at} {first} cut end =
    let none : drop at bytes ≡ [] = drop_of_length-le bytes end in
    let last : before first (tokens_from at 0 (drop at bytes)) ≡ Ok first = rw none (ap Ok (append-nil first)) in
    tokens-short bytes cut.short ∙ (sym cut.whole ∙ last)

-- the piece at the front of the rest
pub record Piece (bytes : List ℕ) (at size : ℕ) (piece : Front) : Type 0 where
  pub within : at + size ≤ length bytes
  pub first : tokens_from at 0 (drop at bytes) ≡ placed at size piece (tokens_from (at + size) 0 (drop (at + size) bytes))

pub Piece-of : (bytes : List ℕ) (at size : ℕ) (piece : Front) → at < length bytes → (piece, size) ≡ front_of (take (length bytes - at) (drop at bytes)) → 0 < size → size ≤ length (take (length bytes - at) (drop at bytes)) → Piece bytes at size piece
Piece-of bytes at size piece in_text is some within =
    let all : take (length bytes - at) (drop at bytes) ≡ drop at bytes = take_all _ (drop at bytes) (omega (arith, length-drop at bytes)) in
    let is' : (piece, size) ≡ front_of (drop at bytes) = rw all at is in
    let within' : size ≤ length (drop at bytes) = rw all at within in
    let cut = tokens_from-piece at size piece (drop at bytes) is' some within' in
    record {
      within = omega (arith, within', length-drop at bytes);
      first = rw drop-drop at cut;
    }

pub HasCut-gap : {bytes : List ℕ} {at size : ℕ} {first : List Token} → HasCut bytes at first → Piece bytes at size front.Gap → HasCut bytes (at + size) first
HasCut-gap {bytes} {at} {size} {first} cut piece =
    record { inside = piece.within; short = cut.short; whole = ap (before first) (sym piece.first) ∙ cut.whole }

pub HasCut-token : {bytes : List ℕ} {at size : ℕ} {first : List Token} {t : Tok} → HasCut bytes at first → Piece bytes at size (front.Token t) → HasCut bytes (at + size) (first ++ record { tok = t; from = at; to = at + size } ∷ [])
HasCut-token {bytes} {at} {size} {first} {t} cut piece =
    record {
      inside = piece.within;
      short = cut.short;
      whole = sym (before-append first (record { tok = t; from = at; to = at + size } ∷ []) _) ∙ (ap (before first) (sym piece.first) ∙ cut.whole);
    }

refused : {bytes : List ℕ} {at : ℕ} {first : List Token} (error : LexError) → HasCut bytes at first → tokens_from at 0 (drop at bytes) ≡ Err error → tokens bytes ≡ Err error
refused {bytes} {at} {first} error cut is =
    tokens-short bytes cut.short ∙ (sym cut.whole ∙ ap (before first) is)

pub tokens-bad_byte : {bytes : List ℕ} {at size : ℕ} {first : List Token} → HasCut bytes at first → Piece bytes at size front.BadByte → tokens bytes ≡ Err (lex_error.BadByte at)
tokens-bad_byte {bytes} {at} cut piece = refused (lex_error.BadByte at) cut piece.first

pub tokens-bad_number : {bytes : List ℕ} {at size : ℕ} {first : List Token} → HasCut bytes at first → Piece bytes at size front.BadNumber → tokens bytes ≡ Err (lex_error.BadNumber at)
tokens-bad_number {bytes} {at} cut piece = refused (lex_error.BadNumber at) cut piece.first
