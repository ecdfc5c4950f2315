-- A text has one verdict.
use Rattle.std.proofs.Common.{◌≡◌, ℕ, ◌<◌, ◌≤◌, ◌⊎◌, inl, inr, true, List, length, Result, Ok, Err, refl, sym, ap, subst, ◌∙◌, arith}
use Rattle.std.specs.Prelude.{◌≢◌, nat_lt}
use Rattle.std.proofs.lemmas.Bool.{cases_order, lt-ltb}
use Rattle.dsde_syntax.specs.declared.token.Token.{Token}
use Rattle.dsde_syntax.specs.declared.decl.Model.{Model}
use Rattle.dsde_lexer.specs.declared.lexer.LexError.{LexError}
use Rattle.dsde_lexer.specs.declared.lexer.LexError.TheVariants as lex_error
use Rattle.dsde_lexer.specs.Lines.{place_of}
use Rattle.dsde_lexer.specs.Tokens.{tokens}
use Rattle.dsde_cli_verdict.specs.declared.refusal.Refusal.{Refusal}
use Rattle.dsde_cli_verdict.specs.declared.refusal.Refusal.TheVariants as refusal
use Rattle.dsde_cli_verdict.specs.declared.refusal.ReadModel.{ReadModel}
use Rattle.dsde_cli_verdict.specs.declared.refusal.ReadModel.TheVariants as read_model
use Rattle.dsde_cli_verdict.specs.Verdict.{toks_of, place_at, Accepts, AtByte, AtToken, IsSound, Offends, Refuses, IsVerdict}
use Rattle.dsde_cli_verdict.proofs.OffenceLemmas.{OneModel, one_given, no_offence, one_offence}

-- a text that is cut into tokens is cut into these
one_cut : (bytes : List ℕ) (this that : List Token) → tokens bytes ≡ Ok this → tokens bytes ≡ Ok that → this ≡ that
one_cut bytes this that first other = let both = sym first ∙ other in cc both

-- a text that has no tokens has none for one offence alone
one_error : (bytes : List ℕ) (this that : LexError) → tokens bytes ≡ Err this → tokens bytes ≡ Err that → this ≡ that
one_error bytes this that first other = let both = sym first ∙ other in cc both

-- a text has tokens or none
not_cut : (bytes : List ℕ) (cut : List Token) (error : LexError) → tokens bytes ≡ Ok cut → tokens bytes ≡ Err error → ⊥
not_cut bytes cut error first other = let both = sym first ∙ other in cc both

-- a text that is too long has no tokens for that
too_long : (bytes : List ℕ) → 1_048_576 < length bytes → tokens bytes ≡ Err lex_error.TooLong
too_long bytes long = let is : nat_lt 1_048_576 (length bytes) ≡ true = lt-ltb 1_048_576 (length bytes) long in rw is refl

-- a text that has no tokens for another offence is not too long
pub short : (bytes : List ℕ) (error : LexError) → tokens bytes ≡ Err error → (error ≡ lex_error.TooLong → ⊥) → length bytes ≤ 1_048_576
short bytes error is other = by_length (cases_order 1_048_576 (length bytes))
  where
    by_length : (1_048_576 ≡ length bytes) ⊎ ((1_048_576 < length bytes) ⊎ (length bytes < 1_048_576)) → length bytes ≤ 1_048_576
    by_length (inl same) = omega arith
    by_length (inr (inl long)) = absurd (other (one_error bytes error lex_error.TooLong is (too_long bytes long)))
    by_length (inr (inr less)) = omega arith

-- why a text is refused: for a byte that no token begins with, for a number that is none, or for a token
data Cause (bytes : List ℕ) (kind : Refusal) (line column : ℕ) : Type 0 where
  byte : kind ≡ refusal.BadByte → AtByte bytes lex_error.BadByte line column → Cause bytes kind line column
  number : kind ≡ refusal.BadNumber → AtByte bytes lex_error.BadNumber line column → Cause bytes kind line column
  token : AtToken bytes (Offends kind) line column → Cause bytes kind line column

cause : (bytes : List ℕ) (kind : Refusal) (line column : ℕ) → Refuses bytes kind line column → Cause bytes kind line column
cause bytes refusal.BadByte line column is = byte refl is
cause bytes refusal.BadNumber line column is = number refl is
cause bytes refusal.Syntax line column is = token is
cause bytes refusal.Nested line column is = token is
cause bytes (refusal.Check kind) line column is = token is

-- two verdicts of which each refuses the text
same_refusal : (this that : Refusal) (line other_line column other_column : ℕ) → this ≡ that → line ≡ other_line → column ≡ other_column →
    ◌≡◌ {A = Result Model ReadModel} (Err (read_model.Refused this line column)) (Err (read_model.Refused that other_line other_column))
same_refusal this that line other_line column other_column kinds lines columns = cc

-- a text is refused for one byte
one_byte : (bytes : List ℕ) (offence : ℕ → LexError) (line other_line column other_column : ℕ) → ((this that : ℕ) → offence this ≡ offence that → this ≡ that) →
    AtByte bytes offence line column → AtByte bytes offence other_line other_column → (line ≡ other_line) × (column ≡ other_column)
one_byte bytes offence line other_line column other_column same first other =
    let same = same first.offset other.offset (one_error bytes (offence first.offset) (offence other.offset) first.lexed other.lexed) in
    let place : ◌≡◌ {A = ℕ × ℕ} (line, column) (other_line, other_column) = sym first.place ∙ ap (place_at bytes) same ∙ other.place in
    (ap (λ (pair : ℕ × ℕ). pair.0) place, ap (λ (pair : ℕ × ℕ). pair.1) place)

-- a text is refused for one token
one_token : OneModel → (bytes : List ℕ) (this that : Refusal) (line other_line column other_column : ℕ) →
    AtToken bytes (Offends this) line column → AtToken bytes (Offends that) other_line other_column → (this ≡ that) × ((line ≡ other_line) × (column ≡ other_column))
one_token one bytes this that line other_line column other_column first other =
    let cut = one_cut bytes first.cut other.cut first.lexed other.lexed in
    let offence = subst (λ cut. Offends this (toks_of cut) first.at) cut first.offence in
    let same = one_offence one (toks_of other.cut) this that first.at other.at offence other.offence in
    let place : ◌≡◌ {A = ℕ × ℕ} (line, column) (other_line, other_column) = sym first.place ∙ ap (λ cut. place_of bytes cut first.at) cut ∙ ap (place_of bytes other.cut) same.1 ∙ other.place in
    (same.0, (ap (λ (pair : ℕ × ℕ). pair.0) place, ap (λ (pair : ℕ × ℕ). pair.1) place))

-- what has tokens is refused for no byte
not_byte : (bytes : List ℕ) (cut : List Token) (offence : ℕ → LexError) (line column : ℕ) → tokens bytes ≡ Ok cut → AtByte bytes offence line column → ⊥
not_byte bytes cut offence line column is at = not_cut bytes cut (offence at.offset) is at.lexed

one_refusal : OneModel → (bytes : List ℕ) (this that : Refusal) (line other_line column other_column : ℕ) → Cause bytes this line column → Cause bytes that other_line other_column →
    ◌≡◌ {A = Result Model ReadModel} (Err (read_model.Refused this line column)) (Err (read_model.Refused that other_line other_column))
one_refusal one bytes this that line other_line column other_column (byte is first) (byte same other) =
    let places = one_byte bytes lex_error.BadByte line other_line column other_column (λ this that same. cc same) first other in
    same_refusal this that line other_line column other_column (is ∙ sym same) places.0 places.1
one_refusal one bytes this that line other_line column other_column (number is first) (number same other) =
    let places = one_byte bytes lex_error.BadNumber line other_line column other_column (λ this that same. cc same) first other in
    same_refusal this that line other_line column other_column (is ∙ sym same) places.0 places.1
one_refusal one bytes this that line other_line column other_column (byte is first) (number same other) =
    absurd (cc (one_error bytes (lex_error.BadByte first.offset) (lex_error.BadNumber other.offset) first.lexed other.lexed))
one_refusal one bytes this that line other_line column other_column (number is first) (byte same other) =
    absurd (cc (one_error bytes (lex_error.BadNumber first.offset) (lex_error.BadByte other.offset) first.lexed other.lexed))
one_refusal one bytes this that line other_line column other_column (token first) (token other) =
    let same = one_token one bytes this that line other_line column other_column first other in
    same_refusal this that line other_line column other_column same.0 same.1.0 same.1.1
one_refusal one bytes this that line other_line column other_column (token first) (byte is other) =
    absurd (not_byte bytes first.cut lex_error.BadByte other_line other_column first.lexed other)
one_refusal one bytes this that line other_line column other_column (token first) (number is other) =
    absurd (not_byte bytes first.cut lex_error.BadNumber other_line other_column first.lexed other)
one_refusal one bytes this that line other_line column other_column (byte is first) (token other) =
    absurd (not_byte bytes other.cut lex_error.BadByte line column other.lexed first)
one_refusal one bytes this that line other_line column other_column (number is first) (token other) =
    absurd (not_byte bytes other.cut lex_error.BadNumber line column other.lexed first)

-- a text that is accepted is not refused
not_refused : OneModel → (bytes : List ℕ) (model : Model) (kind : Refusal) (line column : ℕ) → Accepts bytes model → Cause bytes kind line column → ⊥
not_refused one bytes model kind line column accepts (byte is at) = not_byte bytes accepts.cut lex_error.BadByte line column accepts.lexed at
not_refused one bytes model kind line column accepts (number is at) = not_byte bytes accepts.cut lex_error.BadNumber line column accepts.lexed at
not_refused one bytes model kind line column accepts (token at) =
    let cut = one_cut bytes accepts.cut at.cut accepts.lexed at.lexed in
    no_offence one (toks_of at.cut) model kind at.at (subst (λ cut. IsSound (toks_of cut) model) cut accepts.sound) at.offence

-- a text that is too long is not refused for anything else
not_long : (bytes : List ℕ) (kind : Refusal) (line column : ℕ) → 1_048_576 < length bytes → Cause bytes kind line column → ⊥
not_long bytes kind line column long (byte is at) = cc (one_error bytes (lex_error.BadByte at.offset) lex_error.TooLong at.lexed (too_long bytes long))
not_long bytes kind line column long (number is at) = cc (one_error bytes (lex_error.BadNumber at.offset) lex_error.TooLong at.lexed (too_long bytes long))
not_long bytes kind line column long (token at) = not_cut bytes at.cut lex_error.TooLong at.lexed (too_long bytes long)

-- a text is accepted with one model
one_accepted : OneModel → (bytes : List ℕ) (this that : Model) → Accepts bytes this → Accepts bytes that → this ≡ that
one_accepted one bytes this that first other =
    let cut = one_cut bytes first.cut other.cut first.lexed other.lexed in
    one_given one (toks_of other.cut) this that (subst (λ cut. IsSound (toks_of cut) this) cut first.sound).gives other.sound.gives

-- A text has one verdict.
pub one_verdict : OneModel → (bytes : List ℕ) (this that : Result Model ReadModel) → IsVerdict bytes this → IsVerdict bytes that → this ≡ that
one_verdict one bytes (Ok this) (Ok that) first other = ap Ok (one_accepted one bytes this that first other)
one_verdict one bytes (Ok this) (Err (read_model.Refused kind line column)) first other = absurd (not_refused one bytes this kind line column first (cause bytes kind line column other))
one_verdict one bytes (Ok this) (Err read_model.TooLong) first other = absurd (not_cut bytes first.cut lex_error.TooLong first.lexed (too_long bytes other))
one_verdict one bytes (Ok this) (Err read_model.Memory) first other = absurd other
one_verdict one bytes (Err (read_model.Refused kind line column)) (Ok that) first other = absurd (not_refused one bytes that kind line column other (cause bytes kind line column first))
one_verdict one bytes (Err (read_model.Refused kind line column)) (Err (read_model.Refused other_kind other_line other_column)) first other =
    one_refusal one bytes kind other_kind line other_line column other_column (cause bytes kind line column first) (cause bytes other_kind other_line other_column other)
one_verdict one bytes (Err (read_model.Refused kind line column)) (Err read_model.TooLong) first other = absurd (not_long bytes kind line column other (cause bytes kind line column first))
one_verdict one bytes (Err (read_model.Refused kind line column)) (Err read_model.Memory) first other = absurd other
one_verdict one bytes (Err read_model.TooLong) (Ok that) first other = absurd (not_cut bytes other.cut lex_error.TooLong other.lexed (too_long bytes first))
one_verdict one bytes (Err read_model.TooLong) (Err (read_model.Refused kind line column)) first other = absurd (not_long bytes kind line column first (cause bytes kind line column other))
one_verdict one bytes (Err read_model.TooLong) (Err read_model.TooLong) first other = refl
one_verdict one bytes (Err read_model.TooLong) (Err read_model.Memory) first other = absurd other
one_verdict one bytes (Err read_model.Memory) that first other = absurd first

-- what is said of a text that is too long
pub told_long : ((bytes : List ℕ) → tokens bytes ≡ Err lex_error.TooLong → 1_048_576 < length bytes) → (bytes : List ℕ) (error : LexError) → error ≡ lex_error.TooLong → (error ≢ lex_error.Memory → tokens bytes ≡ Err error) → 1_048_576 < length bytes
told_long long bytes error is told = long bytes (told (λ same. let both = sym is ∙ same in cc both) ∙ ap Err is)

-- no text has two verdicts
abbrev pub OneVerdict : Type 0
OneVerdict = (bytes : List ℕ) (this that : Result Model ReadModel) → IsVerdict bytes this → IsVerdict bytes that → this ≡ that

-- a refusal that is the verdict is the only one
pub only_refusal : OneVerdict → (bytes : List ℕ) (error : ReadModel) → (error ≢ read_model.Memory → IsVerdict bytes (Err error)) → (verdict : Result Model ReadModel) → IsVerdict bytes verdict →
    (◌≡◌ {A = Result Model ReadModel} (Err error) verdict) ⊎ (◌≡◌ {A = Result Model ReadModel} (Err error) (Err read_model.Memory))
only_refusal one bytes (read_model.Refused kind line column) is verdict other = inl (one bytes (Err (read_model.Refused kind line column)) verdict (is (λ same. cc same)) other)
only_refusal one bytes read_model.TooLong is verdict other = inl (one bytes (Err read_model.TooLong) verdict (is (λ same. cc same)) other)
only_refusal one bytes read_model.Memory is verdict other = inr refl
