-- A number that was read, and then spelled again.
use Rattle.std.proofs.Common.{◌≡◌, ◌≢◌, ℕ, ◌<◌, ◌^◌, ℤ, Bool, true, false, List, sym, ◌∙◌, ap, decimal, FitsSigned, Result, Ok, Err}
use Rattle.std.specs.Prelude.{Option, IfNone, bytes_eq}
use Rattle.std.specs.Bool.{then_some}
use mir.Val.{to_z, of_z}
use mir.ValLaws.{to_z-of_z}
use Rattle.std.specs.Int.{w64}
use Rattle.std.specs.Fmt.{signed_decimal}
use Rattle.std.specs.Str.{IsUtf8}
use Rattle.std.specs.Str.Parse.{ParsesUnsigned, ParsesSigned}
use Rattle.std.proofs.lemmas.Fmt.{IsAscii-decimal, IsAscii-signed, parse-decimal, parse-signed_decimal}
use Rattle.std.proofs.lemmas.Str.{IsUtf8-from_ascii}
use Rattle.std.proofs.lemmas.Slice.Eq.{bytes_eq-Decides}

-- no number has the text, where the one that was read is not spelled like it
pub then_spelled : {N : Type 0} (spelled : N → List ℕ) (Fits : N → Type 0) (same : Bool) (number : N) (text : List ℕ) (r : Option N) →
    r ≡ then_some same number → same ≡ bytes_eq (spelled number) text → ((other : N) → Fits other → text ≡ spelled other → number ≡ other) →
    IfNone r ((other : N) → Fits other → text ≢ spelled other)
then_spelled spelled Fits true number text r is test read = rw is tt
then_spelled spelled Fits false number text r is test read = rw is (λ other fits e.
    let found : bytes_eq (spelled number) text ≡ true = (bytes_eq-Decides (spelled number) text).1 (ap spelled (read other fits e) ∙ sym e) in cc)

-- A decimal is text.
pub IsUtf8-decimal : (number : ℕ) (text : List ℕ) → number < 2 ^ 64 → text ≡ decimal number → IsUtf8 text
IsUtf8-decimal number text fits is = rw is (IsUtf8-from_ascii (decimal number) (IsAscii-decimal number fits))

pub IsUtf8-signed_decimal : (number : ℤ) (text : List ℕ) → FitsSigned w64 number → text ≡ signed_decimal number → IsUtf8 text
IsUtf8-signed_decimal number text fits is =
    rw is (IsUtf8-from_ascii (signed_decimal number) (IsAscii-signed number fits.sfits))

-- A decimal is read as its number.
pub decimal_read : (number read : ℕ) (text : List ℕ) → number < 2 ^ 64 → text ≡ decimal number → ParsesUnsigned {E = ℕ} 64 10 text (Ok read) → read ≡ number
decimal_read number read text fits is h =
    let r : Result ℕ ℕ = Ok read in let parsed : r ≡ Ok number = parse-decimal 64 number text r fits fits is h in cc

-- It is not refused.
pub decimal_not_refused : (number : ℕ) (text : List ℕ) → number < 2 ^ 64 → text ≡ decimal number → ParsesUnsigned {E = ℕ} 64 10 text (Err 0) → ⊥
decimal_not_refused number text fits is h =
    let r : Result ℕ ℕ = Err 0 in let parsed : r ≡ Ok number = parse-decimal 64 number text r fits fits is h in cc

pub signed_decimal_read : (number read : ℤ) (text : List ℕ) → FitsSigned w64 number → text ≡ signed_decimal number → ParsesSigned {E = ℕ} w64 10 text (Ok read) → to_z w64 (of_z w64 read) ≡ number
signed_decimal_read number read text fits is h =
    let r : Result ℤ ℕ = Ok read in
    let parsed : r ≡ Ok number = parse-signed_decimal w64 number text r fits fits.sfits is h in
    let same : read ≡ number = cc in ap (λ z. to_z w64 (of_z w64 z)) same ∙ to_z-of_z w64 number fits

pub signed_decimal_not_refused : (number : ℤ) (text : List ℕ) → FitsSigned w64 number → text ≡ signed_decimal number → ParsesSigned {E = ℕ} w64 10 text (Err 0) → ⊥
signed_decimal_not_refused number text fits is h =
    let r : Result ℤ ℕ = Err 0 in let parsed : r ≡ Ok number = parse-signed_decimal w64 number text r fits fits.sfits is h in cc
