-- The next digit of a number, from left to right.
use Rattle.std.proofs.Common.{◌≡◌, ℕ, ◌+◌, ◌-◌, ◌*◌, ◌<◌, ◌≤◌, Bool, true, false, cond, sym, refl, List, [], ◌∷◌, length, get_or, take, arith}
use Rattle.std.specs.Str.Parse.{AllDigits, digits_value}
use Rattle.std.specs.Char.{digit_value, is_ascii_digit}
use Rattle.std.specs.List.{take_while}
use Rattle.std.proofs.lemmas.List.Sums.{take_while-cons}
use Rattle.std.proofs.lemmas.Str.Parse.{digit_at}
use Rattle.std.proofs.lemmas.Int.Digits.{digits_value_more}
use Rattle.std.proofs.lemmas.Str.{digit_value_digit}
use Rattle.std.proofs.lemmas.List.Folds.{length-prefix_len}
use Rattle.std.proofs.lemmas.Bool.Decides.{nat_tests}

pub digit_step : (ds : List ℕ) (i : ℕ) → AllDigits 10 ds → i < length ds → (48 ≤ get_or ds i 0) × (digits_value 10 (take (i + 1) ds) ≡ digits_value 10 (take i ds) * 10 + (get_or ds i 0 - 48))
digit_step ds i all h =
    let here = digit_at ds i all h in
    let is = digit_value_digit _ here in
    let more = digits_value_more 10 ds i h in
    (omega arith, omega arith)

is_digit-value : (byte : ℕ) → is_ascii_digit byte ≡ true → digit_value byte < 10
is_digit-value byte h =
    let low : 48 ≤ byte = grind (arith, nat_tests) in
    let high : byte ≤ 57 = grind (arith, nat_tests) in
    let is = digit_value_digit byte (low, high) in
    omega arith

AllDigits-cond : (byte : ℕ) (rest : List ℕ) (passes : Bool) → passes ≡ is_ascii_digit byte → AllDigits 10 rest → AllDigits 10 (cond passes (byte ∷ rest) [])
AllDigits-cond byte rest true h all = (is_digit-value byte (sym h), all)
AllDigits-cond byte rest false h all = tt

-- the digits at the front of a text are digits
pub AllDigits-take_while : (text : List ℕ) → AllDigits 10 (take_while is_ascii_digit text)
AllDigits-take_while [] = tt
AllDigits-take_while (byte ∷ bytes) =
    rw (take_while-cons is_ascii_digit byte bytes) (AllDigits-cond byte _ _ refl (AllDigits-take_while bytes))

-- the same, where only how many they are is known
pub AllDigits-take : (text : List ℕ) (size : ℕ) → size ≡ length (take_while is_ascii_digit text) → AllDigits 10 (take size text)
AllDigits-take text size h =
    let same : take size text ≡ take_while is_ascii_digit text = rw (h, length-prefix_len) refl in
    rw same (AllDigits-take_while text)

pub ruleset digits_front = (AllDigits-take)
