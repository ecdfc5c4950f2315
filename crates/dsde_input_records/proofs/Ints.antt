-- Whole numbers and times, read back from their decimals.
use Rattle.std.proofs.Common.{◌≡◌, ℕ, suc, ◌<◌, ◌^◌, ◌==◌, ℤ, pos, negsuc, Bool, true, false, ◌&&◌, cond, List, [], ◌∷◌, ◌++◌, length, take, drop, refl, sym, ◌∙◌, ap, arith, FitsSigned, decimal, ltb}
use Rattle.std.specs.Prelude.{Some, None, neg_ℤ}
use Rattle.std.specs.Int.{w64}
use Rattle.std.specs.Fmt.{signed_decimal}
use Rattle.std.specs.Option.{option_map}
use Rattle.std.specs.Str.{bytes_eq}
use Rattle.std.specs.Str.Parse.{AllDigits, digits_value, signed_digits_value}
use Rattle.std.proofs.lemmas.Bool.Decides.{nat_tests}
use Rattle.std.proofs.lemmas.Fmt.{decimal_is_IsNumeral}
use Rattle.std.proofs.lemmas.List.{take-append-drop, append_cancel_left}
use Rattle.std.proofs.lemmas.Slice.Eq.{bytes_eq-Decides}
use Rattle.std.proofs.lemmas.Str.Parse.{digit_from_value}
use borrow.Author.Tests.{ltb-true, lt-ltb}
use Rattle.dsde_values.specs.When.{IsMoment}
use Rattle.dsde_values.specs.Word.{goes_on, Begins}
use Rattle.dsde_values.specs.Value.{fits_int, number_size}
use Rattle.dsde_values.specs.declared.value.Value.{Value}
use Rattle.dsde_values.specs.declared.value.Value.TheVariants as value
use Rattle.dsde_values.proofs.Names.{both_true}
use Rattle.dsde_values.proofs.Numbers.{take-number_size, Begins-number_size}
use Rattle.dsde_values.proofs.Typed.{int_fits}
use Rattle.dsde_input_records.specs.Reading.{int_of, read_int}
use Rattle.dsde_input_records.specs.Record.{moment_of}
use Rattle.dsde_input_records.proofs.Fronts.{mapped}

pub kept : {X : Type 0} (test : Bool) (x y : X) → cond test (Some x) None ≡ Some y → (test ≡ true) × (x ≡ y)
kept true x y is = (refl, cc)
kept false x y is = absurd (cc)

-- the number that digits of no sign write
unsigned : (digits : List ℕ) → 0 < length digits → AllDigits 10 digits → signed_digits_value 10 digits ≡ pos (digits_value 10 digits)
unsigned [] some all = absurd (omega arith)
unsigned (digit ∷ digits) some all =
    let here = digit_from_value digit all.0 in
    let no_minus : (digit == 45) ≡ false = grind (arith, nat_tests) in
    let no_plus : (digit == 43) ≡ false = grind (arith, nat_tests) in
    rw (no_minus, no_plus) refl

value_back : (number : ℤ) → FitsSigned w64 number → signed_digits_value 10 (signed_decimal number) ≡ number
value_back (pos n) fits =
    let is = decimal_is_IsNumeral n (omega (arith, fits.sfits)) in
    unsigned (decimal n) is.0.0 is.0.1 ∙ ap (λ (k : ℕ). pos k) is.1
value_back (negsuc n) fits =
    let is = decimal_is_IsNumeral (suc n) (omega (arith, fits.sfits)) in
    ap (λ (k : ℕ). neg_ℤ (pos k)) is.1

-- the number of a decimal
pub int-back : (number : ℤ) → fits_int number ≡ true → int_of (signed_decimal number) ≡ Some number
int-back number fits =
    rw (value_back number ((int_fits number).1 fits), (bytes_eq-Decides (signed_decimal number) (signed_decimal number)).1 refl, fits) refl

pub int-is : (text : List ℕ) (number : ℤ) → int_of text ≡ Some number → (text ≡ signed_decimal number) × (fits_int number ≡ true)
int-is text number is =
    let own = signed_digits_value 10 text in
    let p = kept (bytes_eq (signed_decimal own) text && fits_int own) own number is in
    let tests = both_true (bytes_eq (signed_decimal own) text) (fits_int own) p.0 in
    (sym ((bytes_eq-Decides (signed_decimal own) text).0 tests.0) ∙ ap signed_decimal p.1, ap fits_int (sym p.1) ∙ tests.1)

-- a whole number at the front of bytes
pub record IntFront (bytes : List ℕ) (v : Value) (rest : List ℕ) : Type 0 where
  pub number : ℤ
  pub is : v ≡ value.Int number
  pub fits : fits_int number ≡ true
  pub front : bytes ≡ signed_decimal number ++ rest
  pub ends : goes_on (signed_decimal number) rest ≡ false

pub int-front : (bytes : List ℕ) (v : Value) (rest : List ℕ) → read_int bytes ≡ Some (v, rest) → IntFront bytes v rest
int-front bytes v rest is =
    let size = number_size bytes in
    let p = mapped (λ number. (value.Int number, drop size bytes)) (int_of (take size bytes)) (v, rest) is in
    let own = int-is (take size bytes) p.0 p.1 in
    let begins = Begins-number_size p.0 bytes own.0 in
    let left : drop size bytes ≡ rest = ap (λ parts. parts.1) p.2 in
    record {
      number = p.0;
      is = sym (ap (λ parts. parts.0) p.2);
      fits = own.1;
      front = sym (take-append-drop size bytes) ∙ ap (λ text. text ++ drop size bytes) own.0 ∙ ap (λ tail. signed_decimal p.0 ++ tail) left;
      ends = ap (goes_on (signed_decimal p.0)) (sym left ∙ append_cancel_left (signed_decimal p.0) (drop size bytes) begins.rest
          (ap (λ text. text ++ drop size bytes) (sym own.0) ∙ take-append-drop size bytes ∙ begins.front)) ∙ begins.ends;
    }

pub int-text : (number : ℤ) (rest : List ℕ) → fits_int number ≡ true → goes_on (signed_decimal number) rest ≡ false → read_int (signed_decimal number ++ rest) ≡ Some (value.Int number, rest)
int-text number rest fits ends =
    let bytes = signed_decimal number ++ rest in
    let begins : Begins (signed_decimal number) bytes = record { rest = rest; front = refl; ends = ends } in
    let front : take (number_size bytes) bytes ≡ signed_decimal number = take-number_size number bytes ((int_fits number).1 fits) begins in
    let left : drop (number_size bytes) bytes ≡ rest =
    append_cancel_left (signed_decimal number) (drop (number_size bytes) bytes) rest
    (ap (λ text. text ++ drop (number_size bytes) bytes) (sym front) ∙ take-append-drop (number_size bytes) bytes) in
    ap (λ tail. option_map (λ n. (value.Int n, tail)) (int_of (take (number_size bytes) bytes))) left
    ∙ ap (λ text. option_map (λ n. (value.Int n, rest)) (int_of text)) front
    ∙ ap (option_map (λ n. (value.Int n, rest))) (int-back number fits)

-- a time
pub moment-back : (time : ℕ) → IsMoment time → moment_of (decimal time) ≡ Some time
moment-back time early =
    let is = decimal_is_IsNumeral time (omega (arith, early)) in
    rw (is.1, (bytes_eq-Decides (decimal time) (decimal time)).1 refl, lt-ltb time (2 ^ 63) early) refl

pub moment-is : (text : List ℕ) (time : ℕ) → moment_of text ≡ Some time → (text ≡ decimal time) × IsMoment time
moment-is text time is =
    let own = digits_value 10 text in
    let p = kept (bytes_eq (decimal own) text && ltb own (2 ^ 63)) own time is in
    let tests = both_true (bytes_eq (decimal own) text) (ltb own (2 ^ 63)) p.0 in
    (sym ((bytes_eq-Decides (decimal own) text).0 tests.0) ∙ ap decimal p.1, omega (arith, ltb-true own (2 ^ 63) tests.1, p.1))
