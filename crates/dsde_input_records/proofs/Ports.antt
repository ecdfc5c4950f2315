-- Spaces, ports and their names.
use Rattle.std.proofs.Common.{◌≡◌, ◌≢◌, ℕ, ◌<◌, ◌≤◌, ◌^◌, ◌==◌, Bool, true, false, cond, List, [], ◌∷◌, ◌++◌, length, get_or, refl, sym, ◌∙◌, ap, subst, arith, inl, inr, decimal}
use Rattle.std.specs.Prelude.{Some, None, slice_get}
use Rattle.std.specs.List.{All, position, position_or_len, list_all}
use Rattle.std.specs.Str.{bytes_eq}
use Rattle.std.specs.Str.Parse.{AllDigits}
use Rattle.std.proofs.lemmas.Bool.{cases_lt}
use Rattle.std.proofs.lemmas.Bool.Decides.{nat_tests}
use Rattle.std.proofs.lemmas.Fmt.{decimal_is_IsNumeral}
use Rattle.std.proofs.lemmas.List.Quantifiers.{position-Some}
use Rattle.std.proofs.lemmas.List.Sums.{fails_before_first}
use Rattle.std.proofs.lemmas.Option.{slice_get_within, get_or_from_slice_get}
use Rattle.std.proofs.lemmas.Slice.Eq.{bytes_eq-Decides}
use Rattle.std.proofs.lemmas.Str.Parse.{digit_from_value}
use borrow.Author.Tests.{eqb-true}
use Rattle.dsde_values.specs.declared.types.Field.{Field}
use Rattle.dsde_values.specs.given.words.Words.{is_word_byte, is_word}
use Rattle.dsde_input_records.specs.Lines.{Lacks}
use Rattle.dsde_input_records.specs.Reading.{made}
use Rattle.dsde_input_records.specs.Record.{ArePorts, cut}
use Rattle.dsde_input_records.proofs.Fronts.{made_of, same_read}
use Rattle.dsde_values.proofs.Names.{both_true}

cut_here : (here : Bool) (byte : ℕ) (bytes front rest : List ℕ) → (byte == 32) ≡ here → ((other : List ℕ) → cut bytes ≡ Some (other, rest) → bytes ≡ other ++ 32 ∷ rest) →
    cond here (Some ([], bytes)) (made (λ tail. byte ∷ tail) (cut bytes)) ≡ Some (front, rest) → byte ∷ bytes ≡ front ++ 32 ∷ rest
cut_here true byte bytes front rest here later is =
    let space : byte ≡ 32 = eqb-true byte 32 here in
    let p = same_read [] front bytes rest is in
    ap (λ first. first ∷ bytes) space ∙ ap (λ tail. 32 ∷ tail) p.1 ∙ ap (λ text. text ++ 32 ∷ rest) p.0
cut_here false byte bytes front rest here later is =
    let p = made_of (λ tail. byte ∷ tail) (cut bytes) front rest is in
    ap (λ tail. byte ∷ tail) (later p.0 p.1) ∙ ap (λ text. text ++ 32 ∷ rest) p.2

-- what stands before the first space, and behind it
pub cut-front : (bytes front rest : List ℕ) → cut bytes ≡ Some (front, rest) → bytes ≡ front ++ 32 ∷ rest
cut-front [] front rest is = absurd (cc)
cut-front (byte ∷ bytes) front rest is =
    cut_here (byte == 32) byte bytes front rest refl (λ other. cut-front bytes other rest) is

pub cut-text : (front rest : List ℕ) → Lacks 32 front → cut (front ++ 32 ∷ rest) ≡ Some (front, rest)
cut-text [] rest lacks = refl
cut-text (byte ∷ front) rest lacks =
    let other : (byte == 32) ≡ false = grind (arith, nat_tests, lacks.0) in
    rw (other, cut-text front rest lacks.1) refl

Lacks-digits : (digits : List ℕ) → AllDigits 10 digits → Lacks 32 digits
Lacks-digits [] all = tt
Lacks-digits (digit ∷ digits) all =
    let here = digit_from_value digit all.0 in ((λ same. omega arith), Lacks-digits digits all.1)

-- A decimal has no space.
pub Lacks-decimal : (number : ℕ) → number < 2 ^ 64 → Lacks 32 (decimal number)
Lacks-decimal number fits = Lacks-digits (decimal number) (decimal_is_IsNumeral number fits).0.1

no_space : (byte : ℕ) → is_word_byte byte ≡ true → byte ≢ 32
no_space byte word same = grind (arith, nat_tests)

Lacks-word : (word : List ℕ) → list_all is_word_byte word ≡ true → Lacks 32 word
Lacks-word [] all = tt
Lacks-word (byte ∷ word) all =
    let p = both_true (is_word_byte byte) (list_all is_word_byte word) all in
    (no_space byte p.0, Lacks-word word p.1)

-- An identifier has no space.
pub Lacks-identifier : (name : List ℕ) → is_word name ≡ true → Lacks 32 name
Lacks-identifier [] is = tt
Lacks-identifier (byte ∷ name) is = Lacks-word (byte ∷ name) (both_true _ _ is).1

-- a fact of each port, at one
pub port_fact : (P : Field → Type 0) (ports : List Field) (at : ℕ) (port : Field) → All P ports → slice_get ports at ≡ Some port → P port
port_fact P ports at port all is =
    subst P (get_or_from_slice_get ports at port port is) (all at port (slice_get_within ports at port is))

abbrev pub has_name : List ℕ → Field → Bool
has_name name port = bytes_eq port.name name

-- Of two ports with one name, there is one.
one_port : (ports : List Field) (i j : ℕ) (d : Field) → ArePorts ports → i < length ports → j < length ports → (get_or ports i d).name ≡ (get_or ports j d).name → i ≡ j
one_port ports i j d lawful in_i in_j same =
    elim (cases_lt i j) [
      | inl before ↦ absurd (lawful.distinct i j d before in_j same)
      | inr past ↦ elim (cases_lt j i) [
        | inl behind ↦ absurd (lawful.distinct j i d behind in_i (sym same))
        | inr level ↦ omega arith
      ]
    ]

pub same_name : (port : Field) (name : List ℕ) → has_name name port ≡ true → port.name ≡ name
same_name port name is = (bytes_eq-Decides port.name name).0 is

none_from_cond : (found : Bool) (place : ℕ) → cond found (Some place) None ≡ None → found ≡ false
none_from_cond true place e = absurd (cc)
none_from_cond false place e = refl

-- No port has the name.
pub no_port : (ports : List Field) (name : List ℕ) → position (has_name name) ports ≡ None → (at : ℕ) (port : Field) → slice_get ports at ≡ Some port → port.name ≢ name
no_port ports name none at port is same =
    let past = none_from_cond _ _ none in
    let within = slice_get_within ports at port is in
    let all : length ports ≤ position_or_len (has_name name) ports = grind (arith, nat_tests) in
    let fails = fails_before_first (has_name name) ports at port (omega arith) in
    let this : has_name name port ≡ false = ap (has_name name) (sym (get_or_from_slice_get ports at port port is)) ∙ fails in
    let found = (bytes_eq-Decides port.name name).1 same in
    cc

-- the port with the name
pub this_port : (ports : List Field) (name : List ℕ) (place : ℕ) → ArePorts ports → position (has_name name) ports ≡ Some place → (at : ℕ) (port : Field) → slice_get ports at ≡ Some port → port.name ≡ name → place ≡ at
this_port ports name place lawful found at port is same =
    let first = position-Some (has_name name) ports place port found in
    let within = slice_get_within ports at port is in
    one_port ports place at port lawful first.0 within
    (same_name (get_or ports place port) name first.1 ∙ sym same ∙ ap (λ p. p.name) (sym (get_or_from_slice_get ports at port port is)))
