-- Counting line feeds.
use Rattle.std.proofs.Common.{◌≡◌, ℕ, ◌+◌, Bool, true, false, ◌==◌, ◌||◌, nat_lt, List, [], ◌∷◌, ◌++◌, length, refl, arith, Option, Some, None}
use Rattle.std.specs.Prelude.{is_some}
use Rattle.std.specs.List.{position}
use Rattle.std.proofs.lemmas.Bool.Decides.{nat_tests}
use Rattle.dsde_input_records.specs.Lines.{Lacks}
use Rattle.dsde_input.specs.Reader.{Reader, has_feed, has_line}
use Rattle.dsde_input.specs.given.input_parser.lemmas_Cuts.{lacks_from_position}
use Rattle.dsde_run.specs.Reading.{feeds}

pub feeds-append : (one other : List ℕ) → feeds (one ++ other) ≡ feeds one + feeds other
feeds-append [] other = omega arith
feeds-append (byte ∷ one) other = omega (arith, feeds-append one other)

-- bytes that lack a line feed have none
pub feeds-lacks : (bytes : List ℕ) → Lacks 10 bytes → feeds bytes ≡ 0
feeds-lacks [] lacks = refl
feeds-lacks (byte ∷ bytes) lacks =
    let apart : (byte == 10) ≡ false = grind (arith, nat_tests) in rw (apart, feeds-lacks bytes lacks.1) refl

none_by : (found : Option ℕ) → is_some found ≡ false → found ≡ None
none_by None is = refl
none_by (Some place) is = absurd (cc)

-- no line feed was found
pub feeds-none : (bytes : List ℕ) → has_feed bytes ≡ false → feeds bytes ≡ 0
feeds-none bytes none = feeds-lacks bytes (lacks_from_position 10 bytes (none_by (position (λ byte. byte == 10) bytes) none))

no_line_parts : (first second third : Bool) → (first || second || third) ≡ false → (first ≡ false) × (third ≡ false)
no_line_parts true second third none = absurd (cc)
no_line_parts false true third none = absurd (cc)
no_line_parts false false third none = (refl, none)

-- where the wanted line is not there
pub line_parts : (reader : Reader) → has_line reader ≡ false → (reader.ended ≡ false) × (has_feed reader.held ≡ false)
line_parts reader none = no_line_parts reader.ended (nat_lt 65536 (length reader.held)) (has_feed reader.held) none

-- where the end was seen, the wanted line is there
pub seen_line : (reader : Reader) → reader.ended ≡ true → has_line reader ≡ true
seen_line reader seen = rw seen refl
