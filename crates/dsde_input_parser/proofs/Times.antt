-- The time at the front of a line.
use Rattle.std.proofs.Common.{◌≡◌, ◌≢◌, ℕ, ◌+◌, ◌<◌, ◌^◌, Bool, true, false, List, [], ◌∷◌, ◌++◌, take, drop, sym, ◌∙◌, ap, arith, decimal, append_assoc, leb}
use Rattle.std.specs.Prelude.{None}
use Rattle.std.specs.Bool.{then_some}
use Rattle.std.proofs.lemmas.Fmt.{decimal_injective}
use Rattle.std.proofs.lemmas.Bool.Decides.{nat_tests}
use Rattle.dsde_values.specs.When.{IsMoment}
use Rattle.dsde_input_records.specs.Lines.{Lacks}
use Rattle.dsde_input_records.specs.Record.{time_text}
use Rattle.dsde_input_parser.specs.Reading.{Reads, Anything}
use Rattle.dsde_input_records.proofs.Ports.{Lacks-decimal}
use Rattle.dsde_input_parser.specs.lemmas.Cuts.{IsCut, same_cut, no_cut}

-- a time, the space behind it, and the rest
time_then : (time : ℕ) (rest : List ℕ) → time_text time ++ rest ≡ decimal time ++ 32 ∷ rest
time_then time rest = append_assoc (decimal time) (32 ∷ []) rest

-- A line without a space has no time.
pub no_time_uncut : (line : List ℕ) → Lacks 32 line → Reads IsMoment time_text Anything line None
no_time_uncut line lacks = record {
  stands = tt;
  only = λ time rest early any same. no_cut 32 line (decimal time) rest lacks (same ∙ time_then time rest);
}

-- what stands before the first space, where a time is there
front_is : (line : List ℕ) (size : ℕ) → IsCut 32 line size → (time : ℕ) (rest : List ℕ) → IsMoment time → line ≡ time_text time ++ rest →
    (take size line ≡ decimal time) × (drop (size + 1) line ≡ rest)
front_is line size cut time rest early same =
    same_cut 32 (take size line) (drop (size + 1) line) (decimal time) rest
    (sym cut.whole ∙ same ∙ time_then time rest) cut.first (Lacks-decimal time (omega arith))

-- What stands before the first space is no number.
pub no_time : (line : List ℕ) (size : ℕ) → IsCut 32 line size → ((number : ℕ) → number < 2 ^ 64 → take size line ≢ decimal number) →
    Reads IsMoment time_text Anything line None
no_time line size cut none = record {
  stands = tt;
  only = λ time rest early any same. none time (omega arith) (front_is line size cut time rest early same).0;
}

-- What stands before the first space is a number, which may be too large.
pub some_time : (line : List ℕ) (size time : ℕ) → IsCut 32 line size → take size line ≡ decimal time → time < 2 ^ 64 →
    (small : Bool) → leb time 9223372036854775807 ≡ small → Reads IsMoment time_text Anything line (then_some small (time, size + 1))
some_time line size time cut is fits true small = record {
  stands = record {
    is = grind (arith, nat_tests);
    front = cut.whole ∙ ap (λ front. front ++ 32 ∷ drop (size + 1) line) is ∙ sym (time_then time (drop (size + 1) line));
    within = omega (arith, cut.within);
  };
  only = λ other rest early any same.
      let front = front_is line size cut other rest early same in
      (decimal_injective time other fits (omega arith) (sym is ∙ front.0), front.1);
}
some_time line size time cut is fits false large = record {
  stands = tt;
  only = λ other rest early any same.
      let front = front_is line size cut other rest early same in
      let one : time ≡ other = decimal_injective time other fits (omega arith) (sym is ∙ front.0) in
      let late : 9223372036854775807 < time = grind (arith, nat_tests) in
      omega arith;
}
