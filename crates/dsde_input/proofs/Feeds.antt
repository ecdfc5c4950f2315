-- The first line feed, and what stands before it.
use Rattle.std.proofs.Common.{◌≡◌, ◌≢◌, ℕ, zero, suc, ◌+◌, ◌<◌, ◌≤◌, Bool, true, false, not, ◌==◌, nat_lt, List, [], ◌∷◌, ◌++◌, length, get_or, take, drop, refl, sym, ◌∙◌, ap, arith, length-append, append_assoc, subst, inl, inr}
use Rattle.std.specs.Prelude.{Some, None}
use Rattle.std.specs.List.{position, prefix_len}
use Rattle.std.proofs.lemmas.List.{take-append-drop, length-take, append-nil}
use Rattle.std.proofs.lemmas.Bool.Decides.{nat_tests}
use Rattle.std.proofs.Math.Numerals.{one-add}
use Rattle.memchr.specs.Find.{IsFirstByte, is_byte}
use Rattle.dsde_input_parser.specs.given.input_records.Lines.{Lacks}
use Rattle.std.proofs.Math.Seq.{take-length, drop-append_seam}
use Rattle.dsde_input.specs.Reader.{Opens}
use Rattle.dsde_input_parser.specs.lemmas.Cuts.{Lacks-append, lacks_from_position, cut_from_position}

-- Nothing stands behind the last.
pub drop_whole : (bytes : List ℕ) → drop (length bytes) bytes ≡ []
drop_whole bytes = ap (drop (length bytes)) (sym (append-nil bytes)) ∙ drop-append_seam bytes []

pub no_feed : (byte : ℕ) → byte ≢ 10 → (byte == 10) ≡ false
no_feed byte apart = grind (arith, nat_tests)

abbrev other : ℕ → Bool
other x = not (x == 10)

prefix-line : (line rest : List ℕ) → Lacks 10 line → prefix_len other (line ++ 10 ∷ rest) ≡ length line
prefix-line [] rest lacks = refl
prefix-line (byte ∷ line) rest lacks = rw (no_feed byte lacks.0, prefix-line line rest lacks.1, one-add) refl

prefix-all : (line : List ℕ) → Lacks 10 line → prefix_len other line ≡ length line
prefix-all [] lacks = refl
prefix-all (byte ∷ line) lacks = rw (no_feed byte lacks.0, prefix-all line lacks.1, one-add) refl

-- the first line feed stands behind a line
pub position-line : (line rest : List ℕ) → Lacks 10 line → position (λ byte. byte == 10) (line ++ 10 ∷ rest) ≡ Some (length line)
position-line line rest lacks =
    let size : length (line ++ 10 ∷ rest) ≡ length line + suc (length rest) = length-append line (10 ∷ rest) in
    let test : nat_lt (length line) (length (line ++ 10 ∷ rest)) ≡ true = grind (arith, nat_tests) in
    rw (prefix-line line rest lacks, test) refl

-- there is none
pub position-none : (line : List ℕ) → Lacks 10 line → position (λ byte. byte == 10) line ≡ None
position-none line lacks =
    let test : nat_lt (length line) (length line) ≡ false = grind (arith, nat_tests) in
    rw (prefix-all line lacks, test) refl

pub Lacks-by : (bytes : List ℕ) → ((k : ℕ) → k < length bytes → get_or bytes k 0 ≢ 10) → Lacks 10 bytes
Lacks-by [] none = tt
Lacks-by (byte ∷ bytes) none = (none 0 (omega arith), Lacks-by bytes (λ k within. none (suc k) (omega arith)))

Lacks-take : (count : ℕ) (bytes : List ℕ) → ((k : ℕ) → k < count → get_or bytes k 0 ≢ 10) → Lacks 10 (take count bytes)
Lacks-take zero bytes none = tt
Lacks-take (suc count) [] none = tt
Lacks-take (suc count) (byte ∷ bytes) none = (none 0 (omega arith), Lacks-take count bytes (λ k within. none (suc k) (omega arith)))

-- what is cut at a byte
at_byte : (bytes : List ℕ) (at : ℕ) → at < length bytes → get_or bytes at 0 ≡ 10 → bytes ≡ take at bytes ++ 10 ∷ drop (suc at) bytes
at_byte [] at within is = absurd (omega arith)
at_byte (byte ∷ bytes) zero within is = rw is refl
at_byte (byte ∷ bytes) (suc at) within is = ap (λ rest. byte ∷ rest) (at_byte bytes at (omega arith) is)

-- where a search that begins behind bytes without a line feed ends
module _ (bytes : List ℕ) (searched : ℕ) (within : searched ≤ length bytes) (lacks : Lacks 10 (take searched bytes)) where
  pub position-found : (more : ℕ) → IsFirstByte (is_byte 10) (drop searched bytes) (Some more) → Some (searched + more) ≡ position (λ byte. byte == 10) bytes
  position-found more found =
      let line = take searched bytes ++ take more (drop searched bytes) in
      let lacks_more : Lacks 10 (take more (drop searched bytes)) =
      Lacks-take more (drop searched bytes) (λ k below same. found.0.before k (omega arith) below (grind (arith, nat_tests))) in
      let feed : get_or (drop searched bytes) more 0 ≡ 10 = grind (arith, nat_tests) in
      let behind = at_byte (drop searched bytes) more found.0.high feed in
      let whole : bytes ≡ line ++ 10 ∷ drop (suc more) (drop searched bytes) =
      sym (take-append-drop searched bytes) ∙ ap (λ rest. take searched bytes ++ rest) behind
      ∙ sym (append_assoc (take searched bytes) (take more (drop searched bytes)) (10 ∷ drop (suc more) (drop searched bytes))) in
      let size : length line ≡ searched + more =
      omega (arith, length-append (take searched bytes) (take more (drop searched bytes)), length-take searched bytes, length-take more (drop searched bytes), found.0.high) in
      ap Some (sym size)
      ∙ sym (position-line line (drop (suc more) (drop searched bytes)) (Lacks-append 10 (take searched bytes) (take more (drop searched bytes)) lacks lacks_more))
      ∙ ap (position (λ byte. byte == 10)) (sym whole)

  pub position-missed : IsFirstByte (is_byte 10) (drop searched bytes) None → None ≡ position (λ byte. byte == 10) bytes
  position-missed missed =
      let rest : Lacks 10 (drop searched bytes) = Lacks-by (drop searched bytes) (λ k below same. missed k (omega arith) below (grind (arith, nat_tests))) in
      sym (position-none bytes (subst (Lacks 10) (take-append-drop searched bytes) (Lacks-append 10 (take searched bytes) (drop searched bytes) lacks rest)))

-- a line feed that was found
pub feed_found : (bytes : List ℕ) (at : ℕ) → position (λ byte. byte == 10) bytes ≡ Some at → (at ≤ length bytes) × Lacks 10 (take at bytes)
feed_found bytes at found = let cut = cut_from_position 10 bytes at found in (omega (arith, cut.within), cut.first)

-- one that was not
pub feed_missed : (bytes : List ℕ) → position (λ byte. byte == 10) bytes ≡ None → Lacks 10 bytes
feed_missed bytes none = lacks_from_position 10 bytes none

pub Lacks-all : (bytes : List ℕ) (count : ℕ) → Lacks 10 bytes → count ≡ length bytes → Lacks 10 (take count bytes)
Lacks-all bytes count lacks same = subst (Lacks 10) (sym (ap (λ n. take n bytes) same ∙ take-length bytes)) lacks

-- the first line
pub opens_fed : (bytes : List ℕ) (at : ℕ) → position (λ byte. byte == 10) bytes ≡ Some at → Opens bytes (take at bytes) (drop (at + 1) bytes)
opens_fed bytes at found = let cut = cut_from_position 10 bytes at found in record { lacks = cut.first; cut = inl cut.whole }

pub opens_whole : (bytes : List ℕ) (first second : ℕ) → bytes ≢ [] → position (λ byte. byte == 10) bytes ≡ None → first ≡ length bytes → second ≡ length bytes →
    Opens bytes (take first bytes) (drop second bytes)
opens_whole bytes first second some none one two =
    let all : take first bytes ≡ bytes = ap (λ n. take n bytes) one ∙ take-length bytes in
    record {
      lacks = subst (Lacks 10) (sym all) (feed_missed bytes none);
      cut = inr (sym all, ap (λ n. drop n bytes) two ∙ drop_whole bytes, λ nothing. some (sym all ∙ nothing));
    }
