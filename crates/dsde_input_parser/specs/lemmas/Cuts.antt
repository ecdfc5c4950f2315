-- Texts that are cut at the first byte of some value.
use Rattle.std.proofs.Common.{◌≡◌, ◌≢◌, ℕ, suc, ◌+◌, ◌<◌, ◌≤◌, Bool, true, false, not, cond, ◌==◌, List, [], ◌∷◌, ◌++◌, length, take, drop, refl, ap, arith}
use Rattle.std.specs.Prelude.{Some, None}
use Rattle.std.specs.List.{position, prefix_len}
use Rattle.std.proofs.lemmas.Option.{cond_some}
use Rattle.std.proofs.lemmas.Bool.Decides.{nat_tests}
use Rattle.std.proofs.Math.Numerals.{one-add, add-one}
use Rattle.dsde_input_records.specs.Lines.{Lacks}

pub Lacks-append : (byte : ℕ) (xs ys : List ℕ) → Lacks byte xs → Lacks byte ys → Lacks byte (xs ++ ys)
Lacks-append byte [] ys first then = then
Lacks-append byte (x ∷ xs) ys first then = (first.0, Lacks-append byte xs ys first.1 then)

-- Two cuts of one text are one.
pub same_cut : (byte : ℕ) (a b c d : List ℕ) → a ++ byte ∷ b ≡ c ++ byte ∷ d → Lacks byte a → Lacks byte c → (a ≡ c) × (b ≡ d)
same_cut byte [] b [] d same first then = (refl, let tails : b ≡ d = cc in tails)
same_cut byte [] b (y ∷ c) d same first then = absurd (then.0 cc)
same_cut byte (x ∷ a) b [] d same first then = absurd (first.0 cc)
same_cut byte (x ∷ a) b (y ∷ c) d same first then =
    let heads : x ≡ y = cc in
    let tails : a ++ byte ∷ b ≡ c ++ byte ∷ d = cc in
    let p = same_cut byte a b c d tails first.1 then.1 in
    (let e = p.0 in cc, p.1)

-- A text without the byte is not cut.
pub no_cut : (byte : ℕ) (text a b : List ℕ) → Lacks byte text → text ≢ a ++ byte ∷ b
no_cut byte [] [] b none same = cc
no_cut byte [] (x ∷ a) b none same = cc
no_cut byte (first ∷ text) [] b none same = none.0 cc
no_cut byte (first ∷ text) (x ∷ a) b none same =
    let tails : text ≡ a ++ byte ∷ b = cc in no_cut byte text a b none.1 tails

-- A text is cut at the first byte of that value.
pub record IsCut (byte : ℕ) (text : List ℕ) (at : ℕ) : Type 0 where
  pub whole : text ≡ take at text ++ byte ∷ drop (at + 1) text
  pub first : Lacks byte (take at text)
  pub within : at < length text

abbrev other : ℕ → ℕ → Bool
other byte x = not (x == byte)

cut_here : (here : Bool) (byte x : ℕ) (xs : List ℕ) → (x == byte) ≡ here → (prefix_len (other byte) xs < length xs → IsCut byte xs (prefix_len (other byte) xs)) →
    cond (not here) (1 + prefix_len (other byte) xs) 0 < suc (length xs) → IsCut byte (x ∷ xs) (cond (not here) (1 + prefix_len (other byte) xs) 0)
cut_here true byte x xs is behind within =
    let same : x ≡ byte = grind (arith, nat_tests) in
    record { whole = rw same refl; first = tt; within = within }
cut_here false byte x xs is behind within =
    let cut = behind (omega arith) in
    let apart : x ≢ byte = λ same. grind (arith, nat_tests) in
    record { whole = rw (one-add, add-one) (rw add-one at (ap (λ rest. x ∷ rest) cut.whole)); first = rw one-add (apart, cut.first); within = within }

cut_from_prefix : (byte : ℕ) (text : List ℕ) → prefix_len (other byte) text < length text → IsCut byte text (prefix_len (other byte) text)
cut_from_prefix byte [] within = absurd (omega arith)
cut_from_prefix byte (x ∷ xs) within =
    cut_here (x == byte) byte x xs refl (cut_from_prefix byte xs) within

-- where a text is cut
pub cut_from_position : (byte : ℕ) (text : List ℕ) (at : ℕ) → position (λ x. x == byte) text ≡ Some at → IsCut byte text at
cut_from_position byte text at found =
    let p = cond_some _ _ _ found in
    let within : prefix_len (other byte) text < length text = grind (arith, nat_tests) in
    rw p.1 at (cut_from_prefix byte text within)

lacks_here : (here : Bool) (byte x : ℕ) (xs : List ℕ) → (x == byte) ≡ here → (length xs ≤ prefix_len (other byte) xs → Lacks byte xs) →
    suc (length xs) ≤ cond (not here) (1 + prefix_len (other byte) xs) 0 → Lacks byte (x ∷ xs)
lacks_here true byte x xs is behind past = absurd (omega arith)
lacks_here false byte x xs is behind past = (λ same. grind (arith, nat_tests), behind (omega arith))

lacks_from_prefix : (byte : ℕ) (text : List ℕ) → length text ≤ prefix_len (other byte) text → Lacks byte text
lacks_from_prefix byte [] past = tt
lacks_from_prefix byte (x ∷ xs) past = lacks_here (x == byte) byte x xs refl (lacks_from_prefix byte xs) past

pub none_from_cond : {X : Type 0} (test : Bool) (x : X) → cond test (Some x) None ≡ None → test ≡ false
none_from_cond true x none = cc
none_from_cond false x none = refl

-- a text that is not cut
pub lacks_from_position : (byte : ℕ) (text : List ℕ) → position (λ x. x == byte) text ≡ None → Lacks byte text
lacks_from_position byte text none =
    let p = none_from_cond _ _ none in
    let past : length text ≤ prefix_len (other byte) text = grind (arith, nat_tests) in
    lacks_from_prefix byte text past
