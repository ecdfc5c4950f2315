-- Bytes that a sink gains in several writes.
use Rattle.std.proofs.Common.{◌≡◌, ℕ, ◌+◌, ◌-◌, ◌<◌, ◌≤◌, List, ◌++◌, length, take, drop, sym, ◌∙◌, ap, append_assoc, take-add, length-drop, arith, rules}
use Rattle.std.specs.Prelude.{Option, Some, None}
use Rattle.std.proofs.lemmas.List.{take_all}
use Rattle.dsde_io.specs.Bytes.{Gains, GainsFront, Keeps}

-- the bytes from a place on, as a slice has them
rest_from : (xs : List ℕ) (n : ℕ) → take (length xs - n) (drop n xs) ≡ drop n xs
rest_from xs n = take_all _ (drop n xs) (omega (arith, length-drop n xs))

-- What was gained in a write after others.
pub gains_both : (a b c : Option (List ℕ)) (xs : List ℕ) (n k : ℕ) → Gains a b (take n xs) → Gains b c (take k (take (length xs - n) (drop n xs))) → Gains a c (take (n + k) xs)
gains_both None b c xs n k first second = tt
gains_both (Some all) b c xs n k first second =
    let then = rw (first, rest_from xs n) at second in
    then ∙ ap Some (append_assoc all _ _ ∙ ap (λ ys. all ++ ys) (sym (take-add n k xs)))

-- Nothing is gained before the first write.
pub gains_none : (a : Option (List ℕ)) (xs : List ℕ) → Gains a a (take 0 xs)
gains_none None xs = tt
gains_none (Some all) xs = search rules

-- All was gained.
pub gains_all : (a b : Option (List ℕ)) (xs : List ℕ) (n : ℕ) → length xs ≤ n → Gains a b (take n xs) → Gains a b xs
gains_all a b xs n long gained = rw (take_all n xs long) at gained

-- A part from the front was gained.
pub gains_front : (a b c : Option (List ℕ)) (xs : List ℕ) (n : ℕ) → n < length xs → Gains a b (take n xs) → Keeps b c → GainsFront a c xs
gains_front None b c xs n part gained kept = tt
gains_front (Some all) b c xs n part gained kept = (n, part, rw gained at kept)
