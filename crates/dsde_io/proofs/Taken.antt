-- Bytes that are taken from the front of a list.
use Rattle.std.proofs.Common.{◌≡◌, ℕ, ◌+◌, ◌≤◌, List, ◌++◌, length, take, drop, sym, ◌∙◌, ap}
use Rattle.std.proofs.lemmas.List.{take-append-drop, take_at, length-take-le, drop-drop}

-- What was read, and what is left behind it, is what was left.
pub read_and_left : (bytes piece rest : List ℕ) (taken n : ℕ) → n ≤ length (drop taken bytes) → piece ≡ take n (drop taken bytes) ++ rest → drop taken bytes ≡ take n piece ++ drop (taken + n) bytes
read_and_left bytes piece rest taken n short read =
    let left : List ℕ = drop taken bytes in
    let front : take n piece ≡ take n left = ap (take n) read ∙ take_at (take n left) rest n (length-take-le n left short) in
    sym (ap (λ xs. xs ++ drop (taken + n) bytes) front ∙ ap (λ ys. take n left ++ ys) (sym (drop-drop n taken bytes)) ∙ take-append-drop n left)
