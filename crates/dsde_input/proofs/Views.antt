-- What stands from a start to an end.
use Rattle.std.proofs.Common.{◌≡◌, ℕ, zero, suc, ◌+◌, ◌-◌, ◌≤◌, List, [], ◌∷◌, ◌++◌, length, take, drop, refl, sym, ◌∙◌, ap, arith}
use Rattle.std.specs.List.{copy_within}
use Rattle.std.proofs.lemmas.List.{length-take, length-drop, drop-take}
use Rattle.std.proofs.Math.Seq.{take-append_seam, take-add, drop-append_seam}

drop-nil : (m : ℕ) → drop {A = ℕ} m [] ≡ []
drop-nil zero = refl
drop-nil (suc m) = refl

drop-more : (n m : ℕ) (xs : List ℕ) → drop (n + m) xs ≡ drop m (drop n xs)
drop-more zero m xs = let none : zero + m ≡ m = omega arith in ap (λ k. drop k xs) none
drop-more (suc n) m [] = let more : suc n + m ≡ suc (n + m) = omega arith in ap (λ k. drop k []) more ∙ sym (drop-nil m)
drop-more (suc n) m (x ∷ xs) = let more : suc n + m ≡ suc (n + m) = omega arith in ap (λ k. drop k (x ∷ xs)) more ∙ drop-more n m xs

-- what is held after a read
pub view_read : (room new : List ℕ) (start end count : ℕ) → start ≤ end → end + count ≤ length room → length new ≡ length room → take end new ≡ take end room →
    take (end + count - start) (drop start new) ≡ take (end - start) (drop start room) ++ take count (drop end new)
view_read room new start end count order within same kept =
    let split : end + count - start ≡ (end - start) + count = omega arith in
    let whole : start + (end - start) ≡ end = omega arith in
    let front : take (end - start) (drop start new) ≡ take (end - start) (drop start room) =
    sym (drop-take start (end - start) new) ∙ ap (λ n. drop start (take n new)) whole ∙ ap (drop start) kept
    ∙ ap (λ n. drop start (take n room)) (sym whole) ∙ drop-take start (end - start) room in
    ap (λ n. take n (drop start new)) split
    ∙ take-add (end - start) count (drop start new)
    ∙ ap (λ l. l ++ take count (drop (end - start) (drop start new))) front
    ∙ ap (λ l. take (end - start) (drop start room) ++ take count l) (sym (drop-more start (end - start) new) ∙ ap (λ n. drop n new) whole)

-- what was read
pub read_piece : (old held new piece : List ℕ) (count : ℕ) → held ≡ old → new ≡ held ++ take count piece → drop (length old) new ≡ take count piece
read_piece old held new piece count same is =
    ap (drop (length old)) (is ∙ ap (λ l. l ++ take count piece) same) ∙ drop-append_seam old (take count piece)

-- what is held after the front was let go
pub view_pass : (room : List ℕ) (start end count : ℕ) → start + count ≤ end → end ≤ length room →
    take (end - (start + count)) (drop (start + count) room) ≡ drop count (take (end - start) (drop start room))
view_pass room start end count within size =
    let left : count + (end - (start + count)) ≡ end - start = omega arith in
    ap (take (end - (start + count))) (drop-more start count room)
    ∙ sym (drop-take count (end - (start + count)) (drop start room))
    ∙ ap (λ n. drop count (take n (drop start room))) left

-- what is held after it was moved to the front
pub view_moved : (moved room : List ℕ) (start end : ℕ) → start ≤ end → end ≤ length room → moved ≡ copy_within room start end 0 →
    take (end - start - 0) (drop 0 moved) ≡ take (end - start) (drop start room)
view_moved moved room start end order within is =
    let size : end - start - 0 ≡ length (take (end - start) (drop start room)) = omega (arith, length-take (end - start) (drop start room), length-drop start room) in
    ap (λ n. take n moved) size ∙ ap (take (length (take (end - start) (drop start room)))) is
    ∙ take-append_seam (take (end - start) (drop start room)) (drop (0 + (end - start)) room)

-- a list that fills its place
pub filled : (size : ℕ) (new behind : List ℕ) → length new ≡ size → take size (new ++ behind) ≡ new
filled size new behind same = ap (λ n. take n (new ++ behind)) (sym same) ∙ take-append_seam new behind
