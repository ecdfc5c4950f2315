-- What the calls of a queue do to the pairs in order.
use Rattle.std.proofs.Common.{◌≡◌, ℕ, suc, ◌<◌, false, List, [], ◌∷◌, ◌++◌, length, get_or, take, drop, slice_get, All, refl, sym, ap, ◌∙◌, arith}
use Rattle.std.specs.List.{swap_remove}
use Rattle.std.specs.List.Sorted.{IsPermutation}
use Rattle.std.proofs.lemmas.List.{drop_all, take_all, append-nil}
use Rattle.std.proofs.lemmas.List.Elements.{All-tail}
use Rattle.std.proofs.lemmas.List.Sorted.{IsPermutation-cons, IsPermutation-trans, IsPermutation-swap_remove, IsPermutation-to_front, All-permutation, IsPermutation-sym}
use Rattle.dsde_queue.specs.Queue.{comes_before, put, in_order, NoneBefore, first_of}
use Rattle.dsde_queue.specs.Heap.{IsHeap}
use Rattle.dsde_queue.proofs.Order.{Pair}
use Rattle.dsde_queue.proofs.HeapSteps.{top}
use Rattle.dsde_queue.proofs.Sorting.{none_by_index, in_order-least, in_order-permutation}

-- a slice of a whole list, written back
pub whole : (new items : List Pair) (n : ℕ) → length new ≡ length items → n ≡ length items → take n (new ++ drop (length new) items) ≡ new
whole new items n same all =
    let rest : drop (length new) items ≡ [] = drop_all (length new) items (omega arith) in
    ap (λ l. take n (new ++ l)) rest ∙ ap (take n) (append-nil new) ∙ take_all n new (omega arith)

none_first : (x : Pair) (xs : List Pair) → IsHeap (x ∷ xs) → NoneBefore x xs
none_first x xs heap = none_by_index x xs (λ k within. top (x ∷ xs) x heap (suc k) (suc k) (omega arith) (omega arith))

-- the first pair of a heap is the first in order
pub first_of-heap : (xs : List Pair) → IsHeap xs → slice_get xs 0 ≡ first_of (in_order xs)
first_of-heap [] heap = refl
first_of-heap (x ∷ xs) heap = sym (ap first_of (in_order-least x xs (none_first x xs heap)))

-- the pairs in order, once the first is taken out and the others are moved
pub in_order-taken : (xs new : List Pair) (x : Pair) → 0 < length xs → x ≡ get_or xs 0 x → IsPermutation (swap_remove xs 0 x) new → IsHeap xs → in_order xs ≡ x ∷ in_order new
in_order-taken [] new x some is moved heap = absurd (omega arith)
in_order-taken (y ∷ ys) new x some is moved heap =
    let all : IsPermutation (y ∷ ys) (x ∷ new) = IsPermutation-trans (y ∷ ys) (x ∷ swap_remove (y ∷ ys) 0 x) (x ∷ new) (IsPermutation-swap_remove (y ∷ ys) 0 x some is) (IsPermutation-cons x (swap_remove (y ∷ ys) 0 x) new moved) in
    let none : All (λ q. comes_before q x ≡ false) (y ∷ ys) = λ k d within. ap (comes_before (get_or (y ∷ ys) k d)) is ∙ top (y ∷ ys) d heap k k (omega arith) within in
    let after = All-tail (λ q. comes_before q x ≡ false) x new (All-permutation (λ q. comes_before q x ≡ false) (y ∷ ys) (x ∷ new) all none) in
    sym (in_order-permutation (y ∷ ys) (x ∷ new) all) ∙ in_order-least x new (none_by_index x new (λ k within. after k x within))

-- the pairs in order, once one is added and all are moved
pub in_order-added : (xs new : List Pair) (x : Pair) → IsPermutation (xs ++ x ∷ []) new → in_order new ≡ put x (in_order xs)
in_order-added xs new x moved =
    in_order-permutation (xs ++ x ∷ []) new moved ∙ in_order-permutation (x ∷ xs) (xs ++ x ∷ []) (IsPermutation-sym (xs ++ x ∷ []) (x ∷ xs) (IsPermutation-to_front xs x))
