-- What stays in order as pairs are dropped.
use Rattle.std.proofs.Common.{◌≡◌, ◌≢◌, ℕ, zero, suc, ◌<◌, ◌≤◌, Bool, true, false, cond, List, [], ◌∷◌, length, get_or, refl, sym, ap, subst, ◌∙◌, arith}
use Rattle.std.specs.List.{AllPairs, dedup, dedup_from, items_where_true}
use Rattle.std.specs.List.Sorted.{IsSortedBy, IsPermutation}
use Rattle.std.proofs.lemmas.Bool.{true≢false}
use Rattle.std.proofs.lemmas.Bool.Decides.{nat_tests}
use Rattle.std.proofs.lemmas.List.Kept.{AllPairs-cons}
use Rattle.std.proofs.lemmas.List.Sorted.{sorted_far}
use Rattle.dsde_queue.specs.Queue.{comes_before, in_order, NoneBefore, IsOrdered, is_same}
use Rattle.dsde_queue.specs.Heap.{IsHeap}
use Rattle.dsde_queue.proofs.Order.{Pair, weak, never, same_pair}
use Rattle.dsde_queue.proofs.Sorting.{none_by_index, in_order-permutation, in_order-ordered}

-- what a sort ensures
far : (xs : List Pair) → IsSortedBy comes_before xs → (i j : ℕ) (d : Pair) → i ≤ j → j < length xs → comes_before (get_or xs j d) (get_or xs i d) ≡ false
far xs up i j d a b = sorted_far comes_before weak xs up i j d a b

ordered_by_index : (xs : List Pair) → ((i j : ℕ) (d : Pair) → i ≤ j → j < length xs → comes_before (get_or xs j d) (get_or xs i d) ≡ false) → IsOrdered xs
ordered_by_index [] up = tt
ordered_by_index (x ∷ xs) up = (
  none_by_index x xs (λ k within. up zero (suc k) x (omega arith) (omega arith)),
  ordered_by_index xs (λ i j d a b. up (suc i) (suc j) d (omega arith) (omega arith)),
)

pub ordered_from_sort : (xs : List Pair) → IsSortedBy comes_before xs → IsOrdered xs
ordered_from_sort xs up = ordered_by_index xs (far xs up)

none_at : (x : Pair) (xs : List Pair) → NoneBefore x xs → (j : ℕ) (d : Pair) → j < length xs → comes_before (get_or xs j d) x ≡ false
none_at x [] none j d within = absurd (omega arith)
none_at x (y ∷ ys) none zero d within = none.0
none_at x (y ∷ ys) none (suc j) d within = none_at x ys none.1 j d (omega arith)

later_after : (xs : List Pair) → IsOrdered xs → (i j : ℕ) (d : Pair) → i < j → j < length xs → comes_before (get_or xs j d) (get_or xs i d) ≡ false
later_after [] up i j d a b = absurd (omega arith)
later_after (x ∷ xs) up i zero d a b = absurd (omega arith)
later_after (x ∷ xs) up zero (suc j) d a b = none_at x xs up.0 j d (omega arith)
later_after (x ∷ xs) up (suc i) (suc j) d a b = later_after xs up.1 i j d (omega arith) (omega arith)

-- pairs in order are a heap
pub IsHeap-ordered : (xs : List Pair) → IsOrdered xs → IsHeap xs
IsHeap-ordered xs up = record { child = λ p k low kid d. later_after xs up p k d (omega (arith, kid.above)) kid.within }

none_where_true : (bs : List Bool) (x : Pair) (l : List Pair) → NoneBefore x l → NoneBefore x (items_where_true bs l)
none_where_true [] x l none = tt
none_where_true (b ∷ bs) x [] none = tt
none_where_true (true ∷ bs) x (q ∷ qs) none = (none.0, none_where_true bs x qs none.1)
none_where_true (false ∷ bs) x (q ∷ qs) none = none_where_true bs x qs none.1

pub ordered_where_true : (bs : List Bool) (l : List Pair) → IsOrdered l → IsOrdered (items_where_true bs l)
ordered_where_true [] l up = tt
ordered_where_true (b ∷ bs) [] up = tt
ordered_where_true (true ∷ bs) (q ∷ qs) up = (none_where_true bs q qs up.0, ordered_where_true bs qs up.1)
ordered_where_true (false ∷ bs) (q ∷ qs) up = ordered_where_true bs qs up.1

none_dedup : (z x : Pair) (l : List Pair) → NoneBefore z (x ∷ l) → NoneBefore z (dedup_from is_same x l)
none_dedup z x [] none = none
none_dedup z x (q ∷ qs) none = by (none_dedup z x qs (none.0, none.1.1)) (none_dedup z q qs none.1) (is_same q x)
  where
    by : NoneBefore z (dedup_from is_same x qs) → NoneBefore z (dedup_from is_same q qs) → (b : Bool) → NoneBefore z (cond b (dedup_from is_same x qs) (x ∷ dedup_from is_same q qs))
    by same other true = same
    by same other false = (none.0, other)

ordered_dedup_from : (x : Pair) (l : List Pair) → IsOrdered (x ∷ l) → IsOrdered (dedup_from is_same x l)
ordered_dedup_from x [] up = up
ordered_dedup_from x (q ∷ qs) up = by (ordered_dedup_from x qs (up.0.1, up.1.1)) (ordered_dedup_from q qs up.1) (is_same q x)
  where
    by : IsOrdered (dedup_from is_same x qs) → IsOrdered (dedup_from is_same q qs) → (b : Bool) → IsOrdered (cond b (dedup_from is_same x qs) (x ∷ dedup_from is_same q qs))
    by same other true = same
    by same other false = (none_dedup x q qs up.0, other)

pub ordered_dedup : (l : List Pair) → IsOrdered l → IsOrdered (dedup is_same l)
ordered_dedup [] up = tt
ordered_dedup (x ∷ xs) up = ordered_dedup_from x xs up

-- the pairs of a queue, sorted
pub in_order-sorted : (xs ys : List Pair) → IsPermutation xs ys → IsOrdered ys → in_order xs ≡ ys
in_order-sorted xs ys moved up = sym (in_order-permutation xs ys moved) ∙ in_order-ordered ys up

-- a pair comes before each of the list
abbrev BeforeAll : Pair → List Pair → Type 0
BeforeAll x [] = Unit {0}
BeforeAll x (y ∷ ys) = (comes_before x y ≡ true) × BeforeAll x ys

-- each pair comes before the later ones
abbrev IsStrict : List Pair → Type 0
IsStrict [] = Unit {0}
IsStrict (x ∷ xs) = BeforeAll x xs × IsStrict xs

-- what comes before a pair comes before each that does not come before that one
before_later : (x y z : Pair) → comes_before x y ≡ true → comes_before z y ≡ false → (b : Bool) → comes_before x z ≡ b → comes_before x z ≡ true
before_later x y z first later true is = is
before_later x y z first later false is = absurd (true≢false (sym first ∙ weak.chain x z y is later))

before_all : (x y : Pair) (l : List Pair) → comes_before x y ≡ true → NoneBefore y l → BeforeAll x l
before_all x y [] first none = tt
before_all x y (z ∷ zs) first none = (before_later x y z first none.0 _ refl, before_all x y zs first none.1)

is_same-itself : (x y : Pair) → y ≡ x → is_same y x ≡ true
is_same-itself x y same = subst (λ (z : Pair). is_same z x ≡ true) (sym same) (grind (arith, nat_tests))

-- of two pairs in order that are not the same, the first comes before the second
before_other : (x y : Pair) → comes_before y x ≡ false → is_same y x ≡ false → (b : Bool) → comes_before x y ≡ b → comes_before x y ≡ true
before_other x y up other true is = is
before_other x y up other false is = absurd (true≢false (sym (is_same-itself x y (same_pair y x up is)) ∙ other))

strict_dedup_from : (x : Pair) (l : List Pair) → IsOrdered (x ∷ l) → IsStrict (dedup_from is_same x l)
strict_dedup_from x [] up = (tt, tt)
strict_dedup_from x (q ∷ qs) up = by (strict_dedup_from x qs (up.0.1, up.1.1)) (strict_dedup_from q qs up.1) _ refl
  where
    by : IsStrict (dedup_from is_same x qs) → IsStrict (dedup_from is_same q qs) → (b : Bool) → is_same q x ≡ b → IsStrict (cond b (dedup_from is_same x qs) (x ∷ dedup_from is_same q qs))
    by same other true is = same
    by same other false is = (before_all x q (dedup_from is_same q qs) (before_other x q up.0.0 is _ refl) (none_dedup q q qs (never q _ refl, up.1.0)), other)

pub strict_dedup : (l : List Pair) → IsOrdered l → IsStrict (dedup is_same l)
strict_dedup [] up = tt
strict_dedup (x ∷ xs) up = strict_dedup_from x xs up

other_at : (x : Pair) (l : List Pair) → BeforeAll x l → (k : ℕ) (d : Pair) → k < length l → x ≢ get_or l k d
other_at x [] first k d within = absurd (omega arith)
other_at x (y ∷ ys) first zero d within = λ same. true≢false (sym first.0 ∙ ap (comes_before x) (sym same) ∙ never x _ refl)
other_at x (y ∷ ys) first (suc k) d within = other_at x ys first.1 k d (omega arith)

-- no pair stands twice where each comes before the later ones
pub strict_once : (l : List Pair) → IsStrict l → AllPairs (λ (x y : Pair). x ≢ y) l
strict_once [] strict = λ i j d less within. absurd (omega arith)
strict_once (x ∷ xs) strict = AllPairs-cons (λ (a b : Pair). a ≢ b) x xs (other_at x xs strict.0) (strict_once xs strict.1)
