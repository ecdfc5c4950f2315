-- Pairs put in one after another make one ordered list, however they lay before.
use Rattle.std.proofs.Common.{◌≡◌, ℕ, zero, suc, ◌<◌, Bool, true, false, cond, List, [], ◌∷◌, length, get_or, set, refl, sym, ap, ◌∙◌, arith}
use Rattle.std.specs.List.{swap}
use Rattle.std.specs.List.Sorted.{IsPermutation}
use Rattle.std.proofs.lemmas.List.Sorted.{IsPermutation-keeps}
use Rattle.dsde_queue.specs.Queue.{comes_before, put, in_order, NoneBefore, IsOrdered}
use Rattle.dsde_queue.proofs.Order.{Pair, weak, same_pair}

pub put_first : (p q : Pair) (rest : List Pair) → comes_before q p ≡ false → put p (q ∷ rest) ≡ p ∷ q ∷ rest
put_first p q rest e = ap (λ b. cond b (q ∷ put p rest) (p ∷ q ∷ rest)) e

pub put_later : (p q : Pair) (rest : List Pair) → comes_before q p ≡ true → put p (q ∷ rest) ≡ q ∷ put p rest
put_later p q rest e = ap (λ b. cond b (q ∷ put p rest) (p ∷ q ∷ rest)) e

-- two pairs go into a list in either order: where both go first
both_first : (p q : Pair) (rest : List Pair) → put p rest ≡ p ∷ rest → put q rest ≡ q ∷ rest → (c d : Bool) → comes_before q p ≡ c → comes_before p q ≡ d → put p (q ∷ rest) ≡ put q (p ∷ rest)
both_first p q rest first second true true c d = absurd (let no = weak.one_way q p c in cc)
both_first p q rest first second true false c d = put_later p q rest c ∙ ap (λ l. q ∷ l) first ∙ sym (put_first q p rest d)
both_first p q rest first second false true c d = put_first p q rest c ∙ ap (λ l. p ∷ l) (sym second) ∙ sym (put_later q p rest d)
both_first p q rest first second false false c d =
    let same = same_pair p q d c in
    put_first p q rest c ∙ (λ i. same i ∷ sym same i ∷ rest) ∙ sym (put_first q p rest d)

-- where the second goes first, and the first does not
one_first : (p q y : Pair) (ys : List Pair) → comes_before y p ≡ true → comes_before y q ≡ false → (c : Bool) → comes_before q p ≡ c → put p (put q (y ∷ ys)) ≡ put q (put p (y ∷ ys))
one_first p q y ys a b true c =
    ap (put p) (put_first q y ys b) ∙ put_later p q (y ∷ ys) c ∙ ap (λ l. q ∷ l) (put_later p y ys a)
    ∙ sym (put_first q y (put p ys) b) ∙ sym (ap (put q) (put_later p y ys a))
one_first p q y ys a b false c = absurd (let no = weak.chain y q p b c in cc)

put_comm_at : (p q y : Pair) (ys : List Pair) → put p (put q ys) ≡ put q (put p ys) → (a b : Bool) → comes_before y p ≡ a → comes_before y q ≡ b → put p (put q (y ∷ ys)) ≡ put q (put p (y ∷ ys))
put_comm_at p q y ys later true true a b =
    ap (put p) (put_later q y ys b) ∙ put_later p y (put q ys) a ∙ ap (λ l. y ∷ l) later
    ∙ sym (put_later q y (put p ys) b) ∙ sym (ap (put q) (put_later p y ys a))
put_comm_at p q y ys later true false a b = one_first p q y ys a b _ refl
put_comm_at p q y ys later false true a b = sym (one_first q p y ys b a _ refl)
put_comm_at p q y ys later false false a b =
    ap (put p) (put_first q y ys b) ∙ both_first p q (y ∷ ys) (put_first p y ys a) (put_first q y ys b) _ _ refl refl ∙ sym (ap (put q) (put_first p y ys a))

pub put_comm : (p q : Pair) (l : List Pair) → put p (put q l) ≡ put q (put p l)
put_comm p q [] = both_first p q [] refl refl _ _ refl refl
put_comm p q (y ∷ ys) = put_comm_at p q y ys (put_comm p q ys) _ _ refl refl

-- a pair in another's place, and the other put in
set_put : (l : List Pair) (j : ℕ) (v d : Pair) → j < length l → put (get_or l j d) (in_order (set l j v)) ≡ put v (in_order l)
set_put [] j v d within = absurd (omega arith)
set_put (y ∷ ys) zero v d within = put_comm y v (in_order ys)
set_put (y ∷ ys) (suc j) v d within =
    put_comm (get_or ys j d) y (in_order (set ys j v)) ∙ ap (put y) (set_put ys j v d (omega arith)) ∙ put_comm y v (in_order ys)

exchanged : (l : List Pair) (i j : ℕ) (d : Pair) → i < length l → j < length l → in_order (set (set l i (get_or l j d)) j (get_or l i d)) ≡ in_order l
exchanged [] i j d u v = absurd (omega arith)
exchanged (x ∷ xs) zero zero d u v = refl
exchanged (x ∷ xs) zero (suc j) d u v = set_put xs j x d (omega arith)
exchanged (x ∷ xs) (suc i) zero d u v = set_put xs i x d (omega arith)
exchanged (x ∷ xs) (suc i) (suc j) d u v = ap (put x) (exchanged xs i j d (omega arith) (omega arith))

in_order-swap : (l : List Pair) (i j : ℕ) → i < length l → j < length l → in_order (swap l i j) ≡ in_order l
in_order-swap [] i j u v = absurd (omega arith)
in_order-swap (x ∷ xs) i j u v = exchanged (x ∷ xs) i j x u v

-- the same pairs make the same list
pub in_order-permutation : (xs ys : List Pair) → IsPermutation xs ys → in_order ys ≡ in_order xs
in_order-permutation xs ys moved =
    IsPermutation-keeps xs (λ l. in_order l ≡ in_order xs) refl (λ l i j u v same. in_order-swap l i j u v ∙ same) ys moved

length-put : (p : Pair) (l : List Pair) → length (put p l) ≡ suc (length l)
length-put p [] = refl
length-put p (q ∷ qs) = by (length-put p qs) _ refl
  where
    by : length (put p qs) ≡ suc (length qs) → (b : Bool) → comes_before q p ≡ b → length (put p (q ∷ qs)) ≡ suc (suc (length qs))
    by rest true e = ap length (put_later p q qs e) ∙ ap suc rest
    by rest false e = ap length (put_first p q qs e)

pub length-in_order : (l : List Pair) → length (in_order l) ≡ length l
length-in_order [] = refl
length-in_order (p ∷ ps) = length-put p (in_order ps) ∙ ap suc (length-in_order ps)

-- what comes before none of a list comes before none that is put in
none_put : (x p : Pair) (l : List Pair) → comes_before p x ≡ false → NoneBefore x l → NoneBefore x (put p l)
none_put x p [] first none = (first, tt)
none_put x p (q ∷ qs) first none = by (none_put x p qs first none.1) _ refl
  where
    by : NoneBefore x (put p qs) → (b : Bool) → comes_before q p ≡ b → NoneBefore x (put p (q ∷ qs))
    by rest true e = rw (put_later p q qs e) (none.0, rest)
    by rest false e = rw (put_first p q qs e) (first, (none.0, none.1))

none_in_order : (x : Pair) (l : List Pair) → NoneBefore x l → NoneBefore x (in_order l)
none_in_order x [] none = tt
none_in_order x (p ∷ ps) none = none_put x p (in_order ps) none.0 (none_in_order x ps none.1)

put_least : (x : Pair) (l : List Pair) → NoneBefore x l → put x l ≡ x ∷ l
put_least x [] none = refl
put_least x (q ∷ qs) none = put_first x q qs none.0

-- a pair that no other comes before is the first
pub in_order-least : (x : Pair) (l : List Pair) → NoneBefore x l → in_order (x ∷ l) ≡ x ∷ in_order l
in_order-least x l none = put_least x (in_order l) (none_in_order x l none)

pub none_by_index : (x : Pair) (l : List Pair) → ((k : ℕ) → k < length l → comes_before (get_or l k x) x ≡ false) → NoneBefore x l
none_by_index x [] none = tt
none_by_index x (q ∷ qs) none = (none zero (omega arith), none_by_index x qs (λ k within. none (suc k) (omega arith)))

none_chain : (x y : Pair) (l : List Pair) → comes_before y x ≡ false → NoneBefore y l → NoneBefore x l
none_chain x y [] first none = tt
none_chain x y (q ∷ qs) first none = (weak.chain q y x none.0 first, none_chain x y qs first none.1)

ordered_put : (p : Pair) (l : List Pair) → IsOrdered l → IsOrdered (put p l)
ordered_put p [] up = (tt, tt)
ordered_put p (q ∷ qs) up = by (ordered_put p qs up.1) _ refl
  where
    by : IsOrdered (put p qs) → (b : Bool) → comes_before q p ≡ b → IsOrdered (put p (q ∷ qs))
    by rest true e = rw (put_later p q qs e) (none_put q p qs (weak.one_way q p e) up.0, rest)
    by rest false e = rw (put_first p q qs e) ((e, none_chain p q qs e up.0), (up.0, up.1))

pub ordered_in_order : (l : List Pair) → IsOrdered (in_order l)
ordered_in_order [] = tt
ordered_in_order (p ∷ ps) = ordered_put p (in_order ps) (ordered_in_order ps)

pub in_order-ordered : (l : List Pair) → IsOrdered l → in_order l ≡ l
in_order-ordered [] up = refl
in_order-ordered (p ∷ ps) up = in_order-least p ps up.0 ∙ ap (λ l. p ∷ l) (in_order-ordered ps up.1)
