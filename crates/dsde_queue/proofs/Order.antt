-- The order of pairs is total, and pairs that tie are equal.
use Rattle.std.proofs.Common.{◌≡◌, ℕ, Bool, true, false, refl}
use Rattle.std.proofs.lemmas.Cmp.{nat_cmp_total, then_total, on_total}
use Rattle.std.proofs.lemmas.List.MinMax.{ranks_by}
use Rattle.std.specs.Cmp.{IsTotalOrder, IsStrictWeakOrder}
use Rattle.std.specs.FinMap.{nat_cmp-IsAntisymmetric}
use Rattle.std.specs.Ordering.{nat_cmp, ordering_then, ordering_reverse, is_lt}
use Rattle.std.specs.declared.cmp.Ordering.{Ordering}
use Rattle.std.specs.declared.cmp.Ordering.TheVariants.{Less, Equal, Greater}
use Rattle.dsde_bank.specs.declared.handle.Handle.{Handle}
use Rattle.dsde_queue.specs.Queue.{order, comes_before}

abbrev pub Pair : Type 0
Pair = ℕ × Handle

pub order_total : IsTotalOrder order
order_total = then_total (on_total (λ (p : Pair). p.0) nat_cmp_total) (then_total (on_total (λ (p : Pair). p.1.birth) nat_cmp_total) (on_total (λ (p : Pair). p.1.slot) nat_cmp_total))

pub weak : IsStrictWeakOrder comes_before
weak = ranks_by order_total (λ (p : Pair). p)

-- a pair does not come before itself
pub never : (p : Pair) (b : Bool) → comes_before p p ≡ b → comes_before p p ≡ false
never p true e = weak.one_way p p e
never p false e = e

first_equal : (a b : Ordering) → ordering_then a b ≡ Equal → a ≡ Equal
first_equal Less b e = e
first_equal Equal b e = refl
first_equal Greater b e = e

second_equal : (a b : Ordering) → ordering_then a b ≡ Equal → b ≡ Equal
second_equal Less b e = absurd (cc)
second_equal Equal b e = e
second_equal Greater b e = absurd (cc)

neither : (a b : Ordering) → a ≡ ordering_reverse b → is_lt a ≡ false → is_lt b ≡ false → a ≡ Equal
neither Less b e p q = absurd (cc)
neither Equal b e p q = refl
neither Greater Less e p q = absurd (cc)
neither Greater Equal e p q = e
neither Greater Greater e p q = absurd (cc)

-- pairs of which neither comes first are equal
pub same_pair : (p q : Pair) → comes_before p q ≡ false → comes_before q p ≡ false → p ≡ q
same_pair p q pq qp =
    let tied = neither (order p q) (order q p) (order_total.antisymm p q) pq qp in
    let later = second_equal (nat_cmp p.0 q.0) _ tied in
    let times = nat_cmp-IsAntisymmetric p.0 q.0 (first_equal (nat_cmp p.0 q.0) _ tied) in
    let births = nat_cmp-IsAntisymmetric p.1.birth q.1.birth (first_equal (nat_cmp p.1.birth q.1.birth) _ later) in
    let slots = nat_cmp-IsAntisymmetric p.1.slot q.1.slot (second_equal (nat_cmp p.1.birth q.1.birth) _ later) in
    λ i. (times i, record { birth = births i; slot = slots i })
