-- The pairs of the least time are taken one after another.
use Rattle.std.proofs.Common.{◌≡◌, ◌≢◌, ℕ, zero, suc, ◌+◌, ◌<◌, ◌≤◌, true, false, not, eqb, cond, List, [], ◌∷◌, ◌++◌, length, filter, All, Some, ◌⊎◌, inl, inr, subst, refl, sym, ap, ◌∙◌, arith}
use Rattle.std.proofs.lemmas.Bool.{eq-eqb}
use Rattle.std.proofs.lemmas.Bool.Decides.{nat_tests, eqb_tells}
use Rattle.std.proofs.lemmas.List.Filters.{length-filter_both}
use Rattle.dsde_bank.specs.Batch.{Batch}
use Rattle.dsde_bank.specs.declared.handle.Handle.{Handle}
use Rattle.dsde_queue.specs.Queue.{Queue, comes_before, NoneBefore, IsOrdered, first_of, due_of, later_than_due, handles, IsNotFirst}
use Rattle.dsde_queue.proofs.Order.{Pair}

-- the pairs of a time
abbrev pub at_time : ℕ → List Pair → List Pair
at_time t pairs = filter (λ q. eqb q.0 t) pairs

-- the pairs of other times
abbrev pub elsewhen : ℕ → List Pair → List Pair
elsewhen t pairs = filter (λ q. not (eqb q.0 t)) pairs

-- each pair is at this time or later
abbrev pub NoneEarlier : ℕ → List Pair → Type 0
NoneEarlier t [] = Unit {0}
NoneEarlier t (p ∷ ps) = (t ≤ p.0) × NoneEarlier t ps

-- some of the pairs of the time t were taken, and their handles added
pub record IsTaking (t : ℕ) (old now : Queue) (due_old due : Batch Handle) : Type 0 where
  pub none_earlier : NoneEarlier t now.pairs
  pub taken : due.items ++ handles (at_time t now.pairs) ≡ due_old.items ++ handles (at_time t old.pairs)
  pub others : elsewhen t now.pairs ≡ elsewhen t old.pairs
  pub room : now.spare + length (at_time t now.pairs) ≡ old.spare + length (at_time t old.pairs)
  pub due_room : due.spare + length (at_time t old.pairs) ≡ due_old.spare + length (at_time t now.pairs)

-- a pair that does not come before another is not earlier
time_le : (p q : Pair) → comes_before q p ≡ false → p.0 ≤ q.0
time_le p q none = grind (arith, nat_tests)

none_earlier : (p : Pair) (l : List Pair) → NoneBefore p l → NoneEarlier p.0 l
none_earlier p [] none = tt
none_earlier p (q ∷ qs) none = (time_le p q none.0, none_earlier p qs none.1)

-- no pair of a later time is due
all_later : (t u : ℕ) (l : List Pair) → t < u → NoneEarlier u l → (at_time t l ≡ []) × (elsewhen t l ≡ l)
all_later t u [] later none = (refl, refl)
all_later t u (q ∷ qs) later none =
    let test : eqb q.0 t ≡ false = differs (eqb_tells q.0 t) in
    let rest = all_later t u qs later none.1 in (
      ap (λ b. cond b (q ∷ at_time t qs) (at_time t qs)) test ∙ rest.0,
      ap (λ b. cond (not b) (q ∷ elsewhen t qs) (elsewhen t qs)) test ∙ ap (λ l. q ∷ l) rest.1,
    )
  where
    differs : ((eqb q.0 t ≡ true) × (q.0 ≡ t)) ⊎ ((eqb q.0 t ≡ false) × (q.0 ≢ t)) → eqb q.0 t ≡ false
    differs (inl (_, same)) = absurd (omega (arith, none.0))
    differs (inr (test, _)) = test

-- where the first pair is of another time, and none is earlier, none is left of that time
pub none_left : (t : ℕ) (l : List Pair) → IsOrdered l → NoneEarlier t l → IsNotFirst t l → (at_time t l ≡ []) × (elsewhen t l ≡ l)
none_left t [] up none other = (refl, refl)
none_left t (p ∷ ps) up none other =
    all_later t p.0 (p ∷ ps) (let apart : p.0 ≢ t = other in omega (arith, none.0)) (omega arith, none_earlier p ps up.0)

first_is : (l : List Pair) (t : ℕ) (h : Handle) → first_of l ≡ Some (t, h) → (rest : List Pair) × (l ≡ (t, h) ∷ rest)
first_is [] t h first = absurd (cc)
first_is (p ∷ ps) t h first = let same : p ≡ (t, h) = cc in (ps, ap (λ (q : Pair). q ∷ ps) same)

pub due_of-first : (l : List Pair) (t : ℕ) (h : Handle) → first_of l ≡ Some (t, h) → due_of l ≡ at_time t l
due_of-first l t h first = let is = first_is l t h first in ap due_of is.1 ∙ sym (ap (at_time t) is.1)

pub later_than_due-first : (l : List Pair) (t : ℕ) (h : Handle) → first_of l ≡ Some (t, h) → later_than_due l ≡ elsewhen t l
later_than_due-first l t h first = let is = first_is l t h first in ap later_than_due is.1 ∙ sym (ap (elsewhen t) is.1)

pub IsTaking-start : (t : ℕ) (h : Handle) (q : Queue) (due : Batch Handle) → first_of q.pairs ≡ Some (t, h) → IsOrdered q.pairs → IsTaking t q q due due
IsTaking-start t h q due first up =
    let is = first_is q.pairs t h first in
    let parts : IsOrdered ((t, h) ∷ is.0) = subst IsOrdered is.1 up in
    let none : NoneEarlier t ((t, h) ∷ is.0) = (omega arith, none_earlier (t, h) is.0 parts.0) in
    record { none_earlier = subst (NoneEarlier t) (sym is.1) none; taken = refl; others = refl; room = refl; due_room = refl }

-- the first pair of the time is one of them
pub one_due : (t : ℕ) (h : Handle) (l rest : List Pair) → l ≡ (t, h) ∷ rest → 0 < length (at_time t l)
one_due t h l rest is =
    let test : eqb t t ≡ true = eq-eqb t t refl in
    let long = ap (λ m. length (at_time t m)) is ∙ ap (λ b. length (cond b ((t, h) ∷ at_time t rest) (at_time t rest))) test in
    omega (arith, long)

-- where the first pair is of another time, and none is earlier, all are later
all_at_later : (t u : ℕ) (l : List Pair) → t < u → NoneEarlier u l → All (λ (p : Pair). t < p.0) l
all_at_later t u [] later none k d within = absurd (omega arith)
all_at_later t u (q ∷ qs) later none zero d within = omega (arith, none.0)
all_at_later t u (q ∷ qs) later none (suc k) d within = all_at_later t u qs later none.1 k d (omega arith)

pub left_later : (t : ℕ) (l : List Pair) → IsOrdered l → NoneEarlier t l → IsNotFirst t l → All (λ (p : Pair). t < p.0) l
left_later t [] up none other = λ k d within. absurd (omega arith)
left_later t (p ∷ ps) up none other = all_at_later t p.0 (p ∷ ps) (let apart : p.0 ≢ t = other in omega (arith, none.0)) (omega arith, none_earlier p ps up.0)

-- no more pairs are due than there are
pub few_due : (l : List Pair) → length (due_of l) ≤ length l
few_due [] = omega arith
few_due (p ∷ ps) =
    let both = length-filter_both (λ q. eqb q.0 p.0) (λ q. not (eqb q.0 p.0)) (λ q. refl) (p ∷ ps) in
    omega (arith, both)
