-- What is taken out of a schedule is who is due.
use Rattle.std.proofs.Common.{◌≡◌, ◌≢◌, ◌⊎◌, inl, inr, ℕ, ◌+◌, ◌<◌, ◌≤◌, ◌==◌, ◌&&◌, not, nat_lt, ltb-true, ltb-false, eqb-true, eq-eqb, Bool, true, false, cond, List, [], ◌∷◌, ◌++◌, map, filter, Option, Some, None, IfSome, IsSome, MatchOption, IsPermutation, IsSorted, refl, sym, ap, subst, ◌∙◌, append_assoc, arith}
use Rattle.std.proofs.lemmas.Cmp.{eq_by_cmp_equiv, tied_itself}
use Rattle.std.proofs.lemmas.List.{append-nil}
use Rattle.std.proofs.lemmas.List.Sorted.{Contains-permutation, IsPermutation-refl, IsPermutation-sym}
use Rattle.std.proofs.lemmas.List.Kept.{IsStrictlySortedBy-dedup}
use Rattle.std.proofs.lemmas.Map.Keys.{IsDistinct-head, IsDistinct-tail, IsDistinct-cons, IsDistinct-IsPermutation}
use Rattle.std.specs.Option.{option_map, option_map_or}
use Rattle.std.specs.Ordering.{nat_cmp, ordering_then, is_lt}
use Rattle.std.specs.Cmp.{nat_cmp_is, nat_cmp_total}
use Rattle.std.specs.declared.cmp.Ordering.{Ordering}
use Rattle.std.specs.declared.cmp.Ordering.TheVariants.{Less, Equal}
use Rattle.std.specs.List.{AllByRecursion, Contains, IsDistinct, dedup, dedup_from}
use Rattle.std.specs.List.Sorted.{IsStrictlySortedBy}
use Rattle.std.specs.FinMap as finmap
use Rattle.dsde_bank.specs.declared.handle.Handle.{Handle}
use Rattle.dsde_values.specs.declared.path.Path.{Path}
use Rattle.dsde_values.specs.declared.when.When.{When}
use Rattle.dsde_values.specs.declared.when.When.TheVariants.{At}
use Rattle.dsde_sim_tree.specs.given.formalism.leaf_Leaf.{Leaf}
use Rattle.dsde_grove.specs.Grove as grove
use Rattle.dsde_grove.specs.Grove.{Grove, IsTree, spot, value_of}
use Rattle.dsde_queue.specs.Queue.{first_of, time_of, handles, IsOrdered, IsNotFirst, NoneBefore, TakesFirst, Queue, comes_before}
use Rattle.dsde_sim_movers.specs.lemmas.Events.{Among, each-among, among-from, contains-from}
use Rattle.dsde_routes_wiring.specs.Wired.{is_same_handle}
use Rattle.dsde_core_flat.specs.declared.spot.Spot.{Spot}
use Rattle.dsde_core_flat.specs.declared.spot.Spot.TheVariants as variant
use Rattle.dsde_core_flat.specs.Grafts.{path_at}
use Rattle.dsde_core_flat.specs.Scheduled.{is_next, IsScheduled, IsScheduledBut}
use Rattle.dsde_core_flat.specs.lemmas.Keeping.{spot-got}
use Rattle.dsde_core_flat.specs.lemmas.Groves.{spot-slot}
use Rattle.dsde_core_flat.specs.lemmas.Moves.{one-handle-at}
use Rattle.dsde_core_flat.specs.lemmas.Names.{path-exact, paths-total}
use Rattle.dsde_core_flat.specs.lemmas.Pairs.{first-least, current-next, next-current}
use Rattle.dsde_core_flat.specs.declared.due.Due.{Due}
use Rattle.dsde_core_flat.specs.Due.{IsDue, AreDue, due_cmp, is_tied, due_at, due_after, is_again, is_new, at_time, after_time, handle_of}
use Rattle.dsde_core_flat.proofs.DueOnes.{due-total}
use Rattle.dsde_core_flat.proofs.Members.{among-map, among-filter}

-- a schedule of which no pair was taken
pub none-taken : (time : ℕ) (old new : Queue) (result : Option Handle) → MatchOption result (IsNotFirst time old.pairs × (new ≡ old)) (λ (handle : Handle). TakesFirst old new (time, handle)) → result ≡ None →
    IsNotFirst time old.pairs × (new ≡ old)
none-taken time old new None taken is = taken
none-taken time old new (Some handle) taken is = absurd (let wrong : Some handle ≡ None = is in cc)

-- Births do not fall.
abbrev pub Climb : List Handle → Type 0
Climb [] = Unit {0}
Climb (handle ∷ hs) = AllByRecursion (λ (later : Handle). handle.birth ≤ later.birth) hs × Climb hs

-- Births rise.
abbrev pub Rise : List Due → Type 0
Rise [] = Unit {0}
Rise (due ∷ dues) = AllByRecursion (λ (later : Due). due.handle.birth < later.handle.birth) dues × Rise dues

module _ (own : Grove Spot) (time : ℕ) where
  -- whoever is taken is due
  both : (a b : Bool) → (a && b) ≡ true → (a ≡ true) × (b ≡ true)
  both true b h = (refl, h)
  both false b h = absurd (let wrong : false ≡ true = h in cc)

  due-by : (last : Option Handle) (handle : Handle) (hs : List Handle) (b : Bool) → is_new own time last handle ≡ b → ((other : Option Handle) → AllByRecursion (IsDue own time) (due_after own time other hs)) →
      AllByRecursion (IsDue own time) (cond b (due_at own handle ∷ due_after own time (Some handle) hs) (due_after own time last hs))
  due-by last handle hs true is later = (record { next = (both (is_next (value_of own handle) time) (not (is_again last handle)) is).0; path = refl }, later (Some handle))
  due-by last handle hs false is later = later last

  pub all-due : (last : Option Handle) (hs : List Handle) → AllByRecursion (IsDue own time) (due_after own time last hs)
  all-due last [] = tt
  all-due last (handle ∷ hs) = due-by last handle hs (is_new own time last handle) refl (λ other. all-due other hs)

  -- whoever is due is taken, or is the one before
  same-handle : (one other : Handle) → is_same_handle one other ≡ true → one ≡ other
  same-handle one other is =
      let parts = both (one.birth == other.birth) (one.slot == other.slot) is in
      let births = eqb-true one.birth other.birth parts.0 in
      let slots = eqb-true one.slot other.slot parts.1 in
      λ i. record { birth = births i; slot = slots i }

  new-or-again : (last : Option Handle) (handle : Handle) (b : Bool) → is_again last handle ≡ b → is_next (value_of own handle) time ≡ true → (is_new own time last handle ≡ true) ⊎ (last ≡ Some handle)
  new-or-again None handle again is next = inl (ap (λ (n : Bool). n && true) next)
  new-or-again (Some last) handle true is next = inr (ap (λ (h : Handle). let o : Option Handle = Some h in o) (same-handle last handle is))
  new-or-again (Some last) handle false is next = inl (λ i. next i && not (is i))

  the-due : (due : Due) → IsDue own time due → due_at own due.handle ≡ due
  the-due due is = λ i. record { path = sym is.path i; handle = due.handle }

  found-here : (last : Option Handle) (due : Due) (hs : List Handle) (b : Bool) → is_new own time last due.handle ≡ b → IsDue own time due → (is_new own time last due.handle ≡ true) ⊎ (last ≡ Some due.handle) →
      Among due (cond b (due_at own due.handle ∷ due_after own time (Some due.handle) hs) (due_after own time last hs)) ⊎ (last ≡ Some due.handle)
  found-here last due hs b is due_is (inr again) = inr again
  found-here last due hs true is due_is (inl new) = inl (inl (sym (the-due due due_is)))
  found-here last due hs false is due_is (inl new) = absurd (let wrong : true ≡ false = sym new ∙ is in cc)

  found-by : (last : Option Handle) (handle : Handle) (due : Due) (hs : List Handle) (b : Bool) → is_new own time last handle ≡ b → IsDue own time due →
      ((other : Option Handle) → Among due (due_after own time other hs) ⊎ (other ≡ Some due.handle)) →
      Among due (cond b (due_at own handle ∷ due_after own time (Some handle) hs) (due_after own time last hs)) ⊎ (last ≡ Some due.handle)
  found-by last handle due hs true is due_is later = elim (later (Some handle)) [
    | inl there ↦ inl (inr there)
    | inr here ↦ inl (inl (let e : Some handle ≡ Some due.handle = here in let same : handle ≡ due.handle = cc in sym (ap (due_at own) same ∙ the-due due due_is)))
  ]
  found-by last handle due hs false is due_is later = later last

  pub found-due : (last : Option Handle) (hs : List Handle) (due : Due) → IsDue own time due → Among due.handle hs → Among due (due_after own time last hs) ⊎ (last ≡ Some due.handle)
  found-due last [] due is there = absurd there
  found-due last (handle ∷ hs) due is (inl same) =
      subst (λ (h : Handle). Among due (due_after own time last (h ∷ hs)) ⊎ (last ≡ Some due.handle)) same
      (found-here last due hs (is_new own time last due.handle) refl is (new-or-again last due.handle (is_again last due.handle) refl is.next))
  found-due last (handle ∷ hs) due is (inr there) =
      found-by last handle due hs (is_new own time last handle) refl is (λ other. found-due other hs due is there)

  -- who is live under a handle, with its path
  live-with : (handle : Handle) (held : Option (grove.Spot Spot)) → spot own handle ≡ held → is_next (option_map (λ (s : grove.Spot Spot). s.value) held) time ≡ true →
      (part : grove.Spot Spot) × (spot own handle ≡ Some part) × (path_at own handle ≡ record { names = part.path })
  live-with handle None is next = absurd (let wrong : false ≡ true = next in cc)
  live-with handle (Some part) is next = (part, is, ap (λ (o : Option (grove.Spot Spot)). let p : Path = record { names = option_map_or (λ (s : grove.Spot Spot). s.path) o [] } in p) is)

  -- who has one birth is one
  one-birth : (one other : Handle) → is_next (value_of own one) time ≡ true → is_next (value_of own other) time ≡ true → one.birth ≡ other.birth → one ≡ other
  one-birth one other first second births =
      let a = live-with one (spot own one) refl first in
      let b = live-with other (spot own other) refl second in
      let got : finmap.get own.parts other.birth ≡ Some a.0 = ap (finmap.get own.parts) (sym births) ∙ spot-got own one a.0 a.1 in
      let its : finmap.get own.parts other.birth ≡ Some b.0 = spot-got own other b.0 b.1 in
      let parts : a.0 ≡ b.0 = cc in
      let slots : one.slot ≡ other.slot = sym (spot-slot own one a.0 a.1) ∙ ap (λ (s : grove.Spot Spot). s.slot) parts ∙ spot-slot own other b.0 b.1 in
      λ i. record { birth = births i; slot = slots i }

  -- who has one path is one
  one-path-one : IsTree own → (x y : Due) → IsDue own time x → IsDue own time y → x.path ≡ y.path → x ≡ y
  one-path-one tree x y one other path =
      let a = live-with x.handle (spot own x.handle) refl one.next in
      let b = live-with y.handle (spot own y.handle) refl other.next in
      let paths : a.0.path ≡ b.0.path = ap (λ (p : Path). p.names) (sym a.2 ∙ sym one.path ∙ path ∙ other.path ∙ b.2) in
      let same = one-handle-at own tree x.handle y.handle a.0 b.0 a.1 b.1 paths in
      λ i. record { path = path i; handle = same i }

  -- the one before is due, and was born before
  abbrev Behind : Option Handle → List Handle → Type 0
  Behind None hs = Unit {0}
  Behind (Some last) hs = (is_next (value_of own last) time ≡ true) × AllByRecursion (λ (later : Handle). last.birth ≤ later.birth) hs

  abbrev IsAbove : Option Handle → Due → Type 0
  IsAbove None due = Unit {0}
  IsAbove (Some last) due = last.birth < due.handle.birth

  next-behind : (last : Option Handle) (handle : Handle) (hs : List Handle) → Behind last (handle ∷ hs) → Behind last hs
  next-behind None handle hs behind = tt
  next-behind (Some last) handle hs behind = (behind.0, behind.1.1)

  -- a new one is above the one before
  above-new : (last : Option Handle) (handle : Handle) (hs : List Handle) → Behind last (handle ∷ hs) → is_new own time last handle ≡ true → IsAbove last (due_at own handle)
  above-new None handle hs behind is = tt
  above-new (Some last) handle hs behind is =
      let new = both (is_next (value_of own handle) time) (not (is_same_handle last handle)) is in
      let apart : last.birth ≢ handle.birth = λ births.
      let same = one-birth last handle behind.0 new.0 births in
      let yes : is_same_handle last handle ≡ true = ap (λ (h : Handle). is_same_handle last h) (sym same) ∙ (λ i. eq-eqb last.birth last.birth refl i && eq-eqb last.slot last.slot refl i) in
      let wrong : false ≡ true = ap not (sym yes) ∙ new.1 in
      cc in
      above last.birth handle.birth behind.1.0 apart
    where
      above : (n m : ℕ) → n ≤ m → n ≢ m → n < m
      above n m most other = omega (arith, most, other)

  above-later : (last : Option Handle) (handle : Handle) → IsAbove last (due_at own handle) → (dues : List Due) → AllByRecursion (λ (later : Due). handle.birth < later.handle.birth) dues → AllByRecursion (IsAbove last) dues
  above-later last handle above [] all = tt
  above-later None handle above (due ∷ dues) all = (tt, above-later None handle above dues all.1)
  above-later (Some last) handle above (due ∷ dues) all = (omega (arith, above, all.0), above-later (Some last) handle above dues all.1)

  rises-by : (last : Option Handle) (handle : Handle) (hs : List Handle) (b : Bool) → is_new own time last handle ≡ b → Behind last (handle ∷ hs) → AllByRecursion (λ (later : Handle). handle.birth ≤ later.birth) hs →
      ((other : Option Handle) → Behind other hs → AllByRecursion (IsAbove other) (due_after own time other hs) × Rise (due_after own time other hs)) →
      (let list : List Due = cond b (due_at own handle ∷ due_after own time (Some handle) hs) (due_after own time last hs) in AllByRecursion (IsAbove last) list × Rise list)
  rises-by last handle hs true is behind climb later =
      let next = (both (is_next (value_of own handle) time) (not (is_again last handle)) is).0 in
      let rest = later (Some handle) (next, climb) in
      let above = above-new last handle hs behind is in
      ((above, above-later last handle above (due_after own time (Some handle) hs) rest.0), (rest.0, rest.1))
  rises-by last handle hs false is behind climb later = later last (next-behind last handle hs behind)

  rises : (last : Option Handle) (hs : List Handle) → Climb hs → Behind last hs → AllByRecursion (IsAbove last) (due_after own time last hs) × Rise (due_after own time last hs)
  rises last [] climb behind = (tt, tt)
  rises last (handle ∷ hs) climb behind =
      rises-by last handle hs (is_new own time last handle) refl behind climb.0 (λ other its. rises other hs climb.1 its)

  -- so no two have one path
  module _ (tree : IsTree own) where
    tied-by : (x y : Due) → IsDue own time x → IsDue own time y → x.handle.birth < y.handle.birth → (b : Bool) → is_tied x y ≡ b → b ≡ false
    tied-by x y one other less true is =
        let same = one-path-one tree x y one other (path-exact x.path y.path is) in
        absurd (let births : x.handle.birth ≡ y.handle.birth = ap (λ (d : Due). d.handle.birth) same in omega (arith, less, births))
    tied-by x y one other less false is = refl

    untied : (x : Due) (ys : List Due) → IsDue own time x → AllByRecursion (IsDue own time) ys → AllByRecursion (λ (y : Due). x.handle.birth < y.handle.birth) ys → AllByRecursion (λ (y : Due). is_tied x y ≡ false) ys
    untied x [] one others less = tt
    untied x (y ∷ ys) one others less = (tied-by x y one others.0 less.0 (is_tied x y) refl, untied x ys one others.1 less.1)

    distinct-none : IsDistinct is_tied []
    unfolding IsDistinct
    distinct-none = tt

    distinct : (dues : List Due) → AllByRecursion (IsDue own time) dues → Rise dues → IsDistinct (is_tied) dues
    distinct [] all rise = distinct-none
    distinct (due ∷ dues) all rise = IsDistinct-cons (is_tied) due dues (untied due dues all.0 all.1 rise.0) (distinct dues all.1 rise.1)

-- where no two are the same each is left
module _ {X : Type 0} (same : X → X → Bool) (flips : (x y : X) → same x y ≡ same y x) where
  left-by : (k x : X) (xs : List X) (b : Bool) → same x k ≡ b → same k x ≡ false → dedup_from same x xs ≡ x ∷ xs → cond b (dedup_from same k xs) (k ∷ dedup_from same x xs) ≡ k ∷ x ∷ xs
  left-by k x xs true is apart rest = absurd (let wrong : true ≡ false = sym is ∙ flips x k ∙ apart in cc)
  left-by k x xs false is apart rest = ap (λ (ys : List X). k ∷ ys) rest

  left-from : (k : X) (xs : List X) → IsDistinct same (k ∷ xs) → dedup_from same k xs ≡ k ∷ xs
  left-from k [] all = refl
  left-from k (x ∷ xs) all =
      left-by k x xs (same x k) refl (IsDistinct-head same k (x ∷ xs) all).0 (left-from x xs (IsDistinct-tail same k (x ∷ xs) all))

  pub all-left-once : (xs : List X) → IsDistinct same xs → dedup same xs ≡ xs
  all-left-once [] all = refl
  all-left-once (x ∷ xs) all = left-from x xs all

-- The pairs at a time, of a schedule in which none is earlier.
module _ (time : ℕ) where
  abbrev pub IsFrom : List (ℕ × Handle) → Type 0
  IsFrom pairs = IfSome (option_map time_of (first_of pairs)) (λ first. time ≤ first)

  none-at-by : (p : ℕ × Handle) (rest : List (ℕ × Handle)) (b : Bool) → (p.0 == time) ≡ b → time < p.0 → (at_time time rest ≡ []) × (after_time time rest ≡ rest) →
      (cond b (p ∷ at_time time rest) (at_time time rest) ≡ []) × (cond (not b) (p ∷ after_time time rest) (after_time time rest) ≡ p ∷ rest)
  none-at-by p rest true is later all = absurd (let same = eqb-true p.0 time is in omega (arith, same, later))
  none-at-by p rest false is later all = (all.0, ap (λ (ps : List (ℕ × Handle)). p ∷ ps) all.1)

  none-at-all : (pairs : List (ℕ × Handle)) → AllByRecursion (λ (p : ℕ × Handle). time < p.0) pairs → (at_time time pairs ≡ []) × (after_time time pairs ≡ pairs)
  none-at-all [] all = (refl, refl)
  none-at-all (p ∷ rest) all = none-at-by p rest (p.0 == time) refl all.0 (none-at-all rest all.1)

  later-all : (first : ℕ) → time < first → (pairs : List (ℕ × Handle)) → AllByRecursion (λ (p : ℕ × Handle). first ≤ p.0) pairs → AllByRecursion (λ (p : ℕ × Handle). time < p.0) pairs
  later-all first less [] all = tt
  later-all first less (p ∷ rest) all = (omega (arith, less, all.0), later-all first less rest all.1)

  -- where the first is none of this time, none is
  pub none-at : (pairs : List (ℕ × Handle)) → IsOrdered pairs → IsFrom pairs → IsNotFirst time pairs → (at_time time pairs ≡ []) × (after_time time pairs ≡ pairs)
  none-at [] ordered from not_first = (refl, refl)
  none-at (p ∷ rest) ordered from not_first = none-at-all (p ∷ rest) (later-all p.0 (less p.0 from not_first) (p ∷ rest) (first-least p rest ordered))
    where
      less : (first : ℕ) → time ≤ first → first ≢ time → time < first
      less first most apart = omega (arith, most, apart)

  -- births at one time do not fall
  birth-after : (p q : ℕ × Handle) (b : Bool) → nat_lt q.1.birth p.1.birth ≡ b → comes_before q p ≡ false → q.0 ≡ p.0 → p.1.birth ≤ q.1.birth
  birth-after p q true is none same =
      let less = ltb-true q.1.birth p.1.birth is in
      let slots = nat_cmp q.1.slot p.1.slot in
      let tied : nat_cmp q.0 p.0 ≡ Equal = ap (nat_cmp q.0) (sym same) ∙ tied_itself nat_cmp_total q.0 in
      let yes : comes_before q p ≡ true =
      ap (λ (o : Ordering). is_lt (ordering_then o (ordering_then (nat_cmp q.1.birth p.1.birth) slots))) tied
      ∙ ap (λ (o : Ordering). is_lt (ordering_then o slots)) (sym (nat_cmp_is q.1.birth p.1.birth Less less)) in
      absurd (let wrong : true ≡ false = sym yes ∙ none in cc)
  birth-after p q false is none same = ltb-false q.1.birth p.1.birth is

  abbrev IsAfter : ℕ × Handle → ℕ × Handle → Type 0
  IsAfter p q = q.0 ≡ time → p.0 ≡ time → p.1.birth ≤ q.1.birth

  are-after : (p : ℕ × Handle) (rest : List (ℕ × Handle)) → NoneBefore p rest → AllByRecursion (IsAfter p) rest
  are-after p [] none = tt
  are-after p (q ∷ rest) none = ((λ at its. birth-after p q (nat_lt q.1.birth p.1.birth) refl none.0 (at ∙ sym its)), are-after p rest none.1)

  abbrev IsBorn : ℕ × Handle → Handle → Type 0
  IsBorn p later = p.1.birth ≤ later.birth

  those-by : (p q : ℕ × Handle) (qs : List (ℕ × Handle)) (b : Bool) → (q.0 == time) ≡ b → p.0 ≡ time → IsAfter p q → AllByRecursion (IsBorn p) (handles (at_time time qs)) →
      AllByRecursion (IsBorn p) (handles (cond b (q ∷ at_time time qs) (at_time time qs)))
  those-by p q qs true at its less later = (less (eqb-true q.0 time at) its, later)
  those-by p q qs false at its less later = later

  those : (p : ℕ × Handle) (qs : List (ℕ × Handle)) → p.0 ≡ time → AllByRecursion (IsAfter p) qs → AllByRecursion (IsBorn p) (handles (at_time time qs))
  those p [] its all = tt
  those p (q ∷ qs) its all = those-by p q qs (q.0 == time) refl its all.0 (those p qs its all.1)

  climb-by : (p : ℕ × Handle) (rest : List (ℕ × Handle)) (b : Bool) → (p.0 == time) ≡ b → AllByRecursion (IsAfter p) rest → Climb (handles (at_time time rest)) →
      Climb (handles (cond b (p ∷ at_time time rest) (at_time time rest)))
  climb-by p rest true is after climb = (those p rest (eqb-true p.0 time is) after, climb)
  climb-by p rest false is after climb = climb

  climbs : (pairs : List (ℕ × Handle)) → IsOrdered pairs → Climb (handles (at_time time pairs))
  climbs [] ordered = tt
  climbs (p ∷ rest) ordered = climb-by p rest (p.0 == time) refl (are-after p rest ordered.0) (climbs rest ordered.1)

-- What is taken of a schedule, and how it is sorted.
module _ (own : Grove Spot) (time : ℕ) (tree : IsTree own) (pairs : List (ℕ × Handle)) (scheduled : IsScheduled own pairs) (ordered : IsOrdered pairs)
    (list : List Due) (same : IsPermutation (due_after own time None (handles (at_time time pairs))) list) (sorted : IsSorted due_cmp list) where
  abbrev taken : List Due
  taken = due_after own time None (handles (at_time time pairs))

  flips : (x y : Due) → is_tied x y ≡ is_tied y x
  flips x y = (eq_by_cmp_equiv due-total).symm x y

  taken-apart : IsDistinct is_tied taken
  taken-apart = distinct own time tree taken (all-due own time None (handles (at_time time pairs))) (rises own time None (handles (at_time time pairs)) (climbs time pairs ordered) tt).1

  list-apart : IsDistinct is_tied list
  list-apart = IsDistinct-IsPermutation is_tied flips taken list same taken-apart

  in-list : (due : Due) → Among due taken → Contains list due
  in-list due there = Contains-permutation taken list due same (contains-from taken due there)

  is-taken : (due : Due) → Contains list due → Among due taken
  is-taken due there = among-from taken due (Contains-permutation list taken due (IsPermutation-sym taken list same) there)

  has-pair : (due : Due) → IsDue own time due → Among (time, due.handle) pairs
  has-pair due is =
      let next = current-next own (time, due.handle) is.next in
      among-from pairs (time, due.handle) (scheduled.due due.handle next.0 time next.1 next.2)

  due-there : (due : Due) → IsDue own time due → Among due taken
  due-there due is =
      let here : Among due.handle (handles (at_time time pairs)) =
      among-map (λ (q : ℕ × Handle). q.1) (time, due.handle) (at_time time pairs) (among-filter (λ (q : ℕ × Handle). q.0 == time) (time, due.handle) pairs (eq-eqb time time refl) (has-pair due is)) in
      elim (found-due own time None (handles (at_time time pairs)) due is here) [
        | inl there ↦ there
        | inr wrong ↦ absurd (let e : None ≡ Some due.handle = wrong in cc)
      ]

  pub taken-due : AreDue own time list
  taken-due = record {
    order = subst (IsStrictlySortedBy due_cmp) (all-left-once is_tied flips list list-apart) (IsStrictlySortedBy-dedup due-total (λ x y. refl) list sorted);
    each = λ due. (
      (λ there. each-among (IsDue own time) taken due (all-due own time None (handles (at_time time pairs))) (is-taken due there)),
      (λ is. in-list due (due-there due is)),
    );
  }

  waits-by : (handle : Handle) (leaf : Leaf) (next : ℕ) (now : Bool) → (next == time) ≡ now → value_of own handle ≡ Some (variant.Leaf leaf) → leaf.next ≡ At next →
      Contains (map handle_of list) handle ⊎ Contains (after_time time pairs) (next, handle)
  waits-by handle leaf next true is held at =
      let when : next ≡ time = eqb-true next time is in
      let due : IsDue own time (due_at own handle) = record { next = next-current own handle leaf time held (at ∙ ap (λ (n : ℕ). let w : When = At n in w) when); path = refl } in
      inl (contains-from (map handle_of list) handle (among-map handle_of (due_at own handle) list (among-from list (due_at own handle) (in-list (due_at own handle) (due-there (due_at own handle) due)))))
  waits-by handle leaf next false is held at =
      inr (contains-from (after_time time pairs) (next, handle)
      (among-filter (λ (q : ℕ × Handle). not (q.0 == time)) (next, handle) pairs (ap not is) (among-from pairs (next, handle) (scheduled.due handle leaf next held at))))

  pub taken-left : IsScheduledBut own (map handle_of list) (after_time time pairs)
  taken-left = record { due = λ handle leaf next held at. waits-by handle leaf next (next == time) refl held at }

-- where whoever is due has one path, at most one is taken
one-taken : (path : Path) (list : List Due) → IsDistinct is_tied list → AllByRecursion (λ (due : Due). due.path ≡ path) list → IsSorted due_cmp list
one-taken path [] apart all = λ k d low high. absurd (omega (arith, high))
one-taken path (x ∷ []) apart all = λ k d low high. absurd (omega (arith, high))
one-taken path (x ∷ y ∷ rest) apart all =
    let no : is_tied x y ≡ false = (IsDistinct-head is_tied x (y ∷ rest) apart).0 in
    let same : y.path ≡ x.path = all.1.0 ∙ sym all.0 in
    let yes : is_tied x y ≡ true = ap (λ (path : Path). is_tied x (record { path = path; handle = y.handle })) same ∙ (eq_by_cmp_equiv paths-total).refl x.path in
    absurd (let wrong : true ≡ false = sym yes ∙ no in cc)

module _ (own : Grove Spot) (time : ℕ) (tree : IsTree own) (pairs : List (ℕ × Handle)) (scheduled : IsScheduled own pairs) (ordered : IsOrdered pairs)
    (path : Path) (one : (due : Due) → IsDue own time due → due.path ≡ path) where
  abbrev pub lone-taken : List Due
  lone-taken = due_after own time None (handles (at_time time pairs))

  with-path : (list : List Due) → AllByRecursion (IsDue own time) list → AllByRecursion (λ (due : Due). due.path ≡ path) list
  with-path [] all = tt
  with-path (due ∷ dues) all = (one due all.0, with-path dues all.1)

  lone-sorted : IsSorted due_cmp lone-taken
  lone-sorted =
      let all = all-due own time None (handles (at_time time pairs)) in
      one-taken path lone-taken (distinct own time tree lone-taken all (rises own time None (handles (at_time time pairs)) (climbs time pairs ordered) tt).1) (with-path lone-taken all)

  pub lone-due : AreDue own time lone-taken
  lone-due = taken-due own time tree pairs scheduled ordered lone-taken (IsPermutation-refl lone-taken) lone-sorted

  pub lone-left : IsScheduledBut own (map handle_of lone-taken) (after_time time pairs)
  lone-left = taken-left own time tree pairs scheduled ordered lone-taken (IsPermutation-refl lone-taken) lone-sorted
