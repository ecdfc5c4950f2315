-- A schedule knows when the tree is due.
use Rattle.std.proofs.Common.{◌≡◌, ◌⊎◌, inl, inr, ℕ, zero, suc, length, get_or, ◌<◌, ◌≤◌, nat_lt, ltb-true, ltb-false, eqb-true, eq-eqb, ◌==◌, Bool, true, false, List, [], ◌∷◌, Option, Some, None, MatchOption, Contains, refl, sym, ap, subst, ◌∙◌, arith}
use Rattle.std.specs.Option.{option_map}
use Rattle.std.specs.Ordering.{nat_cmp, ordering_then, is_lt}
use Rattle.std.specs.declared.cmp.Ordering.{Ordering}
use Rattle.std.specs.declared.cmp.Ordering.TheVariants.{Less}
use Rattle.std.specs.Cmp.{nat_cmp_is}
use Rattle.std.specs.List.{AllByRecursion}
use Rattle.std.specs.FinMap as map
use Rattle.dsde_bank.specs.declared.handle.Handle.{Handle}
use Rattle.dsde_values.specs.declared.when.When.{When}
use Rattle.dsde_values.specs.declared.when.When.TheVariants.{At, Never}
use Rattle.dsde_values.specs.Path.{root}
use Rattle.dsde_sim_tree.specs.given.formalism.leaf_Leaf.{Leaf}
use Rattle.dsde_grove.specs.Grove as grove
use Rattle.dsde_grove.specs.Grove.{Grove, spot, value_of}
use Rattle.dsde_queue.specs.Queue.{Queue, IsOrdered, NoneBefore, TakesFirst, comes_before, first_of}
use Rattle.dsde_sim_tree.specs.declared.sim.Sim.{Sim}
use Rattle.dsde_sim_tree.specs.Tree.{next_time}
use Rattle.dsde_core_flat.specs.declared.spot.Spot.{Spot}
use Rattle.dsde_core_flat.specs.declared.spot.Spot.TheVariants as variant
use Rattle.dsde_routes_wiring.specs.declared.wiring.Wiring.{Wiring}
use Rattle.dsde_core_flat.specs.Shown.{leaf_in, part_under}
use Rattle.dsde_core_flat.specs.Places.{Place, part_places}
use Rattle.dsde_core_flat.specs.Stands.{is_net, StandsAt, HasBirth, StandsFor}
use Rattle.dsde_core_flat.specs.lemmas.Keeping.{spot-got}
use Rattle.dsde_core_flat.specs.lemmas.Groves.{spot-slot}
use Rattle.dsde_core_flat.specs.lemmas.Live.{IsNext}
use Rattle.dsde_sim_tree.specs.given.formalism.Leaf.{is_due}
use Rattle.dsde_core_flat.specs.Scheduled.{is_next, IsScheduled}
use Rattle.dsde_core_flat.specs.lemmas.Least.{IsNotLater, HasNext, IsLate, tree-least}

-- no pair of an ordered list is before the first
before : (p q : ℕ × Handle) (t : Bool) → nat_lt q.0 p.0 ≡ t → comes_before q p ≡ false → p.0 ≤ q.0
before p q true is none =
    let less : q.0 < p.0 = ltb-true q.0 p.0 is in
    let yes : comes_before q p ≡ true = ap (λ (o : Ordering). is_lt (ordering_then o (ordering_then (nat_cmp q.1.birth p.1.birth) (nat_cmp q.1.slot p.1.slot)))) (sym (nat_cmp_is q.0 p.0 Less less)) in
    absurd (let wrong : true ≡ false = sym yes ∙ none in cc)
before p q false is none = ltb-false q.0 p.0 is

none-before : (p : ℕ × Handle) (rest : List (ℕ × Handle)) → NoneBefore p rest → AllByRecursion (λ (q : ℕ × Handle). p.0 ≤ q.0) rest
none-before p [] none = tt
none-before p (q ∷ rest) none = (before p q (nat_lt q.0 p.0) refl none.0, none-before p rest none.1)

pub first-least : (p : ℕ × Handle) (rest : List (ℕ × Handle)) → IsOrdered (p ∷ rest) → AllByRecursion (λ (q : ℕ × Handle). p.0 ≤ q.0) (p ∷ rest)
first-least p rest ordered = (omega arith, none-before p rest ordered.0)

-- a fact of each item is one of an item
of-item : {X : Type 0} (P : X → Type 0) (xs : List X) (x : X) → AllByRecursion P xs → Contains xs x → P x
of-item P [] x all has = absurd (omega (arith, has.1))
of-item {X} P (y ∷ ys) x all has = item has.0 has.1 has.2 (λ later. of-item P ys x all.1 later)
  where
    item : (k : ℕ) → k < suc (length ys) → get_or (y ∷ ys) k x ≡ x → (Contains ys x → P x) → P x
    item zero within found rest = subst P found all.0
    item (suc k) within found rest = rest (k, omega arith, found)

module _ (own : Grove Spot) where
  leaf-of : (held : Spot) → is_net held ≡ false → (leaf : Leaf) × (held ≡ variant.Leaf leaf)
  leaf-of (variant.Leaf leaf) is = (leaf, refl)
  leaf-of (variant.Net model args) is = absurd (let wrong : true ≡ false = is in cc)

  place-of : (Q : Place → Type 0) (handle : Handle) (part : grove.Spot Spot) → spot own handle ≡ Some part → (ats : List Place) → AllByRecursion (StandsAt own) ats → AllByRecursion Q ats → HasBirth handle.birth ats →
      (at : Place) × (at.handle ≡ handle) × Q at × (at.is_net ≡ is_net part.value)
  place-of Q handle part live [] stands all has = absurd has
  place-of Q handle part live (at ∷ ats) stands all (inl here) =
      let one : map.get own.parts handle.birth ≡ Some stands.0.part = ap (map.get own.parts) (sym here) ∙ spot-got own at.handle stands.0.part stands.0.live in
      let two : map.get own.parts handle.birth ≡ Some part = spot-got own handle part live in
      let same : stands.0.part ≡ part = cc in
      let slots : at.handle.slot ≡ handle.slot = sym (spot-slot own at.handle stands.0.part stands.0.live) ∙ ap (λ (s : grove.Spot Spot). s.slot) same ∙ spot-slot own handle part live in (
        at,
        ap (λ (n : ℕ). let h : Handle = record { birth = n; slot = at.handle.slot } in h) here ∙ ap (λ (n : ℕ). let h : Handle = record { birth = handle.birth; slot = n } in h) slots,
        all.0,
        sym stands.0.kind ∙ ap (λ (s : grove.Spot Spot). is_net s.value) same,
      )
  place-of Q handle part live (at ∷ ats) stands all (inr later) = place-of Q handle part live ats stands.1 all.1 later

  -- a leaf at a place that is due has its pair
  next-pair : (pairs : List (ℕ × Handle)) → IsScheduled own pairs → (next : ℕ) (ats : List Place) → AllByRecursion (StandsAt own) ats → HasNext (value_of own) (At next) ats → (handle : Handle) × Contains pairs (next, handle)
  next-pair pairs scheduled next [] stands has = absurd has
  next-pair pairs scheduled next (at ∷ ats) stands (inl here) =
      let held = leaf-of stands.0.part.value (stands.0.kind ∙ here.0) in
      let value : value_of own at.handle ≡ Some (variant.Leaf held.0) = ap (option_map (λ (s : grove.Spot Spot). s.value)) stands.0.live ∙ ap (λ (s : Spot). let o : Option Spot = Some s in o) held.1 in
      (at.handle, scheduled.due at.handle held.0 next value (ap (λ (o : Option Spot). (leaf_in o).next) (sym value) ∙ here.1))
  next-pair pairs scheduled next (at ∷ ats) stands (inr later) = next-pair pairs scheduled next ats stands.1 later

some-spot : (own : Grove Spot) (handle : Handle) (leaf : Leaf) (held : Option (grove.Spot Spot)) → spot own handle ≡ held → option_map (λ (s : grove.Spot Spot). s.value) held ≡ Some (variant.Leaf leaf) →
    (part : grove.Spot Spot) × (spot own handle ≡ Some part) × (is_net part.value ≡ false)
some-spot own handle leaf None is value = absurd (let wrong : None ≡ Some (variant.Leaf leaf) = value in cc)
some-spot own handle leaf (Some part) is value = (part, is, (let e : Some part.value ≡ Some (variant.Leaf leaf) = value in let one : part.value ≡ variant.Leaf leaf = cc in ap is_net one))

same-time : (next : When) (time : ℕ) → IsNotLater next (At time) → ((other : ℕ) → next ≡ At other → time ≤ other) → next ≡ At time
same-time Never time less more = absurd less
same-time (At next) time less more = let m = more next refl in let e : next ≡ time = omega arith in ap (λ (n : ℕ). let w : When = At n in w) e

-- Where the first pair is that of a live leaf, the tree is due at its time.
pub first-is-next : (own : Grove Spot) (top : Handle) (wiring : Option Wiring) (tree : Sim) (pair : ℕ × Handle) (rest : List (ℕ × Handle)) → StandsFor own top wiring tree → IsScheduled own (pair ∷ rest) → IsOrdered (pair ∷ rest) →
    IsNext own pair → next_time tree ≡ At pair.0
first-is-next own top wiring tree pair rest stands scheduled ordered next =
    let least = tree-least (value_of own) top root wiring in
    let here = some-spot own pair.1 next.0 (spot own pair.1) refl next.1 in
    let at = place-of own (IsLate (value_of own) (next_time (part_under (value_of own) top wiring))) pair.1 here.0 here.1 (part_places top root wiring) stands.live least.late (stands.only pair.1.birth here.0 (spot-got own pair.1 here.0 here.1)) in
    let late = at.2 (at.3 ∙ here.2) in
    let leaf : (leaf_in (value_of own at.0.handle)).next ≡ At pair.0 = ap (λ (h : Handle). (leaf_in (value_of own h)).next) at.1 ∙ ap (λ (o : Option Spot). (leaf_in o).next) next.1 ∙ next.2 in
    ap next_time (sym stands.shows)
    ∙ same-time (next_time (part_under (value_of own) top wiring)) pair.0 (subst (λ (w : When). IsNotLater (next_time (part_under (value_of own) top wiring)) w) leaf late)
    (λ other is.
    let has = next-pair own (pair ∷ rest) scheduled other (part_places top root wiring) stands.live (subst (λ (w : When). HasNext (value_of own) w (part_places top root wiring)) is least.there) in
    of-item (λ (q : ℕ × Handle). pair.0 ≤ q.0) (pair ∷ rest) (other, has.0) (first-least pair rest ordered) has.1)

empty-at : (own : Grove Spot) (ats : List Place) (next : When) → IsScheduled own [] → AllByRecursion (StandsAt own) ats → HasNext (value_of own) next ats → next ≡ Never
empty-at own ats Never scheduled stands has = refl
empty-at own ats (At time) scheduled stands has = absurd (let pair = next-pair own [] scheduled time ats stands has in omega (arith, pair.1.1))

-- Where no pair is left, the tree is never due.
pub none-is-next : (own : Grove Spot) (top : Handle) (wiring : Option Wiring) (tree : Sim) → StandsFor own top wiring tree → IsScheduled own [] → next_time tree ≡ Never
none-is-next own top wiring tree stands scheduled =
    ap next_time (sym stands.shows)
    ∙ empty-at own (part_places top root wiring) (next_time (part_under (value_of own) top wiring)) scheduled stands.live (tree-least (value_of own) top root wiring).there

-- a pair that is current
held-next : (held : Option Spot) (time : ℕ) → is_next held time ≡ true → (leaf : Leaf) × (held ≡ Some (variant.Leaf leaf)) × (is_due leaf time ≡ true)
held-next None time is = absurd (let wrong : false ≡ true = is in cc)
held-next (Some (variant.Net model args)) time is = absurd (let wrong : false ≡ true = is in cc)
held-next (Some (variant.Leaf leaf)) time is = (leaf, refl, is)

due-when : (next : When) (time : ℕ) → (elim next [ At at ↦ at == time | Never ↦ false ]) ≡ true → next ≡ At time
due-when (At at) time is = ap (λ (n : ℕ). let w : When = At n in w) (eqb-true at time is)
due-when Never time is = absurd (let wrong : false ≡ true = is in cc)

pub current-next : (own : Grove Spot) (pair : ℕ × Handle) → is_next (value_of own pair.1) pair.0 ≡ true → IsNext own pair
current-next own pair is = let held = held-next (value_of own pair.1) pair.0 is in (held.0, held.1, due-when held.0.next pair.0 held.2)

next-due : (next : When) (time : ℕ) → next ≡ At time → (elim next [ At at ↦ at == time | Never ↦ false ]) ≡ true
next-due next time is = ap (λ (w : When). elim w [ At at ↦ at == time | Never ↦ false ]) is ∙ eq-eqb time time refl

pub next-current : (own : Grove Spot) (handle : Handle) (leaf : Leaf) (next : ℕ) → value_of own handle ≡ Some (variant.Leaf leaf) → leaf.next ≡ At next → is_next (value_of own handle) next ≡ true
next-current own handle leaf next held is = ap (λ (o : Option Spot). is_next o next) held ∙ next-due leaf.next next is

listed-cases : {X : Type 0} (head x : X) (rest : List X) → Contains (head ∷ rest) x → (head ≡ x) ⊎ Contains rest x
listed-cases {X} head x rest has = by-index has.0 has.1 has.2
  where
    by-index : (k : ℕ) → k < suc (length rest) → get_or (head ∷ rest) k x ≡ x → (head ≡ x) ⊎ Contains rest x
    by-index zero within found = inl found
    by-index (suc k) within found = inr (k, omega arith, found)

-- A pair that is stale may go.
pub stale-goes : (own : Grove Spot) (pairs rest : List (ℕ × Handle)) (first : ℕ × Handle) → IsScheduled own pairs → pairs ≡ first ∷ rest → is_next (value_of own first.1) first.0 ≡ false → IsScheduled own rest
stale-goes own pairs rest first scheduled are stale = record {
  due = λ handle leaf next held is. elim (listed-cases first (next, handle) rest (subst (λ (ps : List (ℕ × Handle)). Contains ps (next, handle)) are (scheduled.due handle leaf next held is))) [
    | inl same ↦ absurd (
        let yes : is_next (value_of own first.1) first.0 ≡ true = ap (λ (p : ℕ × Handle). is_next (value_of own p.1) p.0) same ∙ next-current own handle leaf next held is in
        let wrong : true ≡ false = sym yes ∙ stale in cc)
    | inr later ↦ later
  ];
}

-- the first pair tells when the tree is due
pub front-tells : (own : Grove Spot) (pairs : List (ℕ × Handle)) (pair : ℕ × Handle) → IsScheduled own pairs → IsOrdered pairs → first_of pairs ≡ Some pair → is_next (value_of own pair.1) pair.0 ≡ true →
    (top : Handle) (wiring : Option Wiring) (tree : Sim) → StandsFor own top wiring tree → next_time tree ≡ At pair.0
front-tells own [] pair scheduled ordered is current top wiring tree stands = absurd (let wrong : None ≡ Some pair = is in cc)
front-tells own (first ∷ rest) pair scheduled ordered is current top wiring tree stands =
    let same : first ≡ pair = cc in
    first-is-next own top wiring tree first rest stands scheduled ordered (current-next own first (ap (λ (p : ℕ × Handle). is_next (value_of own p.1) p.0) same ∙ current)) ∙ ap (λ (p : ℕ × Handle). let w : When = At p.0 in w) same

pub front-none : (own : Grove Spot) (pairs : List (ℕ × Handle)) → IsScheduled own pairs → first_of pairs ≡ None →
    (top : Handle) (wiring : Option Wiring) (tree : Sim) → StandsFor own top wiring tree → next_time tree ≡ Never
front-none own [] scheduled is top wiring tree stands = none-is-next own top wiring tree stands scheduled
front-none own (first ∷ rest) scheduled is top wiring tree stands = absurd (let wrong : Some first ≡ None = is in cc)

-- the first pair has left
pub took : (old new : Queue) (result : Option (ℕ × Handle)) (pair : ℕ × Handle) → MatchOption result ((old.pairs ≡ []) × (new ≡ old)) (TakesFirst old new) → first_of old.pairs ≡ Some pair → old.pairs ≡ pair ∷ new.pairs
took old new None pair taken is = absurd (let wrong : None ≡ Some pair = ap first_of (sym taken.0) ∙ is in cc)
took old new (Some first) pair taken is =
    let e : Some first ≡ Some pair = ap first_of (sym taken.pairs) ∙ is in
    let same : first ≡ pair = cc in
    taken.pairs ∙ ap (λ (p : ℕ × Handle). p ∷ new.pairs) same
