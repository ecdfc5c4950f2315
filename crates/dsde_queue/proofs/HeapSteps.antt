-- What an exchange keeps of a heap.
use Rattle.std.proofs.Common.{◌≡◌, ◌≢◌, ℕ, zero, suc, ◌+◌, ◌-◌, ◌/◌, ◌<◌, ◌≤◌, true, false, List, [], ◌∷◌, ◌++◌, length, length-append, length-take, get_or, set, refl, sym, ap, ◌∙◌, inl, inr, arith}
use Rattle.std.specs.List.{swap, swap_remove}
use Rattle.std.proofs.lemmas.Bool.{cases_eq}
use Rattle.std.proofs.lemmas.List.{get_or-take, get_or_append_left, get_or-set_same, get_or-set_other, length-set}
use Rattle.std.proofs.lemmas.List.Edits.{swap_is}
use Rattle.dsde_queue.specs.Queue.{comes_before}
use Rattle.dsde_queue.specs.Heap.{ComesBeforeAt, IsChild, IsHeap, IsHeapFrom, IsHeapBut, IsFirstChild}
use Rattle.dsde_queue.proofs.Order.{Pair, weak, never}

-- a comparison of what two indices hold, at equal pairs
along : {a b x y : Pair} → a ≡ x → b ≡ y → comes_before x y ≡ false → comes_before a b ≡ false
along p q h = (λ i. comes_before (p i) (q i)) ∙ h

-- no child comes before its parent, but where the pair at `at` is the parent
pub record IsHeapUnder (pairs : List Pair) (at : ℕ) : Type 0 where
  pub child : (parent child : ℕ) → parent ≢ at → IsChild pairs parent child → ComesBeforeAt pairs child parent false
  pub through : (parent child : ℕ) → IsChild pairs parent at → IsChild pairs at child → ComesBeforeAt pairs child parent false

module _ (xs ys : List Pair) (j c : ℕ) (apart : j < c) (within : c < length xs) (is : ys ≡ swap xs j c) where
  written : (d : Pair) → ys ≡ set (set xs j (get_or xs c d)) c (get_or xs j d)
  written d = is ∙ sym (swap_is xs j c d (omega arith) within)

  pub same_length : length ys ≡ length xs
  same_length = let d : Pair = (0, record { birth = 0; slot = 0 }) in ap length (written d) ∙ length-set _ c _ ∙ length-set xs j _

  at_upper : (d : Pair) → get_or ys j d ≡ get_or xs c d
  at_upper d = ap (λ (l : List Pair). get_or l j d) (written d) ∙ get_or-set_other (set xs j (get_or xs c d)) c j (get_or xs j d) d (omega arith) ∙ get_or-set_same xs j (get_or xs c d) d (omega arith)

  at_lower : (d : Pair) → get_or ys c d ≡ get_or xs j d
  at_lower d = ap (λ (l : List Pair). get_or l c d) (written d) ∙ get_or-set_same (set xs j (get_or xs c d)) c (get_or xs j d) d (omega (arith, length-set xs j (get_or xs c d)))

  elsewhere : (k : ℕ) (d : Pair) → k ≢ j → k ≢ c → get_or ys k d ≡ get_or xs k d
  elsewhere k d u v = ap (λ (l : List Pair). get_or l k d) (written d) ∙ get_or-set_other (set xs j (get_or xs c d)) c k (get_or xs j d) d v ∙ get_or-set_other xs j k (get_or xs c d) d u

  before : (p k : ℕ) → IsChild ys p k → IsChild xs p k
  before p k h = record { above = h.above; below = h.below; within = omega (arith, h.within, same_length) }

  -- the pair rises
  pub rises : IsChild xs j c → ComesBeforeAt xs c j true → IsHeapBut xs c → IsHeapBut ys j
  rises child_of first h = record { child = child; through = through }
    where
      below_it : (p k : ℕ) (d : Pair) → p ≡ c → IsChild xs p k → comes_before (get_or ys k d) (get_or ys p d) ≡ false
      below_it p k d e kid =
          along (elsewhere k d (omega (arith, kid.above)) (omega (arith, kid.above))) (ap (λ m. get_or ys m d) e ∙ at_lower d)
          (h.through j k child_of record { above = omega (arith, kid.above); below = omega (arith, kid.below); within = kid.within } d)

      it : (p k : ℕ) (d : Pair) → k ≡ c → IsChild xs p k → comes_before (get_or ys k d) (get_or ys p d) ≡ false
      it p k d e kid =
          let parent : p ≡ j = omega (arith, kid.above, kid.below, child_of.above, child_of.below) in
          along (ap (λ m. get_or ys m d) e ∙ at_lower d) (ap (λ m. get_or ys m d) parent ∙ at_upper d) (weak.one_way (get_or xs c d) (get_or xs j d) (first d))

      beside : (p k : ℕ) (d : Pair) → p ≡ j → k ≢ c → IsChild xs p k → comes_before (get_or ys k d) (get_or ys p d) ≡ false
      beside p k d e other kid =
          let kid' : IsChild xs j k = record { above = omega (arith, kid.above); below = omega (arith, kid.below); within = kid.within } in
          along (elsewhere k d (omega (arith, kid.above)) other) (ap (λ m. get_or ys m d) e ∙ at_upper d)
          (weak.chain (get_or xs k d) (get_or xs j d) (get_or xs c d) (h.child j k other kid' d) (weak.one_way (get_or xs c d) (get_or xs j d) (first d)))

      child : (p k : ℕ) → k ≢ j → IsChild ys p k → ComesBeforeAt ys k p false
      child p k other kid d =
          elim (cases_eq p c) [
            | inl e ↦ below_it p k d e (before p k kid)
            | inr u ↦ elim (cases_eq k c) [
              | inl e ↦ it p k d e (before p k kid)
              | inr v ↦ elim (cases_eq p j) [
                | inl e ↦ beside p k d e v (before p k kid)
                | inr w ↦ along (elsewhere k d other v) (elsewhere p d w u) (h.child p k v (before p k kid) d)
              ]
            ]
          ]

      through : (p k : ℕ) → IsChild ys p j → IsChild ys j k → ComesBeforeAt ys k p false
      through p k upper kid d =
          let over : comes_before (get_or xs j d) (get_or xs p d) ≡ false = h.child p j (omega arith) (before p j upper) d in
          let above : get_or ys p d ≡ get_or xs p d = elsewhere p d (omega (arith, upper.above)) (omega (arith, upper.above)) in
          elim (cases_eq k c) [
            | inl e ↦ along (ap (λ m. get_or ys m d) e ∙ at_lower d) above over
            | inr v ↦ along (elsewhere k d (omega (arith, kid.above)) v) above (weak.chain (get_or xs k d) (get_or xs j d) (get_or xs p d) (h.child j k v (before j k kid) d) over)
          ]

  -- the pair sinks
  pub sinks : IsChild xs j c → ComesBeforeAt xs c j true → IsFirstChild xs j c → IsHeapUnder xs j → IsHeapUnder ys c
  sinks child_of first best h = record { child = child; through = through }
    where
      child : (p k : ℕ) → p ≢ c → IsChild ys p k → ComesBeforeAt ys k p false
      child p k u kid d = elim (cases_eq k c) [
        | inl e ↦
            let parent : p ≡ j = omega (arith, kid.above, kid.below, child_of.above, child_of.below) in
            along (ap (λ m. get_or ys m d) e ∙ at_lower d) (ap (λ m. get_or ys m d) parent ∙ at_upper d) (weak.one_way (get_or xs c d) (get_or xs j d) (first d))
        | inr v ↦ elim (cases_eq p j) [
          | inl e ↦
              let kid' : IsChild xs j k = record { above = omega (arith, kid.above); below = omega (arith, kid.below); within = omega (arith, kid.within, same_length) } in
              along (elsewhere k d (omega (arith, kid.above)) v) (ap (λ m. get_or ys m d) e ∙ at_upper d) (best.first k kid' d)
          | inr w ↦ elim (cases_eq k j) [
            | inl e ↦
                let upper : IsChild xs p j = record { above = omega (arith, kid.above); below = omega (arith, kid.below); within = omega arith } in
                along (ap (λ m. get_or ys m d) e ∙ at_upper d) (elsewhere p d w u) (h.through p c upper child_of d)
            | inr z ↦ along (elsewhere k d z v) (elsewhere p d w u) (h.child p k w (before p k kid) d)
          ]
        ]
      ]

      through : (p k : ℕ) → IsChild ys p c → IsChild ys c k → ComesBeforeAt ys k p false
      through p k upper kid d =
          let parent : p ≡ j = omega (arith, upper.above, upper.below, child_of.above, child_of.below) in
          along (elsewhere k d (omega (arith, kid.above)) (omega (arith, kid.above))) (ap (λ m. get_or ys m d) parent ∙ at_upper d)
          (h.child c k (omega arith) (before c k kid) d)

module _ (xs : List Pair) where
  pub at_root : IsHeapBut xs 0 → IsHeap xs
  at_root h = record { child = λ p k low kid. h.child p k (omega (arith, kid.above)) kid }

  pub stays_below : (j c : ℕ) → IsChild xs j c → ComesBeforeAt xs c j false → IsHeapBut xs c → IsHeap xs
  stays_below j c child_of stays h = record { child = child }
    where
      child : (p k : ℕ) → 0 ≤ p → IsChild xs p k → ComesBeforeAt xs k p false
      child p k low kid d = elim (cases_eq k c) [
        | inl e ↦
            let parent : p ≡ j = omega (arith, kid.above, kid.below, child_of.above, child_of.below) in
            along (ap (λ m. get_or xs m d) e) (ap (λ m. get_or xs m d) parent) (stays d)
        | inr v ↦ h.child p k v kid d
      ]

  pub at_leaf : (j : ℕ) → length xs / 2 ≤ j → IsHeapUnder xs j → IsHeap xs
  at_leaf j leaf h = record { child = λ p k low kid. h.child p k (omega (arith, kid.above, kid.within)) kid }

  pub stays_above : (j c : ℕ) → IsFirstChild xs j c → ComesBeforeAt xs c j false → IsHeapUnder xs j → IsHeap xs
  stays_above j c best stays h = record { child = child }
    where
      child : (p k : ℕ) → 0 ≤ p → IsChild xs p k → ComesBeforeAt xs k p false
      child p k low kid d = elim (cases_eq p j) [
        | inl e ↦
            let kid' : IsChild xs j k = record { above = omega (arith, kid.above); below = omega (arith, kid.below); within = kid.within } in
            along (λ i. get_or xs k d) (ap (λ m. get_or xs m d) e) (weak.chain (get_or xs k d) (get_or xs c d) (get_or xs j d) (best.first k kid' d) (stays d))
        | inr w ↦ h.child p k w kid d
      ]

  pub begins : IsHeapFrom xs 1 → IsHeapUnder xs 0
  begins h = record {
    child = λ p k u kid. h.child p k (omega arith) kid;
    through = λ p k upper kid. absurd (omega (arith, upper.above));
  }

  -- no pair of a heap comes before its first
  pub top : (d : Pair) → IsHeap xs → (fuel k : ℕ) → k ≤ fuel → k < length xs → comes_before (get_or xs k d) (get_or xs 0 d) ≡ false
  top d h zero k a b = let e : k ≡ 0 = omega arith in along (ap (λ m. get_or xs m d) e) (λ i. get_or xs 0 d) (never (get_or xs 0 d) _ refl)
  top d h (suc fuel) k a b = elim (cases_eq k 0) [
    | inl e ↦ along (ap (λ m. get_or xs m d) e) (λ i. get_or xs 0 d) (never (get_or xs 0 d) _ refl)
    | inr n ↦ weak.chain (get_or xs k d) (get_or xs ((k - 1) / 2) d) (get_or xs 0 d) (h.child ((k - 1) / 2) k (omega arith) record { above = omega arith; below = omega arith; within = b } d) (top d h fuel ((k - 1) / 2) (omega arith) (omega arith))
  ]

  -- the last pair in place of the first
  pub begins_again : (x : Pair) (new : List Pair) → 0 < length xs → new ≡ swap_remove xs 0 x → IsHeap xs → IsHeapFrom new 1
  begins_again x new some is h = record { child = child }
    where
      long : length new ≡ length xs - 1
      long = ap length is ∙ length-take (length xs - 1) (set xs 0 (get_or xs (length xs - 1) x)) ∙ omega (arith, length-set xs 0 (get_or xs (length xs - 1) x))

      same : (k : ℕ) (d : Pair) → 1 ≤ k → k < length new → get_or new k d ≡ get_or xs k d
      same k d low high =
          ap (λ (l : List Pair). get_or l k d) is ∙ get_or-take (length xs - 1) (set xs 0 (get_or xs (length xs - 1) x)) k d (omega (arith, long))
          ∙ get_or-set_other xs 0 k (get_or xs (length xs - 1) x) d (omega arith)

      child : (p k : ℕ) → 1 ≤ p → IsChild new p k → ComesBeforeAt new k p false
      child p k low kid d =
          along (same k d (omega (arith, kid.above)) kid.within) (same p d low (omega (arith, kid.above, kid.within)))
          (h.child p k (omega arith) record { above = kid.above; below = kid.below; within = omega (arith, kid.within, long) } d)

  -- a pair more at the end
  pub heap_but_last : (x : Pair) (new : List Pair) → new ≡ xs ++ x ∷ [] → IsHeap xs → IsHeapBut new (length xs)
  heap_but_last x new is h = record { child = child; through = through }
    where
      long : length new ≡ length xs + 1
      long = ap length is ∙ length-append xs (x ∷ [])

      same : (k : ℕ) (d : Pair) → k < length xs → get_or new k d ≡ get_or xs k d
      same k d high = ap (λ (l : List Pair). get_or l k d) is ∙ get_or_append_left xs (x ∷ []) d k high

      child : (p k : ℕ) → k ≢ length xs → IsChild new p k → ComesBeforeAt new k p false
      child p k other kid d =
          along (same k d (omega (arith, kid.within, long))) (same p d (omega (arith, kid.above, kid.within, long)))
          (h.child p k (omega arith) record { above = kid.above; below = kid.below; within = omega (arith, kid.within, long) } d)

      through : (p k : ℕ) → IsChild new p (length xs) → IsChild new (length xs) k → ComesBeforeAt new k p false
      through p k upper kid d = absurd (omega (arith, kid.above, kid.within, long))
