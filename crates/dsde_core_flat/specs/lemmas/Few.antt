-- A schedule of what is live and due has no more pairs than there are live parts.
use Rattle.std.proofs.Common.{◌≡◌, ◌≢◌, ℕ, ◌≤◌, List, [], ◌∷◌, length, map, Option, Some, None, refl, sym, ap, ◌∙◌, arith}
use Rattle.std.specs.Option.{option_map}
use Rattle.std.specs.List.{AllByRecursion}
use Rattle.std.specs.FinMap as finmap
use Rattle.std.proofs.lemmas.List.{length-map}
use Rattle.dsde_bank.specs.declared.handle.Handle.{Handle}
use Rattle.dsde_values.specs.declared.when.When.TheVariants.{At}
use Rattle.dsde_sim_tree.specs.given.formalism.leaf_Leaf.{Leaf}
use Rattle.dsde_grove.specs.Grove as grove
use Rattle.dsde_grove.specs.Grove.{Grove, spot, value_of}
use Rattle.dsde_core_flat.specs.declared.spot.Spot.{Spot}
use Rattle.dsde_core_flat.specs.declared.spot.Spot.TheVariants as variant
use Rattle.dsde_core_flat.specs.lemmas.Keeping.{spot-got}
use Rattle.dsde_core_flat.specs.lemmas.Groves.{spot-slot}
use Rattle.dsde_core_flat.specs.lemmas.Counting.{NoTwice, IsHeld}
use Rattle.dsde_core_flat.specs.lemmas.Live.{IsNext, PairsApart, at-most}

module _ (own : Grove Spot) where
  some-part : (held : Option (grove.Spot Spot)) (value : Spot) → option_map (λ (s : grove.Spot Spot). s.value) held ≡ Some value → (part : grove.Spot Spot) × (held ≡ Some part) × (part.value ≡ value)
  some-part None value is = absurd (let wrong : None ≡ Some value = is in cc)
  some-part (Some part) value is = (part, refl, cc)

  -- pairs of one birth are one pair
  one-pair : (p q : ℕ × Handle) → IsNext own p → IsNext own q → p.1.birth ≡ q.1.birth → p ≡ q
  one-pair p q one other births =
      let a = some-part (spot own p.1) (variant.Leaf one.0) one.1 in
      let b = some-part (spot own q.1) (variant.Leaf other.0) other.1 in
      let got : finmap.get own.parts q.1.birth ≡ Some a.0 = ap (finmap.get own.parts) (sym births) ∙ spot-got own p.1 a.0 a.1 in
      let its : finmap.get own.parts q.1.birth ≡ Some b.0 = spot-got own q.1 b.0 b.1 in
      let parts : a.0 ≡ b.0 = cc in
      let slots : p.1.slot ≡ q.1.slot = sym (spot-slot own p.1 a.0 a.1) ∙ ap (λ (s : grove.Spot Spot). s.slot) parts ∙ spot-slot own q.1 b.0 b.1 in
      let leaves : variant.Leaf one.0 ≡ variant.Leaf other.0 = sym a.2 ∙ ap (λ (s : grove.Spot Spot). s.value) parts ∙ b.2 in
      let leaf : one.0 ≡ other.0 = cc in
      let times : At p.0 ≡ At q.0 = sym one.2 ∙ ap (λ (l : Leaf). l.next) leaf ∙ other.2 in
      let time : p.0 ≡ q.0 = cc in
      ap (λ (n : ℕ). let r : ℕ × Handle = (n, p.1) in r) time
      ∙ ap (λ (n : ℕ). let r : ℕ × Handle = (q.0, record { birth = n; slot = p.1.slot }) in r) births
      ∙ ap (λ (n : ℕ). let r : ℕ × Handle = (q.0, record { birth = q.1.birth; slot = n }) in r) slots

  apart-births : (p : ℕ × Handle) (pairs : List (ℕ × Handle)) → IsNext own p → AllByRecursion (IsNext own) pairs → AllByRecursion (λ (q : ℕ × Handle). p ≢ q) pairs →
      AllByRecursion (λ (birth : ℕ). p.1.birth ≢ birth) (map (λ (q : ℕ × Handle). q.1.birth) pairs)
  apart-births p [] one all apart = tt
  apart-births p (q ∷ pairs) one all apart = ((λ same. apart.0 (one-pair p q one all.0 same)), apart-births p pairs one all.1 apart.1)

  no-twice : (pairs : List (ℕ × Handle)) → AllByRecursion (IsNext own) pairs → PairsApart pairs → NoTwice (map (λ (q : ℕ × Handle). q.1.birth) pairs)
  no-twice [] all apart = tt
  no-twice (p ∷ pairs) all apart = (apart-births p pairs all.0 all.1 apart.0, no-twice pairs all.1 apart.1)

  all-held : (pairs : List (ℕ × Handle)) → AllByRecursion (IsNext own) pairs → AllByRecursion (IsHeld (grove.Spot Spot) own.parts) (map (λ (q : ℕ × Handle). q.1.birth) pairs)
  all-held [] all = tt
  all-held (p ∷ pairs) all =
      let a = some-part (spot own p.1) (variant.Leaf all.0.0) all.0.1 in
      ((a.0, spot-got own p.1 a.0 a.1), all-held pairs all.1)

  pub few-pairs : (pairs : List (ℕ × Handle)) → AllByRecursion (IsNext own) pairs → PairsApart pairs → length pairs ≤ finmap.len own.parts
  few-pairs pairs all apart =
      let most = at-most (grove.Spot Spot) (map (λ (q : ℕ × Handle). q.1.birth) pairs) own.parts (no-twice pairs all apart) (all-held pairs all) in
      omega (arith, most, length-map pairs (λ (q : ℕ × Handle). q.1.birth))
