-- Which parts lie above others.
use Rattle.std.proofs.Common.{◌≡◌, ◌≢◌, ◌⊎◌, ℕ, ◌<◌, ◌≤◌, Contains, Option, Some, None, option_and_then, refl, sym, ap, subst, ◌∙◌, inl, inr, arith}
use Rattle.std.specs.FinMap as fin
use Rattle.std.proofs.lemmas.Bool.{cases_eq}
use Rattle.dsde_bank.specs.declared.handle.Handle.{Handle}
use Rattle.dsde_grove.specs.Grove.{IsAbove}
use Rattle.dsde_grove.specs.Grove.IsAbove.{itself, above_parent}
use Rattle.dsde_grove.specs.Inside.{parent_in, IsLinked}
use Rattle.dsde_grove.specs.declared.part.Part.{Part}
use Rattle.dsde_grove.specs.Part.{Kid}
use Rattle.dsde_grove.proofs.Trees.{Held}

abbrev pub Parents : Type 0
Parents = ℕ → Option Handle

-- a part lies above one that is itself, or whose parent it lies above
pub record IsAboveParent (parents : Parents) (top b : ℕ) : Type 0 where
  pub parent : Handle
  pub is : parents b ≡ Some parent
  pub above : IsAbove parents top parent.birth

pub above_cases : {parents : Parents} {top b : ℕ} → IsAbove parents top b → (b ≡ top) ⊎ IsAboveParent parents top b
above_cases itself = inl refl
above_cases (above_parent {parent = parent} is above) = inr record { parent = parent; is = is; above = above }

pub above_trans : {parents : Parents} {a b c : ℕ} → IsAbove parents a b → IsAbove parents b c → IsAbove parents a c
above_trans first itself = first
above_trans first (above_parent is above) = above_parent is (above_trans first above)

-- parents that agree
pub above_same : {old new : Parents} {top b : ℕ} → ((c : ℕ) → new c ≡ old c) → IsAbove old top b → IsAbove new top b
above_same same itself = itself
above_same {b = b} same (above_parent is above) = above_parent (same b ∙ is) (above_same same above)

-- a part above another is not born later
pub above_le : {parents : Parents} {a b : ℕ} → ((c : ℕ) (p : Handle) → parents c ≡ Some p → p.birth < c) → IsAbove parents a b → a ≤ b
above_le falls itself = omega arith
above_le {a = a} {b = b} falls (above_parent {parent = parent} is above) =
    let lower = falls b parent is in
    let rest = above_le falls above in
    omega arith

module _ {T : Type 0} where
  pub parent_from : (o : Option (ℕ × Part T)) (p : Handle) → option_and_then (λ placed. placed.1.parent) o ≡ Some p → (x : ℕ × Part T) × (o ≡ Some x) × (x.1.parent ≡ Some p)
  parent_from None p is = absurd (cc)
  parent_from (Some x) p is = (x, refl, is)

  pub parent_falls : (held : Held T) (next : ℕ) → IsLinked held next → (c : ℕ) (p : Handle) → parent_in held c ≡ Some p → p.birth < c
  parent_falls held next tree c p is = let from = parent_from (fin.get held c) p is in (tree.up c from.0 p from.1 from.2).later

  pub parent_of-placed : (held : Held T) (c : ℕ) (x : ℕ × Part T) → fin.get held c ≡ Some x → parent_in held c ≡ x.1.parent
  parent_of-placed held c x is = ap (option_and_then (λ (placed : ℕ × Part T). placed.1.parent)) is

  same_placed : (x y : ℕ × Part T) → Some x ≡ Some y → x ≡ y
  same_placed x y e = cc

  -- below a part, but not at it, lies one of its kids
  pub through_kid : (held : Held T) (next : ℕ) → IsLinked held next → (a : ℕ) (x : ℕ × Part T) → fin.get held a ≡ Some x → {b : ℕ} → (y : ℕ × Part T) → fin.get held b ≡ Some y → IsAbove (parent_in held) a b → b ≢ a
      → (kid : Kid) × Contains x.1.kids kid × IsAbove (parent_in held) kid.handle.birth b
  through_kid held next tree a x at y is itself other = absurd (other refl)
  through_kid held next tree a x at {b} y is (above_parent {parent = parent} parent_is above) other =
      let up = tree.up b y parent is (sym (parent_of-placed held b y is) ∙ parent_is) in
      elim (cases_eq parent.birth a) [
        | inl same ↦
            let here = same_placed (parent.slot, up.above) x (sym up.live ∙ ap (fin.get held) same ∙ at) in
            (record { name = y.1.name; handle = record { birth = b; slot = y.0 } }, subst (λ (p : ℕ × Part T). Contains p.1.kids record { name = y.1.name; handle = record { birth = b; slot = y.0 } }) here up.listed, itself)
        | inr differs ↦
            let kid = through_kid held next tree a x at (parent.slot, up.above) up.live above differs in
            (kid.0, kid.1, above_parent parent_is kid.2)
      ]
