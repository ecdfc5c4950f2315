-- What is told of items that the root sends.
use Rattle.std.proofs.Common.{◌≡◌, ◌≢◌, ◌∙◌, ℕ, zero, suc, ◌+◌, ◌<◌, ◌≤◌, ◌==◌, eqb-true, eq-eqb, Bool, true, false, cond, List, [], ◌∷◌, ◌++◌, map, refl, sym, ap, arith, ◌⊎◌, inl, inr}
use Rattle.std.specs.List.{range_with_len}
use Rattle.dsde_values.specs.declared.arrival.Item.{Item}
use Rattle.dsde_sim_tree.specs.declared.event.Event.{Event}
use Rattle.dsde_sim_tree.specs.declared.event.Event.TheVariants.{Out}
use Rattle.dsde_sim_tree.specs.Output.{by_port, outs_at, outs_from, values_at}

-- no items tell nothing
none-behind : (first many : ℕ) → outs_from first (map (values_at []) (range_with_len first many)) ≡ []
none-behind first zero = refl
none-behind first (suc many) = none-behind (first + 1) many

pub none-told : (many : ℕ) → outs_from 0 (by_port many []) ≡ []
none-told many = none-behind 0 many

module _ (item : Item) where
  abbrev one : List Item
  one = item ∷ []

  abbrev told_if : ℕ → Bool → List Event
  told_if port here = outs_at port (map (λ (own : Item). own.value) (cond here one []))

  elsewhere : (port : ℕ) (here : Bool) → (item.port == port) ≡ here → item.port ≢ port → told_if port here ≡ []
  elsewhere port true is apart = absurd (apart (eqb-true item.port port is))
  elsewhere port false is apart = refl

  at-port : (port : ℕ) (here : Bool) → (item.port == port) ≡ here → item.port ≡ port → told_if port here ≡ Out item.port item.value ∷ []
  at-port port true is same = ap (λ (port : ℕ). let list : List Event = Out port item.value ∷ [] in list) (sym same)
  at-port port false is same = absurd (let wrong : true ≡ false = sym (eq-eqb item.port port same) ∙ is in cc)

  abbrev told_from : ℕ → ℕ → List Event
  told_from first many = outs_from first (map (values_at one) (range_with_len first many))

  before : (first many : ℕ) → item.port < first → told_from first many ≡ []
  before first zero less = refl
  before first (suc many) less =
      ap (λ (list : List Event). list ++ told_from (first + 1) many) (elsewhere first (item.port == first) refl (λ same. absurd (omega (arith, same, less))))
      ∙ before (first + 1) many (omega (arith, less))

  behind : (first many : ℕ) → first + many ≤ item.port → told_from first many ≡ []
  behind first zero less = refl
  behind first (suc many) less =
      ap (λ (list : List Event). list ++ told_from (first + 1) many) (elsewhere first (item.port == first) refl (λ same. absurd (omega (arith, same, less))))
      ∙ behind (first + 1) many (omega (arith, less))

  here-or-later : (first : ℕ) → first ≤ item.port → (item.port ≡ first) ⊎ (first + 1 ≤ item.port)
  here-or-later first up = by (item.port == first) refl
    where
      later : (port first : ℕ) → first ≤ port → port ≢ first → first + 1 ≤ port
      later port first up apart = omega (arith, up, apart)

      by : (same : Bool) → (item.port == first) ≡ same → (item.port ≡ first) ⊎ (first + 1 ≤ item.port)
      by true is = inl (eqb-true item.port first is)
      by false is = inr (later item.port first up (λ same. let wrong : true ≡ false = sym (eq-eqb item.port first same) ∙ is in cc))

  within : (first many : ℕ) → first ≤ item.port → item.port < first + many → told_from first many ≡ Out item.port item.value ∷ []
  within first zero up less = absurd (omega (arith, up, less))
  within first (suc many) up less = elim (here-or-later first up) [
    | inl same ↦
        ap (λ (list : List Event). list ++ told_from (first + 1) many) (at-port first (item.port == first) refl same)
        ∙ ap (λ (list : List Event). Out item.port item.value ∷ list) (before (first + 1) many (omega (arith, same)))
    | inr next ↦
        ap (λ (list : List Event). list ++ told_from (first + 1) many) (elsewhere first (item.port == first) refl (λ same. absurd (omega (arith, same, next))))
        ∙ within (first + 1) many next (omega (arith, less))
  ]

  -- one at a port that is there tells itself
  pub one-told : (many : ℕ) → item.port < many → outs_from 0 (by_port many one) ≡ Out item.port item.value ∷ []
  one-told many less = within 0 many (omega arith) (omega (arith, less))

  -- and one at a port that is not there tells nothing
  pub none-there : (many : ℕ) → many ≤ item.port → outs_from 0 (by_port many one) ≡ []
  none-there many less = behind 0 many (omega (arith, less))
