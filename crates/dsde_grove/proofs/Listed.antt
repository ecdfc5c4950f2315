-- What stands in a list with one more item.
use Rattle.std.proofs.Common.{◌≡◌, ◌⊎◌, ℕ, zero, suc, ◌<◌, List, ◌∷◌, length, get_or, Contains, inl, inr, arith}

module _ {X : Type 0} where
  pub listed_later : (head x : X) (rest : List X) → Contains rest x → Contains (head ∷ rest) x
  listed_later head x rest p = (suc p.0, omega (arith, p.1), p.2)

  pub listed_cases : (head x : X) (rest : List X) → Contains (head ∷ rest) x → (head ≡ x) ⊎ Contains rest x
  listed_cases head x rest p = by_index p.0 p.1 p.2
    where
      by_index : (k : ℕ) → k < suc (length rest) → get_or (head ∷ rest) k x ≡ x → (head ≡ x) ⊎ Contains rest x
      by_index zero within found = inl found
      by_index (suc k) within found = inr (k, omega arith, found)
