-- What a contract sees of a `Batch`.
use Rattle.std.specs.Prelude.{◌≡◌, ℕ, ◌+◌, List, [], ◌∷◌, ◌++◌, refl}
use Rattle.std.specs.Coded.{Coded, code_by, coded×, coded_ℕ, coded_list}

-- the items in the order in which they were added, and how many more fit with no memory
pub record Batch (T : Type 0) : Type 0 where
  pub items : List T
  pub spare : ℕ

-- a batch is stored as the pair of its fields
abbrev pub batch_code : {T : Type 0} → Coded T → Coded (Batch T)
batch_code {T} code =
    code_by (List T × ℕ) (coded× (coded_list code) coded_ℕ) (λ b. (b.items, b.spare)) (λ p. record { items = p.0; spare = p.1 }) (λ _. refl)

-- the last item leaves, and its room comes free
pub record TakesLast {T : Type 0} (old new : Batch T) (last : T) : Type 0 where
  pub items : old.items ≡ new.items ++ last ∷ []
  pub spare : new.spare ≡ old.spare + 1
