-- What a shelf holds, where it tells it.
use Rattle.std.specs.Prelude.{◌≡◌, ◌≢◌, ℕ, List, Option, IfSome, IsSomeAnd}

-- Bytes under each name that has some.
abbrev pub Bytes : Type 0
Bytes = List ℕ → Option (List ℕ)

-- Every other name has what it had.
abbrev pub ChangesOnly : List ℕ → Option Bytes → Option Bytes → Type 0
ChangesOnly name before after =
    IfSome before (λ old. IsSomeAnd after (λ new. (other : List ℕ) → other ≢ name → new other ≡ old other))
