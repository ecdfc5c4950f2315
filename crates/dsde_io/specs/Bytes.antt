-- What a call does to the bytes that a source has left and a sink has written, where they are told.
use Rattle.std.specs.Prelude.{◌≡◌, ◌<◌, ℕ, List, ◌++◌, take, length, Option, Some, IfSome, IsSomeAnd}

-- What was told is so still.
abbrev pub Keeps : Option (List ℕ) → Option (List ℕ) → Type 0
Keeps before after = IfSome before (λ all. after ≡ Some all)

-- What was left began with these bytes, and what is left now is the rest.
abbrev pub Takes : Option (List ℕ) → Option (List ℕ) → List ℕ → Type 0
Takes before after bytes = IfSome before (λ all. IsSomeAnd after (λ rest. all ≡ bytes ++ rest))

-- What is written now is what was written, and then these bytes.
abbrev pub Gains : Option (List ℕ) → Option (List ℕ) → List ℕ → Type 0
Gains before after bytes = IfSome before (λ all. after ≡ Some (all ++ bytes))

-- What is written now is what was written, and then some of these bytes from the front, not all.
abbrev pub GainsFront : Option (List ℕ) → Option (List ℕ) → List ℕ → Type 0
GainsFront before after bytes =
    IfSome before (λ all. (count : ℕ) × (count < length bytes) × (after ≡ Some (all ++ take count bytes)))
