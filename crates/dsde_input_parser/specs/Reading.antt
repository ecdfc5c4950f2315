-- What a reading of the front of a text finds.
use Rattle.std.specs.Prelude.{ℕ, ◌≡◌, ◌≤◌, false, List, ◌++◌, length, drop, Option, IfSome, IsSomeAnd}
use Rattle.dsde_words.specs.Words.{begins_word}

-- No word goes on.
abbrev pub NoWord : List ℕ → Type 0
NoWord rest = begins_word rest ≡ false

-- Anything may follow.
abbrev pub Anything : List ℕ → Type 0
Anything rest = Unit {0}

-- Such a thing was found with the size of its spelling, at the front of the text.
pub record Stands {A : Type 0} (Is : A → Type 0) (spelled : A → List ℕ) (text : List ℕ) (found : A × ℕ) : Type 0 where
  pub is : Is found.0
  pub front : text ≡ spelled found.0 ++ drop found.1 text
  pub within : found.1 ≤ length text

-- What stands there, if it was found, is this, with this behind it.
abbrev pub IsFound : {A : Type 0} → List ℕ → Option (A × ℕ) → A → List ℕ → Type 0
IsFound text found one rest = IsSomeAnd found (λ parts. (parts.0 ≡ one) × (drop parts.1 text ≡ rest))

-- Such a thing was found at the front of the text, and is the only one there with such bytes behind it;
-- or nothing was found, and there is none.
pub record Reads {A : Type 0} (Is : A → Type 0) (spelled : A → List ℕ) (Follows : List ℕ → Type 0) (text : List ℕ) (found : Option (A × ℕ)) : Type 0 where
  pub stands : IfSome found (Stands Is spelled text)
  pub only : (one : A) (rest : List ℕ) → Is one → Follows rest → text ≡ spelled one ++ rest → IsFound text found one rest
