-- What a short text holds: where its bytes are, and what they are.
use Rattle.std.specs.Prelude.{ℕ, ◌≤◌, List, take}
use Rattle.dsde_lists.specs.declared.stem.Kept.{Kept}
use Rattle.dsde_lists.specs.declared.stem.Kept.TheVariants.{Short, Long}

-- the bytes: the first `len` of the array, or those of the `Vec`
abbrev pub bytes_of : Kept → List ℕ
bytes_of (Short array len) = take len array
bytes_of (Long bytes) = bytes.items

-- the array has as many bytes as its length says
abbrev pub IsWithinTheArray : Kept → Type 0
IsWithinTheArray (Short array len) = len ≤ 16
IsWithinTheArray (Long bytes) = Unit {0}
