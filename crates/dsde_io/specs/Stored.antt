-- What a shelf in memory holds: bytes under names.
use Rattle.std.specs.Prelude.{◌≡◌, ◌≢◌, ℕ, ◌<◌, List, [], ◌∷◌, length, take, slice_index_or, Option, Some, None, bytes_eq, if◌then◌else◌, AllPairs}
use Rattle.dsde_io.specs.declared.stored.Stored.{Stored}

-- the bytes of the first entry of that name
abbrev pub bytes_under : List Stored → List ℕ → Option (List ℕ)
bytes_under [] name = None
bytes_under (stored ∷ rest) name =
    if bytes_eq stored.name name then Some stored.bytes else bytes_under rest name

-- the entries with these bytes under that name: in place of what is there, or as a last entry
abbrev pub with_bytes : List Stored → List ℕ → List ℕ → List Stored
with_bytes [] name bytes = record { name = name; bytes = bytes } ∷ []
with_bytes (stored ∷ rest) name bytes =
    if bytes_eq stored.name name
    then record stored { bytes = bytes } ∷ rest
    else stored ∷ with_bytes rest name bytes

-- No two entries have one name.
abbrev pub AreDistinct : List Stored → Type 0
AreDistinct contents = AllPairs (λ one other. one.name ≢ other.name) contents

-- The first entry of that name stands there.
pub record IsPlaceOf (contents : List Stored) (name : List ℕ) (place : ℕ) : Type 0 where
  pub within : place < length contents
  pub named : (d : Stored) → (slice_index_or contents place d).name ≡ name
  pub first : bytes_under (take place contents) name ≡ None
