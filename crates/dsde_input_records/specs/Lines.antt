-- The lines of an input.
use Rattle.std.specs.Prelude.{ℕ, ◌≢◌, ◌-◌, ◌==◌, if◌then◌else◌, List, [], ◌∷◌, length, take, slice_index}

-- A byte is not among the bytes.
abbrev pub Lacks : ℕ → List ℕ → Type 0
Lacks byte [] = Unit {0}
Lacks byte (first ∷ bytes) = (first ≢ byte) × Lacks byte bytes

-- a byte in front of the first of some lines
abbrev pub begin : ℕ → List (List ℕ) → List (List ℕ)
begin byte [] = (byte ∷ []) ∷ []
begin byte (line ∷ lines) = (byte ∷ line) ∷ lines

-- the lines of an input, each of which ends with a line feed, or with the input
abbrev pub lines : List ℕ → List (List ℕ)
lines [] = []
lines (byte ∷ bytes) = if byte == 10 then [] ∷ lines bytes else begin byte (lines bytes)

-- what follows the first line feed
abbrev pub behind_line : List ℕ → List ℕ
behind_line [] = []
behind_line (byte ∷ bytes) = if byte == 10 then bytes else behind_line bytes

-- bytes without this one at their end, if it stands there
abbrev pub without_last : ℕ → List ℕ → List ℕ
without_last byte bytes =
    if slice_index bytes (length bytes - 1) == byte then take (length bytes - 1) bytes else bytes
