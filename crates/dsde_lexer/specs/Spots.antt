-- Where a walk over a text stands: a device for the proofs of the places alone.
use Rattle.std.specs.Prelude.{◌≡◌, ◌≤◌, ℕ, ◌+◌, List, length, if◌then◌else◌}
use Rattle.dsde_lexer.specs.declared.places.Spot.{Spot}
use Rattle.dsde_lexer.specs.Lines.{ends_line, line_of, column_of}

-- a spot within a text of at most 1,048,576 bytes
pub record IsSpot (bytes : List ℕ) (spot : Spot) : Type 0 where
  pub short : length bytes ≤ 1048576
  pub within : spot.offset ≤ length bytes
  pub line : spot.line ≡ line_of bytes spot.offset
  pub column : spot.column ≡ column_of bytes spot.offset

-- the spot behind one byte
abbrev pub spot_behind : Spot → ℕ → Spot
spot_behind spot byte = record {
  offset = spot.offset + 1;
  line = if ends_line byte then spot.line + 1 else spot.line;
  column = if ends_line byte then 1 else spot.column + 1;
}
