-- The lines and columns of a text, both counted from 1, columns in bytes.
use Rattle.std.specs.Prelude.{ℕ, ◌+◌, Bool, not, ◌==◌, List, length, take, count_by, slice_get}
use Rattle.std.specs.List.{suffix_len}
use Rattle.std.specs.Option.{option_map_or}
use Rattle.dsde_syntax.specs.declared.token.Token.{Token}

-- a line feed ends a line
abbrev pub ends_line : ℕ → Bool
ends_line byte = byte == 10

abbrev pub is_in_line : ℕ → Bool
is_in_line byte = not (ends_line byte)

-- the line of an offset: as many lines as line feeds stand before it are behind it
abbrev pub line_of : List ℕ → ℕ → ℕ
line_of bytes offset = 1 + count_by ends_line (take offset bytes)

-- the column of an offset: as many bytes of its line stand before it
abbrev pub column_of : List ℕ → ℕ → ℕ
column_of bytes offset = 1 + suffix_len is_in_line (take offset bytes)

-- the offset of a place: that of the first byte of its token, or of the end of the text
abbrev pub offset_of : List ℕ → List Token → ℕ → ℕ
offset_of bytes tokens at = option_map_or (λ (token : Token). token.from) (slice_get tokens at) (length bytes)

-- the line and the column of a place
abbrev pub place_of : List ℕ → List Token → ℕ → ℕ × ℕ
place_of bytes tokens at = let offset = offset_of bytes tokens at in (line_of bytes offset, column_of bytes offset)
