-- What a sheet is made of, by document 02: a header, index entries and rows, as lists of bytes. Numbers are little-endian.
use Rattle.std.specs.Prelude.{List, [], ◌∷◌, ◌++◌, ℕ, zero, suc, ◌+◌, ◌*◌, ◌/◌, ◌%◌}

-- A number in n bytes, the lowest first. What they cannot hold is cut.
unfoldable pub little_endian : ℕ → ℕ → List ℕ
little_endian zero x = []
little_endian (suc n) x = x % 256 ∷ little_endian n (x / 256)

-- The header has 16 bytes: 2 for the count of years, 2 for the first year, 4 for the count of rows, 4 for the offset of the
-- index (always 16), 4 for the offset of the rows (16 + 8 × years).
abbrev pub index_offset : ℕ
index_offset = 16

abbrev pub rows_offset : ℕ → ℕ
rows_offset years = index_offset + 8 * years

unfoldable pub header_bytes : ℕ → ℕ → ℕ → List ℕ
header_bytes years first rows =
    little_endian 2 years ++ little_endian 2 first ++ little_endian 4 rows ++ little_endian 4 index_offset ++ little_endian 4 (rows_offset years)

-- An index entry has 8 bytes: 4 for the offset from the file's start of the year's first row, 2 for its rows, 2 for the
-- year's length.
unfoldable pub entry_bytes : ℕ → ℕ → ℕ → List ℕ
entry_bytes offset rows days = little_endian 4 offset ++ little_endian 2 rows ++ little_endian 2 days

-- A row has 6: 4 for the first day, 1 for the stretch's length, 1 for the wing.
unfoldable pub row_bytes : ℕ → ℕ → ℕ → List ℕ
row_bytes wing first days = little_endian 4 first ++ little_endian 1 days ++ little_endian 1 wing
