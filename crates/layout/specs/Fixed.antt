-- The words of this crate, fixed by plain numbers: a header, an index entry and a row as bytes, and numbers read from bytes.
use Rattle.std.specs.Prelude.{◌≡◌, List, [], ◌∷◌, ℕ}
use Rattle.layout.specs.Layout.{header_bytes, entry_bytes, row_bytes}
use Rattle.layout.specs.Reading.{Bytes, number_at}

-- Five bytes to read from.
abbrev pub five : List ℕ
five = 1 ∷ 2 ∷ 3 ∷ 4 ∷ 5 ∷ []

pub record WordsFixed : Type 0 where
  -- 100 years from 5762 on, with 5,639 rows: the index is at byte 16 and the rows at byte 816.
  pub header : header_bytes 100 5762 5639 ≡ 100 ∷ 0 ∷ 130 ∷ 22 ∷ 7 ∷ 22 ∷ 0 ∷ 0 ∷ 16 ∷ 0 ∷ 0 ∷ 0 ∷ 48 ∷ 3 ∷ 0 ∷ 0 ∷ []
  -- The first row at byte 34,000, 300 rows, 354 days.
  pub entry : entry_bytes 34000 300 354 ≡ 208 ∷ 132 ∷ 0 ∷ 0 ∷ 44 ∷ 1 ∷ 98 ∷ 1 ∷ []
  -- Wing 2's three days from 2,456,940 on.
  pub row : row_bytes 2 2456940 3 ≡ 108 ∷ 125 ∷ 37 ∷ 0 ∷ 3 ∷ 2 ∷ []
  -- Four bytes, two and one; bytes that are not there count as 0.
  pub numbers : (number_at five 0 4 ≡ 67305985) × (number_at five 1 2 ≡ 770) × (number_at five 4 1 ≡ 5) × (number_at five 4 4 ≡ 5) × (number_at five 5 2 ≡ 0)
  pub bytes : Bytes (0 ∷ 255 ∷ []) × (¬ Bytes (0 ∷ 256 ∷ []))
