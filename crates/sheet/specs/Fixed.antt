-- The words of this crate, fixed by plain numbers: a promise said in them cannot move with them. The first bytes of two sheets, what
-- a reader finds in them, and each end of a range in and its neighbour out.
use Rattle.std.specs.Prelude.{◌≡◌, List, [], ◌∷◌, ℕ, ◌≤◌, length, take}
use Rattle.sheet.specs.Answers.{wing_sheet, wing_sheet_buffer}
use Rattle.sheet.specs.Promises.{offset_told, rows_told, length_told, rows_told_before, stretches_told}

-- Wing 1's sheet of 5775: the header, the index entry, and the first two rows.
abbrev pub sheet_of5775 : List ℕ
sheet_of5775 =
    1 ∷ 0 ∷ 143 ∷ 22 ∷ 53 ∷ 0 ∷ 0 ∷ 0 ∷ 16 ∷ 0 ∷ 0 ∷ 0 ∷ 24 ∷ 0 ∷ 0 ∷ 0
    ∷ 24 ∷ 0 ∷ 0 ∷ 0 ∷ 53 ∷ 0 ∷ 98 ∷ 1
    ∷ 94 ∷ 125 ∷ 37 ∷ 0 ∷ 3 ∷ 1 ∷ 103 ∷ 125 ∷ 37 ∷ 0 ∷ 1 ∷ 1 ∷ []

-- The guest wing's sheet of 5775 to 5777: the header, the three index entries, and the first two rows.
abbrev pub guest_sheet : List ℕ
guest_sheet =
    3 ∷ 0 ∷ 143 ∷ 22 ∷ 167 ∷ 0 ∷ 0 ∷ 0 ∷ 16 ∷ 0 ∷ 0 ∷ 0 ∷ 40 ∷ 0 ∷ 0 ∷ 0
    ∷ 40 ∷ 0 ∷ 0 ∷ 0 ∷ 51 ∷ 0 ∷ 98 ∷ 1
    ∷ 90 ∷ 1 ∷ 0 ∷ 0 ∷ 59 ∷ 0 ∷ 129 ∷ 1
    ∷ 188 ∷ 2 ∷ 0 ∷ 0 ∷ 57 ∷ 0 ∷ 97 ∷ 1
    ∷ 94 ∷ 125 ∷ 37 ∷ 0 ∷ 3 ∷ 2 ∷ 103 ∷ 125 ∷ 37 ∷ 0 ∷ 1 ∷ 2 ∷ []

-- With room: how many bytes are written, and which they begin with.
abbrev pub Writes : ℕ → ℕ → ℕ → ℕ → List ℕ → Type 0
Writes wing h years size begins =
    (buffer : List ℕ) → size ≤ length buffer →
    (wing_sheet wing h years buffer ≡ record { refusal = 0; count = size }) × (take (length begins) (wing_sheet_buffer wing h years buffer) ≡ begins)

-- With no bytes lent.
abbrev pub Refused : ℕ → ℕ → ℕ → ℕ → ℕ → Type 0
Refused wing h years n count = (wing_sheet wing h years [] ≡ record { refusal = n; count = count }) × (wing_sheet_buffer wing h years [] ≡ [])

pub record WordsFixed : Type 0 where
  pub wing_1 : Writes 1 5775 1 342 sheet_of5775
  pub guest_wing : Writes 2 5775 3 1042 guest_sheet
  -- The index by its years, counted from 0; and the rows.
  pub index :
      (offset_told guest_sheet 0 ≡ 40) × (offset_told guest_sheet 1 ≡ 346) × (offset_told guest_sheet 2 ≡ 700)
      × (rows_told guest_sheet 0 ≡ 51) × (rows_told guest_sheet 1 ≡ 59) × (rows_told guest_sheet 2 ≡ 57)
      × (length_told guest_sheet 0 ≡ 354) × (length_told guest_sheet 1 ≡ 385) × (length_told guest_sheet 2 ≡ 353)
      × (rows_told_before guest_sheet 0 ≡ 0) × (rows_told_before guest_sheet 2 ≡ 110) × (rows_told_before guest_sheet 3 ≡ 167)
  pub rows : stretches_told guest_sheet 40 2 ≡ 2456926 ∷ 3 ∷ 2456935 ∷ 1 ∷ []
  -- A hundred years; the first year and the last.
  pub hundred : Writes 1 458 100 34650 [] × Writes 2 163 100 34098 []
  pub ends : Writes 1 1 1 360 [] × Writes 1 9999 1 366 []
  pub no_wing : Refused 0 5775 1 15 0 × Refused 3 5775 1 15 0
  pub no_years : Refused 1 5775 0 11 0 × Refused 2 5775 0 11 0 × Refused 1 5775 101 11 0 × Refused 2 5775 101 11 0
  pub outside : Refused 1 0 1 1 0 × Refused 2 10000 1 1 0 × Refused 1 9999 2 1 0 × Refused 2 9901 100 1 0
  pub short : Refused 1 5775 1 10 342 × Refused 2 5775 3 10 1042
