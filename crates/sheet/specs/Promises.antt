-- What a caller of `sheet_write` is given: bytes in which a reader finds the years' stretches by the index.
use Rattle.std.specs.Prelude.{◌≡◌, cond, List, [], ◌∷◌, ℕ, ◌+◌, ◌*◌, ◌-◌, ◌≤◌, ◌<◌, eqb, length}
use Rattle.laws.specs.Joined.{joined, total}
use Rattle.laws.specs.Promise.{Asked, ◌else◌, Promised}
use Rattle.lists.specs.declared.ListAnswer.{ListAnswer}
use Rattle.layout.specs.Reading.{number_at}
use Rattle.molad.specs.Years.{InYears}
use Rattle.newyear.specs.NewYear.{year_length}
use Rattle.rest.specs.Wings.{IsWing, table_of}
use Rattle.stretches.specs.Promises.{StretchesOf}
use Rattle.sheet.specs.Sheet.{most_years, sheet_size}

-- What the index tells of the sheet's year i, counted from 0: where its first row stands, how many rows it has, and its
-- length; and how many rows the years before it have.
unfoldable pub offset_told : List ℕ → ℕ → ℕ
offset_told bytes i = number_at bytes (16 + 8 * i) 4

unfoldable pub rows_told : List ℕ → ℕ → ℕ
rows_told bytes i = number_at bytes (16 + 8 * i + 4) 2

unfoldable pub length_told : List ℕ → ℕ → ℕ
length_told bytes i = number_at bytes (16 + 8 * i + 6) 2

unfoldable pub rows_told_before : List ℕ → ℕ → ℕ
rows_told_before bytes i = total (rows_told bytes) i

-- First day and length of each of the n rows from a place on.
unfoldable pub stretches_told : List ℕ → ℕ → ℕ → List ℕ
stretches_told bytes at n = joined (λ k. number_at bytes (at + 6 * k) 4 ∷ number_at bytes (at + 6 * k + 4) 1 ∷ []) n

-- The bytes are a sheet of the wing for so many years, from year h on.
pub record SheetOf (wing h years : ℕ) (bytes : List ℕ) : Type 0 where
  -- The header.
  pub years_told_is : number_at bytes 0 2 ≡ years
  pub first_told_is : number_at bytes 2 2 ≡ h
  pub rows_told_is : number_at bytes 4 4 ≡ rows_told_before bytes years
  pub index_offset_is : number_at bytes 8 4 ≡ 16
  pub rows_offset_is : number_at bytes 12 4 ≡ 16 + 8 * years
  -- Nothing stands behind the last row.
  pub all : length bytes ≡ 16 + 8 * years + 6 * rows_told_before bytes years
  -- The index: offsets count from the sheet's start, and each year's rows follow those of the years before it.
  pub offsets : (i : ℕ) → i < years → offset_told bytes i ≡ 16 + 8 * years + 6 * rows_told_before bytes i
  pub lengths : (i : ℕ) → i < years → length_told bytes i ≡ year_length (h + i)
  -- The rows, where the index has them: every stretch that begins in the year, no other, rising, each with its wing.
  pub stretches : (i : ℕ) → i < years → StretchesOf (table_of wing) (h + i) (stretches_told bytes (offset_told bytes i) (rows_told bytes i))
  pub wings : (i k : ℕ) → i < years → k < rows_told bytes i → number_at bytes (offset_told bytes i + 6 * k + 5) 1 ≡ wing

-- What is asked, in document 02's order; done, it tells the bytes written and, refused with 10, the bytes wanted.
abbrev pub asked_of_sheet : ℕ → ℕ → ℕ → List ℕ → List Asked
asked_of_sheet wing h years buffer =
    ((1 ≤ years) × (years ≤ most_years)) else 11
    ∷ (InYears h × InYears (h + years - 1)) else 1
    ∷ (sheet_size wing h years ≤ length buffer) else 10
    ∷ []

abbrev pub PromisedSheet : ℕ → ℕ → ℕ → List ℕ → ListAnswer → Type 0
PromisedSheet wing h years buffer =
    Promised (λ (r : ListAnswer). r.refusal) (IsWing wing else 15 ∷ asked_of_sheet wing h years buffer)
    (λ r. r.count ≡ sheet_size wing h years) (λ n r. r.count ≡ cond (eqb n 10) (sheet_size wing h years) 0)

-- The most bytes that a sheet of the wing takes.
abbrev pub most_bytes : ℕ → ℕ
most_bytes wing = cond (eqb wing 1) 34650 34098

-- Bytes enough for any sheet, of either wing: the header's BD_SHEET_ROOM.
abbrev pub sheet_room : ℕ
sheet_room = 34650
