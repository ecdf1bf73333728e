-- Whether what stands on a sheet is the calendar's, by document 02: rows, wing byte and year lengths, for the wing that the
-- caller names. Everything is read where header and index say that it stands.
use Rattle.std.specs.Prelude.{Bool, ◌&&◌, List, ℕ, ◌+◌, ◌*◌, eqb, get_or}
use Rattle.laws.specs.Runs.{every}
use Rattle.layout.specs.Reading.{number_at}
use Rattle.newyear.specs.NewYear.{year_length}
use Rattle.rest.specs.Wings.{table_of}
use Rattle.stretches.specs.Stretches.{stretch_rows}
use Rattle.sheet.specs.Sheet.{rows_in}
use Rattle.sheet.specs.Promises.{offset_told, rows_told, length_told}

-- The row at a place tells this first day and this length, and has the wing's byte.
unfoldable pub row_agrees : ℕ → List ℕ → ℕ → ℕ → ℕ → Bool
row_agrees wing bytes at first days =
    eqb (number_at bytes at 4) first && (eqb (number_at bytes (at + 4) 1) days && eqb (number_at bytes (at + 5) 1) wing)

-- The rows from a place on are those of the first n stretches of a list, whose entries are first day and length of each in
-- turn.
unfoldable pub rows_agree : ℕ → List ℕ → ℕ → List ℕ → ℕ → Bool
rows_agree wing bytes at list n = every 0 n (λ k. row_agrees wing bytes (at + 6 * k) (get_or list (2 * k) 0) (get_or list (2 * k + 1) 0))

-- The index tells of its entry i, counted from 0, the length and the number of rows of year h, and the rows to which it leads
-- are that year's.
unfoldable pub year_agrees : ℕ → List ℕ → ℕ → ℕ → Bool
year_agrees wing bytes i h =
    eqb (length_told bytes i) (year_length h)
    && (eqb (rows_told bytes i) (rows_in wing h)
    && rows_agree wing bytes (offset_told bytes i) (stretch_rows (table_of wing) h) (rows_in wing h))

-- So it is of so many years, from year h on.
unfoldable pub content_agrees : ℕ → List ℕ → ℕ → ℕ → Bool
content_agrees wing bytes h years = every 0 years (λ i. year_agrees wing bytes i (h + i))
