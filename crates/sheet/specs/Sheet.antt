-- The sheet that the panels load, by document 02: a list of bytes, which are a header, an index of the years and the rows,
-- one for each stretch. Layout has the bytes of each.
use Rattle.std.specs.Prelude.{List, ◌++◌, ℕ, ◌+◌, ◌*◌, ◌/◌, length, get_or}
use Rattle.laws.specs.Joined.{joined, total}
use Rattle.layout.specs.Layout.{rows_offset, header_bytes, entry_bytes, row_bytes}
use Rattle.newyear.specs.NewYear.{year_length}
use Rattle.rest.specs.Wings.{table_of}
use Rattle.stretches.specs.Stretches.{stretch_rows}

-- A sheet holds 1 to 100 years.
abbrev pub most_years : ℕ
most_years = 100

-- Row k, counted from 0, of a list of stretches, whose entries are first day and length of each in turn.
unfoldable pub row_of : ℕ → List ℕ → ℕ → List ℕ
row_of wing list k = row_bytes wing (get_or list (2 * k) 0) (get_or list (2 * k + 1) 0)

-- How many rows year h has, one for each stretch that begins in it; and these rows, which rise as its list does.
unfoldable pub rows_in : ℕ → ℕ → ℕ
rows_in wing h = length (stretch_rows (table_of wing) h) / 2

unfoldable pub year_rows : ℕ → ℕ → List ℕ
year_rows wing h = joined (row_of wing (stretch_rows (table_of wing) h)) (rows_in wing h)

-- How many rows the n years from year h on have.
unfoldable pub rows_before : ℕ → ℕ → ℕ → ℕ
rows_before wing h n = total (λ k. rows_in wing (h + k)) n

-- The bytes wanted for so many years.
unfoldable pub sheet_size : ℕ → ℕ → ℕ → ℕ
sheet_size wing h years = rows_offset years + 6 * rows_before wing h years

-- The index entry of year h + i.
unfoldable pub entry_of : ℕ → ℕ → ℕ → ℕ → List ℕ
entry_of wing h years i = entry_bytes (rows_offset years + 6 * rows_before wing h i) (rows_in wing (h + i)) (year_length (h + i))

-- The sheet of so many years, from year h on. Rows run by year.
unfoldable pub sheet : ℕ → ℕ → ℕ → List ℕ
sheet wing h years =
    header_bytes years h (rows_before wing h years)
    ++ joined (entry_of wing h years) years
    ++ joined (λ i. year_rows wing (h + i)) years
