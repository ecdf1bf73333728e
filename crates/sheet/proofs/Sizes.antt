-- How many bytes the parts of a sheet have.
use mathlib.Core.Path.{◌≡◌, ◌∙◌}
use mathlib.Core.List.{List, ◌++◌}
use Prim.Native.Nat.{ℕ, ◌+◌, ◌*◌}
use native.Mathlib.Omega.{arith}
use lib.ListN.{length, length-append}
use Rattle.laws.specs.Joined.{joined}
use Rattle.laws.proofs.Joins.{joined_length, total_same, total_times}
use Rattle.layout.specs.Layout.{rows_offset, header_bytes}
use Rattle.layout.proofs.Sizes.{header_long, entry_long, row_long}
use Rattle.sheet.specs.Sheet.{row_of, rows_in, year_rows, rows_before, sheet_size, entry_of, sheet}

pub rows_long : (wing : ℕ) (list : List ℕ) (n : ℕ) → length (joined (row_of wing list) n) ≡ 6 * n
unfolding row_of
rows_long wing list n = joined_length (row_of wing list) n ∙ total_same _ 6 n (λ k p. row_long wing _ _)

pub year_long : (wing h : ℕ) → length (year_rows wing h) ≡ 6 * rows_in wing h
unfolding year_rows
year_long wing h = rows_long wing _ (rows_in wing h)

-- The index.
pub entry_of_long : (wing h years i : ℕ) → length (entry_of wing h years i) ≡ 8
unfolding entry_of
entry_of_long wing h years i = entry_long _ _ _

pub index_long : (wing h years n : ℕ) → length (joined (entry_of wing h years) n) ≡ 8 * n
index_long wing h years n = joined_length (entry_of wing h years) n ∙ total_same _ 8 n (λ i p. entry_of_long wing h years i)

-- The rows of the first n years.
pub years_long : (wing h n : ℕ) → length (joined (λ i. year_rows wing (h + i)) n) ≡ 6 * rows_before wing h n
unfolding rows_before
years_long wing h n = joined_length (λ i. year_rows wing (h + i)) n ∙ total_times _ (λ i. rows_in wing (h + i)) 6 n (λ i p. year_long wing (h + i))

-- The header and the index.
pub front_long : (wing h years rows : ℕ) → length (header_bytes years h rows ++ joined (entry_of wing h years) years) ≡ rows_offset years
front_long wing h years rows = rw (length-append, header_long years h rows, index_long wing h years years) (omega arith)

-- The bytes wanted are those that the sheet has.
pub sheet_long : (wing h years : ℕ) → length (sheet wing h years) ≡ sheet_size wing h years
unfolding sheet sheet_size
sheet_long wing h years = rw (length-append, front_long wing h years (rows_before wing h years), years_long wing h years)
