-- A year's own rows, by document 02: where they stand on a sheet, and on the one of two sheets that is named.
use Rattle.std.specs.Prelude.{Bool, cond, List, ℕ, ◌+◌, ◌*◌, ◌-◌, eqb, take, drop}
use Rattle.laws.specs.Runs.{outside}
use Rattle.sheet.specs.Promises.{offset_told, rows_told}
use Rattle.accepted.specs.Check.{years_told, first_told, of_loaded}
use Rattle.loaded.specs.declared.RowsAnswer.{RowsAnswer}

abbrev pub no_rows : ℕ → RowsAnswer
no_rows n = record { refusal = n; offset = 0; length = 0 }

-- The year is not on the sheet.
abbrev pub off_sheet : List ℕ → ℕ → Bool
off_sheet bytes year = outside (first_told bytes) (first_told bytes + years_told bytes - 1) year

-- The ends of the rows are fixed by the year's index entry. Refusal 1: the year is not on the sheet.
unfoldable pub rows_answer : ℕ → List ℕ → ℕ → RowsAnswer
rows_answer wing bytes year =
    of_loaded wing bytes no_rows
    (cond (off_sheet bytes year) (no_rows 1)
    (record { refusal = 0; offset = offset_told bytes (year - first_told bytes); length = 6 * rows_told bytes (year - first_told bytes) }))

-- The bytes that stand there. Where it is refused they are none.
abbrev pub rows_of : List ℕ → RowsAnswer → List ℕ
rows_of bytes place = take place.length (drop place.offset bytes)

-- Of two sheets, the first is wing 1's and the second wing 2's, so that naming the sheet names the wing. Refusal 15, before all
-- others: neither is named. The other sheet is not looked at.
abbrev pub named_sheet : {A : Type 0} → ℕ → A → A → A
named_sheet named one two = cond (eqb named 2) two one

abbrev pub named_answer : ℕ → List ℕ → List ℕ → ℕ → RowsAnswer
named_answer named one two year = rows_answer named (named_sheet named one two) year
