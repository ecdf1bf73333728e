-- Whether bytes are accepted for a sheet of the wing that the caller names, by document 02. What stands in them is read as it
-- is told; bytes that are not there count as 0, and are too few in any case.
use Rattle.std.specs.Prelude.{Bool, not, ◌&&◌, ◌||◌, cond, List, ℕ, ◌+◌, ◌*◌, eqb, ltb, length}
use Rattle.laws.specs.Runs.{every, outside}
use Rattle.layout.specs.Layout.{index_offset, rows_offset}
use Rattle.layout.specs.Reading.{number_at}
use Rattle.rest.specs.Wings.{out_of_wings}
use Rattle.sheet.specs.Sheet.{most_years}
use Rattle.sheet.specs.Answers.{ends_outside}
use Rattle.sheet.specs.Promises.{offset_told, rows_told_before}
use Rattle.content.specs.Content.{content_agrees}

-- What the header tells: the count of years, the first year, the count of rows, where the index and the rows stand.
abbrev pub years_told : List ℕ → ℕ
years_told bytes = number_at bytes 0 2

abbrev pub first_told : List ℕ → ℕ
first_told bytes = number_at bytes 2 2

abbrev pub count_told : List ℕ → ℕ
count_told bytes = number_at bytes 4 4

abbrev pub index_told : List ℕ → ℕ
index_told bytes = number_at bytes 8 4

abbrev pub rows_at_told : List ℕ → ℕ
rows_at_told bytes = number_at bytes 12 4

-- The year count, the first or the last year cannot come from a writer.
abbrev pub strange_years : List ℕ → Bool
strange_years bytes = outside 1 most_years (years_told bytes) || ends_outside (first_told bytes) (years_told bytes)

-- The index offset of each of so many years is the rows' offset plus 6 for each row of the years before.
abbrev pub entry_placed : List ℕ → ℕ → ℕ → Bool
entry_placed bytes years i = eqb (offset_told bytes i) (rows_offset years + 6 * rows_told_before bytes i)

unfoldable pub index_placed : List ℕ → ℕ → Bool
index_placed bytes years = every 0 years (entry_placed bytes years)

-- The header's offsets are those of a sheet, its rows are the sum of the index's row counts, each index offset is as it must
-- be, and the size is 16 + 8 × years + 6 × rows.
unfoldable pub placed : List ℕ → Bool
placed bytes =
    eqb (index_told bytes) index_offset
    && (eqb (rows_at_told bytes) (rows_offset (years_told bytes))
    && (eqb (count_told bytes) (rows_told_before bytes (years_told bytes))
    && (index_placed bytes (years_told bytes)
    && eqb (length bytes) (rows_offset (years_told bytes) + 6 * count_told bytes))))

-- Rows, wing byte or year lengths differ from the calendar's for the wing.
abbrev pub differs : ℕ → List ℕ → Bool
differs wing bytes = not (content_agrees wing bytes (first_told bytes) (years_told bytes))

-- What is given for bytes: refused with 15, where the wing is neither 1 nor 2, before all others, then with 16, 17, 18 or 19,
-- or given out where they are accepted.
abbrev pub of_loaded : {A : Type 0} → ℕ → List ℕ → (ℕ → A) → A → A
of_loaded wing bytes refused given =
    cond (out_of_wings wing) (refused 15)
    (cond (ltb (length bytes) 16) (refused 16)
    (cond (strange_years bytes) (refused 17)
    (cond (not (placed bytes)) (refused 18)
    (cond (differs wing bytes) (refused 19) given))))

unfoldable pub loaded_refusal : ℕ → List ℕ → ℕ
loaded_refusal wing bytes = of_loaded wing bytes (λ n. n) 0
