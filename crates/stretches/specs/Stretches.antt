-- The stretches of a year, one after another.
use Rattle.std.specs.Prelude.{Bool, ◌&&◌, not, cond, List, [], ◌∷◌, ◌++◌, ℕ, zero, suc, ◌+◌, ◌-◌}
use Rattle.laws.specs.Search.{seek_not}
use Rattle.newyear.specs.NewYear.{new_year, year_length}
use Rattle.rest.specs.Table.{rest_day}
use Rattle.stretch.specs.Stretches.{days_from}

-- The day is a stretch's first.
unfoldable pub begins : (ℕ → Bool) → ℕ → Bool
begins rest j = rest j && not (rest (j - 1))

-- A stretch's first day and length, where one begins on day j.
unfoldable pub row_at : (ℕ → Bool) → ℕ → List ℕ
row_at rest j = cond (begins rest j) (j ∷ (seek_not rest (days_from j) j - j) ∷ []) []

-- First day and length of each stretch that begins on one of the n days from day j on, rising.
unfoldable pub rows : (ℕ → Bool) → ℕ → ℕ → List ℕ
rows rest j zero = []
rows rest j (suc n) = rows rest j n ++ row_at rest (j + n)

-- The stretches of a year are those that begin in it.
unfoldable pub stretch_rows : List ℕ → ℕ → List ℕ
stretch_rows table h = rows (rest_day table) (new_year h) (year_length h)
