-- The five fasts of a year, by document 02 §12.
use Rattle.std.specs.Prelude.{cond, List, [], ◌∷◌, ℕ, ◌+◌, ◌-◌, ◌/◌, eqb}
use Rattle.laws.specs.Runs.{elem}
use Rattle.days.specs.Weekday.{weekday}
use Rattle.hebrew.specs.Rows.{row, row_day}
use Rattle.lists.specs.Lists.{days_of}

-- Tishri 3, Tevet 10, Adar 13, Tammuz 17 and Av 9. Adar has code 7, in a leap year too.
abbrev pub fast_table : List ℕ
fast_table = row 1 3 ∷ row 4 10 ∷ row 7 13 ∷ row 11 17 ∷ row 12 9 ∷ []

-- The day on which a month's fast is kept whose date is day j. On a Saturday Tishri's, Tammuz's and Av's move to the Sunday, Adar's
-- to the Thursday before. Tevet's never needs it, which is proved.
unfoldable pub kept_on : ℕ → ℕ → ℕ
kept_on code j = cond (eqb (weekday j) 7) (cond (elem code (1 ∷ 11 ∷ 12 ∷ [])) (j + 1) (cond (eqb code 7) (j - 2) j)) j

-- The day on which the fast of a row is kept in year h.
unfoldable pub fast_day : ℕ → ℕ → ℕ
fast_day h r = kept_on (r / 100) (row_day h r)

-- Those of a table, in its order.
abbrev pub fast_days : List ℕ → ℕ → List ℕ
fast_days table h = days_of (fast_day h) table
