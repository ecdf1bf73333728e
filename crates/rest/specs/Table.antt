-- The rest days: a table of month code and day for each wing, and every Saturday.
use Rattle.std.specs.Prelude.{Bool, ◌&&◌, ◌||◌, not, List, [], ◌∷◌, ℕ, eqb}
use Rattle.laws.specs.Runs.{elem}
use Rattle.days.specs.Range.{out_of_range}
use Rattle.days.specs.Weekday.{weekday}
use Rattle.hebrew.specs.Dates.{Date, date_of}
use Rattle.hebrew.specs.Rows.{row, row_day}
use Rattle.lists.specs.Lists.{days_of}

-- Wing 1's eight rest days, document 01's, stand in a table in this order: Tishri 1, 2, 10, 15, 22; Nisan 15, 21; Sivan 6.
abbrev pub rest_table : List ℕ
rest_table = row 1 1 ∷ row 1 2 ∷ row 1 10 ∷ row 1 15 ∷ row 1 22 ∷ row 8 15 ∷ row 8 21 ∷ row 10 6 ∷ []

-- Wing 2, the guest wing, keeps second days too, by document 02: Tishri 16 and 23, Nisan 16 and 22, Sivan 7. The
-- thirteen rise with the year.
abbrev pub guest_table : List ℕ
guest_table =
    row 1 1 ∷ row 1 2 ∷ row 1 10 ∷ row 1 15 ∷ row 1 16 ∷ row 1 22 ∷ row 1 23
    ∷ row 8 15 ∷ row 8 16 ∷ row 8 21 ∷ row 8 22 ∷ row 10 6 ∷ row 10 7 ∷ []

-- The date is a row of the table.
abbrev pub in_table : List ℕ → Date → Bool
in_table table x = elem (row x.month x.day) table

-- A day is a rest day when it is a Saturday or its Hebrew date is in the table.
unfoldable pub is_rest : List ℕ → ℕ → Bool
is_rest table j = eqb (weekday j) 7 || in_table table (date_of j)

-- A rest day within the range.
unfoldable pub rest_day : List ℕ → ℕ → Bool
rest_day table j = not (out_of_range j) && is_rest table j

-- The day numbers of a year's rest days, in table order.
abbrev pub rest_days : List ℕ → ℕ → List ℕ
rest_days table h = days_of (row_day h) table
