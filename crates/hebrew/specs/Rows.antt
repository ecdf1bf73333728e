-- A date within a year as one number, for tables of dates that every year has.
use Rattle.std.specs.Prelude.{Bool, ◌&&◌, not, ℕ, ◌+◌, ◌*◌, ◌/◌, ◌%◌}
use Rattle.laws.specs.Runs.{outside}
use Rattle.hebrew.specs.Months.{month_length}
use Rattle.hebrew.specs.Dates.{Date, day_number}

-- A row of a table is a month code and a day, written as one number: 10_06 is 6 Sivan. No month has a hundred days, so
-- that a row is one date, and its month and day are the row's quotient and remainder by 100.
abbrev pub row : ℕ → ℕ → ℕ
row month day = 100 * month + day

abbrev pub row_date : ℕ → ℕ → Date
row_date h r = record { year = h; month = r / 100; day = r % 100 }

-- The day number of a row in year h.
abbrev pub row_day : ℕ → ℕ → ℕ
row_day h r = day_number (row_date h r)

-- The row is a date of a year of this length.
unfoldable pub row_good : ℕ → ℕ → Bool
row_good len r = not (outside 1 13 (r / 100)) && not (outside 1 (month_length len (r / 100)) (r % 100))
