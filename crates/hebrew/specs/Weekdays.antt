-- The weekday of a date by its year's kind alone.
use Rattle.std.specs.Prelude.{ℕ, ◌+◌, ◌-◌, ◌%◌}
use Rattle.hebrew.specs.Months.{days_before}

-- In a year of this length, with New Year on weekday w: counted on from New Year, and after 7 from 1 again.
unfoldable pub weekday_in : ℕ → ℕ → ℕ → ℕ → ℕ
weekday_in w len code d = (w + days_before len code + (d - 1) + 6) % 7 + 1
