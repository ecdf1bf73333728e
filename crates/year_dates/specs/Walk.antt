-- The dates of a year in turn.
use Rattle.std.specs.Prelude.{◌≡◌, List, [], ◌∷◌, ℕ, zero, suc, ◌≤◌}
use Rattle.newyear.specs.Kinds.{IsLength}
use Rattle.hebrew.specs.Steps.{year_date}
use Rattle.hebrew.specs.declared.YearDate.{YearDate}

-- A walk through a year of this length has come to this date, or past the year's last.
pub record IsWalk (length : ℕ) (date : YearDate) : Type 0 where
  pub measured : IsLength length
  pub within : date.after ≤ length
  pub of_year : date ≡ year_date length date.after

-- The n dates from day x on, counted from 0 at New Year.
unfoldable pub dates : ℕ → ℕ → ℕ → List YearDate
dates length x zero = []
dates length x (suc n) = year_date length x ∷ dates length (suc x) n
