-- A year's span: what the type that holds one is proved to keep.
use Rattle.std.specs.Prelude.{◌≡◌, ℕ, ◌≤◌}
use Rattle.days.specs.Range.{first_day}
use Rattle.molad.specs.Years.{last_year}
use Rattle.newyear.specs.NewYear.{new_year, year_length}
use Rattle.newyear.specs.Kinds.{IsLength}

-- Year h is one of the years covered, begins on day n and has l days.
pub record IsSpan (h n l : ℕ) : Type 0 where
  pub begins : n ≡ new_year h
  pub days : l ≡ year_length h
  pub first : 1 ≤ h
  pub last : h ≤ last_year
  pub from : first_day ≤ n
  pub small : n ≤ 4000000
  pub measured : IsLength l
