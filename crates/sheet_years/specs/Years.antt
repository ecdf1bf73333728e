-- So many years in a row, from the first on: what the type that holds them is proved to keep.
use Rattle.std.specs.Prelude.{ℕ, ◌+◌, ◌≤◌}
use Rattle.sheet.specs.Sheet.{most_years}

pub record AreYears (h n : ℕ) : Type 0 where
  pub from : 1 ≤ h
  pub few : n ≤ most_years
  pub to : h + n ≤ 10000
