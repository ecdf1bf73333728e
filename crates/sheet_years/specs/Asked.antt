-- What is answered where the years of a sheet are asked for.
use Rattle.std.specs.Prelude.{◌≡◌, ◌||◌, cond, Bool, true, false, ℕ, ◌≤◌, Result, MatchResult}
use Rattle.laws.specs.Runs.{outside}
use Rattle.refusals.specs.declared.Refusal.{Refusal}
use Rattle.refusals.specs.declared.Refusal.TheVariants.{BadYear, BadYearCount}
use Rattle.sheet.specs.Sheet.{most_years}
use Rattle.sheet.specs.Answers.{ends_outside}
use Rattle.sheet_years.specs.declared.years.Years.{Years}

-- No sheet holds n years from year h on.
abbrev pub strange : ℕ → ℕ → Bool
strange h n = outside 1 most_years n || ends_outside h n

-- Else there are such years.
pub record Holds (h n : ℕ) (years : Years) : Type 0 where
  pub good : strange h n ≡ false
  pub first : years.first ≡ h
  pub count : years.count ≡ n
  pub some : 1 ≤ n

pub record Refused (h n : ℕ) (why : Refusal) : Type 0 where
  pub bad : strange h n ≡ true
  pub named : why ≡ cond (outside 1 most_years n) BadYearCount BadYear

abbrev pub YearsAsked : ℕ → ℕ → Result Years Refusal → Type 0
YearsAsked h n r = MatchResult r (Holds h n) (Refused h n)
