-- What the steps of the code promise to whoever asks them: a year of a calendar, and the year of a day. Years are raised
-- years.
use Rattle.std.specs.Prelude.{◌≡◌, ℕ, ◌+◌, ◌≤◌, ◌<◌}
use Rattle.civil.specs.Calendar.{Calendar, year_days, day_of, first_raised, last_raised}
use Rattle.civil_years.specs.declared.Year.{Year}
use Rattle.civil_years.specs.declared.YearDay.{YearDay}

-- The year s of a calendar. Of a year that is not covered the day before it is bounded, and not told.
pub record IsYear (cal : Calendar) (s : ℕ) (x : Year) : Type 0 where
  pub number : x.number ≡ s
  pub rule : x.leap ≡ cal.leap s
  pub eve : first_raised ≤ s → x.eve ≡ day_of cal s 1 0
  pub small : x.eve ≤ 5000000

-- Day j is day `.day`, from 0, of a year of the calendar.
pub record IsYearDay (cal : Calendar) (j : ℕ) (x : YearDay) : Type 0 where
  pub first_year : first_raised ≤ x.year
  pub last_year_lem : x.year ≤ last_raised
  pub rule : x.leap ≡ cal.leap x.year
  pub short : x.day < year_days x.leap
  pub place : day_of cal x.year 1 (x.day + 1) ≡ j
