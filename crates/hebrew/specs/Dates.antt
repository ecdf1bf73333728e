-- Hebrew dates and day numbers.
use Rattle.std.specs.Prelude.{ℕ, ◌+◌, ◌-◌, ◌≤◌}
use Rattle.laws.specs.Begun.{begun}
use Rattle.molad.specs.Years.{InYears, leap}
use Rattle.molad.specs.Molad.{IsMonth}
use Rattle.newyear.specs.NewYear.{new_year, year_length, year_of}
use Rattle.hebrew.specs.Months.{month_length, days_before}

pub record Date : Type 0 where
  pub year : ℕ
  pub month : ℕ
  pub day : ℕ

-- A date is good when its year is 1..9999, its code 1..13 with 6 only in leap years, its day 1..the month's length.
pub record GoodHebrewDate (x : Date) : Type 0 where
  pub of_years : InYears x.year
  pub of_year : IsMonth (leap x.year) x.month
  pub of_month : (1 ≤ x.day) × (x.day ≤ month_length (year_length x.year) x.month)

-- The day number of a date: New Year plus the days of the months before it plus day − 1.
unfoldable pub day_number : Date → ℕ
day_number x = new_year x.year + days_before (year_length x.year) x.month + (x.day - 1)

-- The month that holds day x of a year, counted from 0: as many of the codes 1 to 13 have begun by then, and the last of
-- them holds it. (In a common year code 6 begins with code 7, and so is never the last.)
unfoldable pub month_of : ℕ → ℕ → ℕ
month_of len x = begun (days_before len) 13 x

-- The date of day j: the year that holds it, the month that holds it, and the day of that month.
unfoldable pub date_of : ℕ → Date
date_of j =
    let h = year_of j in
    let x = j - new_year h in
    let code = month_of (year_length h) x in
    record { year = h; month = code; day = x - days_before (year_length h) code + 1 }
