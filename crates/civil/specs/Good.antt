-- Good civil dates, and what "exactly one date" says. Years are raised years.
use Rattle.std.specs.Prelude.{◌≡◌, Bool, ℕ, ◌+◌, ◌≤◌}
use Rattle.civil.specs.Calendar.{Calendar, month_days, days_before, first_raised, last_raised, day_of}
use Rattle.civil.specs.Date.{Date, date_of}

-- The day number of a date.
abbrev pub day : Calendar → Date → ℕ
day cal x = day_of cal x.year x.month x.day

-- A civil date is good when its year is covered, its month lies in 1..12 and its day in 1..the month's length: none of
-- the refusals 5, 6 and 7 applies (document 01). The last year covered is not asked here but beside this record, as
-- `last_raised`: so "no other good date" speaks of the years after 6239 too.
pub record GoodCivilDate (cal : Calendar) (x : Date) : Type 0 where
  pub first_year : first_raised ≤ x.year
  pub first_month : 1 ≤ x.month
  pub last_month : x.month ≤ 12
  pub first_day_is : 1 ≤ x.day
  pub last_day_lem : x.day ≤ month_days (cal.leap x.year) x.month

-- Day j has exactly one date: it is good, its year is covered, its day is j, and no other good date's is.
pub record OneDate (cal : Calendar) (j : ℕ) : Type 0 where
  pub good : GoodCivilDate cal (date_of cal j)
  pub last : (date_of cal j).year ≤ last_raised
  pub counted : day cal (date_of cal j) ≡ j
  pub only : (x : Date) → GoodCivilDate cal x → day cal x ≡ j → x ≡ date_of cal j

-- Day y of a year, from 0, is day d of month m.
pub record IsMonthDay (leap : Bool) (y m d : ℕ) : Type 0 where
  pub first_month : 1 ≤ m
  pub last_month : m ≤ 12
  pub first_day_is : 1 ≤ d
  pub last_day_lem : d ≤ month_days leap m
  pub place : days_before leap m + d ≡ y + 1
