-- The date of a day number, counted on day by day from the first day's date.
use Rattle.std.specs.Prelude.{Bool, cond, ℕ, zero, suc, ◌+◌, ◌-◌, ltb}
use Rattle.days.specs.Range.{first_day}
use Rattle.civil.specs.Calendar.{Calendar, month_days, first_raised}

-- The year is a raised year.
pub record Date : Type 0 where
  pub year : ℕ
  pub month : ℕ
  pub day : ℕ

-- The next day's date: in the same month, or the first of the next month, or the first of the next year.
unfoldable pub tomorrow : (ℕ → Bool) → Date → Date
tomorrow leap x =
    cond (ltb x.day (month_days (leap x.year) x.month))
    (record { year = x.year; month = x.month; day = x.day + 1 })
    (cond (ltb x.month 12)
    (record { year = x.year; month = x.month + 1; day = 1 })
    (record { year = x.year + 1; month = 1; day = 1 }))

-- The date n days after the first day's.
unfoldable pub days_on : Calendar → ℕ → Date
days_on cal zero = record { year = first_raised; month = cal.month; day = cal.day }
days_on cal (suc n) = tomorrow cal.leap (days_on cal n)

unfoldable pub date_of : Calendar → ℕ → Date
date_of cal j = days_on cal (j - first_day)
