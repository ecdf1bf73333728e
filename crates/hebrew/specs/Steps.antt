-- What the steps of the code promise each other, and the crates that use them: the dates of a year of a given length,
-- one after another.
use Rattle.std.specs.Prelude.{◌&&◌, ◌||◌, cond, ℕ, ◌+◌, ◌-◌, eqb, leb, ltb}
use Rattle.hebrew.specs.Months.{month_length, days_before}
use Rattle.hebrew.specs.Dates.{month_of}
use Rattle.hebrew.specs.declared.YearDate.{YearDate}

-- The date so many days after New Year. Past the year's last day it is counted on in Elul.
unfoldable pub year_date : ℕ → ℕ → YearDate
year_date len x = record { after = x; month = month_of len x; day = x - days_before len (month_of len x) + 1 }

-- The next day's date: in the same month, or the first of the next, which after Shevat of a common year is code 7. No
-- month comes after Elul.
unfoldable pub tomorrow : ℕ → YearDate → YearDate
tomorrow len date =
    cond (ltb date.day (month_length len date.month) || leb 13 date.month)
    (record { after = date.after + 1; month = date.month; day = date.day + 1 })
    (record { after = date.after + 1; month = cond (eqb date.month 5 && ltb len 383) 7 (date.month + 1); day = 1 })
