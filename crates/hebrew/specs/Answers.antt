-- What `month_length`, `hebrew_to_day` and `day_to_hebrew` answer.
use Rattle.std.specs.Prelude.{cond, ℕ, ◌+◌, ◌-◌}
use Rattle.laws.specs.Runs.{outside}
use Rattle.days.specs.Range.{out_of_range}
use Rattle.molad.specs.Years.{out_of_years, leap}
use Rattle.molad.specs.Molad.{no_month}
use Rattle.newyear.specs.NewYear.{new_year, year_length}
use Rattle.hebrew.specs.Months.{month_length}
use Rattle.hebrew.specs.Dates.{Date, day_number, date_of}
use Rattle.hebrew.specs.declared.MonthAnswer.{MonthAnswer}
use Rattle.hebrew.specs.declared.HebrewDay.{HebrewDay}
use Rattle.hebrew.specs.declared.HebrewDate.{HebrewDate}

-- Refusal 1: the year lies outside 1..9999. 2: the code lies outside 1..13, or is 6 in a common year.
unfoldable pub month_answer : ℕ → ℕ → MonthAnswer
month_answer h code =
    cond (out_of_years h) (record { refusal = 1; days = 0 })
    (cond (no_month (leap h) code) (record { refusal = 2; days = 0 })
    (record { refusal = 0; days = month_length (year_length h) code }))

abbrev pub no_day : ℕ → HebrewDay
no_day n = record { refusal = n; day = 0 }

-- Then refusal 3: the day lies outside 1..the month's length.
unfoldable pub hebrew_day : ℕ → ℕ → ℕ → HebrewDay
hebrew_day h code d =
    cond (out_of_years h) (no_day 1)
    (cond (no_month (leap h) code) (no_day 2)
    (cond (outside 1 (month_length (year_length h) code) d) (no_day 3)
    (record { refusal = 0; day = day_number (record { year = h; month = code; day = d }) })))

abbrev pub no_date : ℕ → HebrewDate
no_date n = record { refusal = n; year = 0; month = 0; day = 0; new_year = 0; length = 0; day_of_year = 0 }

-- A date with its year's New Year and length, and the day of the year, which counts from 1.
abbrev pub dated : ℕ → Date → HebrewDate
dated j x =
    record {
      refusal = 0;
      year = x.year;
      month = x.month;
      day = x.day;
      new_year = new_year x.year;
      length = year_length x.year;
      day_of_year = j - new_year x.year + 1;
    }

-- Refusal 4: the day number lies outside the range.
unfoldable pub hebrew_date : ℕ → HebrewDate
hebrew_date j = cond (out_of_range j) (no_date 4) (dated j (date_of j))
