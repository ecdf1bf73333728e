-- What `new_year`, `year`, `kind` and `year_of_day` answer.
use Rattle.std.specs.Prelude.{cond, ℕ, ◌/◌, ◌%◌}
use Rattle.days.specs.Range.{out_of_range}
use Rattle.days.specs.Weekday.{weekday}
use Rattle.molad.specs.Units.{parts_in_hour}
use Rattle.molad.specs.Years.{out_of_years, out_of_new_years, months_in}
use Rattle.molad.specs.Molad.{molad_day, molad_time}
use Rattle.delays.specs.declared.Delayed.{Delayed}
use Rattle.newyear.specs.NewYear.{delay_in, new_year, year_length, year_of}
use Rattle.newyear.specs.Kinds.{kind_of, kind_number}
use Rattle.newyear.specs.declared.NewYearAnswer.{NewYearAnswer}
use Rattle.newyear.specs.declared.YearAnswer.{YearAnswer}
use Rattle.newyear.specs.declared.KindAnswer.{KindAnswer}
use Rattle.newyear.specs.declared.YearOfDayAnswer.{YearOfDayAnswer}

abbrev pub no_new_year : ℕ → NewYearAnswer
no_new_year n = record { refusal = n; day = 0; weekday = 0; molad_day = 0; molad_hour = 0; molad_part = 0; delay = 0; cause = 0 }

-- New Year from its day, the molad's day and time, and the delay with its cause.
abbrev pub new_year_on : ℕ → ℕ → ℕ → Delayed → NewYearAnswer
new_year_on j moladJ t late =
    record {
      refusal = 0;
      day = j;
      weekday = weekday j;
      molad_day = moladJ;
      molad_hour = t / parts_in_hour;
      molad_part = t % parts_in_hour;
      delay = late.delay;
      cause = late.cause;
    }

-- Refusal 1: the year lies outside 1..10,000.
unfoldable pub new_year_answer : ℕ → NewYearAnswer
new_year_answer h = cond (out_of_new_years h) (no_new_year 1) (new_year_on (new_year h) (molad_day h 1) (molad_time h 1) (delay_in h))

-- Refusal 1: the year lies outside 1..9999.
unfoldable pub year_answer : ℕ → YearAnswer
year_answer h =
    cond (out_of_years h)
    (record { refusal = 1; new_year = 0; weekday = 0; length = 0; months = 0; delay = 0; cause = 0 })
    (record {
      refusal = 0;
      new_year = new_year h;
      weekday = weekday (new_year h);
      length = year_length h;
      months = months_in h;
      delay = (delay_in h).delay;
      cause = (delay_in h).cause;
    })

abbrev pub no_kind : KindAnswer
no_kind = record { refusal = 1; kind = 0; weekday = 0; length = 0 }

abbrev pub kind_told : ℕ → KindAnswer
kind_told h = record { refusal = 0; kind = kind_number (kind_of h); weekday = weekday (new_year h); length = year_length h }

-- Refusal 1: the year lies outside 1..9999.
unfoldable pub kind_answer : ℕ → KindAnswer
kind_answer h = cond (out_of_years h) no_kind (kind_told h)

-- Refusal 4: the day number lies outside the range.
unfoldable pub year_of_day_answer : ℕ → YearOfDayAnswer
year_of_day_answer j = cond (out_of_range j) (record { refusal = 4; year = 0 }) (record { refusal = 0; year = year_of j })
