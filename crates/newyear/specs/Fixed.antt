-- The words of this crate, fixed by plain numbers: a promise said in them cannot move with them. Each end of a range is in
-- and its neighbour out, each cause is told in its year, and each of the fourteen kinds has its number.
use Rattle.std.specs.Prelude.{◌≡◌, ℕ}
use Rattle.newyear.specs.Answers.{new_year_answer, year_answer, kind_answer, year_of_day_answer}
use Rattle.newyear.specs.declared.NewYearAnswer.{NewYearAnswer}

abbrev pub no_new_year_here : NewYearAnswer
no_new_year_here = record { refusal = 1; day = 0; weekday = 0; molad_day = 0; molad_hour = 0; molad_part = 0; delay = 0; cause = 0 }

-- Year h: New Year's day and weekday, the molad's day, hour and part, the delay and its cause.
abbrev pub NewYearIs : ℕ → ℕ → ℕ → ℕ → ℕ → ℕ → ℕ → ℕ → Type 0
NewYearIs h j w moladJ hour part delay cause =
    new_year_answer h
    ≡ record { refusal = 0; day = j; weekday = w; molad_day = moladJ; molad_hour = hour; molad_part = part; delay = delay; cause = cause }

abbrev pub NoYear : ℕ → Type 0
NoYear h =
    (year_answer h ≡ record { refusal = 1; new_year = 0; weekday = 0; length = 0; months = 0; delay = 0; cause = 0 })
    × (kind_answer h ≡ record { refusal = 1; kind = 0; weekday = 0; length = 0 })

-- The kind of year h: its number, the weekday of New Year, the year's length.
abbrev pub KindIs : ℕ → ℕ → ℕ → ℕ → Type 0
KindIs h n w len = kind_answer h ≡ record { refusal = 0; kind = n; weekday = w; length = len }

pub record WordsFixed : Type 0 where
  pub new_years : NewYearIs 1 347998 2 347998 5 204 0 0 × NewYearIs 10000 4000076 5 4000076 7 827 0 0
  pub no_new_years : (new_year_answer 0 ≡ no_new_year_here) × (new_year_answer 10001 ≡ no_new_year_here)
  -- None is year 1's; then noon, weekday, noon then weekday, the Tuesday rule, the Monday rule.
  pub causes :
      NewYearIs 4 349091 3 349090 20 385 1 1 × NewYearIs 2 348353 7 348352 14 0 1 2 × NewYearIs 3 348708 5 348706 22 876 2 3
      × NewYearIs 7 350185 5 350183 11 566 2 4 × NewYearIs 75 375019 3 375018 17 39 1 5
  pub years :
      (year_answer 1 ≡ record { refusal = 0; new_year = 347998; weekday = 2; length = 355; months = 12; delay = 0; cause = 0 })
      × (year_answer 9999 ≡ record { refusal = 0; new_year = 3999723; weekday = 2; length = 353; months = 12; delay = 2; cause = 3 })
      × (year_answer 3 ≡ record { refusal = 0; new_year = 348708; weekday = 5; length = 383; months = 13; delay = 2; cause = 3 })
  pub no_years : NoYear 0 × NoYear 10000
  pub kinds :
      KindIs 15 1 2 353 × KindIs 1 2 2 355 × KindIs 8 3 2 383 × KindIs 14 4 2 385
      × KindIs 4 5 3 354 × KindIs 27 6 3 384
      × KindIs 7 7 5 354 × KindIs 23 8 5 355 × KindIs 3 9 5 383 × KindIs 6 10 5 385
      × KindIs 26 11 7 353 × KindIs 2 12 7 355 × KindIs 19 13 7 383 × KindIs 25 14 7 385
  -- The first day, the last of year 1, the first of year 2, the last day; and the days beside the range.
  pub held :
      (year_of_day_answer 347998 ≡ record { refusal = 0; year = 1 })
      × (year_of_day_answer 348352 ≡ record { refusal = 0; year = 1 })
      × (year_of_day_answer 348353 ≡ record { refusal = 0; year = 2 })
      × (year_of_day_answer 4000075 ≡ record { refusal = 0; year = 9999 })
  pub not_held : (year_of_day_answer 347997 ≡ record { refusal = 4; year = 0 }) × (year_of_day_answer 4000076 ≡ record { refusal = 4; year = 0 })
