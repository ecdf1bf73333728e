-- The words of this crate, fixed by plain numbers: a promise said in them cannot move with them. The months have document 01's
-- lengths, each end of a range is in and its neighbour out, and dates have their days.
use Rattle.std.specs.Prelude.{◌≡◌, List, [], ◌∷◌, ℕ}
use Rattle.hebrew.specs.Months.{month_length}
use Rattle.hebrew.specs.Rows.{row, row_date}
use Rattle.hebrew.specs.Answers.{month_answer, hebrew_day, hebrew_date}

-- The months from Tishri to Elul in a year of a length; code 6, Adar I, has no days in a common year.
abbrev pub months : ℕ → List ℕ
months len =
    month_length len 1 ∷ month_length len 2 ∷ month_length len 3 ∷ month_length len 4 ∷ month_length len 5 ∷ month_length len 6 ∷ month_length len 7
    ∷ month_length len 8 ∷ month_length len 9 ∷ month_length len 10 ∷ month_length len 11 ∷ month_length len 12 ∷ month_length len 13 ∷ []

-- A date is answered with its day, and the day with the date, its year's New Year and length and the day of the year.
abbrev pub BothWays : ℕ → ℕ → ℕ → ℕ → ℕ → ℕ → ℕ → Type 0
BothWays h code d j start len place =
    (hebrew_day h code d ≡ record { refusal = 0; day = j })
    × (hebrew_date j ≡ record { refusal = 0; year = h; month = code; day = d; new_year = start; length = len; day_of_year = place })

abbrev pub DateRefused : ℕ → ℕ → ℕ → ℕ → Type 0
DateRefused h code d n = hebrew_day h code d ≡ record { refusal = n; day = 0 }

abbrev pub DayRefused : ℕ → Type 0
DayRefused j = hebrew_date j ≡ record { refusal = 4; year = 0; month = 0; day = 0; new_year = 0; length = 0; day_of_year = 0 }

pub record WordsFixed : Type 0 where
  -- 6 Sivan.
  pub rows : (row 10 6 ≡ 1006) × (row_date 5762 1006 ≡ record { year = 5762; month = 10; day = 6 })
  pub common_years :
      (months 353 ≡ 30 ∷ 29 ∷ 29 ∷ 29 ∷ 30 ∷ 0 ∷ 29 ∷ 30 ∷ 29 ∷ 30 ∷ 29 ∷ 30 ∷ 29 ∷ [])
      × (months 354 ≡ 30 ∷ 29 ∷ 30 ∷ 29 ∷ 30 ∷ 0 ∷ 29 ∷ 30 ∷ 29 ∷ 30 ∷ 29 ∷ 30 ∷ 29 ∷ [])
      × (months 355 ≡ 30 ∷ 30 ∷ 30 ∷ 29 ∷ 30 ∷ 0 ∷ 29 ∷ 30 ∷ 29 ∷ 30 ∷ 29 ∷ 30 ∷ 29 ∷ [])
  pub leap_years :
      (months 383 ≡ 30 ∷ 29 ∷ 29 ∷ 29 ∷ 30 ∷ 30 ∷ 29 ∷ 30 ∷ 29 ∷ 30 ∷ 29 ∷ 30 ∷ 29 ∷ [])
      × (months 384 ≡ 30 ∷ 29 ∷ 30 ∷ 29 ∷ 30 ∷ 30 ∷ 29 ∷ 30 ∷ 29 ∷ 30 ∷ 29 ∷ 30 ∷ 29 ∷ [])
      × (months 385 ≡ 30 ∷ 30 ∷ 30 ∷ 29 ∷ 30 ∷ 30 ∷ 29 ∷ 30 ∷ 29 ∷ 30 ∷ 29 ∷ 30 ∷ 29 ∷ [])
  -- Elul 9999; Adar I of year 3, which year 1 does not have.
  pub lengths :
      (month_answer 1 1 ≡ record { refusal = 0; days = 30 })
      × (month_answer 9999 13 ≡ record { refusal = 0; days = 29 })
      × (month_answer 3 6 ≡ record { refusal = 0; days = 30 })
  pub no_lengths :
      (month_answer 0 1 ≡ record { refusal = 1; days = 0 })
      × (month_answer 10000 1 ≡ record { refusal = 1; days = 0 })
      × (month_answer 1 0 ≡ record { refusal = 2; days = 0 })
      × (month_answer 1 14 ≡ record { refusal = 2; days = 0 })
      × (month_answer 1 6 ≡ record { refusal = 2; days = 0 })
  -- The first and the last day; 3 Tishri 5775, the night of the fault; 30 Kislev and 6 Sivan 5762.
  pub dates :
      BothWays 1 1 1 347998 347998 355 1
      × BothWays 9999 13 29 4000075 3999723 353 353
      × BothWays 5775 1 3 2456928 2456926 354 3
      × BothWays 5762 3 30 2452259 2452171 354 89
      × BothWays 5762 10 6 2452412 2452171 354 242
  pub no_year : DateRefused 0 1 1 1 × DateRefused 10000 1 1 1
  pub no_month_is : DateRefused 1 0 1 2 × DateRefused 1 14 1 2 × DateRefused 1 6 1 2
  pub no_day_is : DateRefused 1 1 0 3 × DateRefused 1 1 31 3 × DateRefused 9999 13 30 3 × DateRefused 5762 2 30 3
  pub no_date_is : DayRefused 347997 × DayRefused 4000076
