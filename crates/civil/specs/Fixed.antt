-- The words of this crate, fixed by plain numbers: a promise said in them cannot move with them. The months have their
-- lengths, each end of a range is in and its neighbour out, and dates of both calendars have their days. −1 − n is
-- `negsuc n`.
use Rattle.std.specs.Prelude.{◌≡◌, Bool, true, false, List, [], ◌∷◌, ◌↔◌, ℕ, ◌≤◌, ℤ, pos, negsuc, ◌≤ℤ◌}
use Rattle.civil.specs.Signed.{InCivilYears}
use Rattle.civil.specs.Calendar.{Calendar, julian, gregorian, month_days}
use Rattle.civil.specs.Answers.{civil_day, civil_date}
use Rattle.civil.specs.Promises.{IsCivilMonth}

-- January to December.
abbrev pub months : Bool → List ℕ
months leap =
    month_days leap 1 ∷ month_days leap 2 ∷ month_days leap 3 ∷ month_days leap 4 ∷ month_days leap 5 ∷ month_days leap 6
    ∷ month_days leap 7 ∷ month_days leap 8 ∷ month_days leap 9 ∷ month_days leap 10 ∷ month_days leap 11 ∷ month_days leap 12 ∷ []

-- A date is answered with its day, and the day with the date.
abbrev pub BothWays : Calendar → ℤ → ℕ → ℕ → ℕ → Type 0
BothWays cal y m d j =
    (civil_day cal y m d ≡ record { refusal = 0; day = j }) × (civil_date cal j ≡ record { refusal = 0; year = y; month = m; day = d })

abbrev pub DateRefused : Calendar → ℤ → ℕ → ℕ → ℕ → Type 0
DateRefused cal y m d n = civil_day cal y m d ≡ record { refusal = n; day = 0 }

abbrev pub DayRefused : Calendar → ℕ → Type 0
DayRefused cal j = civil_date cal j ≡ record { refusal = 4; year = pos 0; month = 0; day = 0 }

pub record WordsFixed : Type 0 where
  pub common_year : months false ≡ 31 ∷ 28 ∷ 31 ∷ 30 ∷ 31 ∷ 30 ∷ 31 ∷ 31 ∷ 30 ∷ 31 ∷ 30 ∷ 31 ∷ []
  pub leap_year : months true ≡ 31 ∷ 29 ∷ 31 ∷ 30 ∷ 31 ∷ 30 ∷ 31 ∷ 31 ∷ 30 ∷ 31 ∷ 30 ∷ 31 ∷ []
  pub years : (y : ℤ) → InCivilYears y ↔ ((negsuc 3759 ≤ℤ y) × (y ≤ℤ pos 6239))
  pub civil_months : (m : ℕ) → IsCivilMonth m ↔ ((1 ≤ m) × (m ≤ 12))
  -- The first and the last day.
  pub julian_ends : BothWays julian (negsuc 3759) 10 7 347998 × BothWays julian (pos 6239) 8 11 4000075
  pub gregorian_ends : BothWays gregorian (negsuc 3759) 9 7 347998 × BothWays gregorian (pos 6239) 9 25 4000075
  -- 29 February, of −4, of 0 and of a century year; and the days on which the one calendar followed the other, in 1582.
  pub julian_days :
      BothWays julian (negsuc 3) 2 29 1719656
      × BothWays julian (pos 0) 2 29 1721117
      × BothWays julian (pos 1900) 2 29 2415092
      × BothWays julian (pos 1582) 10 4 2299160
  pub gregorian_days :
      BothWays gregorian (negsuc 3) 2 29 1719658
      × BothWays gregorian (pos 0) 2 29 1721119
      × BothWays gregorian (pos 2000) 2 29 2451604
      × BothWays gregorian (pos 1582) 10 15 2299161
  -- 1 January and 31 December.
  pub year_ends :
      BothWays julian (pos 2001) 1 1 2451924 × BothWays julian (pos 2001) 12 31 2452288
      × BothWays gregorian (pos 2001) 1 1 2451911 × BothWays gregorian (pos 2001) 12 31 2452275
  -- Refused: the year, the month, the day of the month, and the day number.
  pub no_year :
      DateRefused julian (negsuc 3760) 10 7 5 × DateRefused julian (pos 6240) 1 1 5
      × DateRefused gregorian (negsuc 3760) 9 7 5 × DateRefused gregorian (pos 6240) 1 1 5
  pub no_month_is :
      DateRefused julian (pos 2001) 0 1 6 × DateRefused julian (pos 2001) 13 1 6
      × DateRefused gregorian (pos 2001) 0 1 6 × DateRefused gregorian (pos 2001) 13 1 6
  pub no_day_is :
      DateRefused julian (pos 2001) 1 0 7 × DateRefused julian (pos 2001) 1 32 7
      × DateRefused julian (pos 1901) 2 29 7 × DateRefused gregorian (pos 1900) 2 29 7
      × DateRefused gregorian (pos 2001) 12 0 7 × DateRefused gregorian (pos 2001) 12 32 7
  pub outside_range :
      DateRefused julian (negsuc 3759) 10 6 8 × DateRefused julian (pos 6239) 8 12 8
      × DateRefused gregorian (negsuc 3759) 9 6 8 × DateRefused gregorian (pos 6239) 9 26 8
  pub no_date_is : DayRefused julian 347997 × DayRefused julian 4000076 × DayRefused gregorian 347997 × DayRefused gregorian 4000076
