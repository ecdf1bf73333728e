-- The Julian and the Gregorian calendar, each carried back without a break (document 01). A date's day number is
-- counted, year by year and month by month, from the first day's date in each calendar. Years are raised years.
use Rattle.std.specs.Prelude.{Bool, ◌&&◌, not, cond, [], ◌∷◌, ℕ, zero, suc, ◌+◌, ◌-◌, ◌%◌, eqb, get_or}
use Rattle.days.specs.Range.{first_day}

-- A calendar: which years are leap, and the month and day that the first day of the range has in it, in the year −3760.
pub record Calendar : Type 0 where
  pub leap : ℕ → Bool
  pub month : ℕ
  pub day : ℕ

abbrev pub divisible : ℕ → ℕ → Bool
divisible k s = eqb (s % k) 0

-- Julian years divisible by 4 are leap.
unfoldable pub julian_leap : ℕ → Bool
julian_leap s = divisible 4 s

-- Gregorian ones too, unless divisible by 100 and not by 400.
unfoldable pub gregorian_leap : ℕ → Bool
gregorian_leap s = divisible 4 s && not (divisible 100 s && not (divisible 400 s))

-- First day: Julian −3760-10-07, Gregorian −3760-09-07.
abbrev pub julian : Calendar
julian = record { leap = julian_leap; month = 10; day = 7 }

abbrev pub gregorian : Calendar
gregorian = record { leap = gregorian_leap; month = 9; day = 7 }

-- The raised years of −3760 and 6239, the first and the last year covered.
abbrev pub first_raised : ℕ
first_raised = 240

abbrev pub last_raised : ℕ
last_raised = 10239

-- The days of a month, 1 January to 12 December. There is no month 0 and none after 12.
unfoldable pub month_days : Bool → ℕ → ℕ
month_days leap m =
    get_or
    (0 ∷ 31 ∷ cond leap 29 28 ∷ 31 ∷ 30 ∷ 31 ∷ 30 ∷ 31 ∷ 31 ∷ 30 ∷ 31 ∷ 30 ∷ 31 ∷ [])
    m
    0

-- The days of the months before month m.
unfoldable pub days_before : Bool → ℕ → ℕ
days_before leap zero = 0
days_before leap (suc m) = days_before leap m + month_days leap m

unfoldable pub year_days : Bool → ℕ
year_days leap = days_before leap 13

-- The days of the k years from −3760 on.
unfoldable pub years_days : (ℕ → Bool) → ℕ → ℕ
years_days leap zero = 0
years_days leap (suc k) = years_days leap k + year_days (leap (first_raised + k))

-- The days from 1 January −3760 to a date, that date with them.
unfoldable pub days_to : Calendar → ℕ → ℕ → ℕ → ℕ
days_to cal s m d = years_days cal.leap (s - first_raised) + days_before (cal.leap s) m + d

-- The day number of a date: as many days after the first day as the date comes after the first day's date.
unfoldable pub day_of : Calendar → ℕ → ℕ → ℕ → ℕ
day_of cal s m d = first_day + days_to cal s m d - days_to cal first_raised cal.month cal.day
