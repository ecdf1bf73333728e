-- What holds of the two calendars: each day has exactly one date, each good date comes back from its own day, the two
-- public questions answer each other; and the days of August, as Rhodes' route counts them.
use mathlib.Core.Path.{◌≡◌, refl}
use mathlib.Core.Bool.{Bool, true, false, cond}
use Prim.Native.Nat.{ℕ, ◌+◌, ◌-◌, ◌*◌, ◌/◌, ◌≤◌}
use native.Mathlib.Omega.{arith}
use lib.IntN.{ℤ}
use Rattle.days.specs.Range.{first_day, last_day, out_of_range}
use Rattle.civil.specs.Calendar.{julian, gregorian, month_days, days_before, first_raised, divisible, day_of}
use Rattle.civil.specs.Date.{Date, date_of}
use Rattle.civil.specs.Good.{day, GoodCivilDate, OneDate}
use Rattle.civil.specs.Answers.{civil_day, civil_date}
use Rattle.civil.proofs.Years.{fourth}
use Rattle.civil.proofs.Dates.{one_date, comes_back}
use Rattle.civil.proofs.RoundTrips.{there_and_back, back_and_there}
use Rattle.civil.proofs.JulianYears.{julian_covers, julian_day}
use Rattle.civil.proofs.GregorianYears.{gregorian_covers}

pub julian_one_date : (j : ℕ) → first_day ≤ j → j ≤ last_day → OneDate julian j
julian_one_date = one_date julian julian_covers

pub gregorian_one_date : (j : ℕ) → first_day ≤ j → j ≤ last_day → OneDate gregorian j
gregorian_one_date = one_date gregorian gregorian_covers

pub julian_comes_back : (x : Date) → GoodCivilDate julian x → first_day ≤ day julian x → date_of julian (day julian x) ≡ x
julian_comes_back = comes_back julian julian_covers

pub gregorian_comes_back : (x : Date) → GoodCivilDate gregorian x → first_day ≤ day gregorian x → date_of gregorian (day gregorian x) ≡ x
gregorian_comes_back = comes_back gregorian gregorian_covers

-- The same of the public answers, with signed years: a day in range comes back from its date, and a date that is
-- answered comes back from its day.
pub julian_there_and_back :
    (j : ℕ) → out_of_range j ≡ false → let r = civil_date julian j in
    civil_day julian r.year r.month r.day ≡ record { refusal = 0; day = j }
julian_there_and_back = there_and_back julian julian_covers

pub gregorian_there_and_back :
    (j : ℕ) → out_of_range j ≡ false → let r = civil_date gregorian j in
    civil_day gregorian r.year r.month r.day ≡ record { refusal = 0; day = j }
gregorian_there_and_back = there_and_back gregorian gregorian_covers

pub julian_back_and_there :
    (y : ℤ) (m d j : ℕ) → civil_day julian y m d ≡ record { refusal = 0; day = j } →
    civil_date julian j ≡ record { refusal = 0; year = y; month = m; day = d }
julian_back_and_there = back_and_there julian julian_covers

pub gregorian_back_and_there :
    (y : ℤ) (m d j : ℕ) → civil_day gregorian y m d ≡ record { refusal = 0; day = j } →
    civil_date gregorian j ≡ record { refusal = 0; year = y; month = m; day = d }
gregorian_back_and_there = back_and_there gregorian gregorian_covers

-- Day d of August, counted on past 31, of the Julian year h − 3761.
august_start : (leap : Bool) → days_before leap 8 ≡ 212 + cond leap 1 0
unfolding days_before month_days
august_start true = refl
august_start false = refl

pub august : (h d : ℕ) → 1 ≤ h → day_of julian (h + 239) 8 d ≡ 347930 + 365 * (h - 1) + (h - 1) / 4 + d
august h d l =
    let k = h - 1 in
    let e : first_raised + k ≡ h + 239 = omega arith in
    let t = rw e at (julian_day k 8 d) in
    omega (arith, august_start (divisible 4 k), fourth k)
