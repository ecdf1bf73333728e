-- The Julian calendar's years: its first date is a good one, and a date's day by the year's number.
use mathlib.Core.Path.{◌≡◌, refl}
use Prim.Native.Nat.{ℕ, ◌+◌, ◌-◌, ◌*◌, ◌/◌}
use native.Mathlib.Omega.{arith}
use Rattle.civil.specs.Calendar.{julian, julian_leap, month_days, days_before, years_days, first_raised, divisible, days_to, day_of}
use Rattle.civil.proofs.Years.{julian_rule, julian_years}
use Rattle.civil.proofs.Dates.{Covers}

pub julian_first : days_to julian first_raised 10 7 ≡ 281
unfolding days_to years_days days_before month_days julian_leap
julian_first = refl

pub julian_covers : Covers julian
unfolding month_days julian_leap
julian_covers =
    record { first = omega arith; eve = omega (arith, julian_first); last = omega (arith, julian_first, julian_years 10000) }

-- The first day's date is 281 days into its year, so day 347,717 is the eve of 1 January −3760.
pub julian_day : (k m d : ℕ) → day_of julian (first_raised + k) m d ≡ 347717 + 365 * k + (k + 3) / 4 + days_before (divisible 4 k) m + d
unfolding day_of days_to
julian_day k m d =
    let e : first_raised + k - first_raised ≡ k = omega arith in
    rw (e, julian_rule k) (omega (arith, julian_first, julian_years k))
