-- The Gregorian calendar's years: its first date is a good one, and a date's day by the year's number.
use mathlib.Core.Path.{◌≡◌, refl}
use Prim.Native.Nat.{ℕ, ◌+◌, ◌-◌, ◌*◌, ◌/◌, ◌≤◌}
use native.Mathlib.Omega.{arith}
use Rattle.civil.specs.Calendar.{gregorian, gregorian_leap, month_days, days_before, years_days, first_raised, days_to, day_of}
use Rattle.civil.proofs.Centuries.{centuries, gregorian_years}
use Rattle.civil.proofs.Dates.{Covers}

pub gregorian_first : days_to gregorian first_raised 9 7 ≡ 251
unfolding days_to years_days days_before month_days gregorian_leap
gregorian_first = refl

pub gregorian_covers : Covers gregorian
unfolding month_days gregorian_leap
gregorian_covers =
    record {
      first = omega arith;
      eve = omega (arith, gregorian_first);
      last = omega (arith, gregorian_first, gregorian_years 10000);
    }

-- The first day's date is 251 days into its year, so day 347,747 is the eve of 1 January −3760.
pub gregorian_day :
    (s m d : ℕ) → first_raised ≤ s →
    day_of gregorian s m d + centuries s ≡ 260089 + 365 * s + (s + 3) / 4 + (centuries s + 3) / 4 + days_before (gregorian_leap s) m + d
unfolding day_of days_to
gregorian_day s m d l =
    let e : first_raised + (s - first_raised) ≡ s = omega arith in
    let t = rw e at (gregorian_years (s - first_raised)) in
    omega (arith, gregorian_first)
