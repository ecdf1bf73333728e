-- Years begun in March, in any calendar: their days are days of civil years.
use mathlib.Core.Path.{◌≡◌}
use mathlib.Core.Bool.{Bool}
use Prim.Native.Nat.{ℕ, ◌+◌, ◌-◌, ◌/◌, ◌≤◌, ◌<◌}
use native.Mathlib.Omega.{arith}
use Rattle.civil.specs.Calendar.{Calendar, days_before, first_raised, last_raised, days_to, day_of}
use Rattle.civil_years.specs.Steps.{IsYearDay}
use Rattle.civil.proofs.MonthStarts.{january, march, year_days_lem}
use Rattle.civil.proofs.Years.{next_year}

-- Day j is day y, from 0, of the year that is begun in March of year s. From day 306 on it lies in January or February of
-- year s + 1: no day has a number above 365, so that y / 306 is 1 there, and 0 before.
pub record IsMarchDay (cal : Calendar) (j s y : ℕ) : Type 0 where
  pub first_year : first_raised ≤ s
  pub last_year_lem : s + y / 306 ≤ last_raised
  pub short : y < 306 + days_before (cal.leap (s + 1)) 3
  pub place : day_of cal s 3 (y + 1) ≡ j

module _ (cal : Calendar) (j s y : ℕ) (is : IsMarchDay cal j s y) (leap : Bool) where
  pub in_same_year : y < 306 → leap ≡ cal.leap s → IsYearDay cal j (record { year = s; leap = leap; day = days_before leap 3 + y })
  unfolding day_of days_to
  in_same_year h rule =
      record {
        first_year = is.first_year;
        last_year_lem = omega (arith, is.last_year_lem);
        rule = rule;
        short = omega (arith, march leap, year_days_lem leap);
        place = rw rule (omega (arith, is.place, january (cal.leap s)));
      }

  pub in_next_year : 306 ≤ y → leap ≡ cal.leap (s + 1) → IsYearDay cal j (record { year = s + 1; leap = leap; day = y - 306 })
  unfolding day_of days_to
  in_next_year h rule =
      record {
        first_year = omega (arith, is.first_year);
        last_year_lem = omega (arith, is.last_year_lem);
        rule = rule;
        short = rw rule (omega (arith, is.short, march (cal.leap (s + 1)), year_days_lem (cal.leap (s + 1))));
        place =
            omega (
              arith,
              is.place,
              january (cal.leap (s + 1)),
              next_year cal.leap s is.first_year,
              march (cal.leap s),
              year_days_lem (cal.leap s),
            );
      }
