-- Each day in range has exactly one good Hebrew date, and each good date comes back to its own day.
use mathlib.Core.Path.{◌≡◌, refl, ap, sym, ◌∙◌}
use mathlib.Core.Bool.{Bool, true, false, cond}
use Prim.Native.Nat.{ℕ, ◌+◌, ◌-◌, ◌≤◌, ◌<◌}
use native.Mathlib.Omega.{arith}
use lib.Dec.{leb}
use Rattle.days.specs.Range.{first_day, last_day, InRange}
use Rattle.molad.specs.Years.{last_year}
use Rattle.molad.specs.Molad.{IsMonth}
use Rattle.newyear.specs.NewYear.{new_year, year_length, year_of, InYear}
use Rattle.newyear.proofs.Lengths.{rises, length_in, length_leap}
use Rattle.newyear.proofs.YearOf.{held, year_is, year_in_range}
use Rattle.hebrew.specs.Months.{month_length, days_before}
use Rattle.hebrew.specs.Dates.{Date, GoodHebrewDate, day_number, month_of, date_of}
use Rattle.hebrew.proofs.Placed.{InMonth, month_is, month_holds, months_whole, sums_rise}

-- The months of a year add up to its length.
pub months_add_up : (h : ℕ) → 1 ≤ h → h ≤ last_year → days_before (year_length h) 14 ≡ year_length h
months_add_up h l u = months_whole (year_length h) (length_in h l (omega arith))

-- A month that holds a day is a month of the year: a common year's code 6 has no days.
pub adar_one : (b : Bool) (d x : ℕ) → d ≤ x → x < d + cond b 30 0 → b ≡ true
adar_one true d x p q = refl
adar_one false d x p q = absurd (omega arith)

held_month : (len x code : ℕ) → InMonth len x code → IsMonth (leb 383 len) code
unfolding month_length
held_month len x code i =
    ((i.low, i.high), λ q. adar_one (leb 383 len) _ x (rw q at i.from) (rw q at i.before))

-- Every day in range has a good date, whose day it is.
module _ (j : ℕ) (lo : first_day ≤ j) (hi : j ≤ last_day) where
  in_year : InYear j (year_of j)
  in_year = held j lo hi

  in_month : InMonth (year_length (year_of j)) (j - new_year (year_of j)) (month_of (year_length (year_of j)) (j - new_year (year_of j)))
  unfolding year_length
  in_month = month_holds _ _ (length_in (year_of j) in_year.low (omega (arith, in_year.high))) (omega (arith, in_year.from, in_year.before))

  pub date_good : GoodHebrewDate (date_of j)
  unfolding date_of
  date_good =
      let y = in_year in
      let m = in_month in
      let k = held_month _ _ _ m in
      record {
        of_years = (y.low, y.high);
        of_year = rw (length_leap (year_of j) y.low (omega arith)) at k;
        of_month = omega arith;
      }

  pub date_day : day_number (date_of j) ≡ j
  unfolding date_of day_number
  date_day = let y = in_year in let m = in_month in omega arith

-- Every good date is the date of its day, which lies in range.
module _ (x : Date) (g : GoodHebrewDate x) where
  pub in_its_year : InYear (day_number x) x.year
  unfolding day_number year_length
  in_its_year =
      let h = x.year in
      let r = rises h g.of_years.0 (omega arith) in
      let w = months_add_up h g.of_years.0 g.of_years.1 in
      let s = sums_rise (year_length h) x.month 14 (omega (arith, g.of_year.0)) in
      record { low = g.of_years.0; high = g.of_years.1; from = omega arith; before = omega arith }

  pub day_in_range : InRange (day_number x)
  day_in_range = year_in_range (day_number x) x.year in_its_year

  in_its_month : InMonth (year_length x.year) (day_number x - new_year x.year) x.month
  unfolding day_number
  in_its_month = let d = g.of_month in record { low = g.of_year.0.0; high = g.of_year.0.1; from = omega arith; before = omega arith }

  back_day : day_number x - new_year x.year - days_before (year_length x.year) x.month + 1 ≡ x.day
  unfolding day_number
  back_day = omega (arith, g.of_month)

  pub date_back_lem : date_of (day_number x) ≡ x
  unfolding date_of
  date_back_lem =
      rw (year_is (day_number x) x.year in_its_year, month_is _ _ _ in_its_month)
      (λ i. record { year = x.year; month = x.month; day = back_day i })

-- So two good dates of one day are the same date.
pub one_date : (x y : Date) → GoodHebrewDate x → GoodHebrewDate y → day_number x ≡ day_number y → x ≡ y
one_date x y g k e = sym (date_back_lem x g) ∙ ap date_of e ∙ date_back_lem y k

-- Dates of a year rise with their day numbers.
pub dates_rise_by_month : (h m d n e : ℕ) → GoodHebrewDate (record { year = h; month = m; day = d }) → GoodHebrewDate (record { year = h; month = n; day = e }) → m < n → day_number (record { year = h; month = m; day = d }) < day_number (record { year = h; month = n; day = e })
unfolding day_number
dates_rise_by_month h m d n e g k p = omega (arith, g.of_month, k.of_month, sums_rise (year_length h) m n p)

pub dates_rise_by_day : (h m d e : ℕ) → GoodHebrewDate (record { year = h; month = m; day = d }) → d < e → day_number (record { year = h; month = m; day = d }) < day_number (record { year = h; month = m; day = e })
unfolding day_number
dates_rise_by_day h m d e g p = omega (arith, g.of_month)
