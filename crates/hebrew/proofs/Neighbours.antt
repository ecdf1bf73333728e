-- The date of a day's neighbour in the same month: a day on from the 28th or earlier, a day back from the 2nd or later.
use mathlib.Core.Path.{◌≡◌, refl}
use mathlib.Core.Bool.{Bool, true, ◌||◌}
use Prim.Native.Nat.{ℕ, ◌+◌, ◌-◌, ◌≤◌, ◌<◌}
use native.Mathlib.Omega.{arith}
use borrow.Author.Tests.{leb-true}
use lib.Dec.{leb}
use Rattle.laws.specs.Runs.{every, each_of}
use Rattle.laws.proofs.Tests.{of_at}
use Rattle.laws.proofs.Promises.{let_pass}
use Rattle.days.specs.Range.{InRange}
use Rattle.molad.specs.Years.{InYears, leap}
use Rattle.molad.specs.Molad.{IsMonth, no_month}
use Rattle.molad.proofs.Answers.{months_caught}
use Rattle.newyear.specs.NewYear.{year_length}
use Rattle.newyear.specs.Kinds.{lengths}
use Rattle.newyear.proofs.Lengths.{length_in, length_leap}
use Rattle.hebrew.specs.Months.{month_length}
use Rattle.hebrew.specs.Dates.{Date, GoodHebrewDate, day_number, date_of}
use Rattle.hebrew.proofs.Dates.{date_good, date_day, date_back_lem}

-- No month of a year has fewer than 29 days.
long : ℕ → ℕ → Bool
long len code = no_month (leb 383 len) code || leb 29 (month_length len code)

long_all : each_of lengths (λ len. every 1 13 (long len)) ≡ true
unfolding each_of every long no_month month_length
long_all = refl

month_long : (h code : ℕ) → InYears h → IsMonth (leap h) code → 29 ≤ month_length (year_length h) code
unfolding long
month_long h code y m =
    let k = length_in h y.0 (omega arith) in
    let t = of_at lengths 1 (λ _. 13) long long_all (year_length h) code k.among m.0.0 (omega arith) in
    leb-true _ _ (rw (length_leap h y.0 (omega arith), let_pass (months_caught (leap h) code) m) at t)

-- The same month's date d.
abbrev on : Date → ℕ → Date
on x d = record { year = x.year; month = x.month; day = d }

on_number : (x : Date) (d : ℕ) → 1 ≤ x.day → x.day ≤ d → day_number (on x d) ≡ day_number x + (d - x.day)
unfolding day_number
on_number x d l u = omega arith

-- A good date of the month, so many days on from that of day j.
reached : (x : Date) (j d : ℕ) → GoodHebrewDate (on x d) → day_number (on x d) ≡ j → date_of j ≡ on x d
reached x j d g e = rw e at (date_back_lem (on x d) g)

module _ (j : ℕ) (i : InRange j) where
  good : GoodHebrewDate (date_of j)
  good = date_good j i.0 i.1

  abbrev x : Date
  x = date_of j

  pub date_on_lem : x.day < 29 → date_of (j + 1) ≡ on x (x.day + 1)
  date_on_lem u =
      let m = month_long x.year x.month good.of_years good.of_year in
      reached x (j + 1) (x.day + 1)
      (record { of_years = good.of_years; of_year = good.of_year; of_month = omega arith })
      (omega (arith, on_number x (x.day + 1) good.of_month.0 (omega arith), date_day j i.0 i.1))

  pub date_before : 1 < x.day → date_of (j - 1) ≡ on x (x.day - 1)
  date_before u =
      let y = on x (x.day - 1) in
      reached x (j - 1) (x.day - 1)
      (record { of_years = good.of_years; of_year = good.of_year; of_month = omega (arith, good.of_month) })
      (omega (arith, on_number y x.day (omega arith) (omega arith), date_day j i.0 i.1))
