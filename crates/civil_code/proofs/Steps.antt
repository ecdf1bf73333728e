-- What the steps of the code come to, in any calendar: the public answers.
use mathlib.Core.Path.{◌≡◌}
use mathlib.Core.Bool.{Bool, true, false, not, cond}
use Prim.Native.Nat.{ℕ, ◌+◌, ◌-◌}
use native.Mathlib.Omega.{arith}
use lib.IntN.{ℤ}
use Rattle.std.specs.Prelude.{Some}
use Rattle.std.specs.Ordering.{nat_cmp}
use Rattle.std.specs.declared.ops.RangeInclusive.{RangeInclusive}
use Rattle.std.specs.Range.{range_inclusive_start, range_inclusive_end, range_inclusive_exhausted, range_inclusive_contains}
use Rattle.std.proofs.lemmas.Bool.Decides.{nat_tests}
use Rattle.laws.specs.Runs.{outside}
use Rattle.laws.proofs.Tests.{within}
use Rattle.days.specs.Range.{first_day, last_day, out_of_range}
use Rattle.civil.specs.Signed.{covered, raised, lowered}
use Rattle.civil.specs.Calendar.{Calendar, month_days, days_before, days_to, day_of}
use Rattle.civil.specs.Date.{Date}
use Rattle.civil.specs.Good.{day, GoodCivilDate, IsMonthDay}
use Rattle.civil.specs.Answers.{no_day, civil_day, civil_date}
use Rattle.civil.specs.declared.CivilDate.{CivilDate}
use Rattle.civil.proofs.MonthStarts.{january, next_month}
use Rattle.civil.proofs.Dates.{Covers, only_date}
use Rattle.civil.proofs.Raising.{raised_is}
use Rattle.civil_years.specs.Steps.{IsYear, IsYearDay}
use Rattle.civil_years.specs.declared.Year.{Year}
use Rattle.civil_years.specs.declared.YearDay.{YearDay}

-- What `contains` of a range with both its ends tells.
pub contains_tells :
    (a b x : ℕ) (r : RangeInclusive ℕ) (t : Bool) → range_inclusive_start r ≡ a → range_inclusive_end r ≡ b → range_inclusive_exhausted r ≡ false →
    t ≡ range_inclusive_contains (λ (i k : ℕ). Some (nat_cmp i k)) r x → outside a b x ≡ not t
contains_tells a b x r t from to fresh e =
    let told = rw (from, to, fresh) at e in rw told (grind (arith, nat_tests))

module _ (cal : Calendar) (y : ℤ) (m d : ℕ) where
  pub no_year : covered y ≡ false → civil_day cal y m d ≡ no_day 5
  unfolding civil_day
  no_year e = rw e

  pub no_month : covered y ≡ true → outside 1 12 m ≡ true → civil_day cal y m d ≡ no_day 6
  unfolding civil_day
  no_month e o = rw (e, o)

module _ (cal : Calendar) (c : Covers cal) where
  -- A date's day, from its year's eve.
  from_eve : (s m d : ℕ) → day_of cal s m d ≡ day_of cal s 1 0 + days_before (cal.leap s) m + d
  unfolding day_of days_to
  from_eve s m d = omega (arith, c.eve, january (cal.leap s))

  -- The answer for a month and day of a year, by the days before the month and before the next.
  pub in_year :
      (y : ℤ) (m d s : ℕ) (x : Year) (before next : ℕ) → (covered y ≡ true) × (s ≡ raised y) → outside 1 12 m ≡ false → IsYear cal s x →
      before ≡ days_before x.leap m → next ≡ days_before x.leap (m + 1) →
      let j = x.eve + before + d in
      civil_day cal y m d ≡ cond (outside 1 (next - before) d) (no_day 7) (cond (out_of_range j) (no_day 8) (record { refusal = 0; day = j }))
  unfolding civil_day
  in_year y m d s x before next year o at b n =
      let is = rw year.1 at at in
      let k = raised_is y year.0 in
      let length : next - before ≡ month_days x.leap m = omega (arith, next_month x.leap m) in
      rw (length, b, year.0, o, is.rule, is.eve k.low, ← from_eve (raised y) m d)

  pub date_of_day :
      (j : ℕ) → out_of_range j ≡ false → (x : YearDay) → IsYearDay cal j x → (m d : ℕ) → IsMonthDay x.leap x.day m d →
      ◌≡◌ {A = CivilDate} (record { refusal = 0; year = lowered x.year; month = m; day = d }) (civil_date cal j)
  unfolding civil_date
  date_of_day j o x at m d month =
      let z : Date = record { year = x.year; month = m; day = d } in
      let leap = at.rule in
      let of_month = rw leap at month in
      let good : GoodCivilDate cal z = omega arith in
      let counted : day cal z ≡ j = omega (arith, from_eve x.year m d, from_eve x.year 1 (x.day + 1), january (cal.leap x.year)) in
      let same = only_date cal c j (within first_day last_day j o).0 z good counted in
      rw (o, ← same)
