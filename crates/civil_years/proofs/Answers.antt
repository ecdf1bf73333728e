-- The contract of each step leaves one result.
use mathlib.Core.Path.{◌≡◌, sym, ◌∙◌, ap}
use mathlib.Core.Logic.{by_cases}
use Prim.Native.Nat.{ℕ, ◌+◌, ◌-◌, ◌≤◌, ◌<◌}
use native.Mathlib.Omega.{arith}
use native.Mathlib.Decide.{dec_lt}
use Rattle.civil.specs.Calendar.{Calendar, first_raised, days_to, day_of}
use Rattle.civil.proofs.MonthStarts.{january}
use Rattle.civil.proofs.Years.{years_rise}
use Rattle.civil.proofs.Dates.{Covers}
use Rattle.civil_years.specs.Steps.{IsYear, IsYearDay}
use Rattle.civil_years.specs.declared.Year.{Year}
use Rattle.civil_years.specs.declared.YearDay.{YearDay}

-- Of a year that is covered.
pub year_one : (cal : Calendar) (s : ℕ) (x y : Year) → first_raised ≤ s → IsYear cal s x → IsYear cal s y → x ≡ y
year_one cal s x y l p q =
    λ i. record {
      number = (p.number ∙ sym q.number) i;
      leap = (p.rule ∙ sym q.rule) i;
      eve = (p.eve l ∙ sym (q.eve l)) i;
    }

module _ (cal : Calendar) (c : Covers cal) (j : ℕ) where
  -- An earlier year has no day of a later one.
  not_earlier : (x y : YearDay) → IsYearDay cal j x → IsYearDay cal j y → ¬ (x.year < y.year)
  unfolding day_of days_to
  not_earlier x y p q l =
      let e : first_raised + (x.year - first_raised) ≡ x.year = omega (arith, p.first_year) in
      let rise = rw e at (years_rise cal.leap (x.year - first_raised) (y.year - first_raised) (omega (arith, p.first_year))) in
      let leap = p.rule in
      omega (arith, rise, p.place, q.place, rw leap at p.short, january (cal.leap x.year), january (cal.leap y.year), c.eve)

  pub year_of_one : (x y : YearDay) → IsYearDay cal j x → IsYearDay cal j y → x ≡ y
  unfolding day_of days_to
  year_of_one x y p q =
      let years : x.year ≡ y.year = by_cases (dec_lt x.year y.year) (λ l. absurd (not_earlier x y p q l)) (λ u. by_cases (dec_lt y.year x.year) (λ l. absurd (not_earlier y x q p l)) (λ v. omega arith)) in
      let days : x.day ≡ y.day =
      omega (arith, p.place, rw (← years) at q.place, january (cal.leap x.year), c.eve) in
      λ i. record { year = years i; leap = (p.rule ∙ ap cal.leap years ∙ sym q.rule) i; day = days i }
