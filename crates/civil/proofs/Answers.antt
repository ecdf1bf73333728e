-- What the public functions promise, shown once for any calendar; and that each contract leaves one answer.
use mathlib.Core.Path.{◌≡◌, refl, sym, ◌∙◌, ap}
use mathlib.Core.Bool.{Bool, true, false, not, false≢true}
use mathlib.Core.Logic.{◌↔◌}
use Prim.Native.Nat.{ℕ, ◌≤◌}
use native.Mathlib.Omega.{arith}
use borrow.Author.Tests.{not-true, not-false}
use lib.IntN.{ℤ}
use Rattle.laws.specs.Promise.{Smallest}
use Rattle.laws.proofs.One.{one_result}
use Rattle.laws.proofs.Promises.{Catches, ranged, asks, answered, smallest}
use Rattle.days.specs.Range.{first_day, last_day}
use Rattle.civil.specs.Signed.{InCivilYears, covered, raised, lowered, JulianLeapYear, GregorianLeapYear}
use Rattle.civil.specs.Calendar.{Calendar, julian, gregorian, month_days, day_of}
use Rattle.civil.specs.Date.{date_of}
use Rattle.civil.specs.Answers.{no_day, civil_day, no_date, civil_date}
use Rattle.civil.specs.Promises.{InCivilMonth, PromisedDay, PromisedDate}
use Rattle.civil.specs.declared.CivilDay.{CivilDay}
use Rattle.civil.specs.declared.CivilDate.{CivilDate}
use Rattle.civil.proofs.Raising.{year_covered, in_years, raised_lowered}
use Rattle.civil.proofs.Divisible.{julian_leap_year, gregorian_leap_year}
use Rattle.civil.proofs.Dates.{Covers, one_date}
use Rattle.civil.proofs.JulianYears.{julian_covers}
use Rattle.civil.proofs.GregorianYears.{gregorian_covers}

-- A year that is not covered is caught.
years_caught : (y : ℤ) → Catches (not (covered y)) (InCivilYears y)
years_caught y =
    record {
      passes = λ e. in_years y (not-false _ e);
      catches = λ e m. false≢true (sym (not-true _ e) ∙ year_covered y m);
    }

-- A month's length by the test of its year, and by what the test tells.
pub month_told : {LeapYear : Type 0} (leap : Bool) (m d : ℕ) → (leap ≡ true) ↔ LeapYear → ((1 ≤ d) × (d ≤ month_days leap m)) ↔ InCivilMonth LeapYear m d
month_told true m d told = (λ p. (p.0, (λ _. p.1, λ n. absurd (n (told.0 refl)))), λ p. (p.0, p.1.0 (told.0 refl)))
month_told false m d told =
    (λ p. (p.0, (λ l. absurd (false≢true (told.1 l)), λ _. p.1)), λ p. (p.0, p.1.1 (λ l. false≢true (told.1 l))))

-- `told` says that the calendar's test of a raised year is the leap rule of the year itself.
module _ (cal : Calendar) (LeapYear : ℤ → Type 0) (told : (y : ℤ) → covered y ≡ true → (cal.leap (raised y) ≡ true) ↔ LeapYear y) where
  pub day_promised : (y : ℤ) (m d : ℕ) → PromisedDay cal LeapYear y m d (civil_day cal y m d)
  unfolding civil_day
  day_promised y m d =
      let leap = cal.leap (raised y) in
      let j = day_of cal (raised y) m d in
      asks (no_day 5) (years_caught y) (omega arith) refl refl (λ years.
      asks (no_day 6) (ranged 1 12 m) (omega arith) refl refl (λ _.
      let of_month = month_told leap m d (told y (year_covered y years)) in
      let caught = ranged 1 (month_days leap m) d in
      asks (no_day 7) (record { passes = λ e. of_month.0 (caught.passes e); catches = λ e p. caught.catches e (of_month.1 p) }) (omega arith) refl refl (λ _.
      asks (no_day 8) (ranged first_day last_day j) (omega arith) refl refl (λ _. answered refl refl))))

  pub date_promised : Covers cal → (j : ℕ) → PromisedDate cal LeapYear j (civil_date cal j)
  unfolding civil_date
  date_promised c j =
      let x = date_of cal j in
      asks no_date (ranged first_day last_day j) (omega arith) refl (refl, (refl, refl)) (λ in_range.
      let one = one_date cal c j in_range.0 in_range.1 in
      let g = one.good in
      let year = raised_lowered x.year g.first_year one.last in
      let month = month_told (cal.leap x.year) x.month x.day (rw year.1 at (told (lowered x.year) year.0)) in
      let counted = ap (λ (s : ℕ). day_of cal s x.month x.day) year.1 ∙ one.counted in
      answered refl (counted, (in_years (lowered x.year) year.0, ((g.first_month, g.last_month), month.0 (g.first_day_is, g.last_day_lem)))))

pub julian_to_day_promised : (y : ℤ) (m d : ℕ) → PromisedDay julian JulianLeapYear y m d (civil_day julian y m d)
julian_to_day_promised = day_promised julian JulianLeapYear julian_leap_year

pub gregorian_to_day_promised : (y : ℤ) (m d : ℕ) → PromisedDay gregorian GregorianLeapYear y m d (civil_day gregorian y m d)
gregorian_to_day_promised = day_promised gregorian GregorianLeapYear gregorian_leap_year

pub day_to_julian_promised : (j : ℕ) → PromisedDate julian JulianLeapYear j (civil_date julian j)
day_to_julian_promised = date_promised julian JulianLeapYear julian_leap_year julian_covers

pub day_to_gregorian_promised : (j : ℕ) → PromisedDate gregorian GregorianLeapYear j (civil_date gregorian j)
day_to_gregorian_promised = date_promised gregorian GregorianLeapYear gregorian_leap_year gregorian_covers

-- Of the refusals of both, the smallest.
pub julian_to_day_smallest : (y : ℤ) (m d : ℕ) → Smallest (julian_to_day_promised y m d)
julian_to_day_smallest y m d = smallest (julian_to_day_promised y m d) (omega arith, (omega arith, (omega arith, (omega arith, tt))))

pub gregorian_to_day_smallest : (y : ℤ) (m d : ℕ) → Smallest (gregorian_to_day_promised y m d)
gregorian_to_day_smallest y m d = smallest (gregorian_to_day_promised y m d) (omega arith, (omega arith, (omega arith, (omega arith, tt))))

-- Any two results that a public contract allows are equal.
pub julian_day_one : (y : ℤ) (m d : ℕ) (r s : CivilDay) → r ≡ civil_day julian y m d → s ≡ civil_day julian y m d → r ≡ s
julian_day_one y m d = one_result (civil_day julian y m d)

pub gregorian_day_one : (y : ℤ) (m d : ℕ) (r s : CivilDay) → r ≡ civil_day gregorian y m d → s ≡ civil_day gregorian y m d → r ≡ s
gregorian_day_one y m d = one_result (civil_day gregorian y m d)

pub julian_date_one : (j : ℕ) (r s : CivilDate) → r ≡ civil_date julian j → s ≡ civil_date julian j → r ≡ s
julian_date_one j = one_result (civil_date julian j)

pub gregorian_date_one : (j : ℕ) (r s : CivilDate) → r ≡ civil_date gregorian j → s ≡ civil_date gregorian j → r ≡ s
gregorian_date_one j = one_result (civil_date gregorian j)
