-- Each day has exactly one date, in any calendar whose first date is a good one: counting on from date to date and
-- counting a date's days are inverse to each other.
use mathlib.Core.Path.{◌≡◌, refl, ap, sym}
use mathlib.Core.Logic.{by_cases}
use Prim.Native.Nat.{ℕ, zero, suc, ◌+◌, ◌-◌, ◌≤◌, ◌<◌}
use native.Mathlib.Omega.{arith}
use native.Mathlib.Decide.{ℕ_discrete, dec_lt}
use borrow.Author.Tests.{lt-ltb, le-ltb}
use Rattle.days.specs.Range.{first_day, last_day}
use Rattle.civil.specs.Calendar.{Calendar, month_days, days_before, year_days, years_days, first_raised, last_raised, days_to, day_of}
use Rattle.civil.specs.Date.{Date, tomorrow, days_on, date_of}
use Rattle.civil.specs.Good.{day, GoodCivilDate, OneDate}
use Rattle.civil.proofs.MonthStarts.{january, next_month, month_long, year_whole, months_rise, one_month}
use Rattle.civil.proofs.Years.{next_year, years_rise}

abbrev pub to : Calendar → Date → ℕ
to cal x = days_to cal x.year x.month x.day

-- What the theorems ask of a calendar: its first date is good, and the day range ends within 10,000 years.
pub record Covers (cal : Calendar) : Type 0 where
  pub first : GoodCivilDate cal (record { year = first_raised; month = cal.month; day = cal.day })
  pub eve : days_to cal first_raised cal.month cal.day ≤ first_day
  pub last : last_day + days_to cal first_raised cal.month cal.day ≤ first_day + years_days cal.leap 10000

record Next (cal : Calendar) (x y : Date) : Type 0 where
  good : GoodCivilDate cal y
  more : to cal y ≡ to cal x + 1

-- The next day's date is good, and is one day on.
next : (cal : Calendar) (x : Date) → GoodCivilDate cal x → Next cal x (tomorrow cal.leap x)
unfolding tomorrow days_to
next cal x g =
    let leap = cal.leap x.year in
    let n = month_days leap x.month in
    by_cases (dec_lt x.day n)
    (λ p. rw (lt-ltb _ _ p) (record { good = omega arith; more = omega arith }))
    (λ p. rw (le-ltb x.day n (omega arith))
    (by_cases (dec_lt x.month 12)
    (λ q. rw (lt-ltb _ _ q)
    (record {
      good = omega (arith, month_long leap (x.month + 1) (omega arith) (omega arith));
      more = omega (arith, next_month leap x.month);
    }))
    (λ q.
    let e : x.month ≡ 12 = omega arith in
    rw (le-ltb x.month 12 (omega arith))
    (record {
      good = omega (arith, month_long (cal.leap (x.year + 1)) 1 (omega arith) (omega arith));
      more =
          omega (
            arith,
            next_year cal.leap x.year (omega arith),
            january (cal.leap (x.year + 1)),
            year_whole leap,
            next_month leap 12,
            ap (days_before leap) e,
            ap (month_days leap) e,
          );
    }))))

module _ (cal : Calendar) (c : Covers cal) where
  -- n days after the first day's date.
  on : (n : ℕ) → GoodCivilDate cal (days_on cal n) × (to cal (days_on cal n) ≡ days_to cal first_raised cal.month cal.day + n)
  unfolding days_on
  on zero = (c.first, omega arith)
  on (suc n) =
      let y = next cal (days_on cal n) (on n).0 in (y.good, omega (arith, (on n).1))

  -- The date of a day is a good date.
  pub date_good : (j : ℕ) → GoodCivilDate cal (date_of cal j)
  unfolding date_of
  date_good j = (on (j - first_day)).0

  -- The day of a day's date is that day.
  pub day_of_date : (j : ℕ) → first_day ≤ j → day cal (date_of cal j) ≡ j
  unfolding date_of day_of
  day_of_date j l = omega (arith, (on (j - first_day)).1, c.eve)

-- A good date's place in its year.
in_year : (cal : Calendar) (x : Date) → GoodCivilDate cal x → (1 ≤ days_before (cal.leap x.year) x.month + x.day)
    × (days_before (cal.leap x.year) x.month + x.day ≤ year_days (cal.leap x.year))
in_year cal x g =
    let leap = cal.leap x.year in
    omega (arith, months_rise leap x.month 13 (omega arith), year_whole leap)

-- An earlier year's date is an earlier date.
year_before : (cal : Calendar) (x y : Date) → GoodCivilDate cal x → GoodCivilDate cal y → x.year < y.year → to cal x < to cal y
unfolding days_to
year_before cal x y g h p =
    let e : first_raised + (x.year - first_raised) ≡ x.year = omega arith in
    let r = rw e at (years_rise cal.leap (x.year - first_raised) (y.year - first_raised) (omega arith)) in
    omega (arith, in_year cal x g, in_year cal y h)

-- Dates with as many days to them are the same date.
same : (cal : Calendar) (x y : Date) → GoodCivilDate cal x → GoodCivilDate cal y → to cal x ≡ to cal y → x ≡ y
unfolding days_to
same cal x y g h e =
    let year : x.year ≡ y.year =
    by_cases (dec_lt x.year y.year)
    (λ p. omega (arith, year_before cal x y g h p))
    (λ p. by_cases (dec_lt y.year x.year) (λ q. omega (arith, year_before cal y x h g q)) (λ q. omega arith)) in
    let leap = cal.leap x.year in
    let before = ap (λ (s : ℕ). days_before (cal.leap s) y.month) year in
    let length = ap (λ (s : ℕ). month_days (cal.leap s) y.month) year in
    let years = ap (λ (s : ℕ). years_days cal.leap (s - first_raised)) year in
    let place = days_before leap x.month + x.day - 1 in
    let md = one_month leap place x.month x.day y.month y.day (omega arith) (omega arith) in
    λ i. record { year = year i; month = md.0 i; day = md.1 i }

-- A good date of a day is that day's date.
pub only_date : (cal : Calendar) → Covers cal → (j : ℕ) → first_day ≤ j → (x : Date) → GoodCivilDate cal x → day cal x ≡ j → x ≡ date_of cal j
unfolding day_of
only_date cal c j l x g e =
    same cal x (date_of cal j) g (date_good cal c j) (omega (arith, day_of_date cal c j l, c.eve))

-- What lies past the year 6239 lies past the range.
last_year_lem : (cal : Calendar) → Covers cal → (j : ℕ) → first_day ≤ j → j ≤ last_day → (date_of cal j).year ≤ last_raised
unfolding day_of days_to
last_year_lem cal c j l u =
    let x = date_of cal j in
    by_cases (dec_lt last_raised x.year)
    (λ p. absurd
    (by_cases (ℕ_discrete (x.year - first_raised) 10000)
    (λ q. omega (arith, day_of_date cal c j l, in_year cal x (date_good cal c j), ap (years_days cal.leap) q, c.eve, c.last))
    (λ q.
    omega (
      arith,
      day_of_date cal c j l,
      in_year cal x (date_good cal c j),
      years_rise cal.leap 10000 (x.year - first_raised) (omega arith),
      c.eve,
      c.last,
    ))))
    (λ p. omega arith)

pub one_date : (cal : Calendar) → Covers cal → (j : ℕ) → first_day ≤ j → j ≤ last_day → OneDate cal j
one_date cal c j l u =
    record {
      good = date_good cal c j;
      last = last_year_lem cal c j l u;
      counted = day_of_date cal c j l;
      only = only_date cal c j l;
    }

-- Each good date from the first day on comes back from its own day.
pub comes_back : (cal : Calendar) → Covers cal → (x : Date) → GoodCivilDate cal x → first_day ≤ day cal x → date_of cal (day cal x) ≡ x
comes_back cal c x g l = sym (only_date cal c (day cal x) l x g refl)
