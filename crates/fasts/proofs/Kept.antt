-- Where the fasts of a year are kept: in their months, on dates that every year has, never on a Saturday, and rising.
use mathlib.Core.Path.{◌≡◌, refl, sym, subst, ◌∙◌}
use mathlib.Core.Bool.{true, not, false≢true}
use mathlib.Core.List.{[], ◌∷◌}
use mathlib.Core.Logic.{by_cases}
use Prim.Native.Nat.{ℕ, ◌+◌, ◌-◌, ◌/◌, ◌%◌, ◌<◌}
use native.Mathlib.Omega.{arith}
use native.Mathlib.Decide.{ℕ_discrete}
use borrow.Author.Tests.{eq-eqb, ne_eqb, not-true}
use lib.Dec.{eqb}
use Rattle.laws.specs.Runs.{each_of, elem}
use Rattle.laws.proofs.Tests.{of}
use Rattle.days.specs.Weekday.{weekday}
use Rattle.molad.specs.Years.{InYears}
use Rattle.newyear.specs.NewYear.{year_length, InYear}
use Rattle.newyear.specs.Kinds.{lengths, IsLength, every_kind}
use Rattle.newyear.proofs.Lengths.{length_in, year_passes}
use Rattle.hebrew.specs.Months.{month_length, days_before}
use Rattle.hebrew.specs.Dates.{Date, GoodHebrewDate, day_number, date_of}
use Rattle.hebrew.specs.Rows.{row, row_date, row_good}
use Rattle.hebrew.specs.Weekdays.{weekday_in}
use Rattle.hebrew.proofs.Dates.{date_back_lem, in_its_year, dates_rise_by_month}
use Rattle.hebrew.proofs.Rows.{good_row, row_date_lem}
use Rattle.hebrew.proofs.Weekdays.{weekday_by_kind}
use Rattle.fasts.specs.Fasts.{fast_table, kept_on, fast_day}
use Rattle.fasts.specs.Steps.{fast_dates, may_fast}

-- What holds of the five rows holds of each row of the table.
pub of_five : (P : ℕ → Type 0) → P (row 1 3) → P (row 4 10) → P (row 7 13) → P (row 11 17) → P (row 12 9) → (r : ℕ) → elem r fast_table ≡ true → P r
of_five P tishri tevet adar tammuz av r e =
    by_cases (ℕ_discrete r (row 1 3)) (λ q. subst P (sym q) tishri) (λ n1.
    by_cases (ℕ_discrete r (row 4 10)) (λ q. subst P (sym q) tevet) (λ n2.
    by_cases (ℕ_discrete r (row 7 13)) (λ q. subst P (sym q) adar) (λ n3.
    by_cases (ℕ_discrete r (row 11 17)) (λ q. subst P (sym q) tammuz) (λ n4.
    by_cases (ℕ_discrete r (row 12 9)) (λ q. subst P (sym q) av) (λ n5.
    absurd (false≢true (rw (ne_eqb r _ n1, ne_eqb r _ n2, ne_eqb r _ n3, ne_eqb r _ n4, ne_eqb r _ n5) at e)))))))

-- Every date on which a fast may be kept is a good one in every year.
dates_all : each_of lengths (λ len. each_of fast_dates (row_good len)) ≡ true
unfolding each_of row_good month_length
dates_all = refl

may_good : (h r : ℕ) → InYears h → elem r fast_dates ≡ true → GoodHebrewDate (row_date h r)
may_good h r y e =
    let k = length_in h y.0 (omega arith) in
    row_date_lem h r y (good_row _ r (of fast_dates (row_good (year_length h)) (of lengths (λ len. each_of fast_dates (row_good len)) dates_all (year_length h) k.among) r e))

table_all : each_of lengths (λ len. each_of fast_table (row_good len)) ≡ true
unfolding each_of row_good month_length
table_all = refl

pub table_good : (len : ℕ) → IsLength len → each_of fast_table (row_good len) ≡ true
table_good len k = of lengths (λ len. each_of fast_table (row_good len)) table_all len k.among

-- 10 Tevet is no Saturday, in a year of any of the fourteen kinds.
tevet_all : every_kind (λ w len. not (eqb (weekday_in w len 4 10) 7)) ≡ true
unfolding every_kind each_of weekday_in days_before month_length
tevet_all = refl

pub tevet_no_saturday : (h : ℕ) → InYears h → ¬ (weekday (day_number (record { year = h; month = 4; day = 10 })) ≡ 7)
tevet_no_saturday h y e =
    let x : Date = record { year = h; month = 4; day = 10 } in
    let t = not-true _ (year_passes h y.0 (omega arith) (λ w len. not (eqb (weekday_in w len 4 10) 7)) tevet_all) in
    false≢true (sym t ∙ eq-eqb _ 7 (sym (weekday_by_kind x (may_good h (row 4 10) y refl)) ∙ e))

-- The three ways of keeping a fast that falls on day j.
pub kept_own : (code j : ℕ) → ¬ (weekday j ≡ 7) → kept_on code j ≡ j
unfolding kept_on
kept_own code j n = rw (ne_eqb (weekday j) 7 n)

pub kept_sunday : (code j : ℕ) → elem code (1 ∷ 11 ∷ 12 ∷ []) ≡ true → weekday j ≡ 7 → kept_on code j ≡ j + 1
unfolding kept_on
kept_sunday code j m e = rw (eq-eqb (weekday j) 7 e, m)

pub kept_thursday : (j : ℕ) → weekday j ≡ 7 → kept_on 7 j ≡ j - 2
unfolding kept_on
kept_thursday j e = rw (eq-eqb (weekday j) 7 e)

-- The date on which the fast of a row is kept in year h.
pub record KeptDate (h r : ℕ) : Type 0 where
  pub date : ℕ
  pub may : elem date fast_dates ≡ true
  pub same_month : date / 100 ≡ r / 100
  pub its_day : day_number (row_date h date) ≡ fast_day h r
  pub no_saturday : ¬ (weekday (fast_day h r) ≡ 7)

module _ (h : ℕ) (y : InYears h) where
  abbrev on : ℕ → ℕ
  on r = day_number (row_date h r)

  -- On its own date.
  stays : (r : ℕ) → elem r fast_dates ≡ true → ¬ (weekday (on r) ≡ 7) → KeptDate h r
  unfolding fast_day
  stays r m n =
      let e = kept_own (r / 100) (on r) n in
      record { date = r; may = m; same_month = refl; its_day = sym e; no_saturday = rw e n }

  -- On the Sunday, the next date of the month.
  to_sunday :
      (r : ℕ) → elem r fast_dates ≡ true → elem (r + 1) fast_dates ≡ true → (r + 1) / 100 ≡ r / 100 → elem (r / 100) (1 ∷ 11 ∷ 12 ∷ []) ≡ true →
      on (r + 1) ≡ on r + 1 → KeptDate h r
  unfolding fast_day
  to_sunday r m next same code e =
      by_cases (ℕ_discrete (weekday (on r)) 7)
      (λ q.
      let k = kept_sunday (r / 100) (on r) code q in
      record { date = r + 1; may = next; same_month = same; its_day = e ∙ sym k; no_saturday = rw k (λ s. omega arith) })
      (stays r m)

  -- On the Thursday, two dates before.
  to_thursday : KeptDate h (row 7 13)
  unfolding fast_day day_number
  to_thursday =
      by_cases (ℕ_discrete (weekday (on (row 7 13))) 7)
      (λ q.
      let k = kept_thursday (on (row 7 13)) q in
      let e : on (row 7 11) ≡ on (row 7 13) - 2 = omega arith in
      record { date = row 7 11; may = refl; same_month = refl; its_day = e ∙ sym k; no_saturday = rw k (λ s. omega arith) })
      (stays (row 7 13) refl)

  pub kept_date : (r : ℕ) → elem r fast_table ≡ true → KeptDate h r
  unfolding day_number
  kept_date =
      of_five (KeptDate h)
      (to_sunday (row 1 3) refl refl refl refl (omega arith))
      (stays (row 4 10) refl (tevet_no_saturday h y))
      to_thursday
      (to_sunday (row 11 17) refl refl refl refl (omega arith))
      (to_sunday (row 12 9) refl refl refl refl (omega arith))

  module _ (r : ℕ) (e : elem r fast_table ≡ true) where
    abbrev k : KeptDate h r
    k = kept_date r e

    good : GoodHebrewDate (row_date h k.date)
    good = may_good h k.date y k.may

    pub fast_in_year : InYear (fast_day h r) h
    fast_in_year = rw k.its_day at (in_its_year (row_date h k.date) good)

    pub fast_dated : date_of (fast_day h r) ≡ row_date h k.date
    fast_dated = rw k.its_day at (date_back_lem (row_date h k.date) good)

    -- Its month is the row's, and its date is one on which a fast may be kept.
    pub fast_month : (date_of (fast_day h r)).month ≡ r / 100
    fast_month = rw fast_dated k.same_month

    pub fast_may : may_fast (date_of (fast_day h r)).month (date_of (fast_day h r)).day ≡ true
    unfolding may_fast
    fast_may = let n = k.date in let e : row (n / 100) (n % 100) ≡ n = omega arith in rw (fast_dated, e) k.may

  -- Fasts of later months come later.
  pub fasts_rise : (r s : ℕ) → elem r fast_table ≡ true → elem s fast_table ≡ true → r / 100 < s / 100 → fast_day h r < fast_day h s
  fasts_rise r s e f p =
      let a = kept_date r e in
      let b = kept_date s f in
      rw (a.its_day, b.its_day) at
      (dates_rise_by_month h _ _ _ _ (good r e) (good s f) (rw (a.same_month, b.same_month) p))
