-- The list of a year's rest days, for any table that passes the check.
use mathlib.Core.Path.{◌≡◌, refl, sym, ◌∙◌, ap}
use mathlib.Core.Bool.{true, or-true, false≢true}
use mathlib.Core.List.{List, [], ◌∷◌}
use mathlib.Core.Logic.{by_cases}
use Prim.Native.Nat.{ℕ, ◌/◌, ◌%◌, ◌≤◌, ◌<◌}
use native.Mathlib.Omega.{arith}
use native.Mathlib.Decide.{ℕ_discrete, dec_lt}
use borrow.Author.Tests.{eq-eqb, ne_eqb, ltb-true}
use lib.Dec.{eqb, ltb}
use Rattle.laws.specs.Runs.{each_of, elem}
use Rattle.laws.proofs.Tests.{and_left, and_right, each_at}
use Rattle.laws.proofs.Promises.{ranged, let_pass}
use Rattle.days.specs.Range.{first_day, last_day}
use Rattle.molad.specs.Years.{last_year}
use Rattle.newyear.specs.NewYear.{year_length, InYear}
use Rattle.newyear.proofs.Lengths.{length_in}
use Rattle.newyear.proofs.YearOf.{year_is, year_in_range}
use Rattle.hebrew.specs.Dates.{day_number, date_of}
use Rattle.hebrew.specs.Rows.{row, row_date, row_day, row_good}
use Rattle.hebrew.proofs.Placed.{month_short}
use Rattle.hebrew.proofs.Rows.{GoodRow, good_row, row_date_lem}
use Rattle.hebrew.proofs.Dates.{date_good, date_day, date_back_lem, in_its_year, dates_rise_by_month, dates_rise_by_day}
use Rattle.lists.specs.Lists.{days_of, DaysRise}
use Rattle.lists.proofs.Lists.{days_at_lem, days_length}
use Rattle.rest.specs.Table.{in_table, is_rest, rest_day, rest_days}
use Rattle.rest.specs.Check.{rows_rise, passes}
use Rattle.rest.specs.Promises.{RestDaysOf}
use Rattle.rest.proofs.RestOfYear.{rows_rise_lem, rows_good}

-- The date of a day is in the year that the day lies in.
dated_in : (j h : ℕ) → InYear j h → (date_of j).year ≡ h
unfolding date_of
dated_in j h i = year_is j h i

module _ (h : ℕ) (l : 1 ≤ h) (u : h ≤ last_year) where
  abbrev len : ℕ
  len = year_length h

  -- A day of the year has the row's day number exactly if it has its date.
  same_row : (j : ℕ) → InYear j h → (r : ℕ) → GoodRow len r → eqb j (day_number (row_date h r)) ≡ eqb (row (date_of j).month (date_of j).day) r
  same_row j i r g =
      let o = year_in_range j h i in
      let x = date_of j in
      let good = date_good j o.0 o.1 in
      let y = dated_in j h i in
      let short = month_short (year_length x.year) x.month (length_in x.year good.of_years.0 (omega (arith, good.of_years.1))) good.of_year.0.0 good.of_year.0.1 in
      by_cases (ℕ_discrete j (day_number (row_date h r)))
      (λ q.
      let b : date_of j ≡ row_date h r = rw q (date_back_lem (row_date h r) (row_date_lem h r (l, u) g)) in
      let e : row (date_of j).month (date_of j).day ≡ r = rw b (omega arith) in
      rw (eq-eqb j _ q, eq-eqb _ r e))
      (λ q.
      let n : row x.month x.day ≡ r → ⊥ =
      λ e.
      let m : x.month ≡ r / 100 = omega (arith, good.of_month) in
      let d : x.day ≡ r % 100 = omega (arith, good.of_month) in
      let s : x ≡ row_date h r = λ k. record { year = y k; month = m k; day = d k } in
      q (sym (date_day j o.0 o.1) ∙ ap day_number s) in
      rw (ne_eqb j _ q, ne_eqb _ r n))

  -- So it is in the list exactly if its date is in the table.
  listed : (table : List ℕ) → each_of table (row_good len) ≡ true → (j : ℕ) → InYear j h → elem j (rest_days table h) ≡ in_table table (date_of j)
  unfolding days_of each_of
  listed [] good j i = refl
  listed (r ∷ table) good j i =
      rw (same_row j i r (good_row len r (and_left _ _ good)), listed table (and_right (row_good len r) _ good) j i)

  -- A day of the list is a day of the year.
  of_the_year : (table : List ℕ) → each_of table (row_good len) ≡ true → (j : ℕ) → elem j (rest_days table h) ≡ true → InYear j h
  unfolding days_of each_of
  of_the_year [] good j e = absurd (false≢true e)
  of_the_year (r ∷ table) good j e =
      by_cases (ℕ_discrete j (day_number (row_date h r)))
      (λ q. rw q (in_its_year (row_date h r) (row_date_lem h r (l, u) (good_row len r (and_left _ _ good)))))
      (λ q. of_the_year table (and_right (row_good len r) _ good) j (rw (ne_eqb j _ q) at e))

  -- The days of rows that rise, rise.
  days_rise : (table : List ℕ) → rows_rise table ≡ true → each_of table (row_good len) ≡ true → DaysRise (rest_days table h)
  unfolding days_of each_of rows_rise
  days_rise [] up good = tt
  days_rise (r ∷ []) up good = tt
  days_rise (r ∷ s ∷ table) up good =
      let p = ltb-true r s (and_left _ _ up) in
      let later = and_right (row_good len r) _ good in
      let g = row_date_lem h r (l, u) (good_row len r (and_left _ _ good)) in
      let k = row_date_lem h s (l, u) (good_row len s (and_left _ _ later)) in
      let next : day_number (row_date h r) < day_number (row_date h s) =
      by_cases (dec_lt (r / 100) (s / 100))
      (λ q. dates_rise_by_month h _ _ _ _ g k q)
      (λ q.
      let m : r / 100 ≡ s / 100 = omega arith in
      rw (← m) (dates_rise_by_day h (r / 100) (r % 100) (s % 100) g (omega arith))) in
      (next, days_rise (s ∷ table) (and_right (ltb r s) _ up) later)

  pub rest_days_of : (table : List ℕ) → passes table ≡ true → RestDaysOf table h (rest_days table h)
  unfolding rest_day is_rest
  rest_days_of table ok =
      let good = rows_good table ok h l u in
      record {
        as_many = days_length (row_day h) table;
        rising = days_rise table (rows_rise_lem table ok) good;
        in_order = λ i p. rw (days_at_lem (row_day h) table i p) (date_back_lem _ (row_date_lem h _ (l, u) (good_row len _ (each_at table (row_good len) good i p))));
        rests =
            λ j e.
            let i = of_the_year table good j e in
            (i, rw (let_pass (ranged first_day last_day j) (year_in_range j h i), sym (listed table good j i) ∙ e, or-true));
        dated = listed table good;
        no_other = λ j i. rw (let_pass (ranged first_day last_day j) (year_in_range j h i), listed table good j i);
      }
