-- The rest days of a year, for any table that passes the check: by the kinds of years, and stated on day numbers.
use mathlib.Core.Path.{◌≡◌, refl, sym, ◌∙◌}
use mathlib.Core.Bool.{Bool, true, false, ◌&&◌, not, or-true, beq}
use mathlib.Core.List.{List}
use mathlib.Core.Logic.{by_cases}
use Prim.Native.Nat.{ℕ, ◌+◌, ◌-◌, ◌%◌, ◌≤◌, ◌<◌}
use native.Mathlib.Omega.{arith}
use native.Mathlib.Decide.{ℕ_discrete, dec_lt}
use borrow.Author.Tests.{lt-ltb, not-true}
use lib.Dec.{eqb}
use Rattle.laws.specs.Runs.{every, each_of, elem}
use Rattle.laws.proofs.Tests.{at, and_left, and_right, beq_true, clash, within}
use Rattle.laws.proofs.Promises.{ranged, let_pass}
use Rattle.days.specs.Range.{first_day, last_day, InRange}
use Rattle.days.specs.Weekday.{weekday}
use Rattle.molad.specs.Years.{last_year, last_new_year}
use Rattle.newyear.specs.NewYear.{new_year, year_length, year_of, InYear}
use Rattle.newyear.proofs.Lengths.{rises, length_in, year_passes}
use Rattle.newyear.proofs.YearOf.{held, year_is, year_in_range, first}
use Rattle.hebrew.specs.Months.{month_length, days_before}
use Rattle.hebrew.specs.Dates.{date_of, month_of}
use Rattle.hebrew.specs.Rows.{row, row_good}
use Rattle.hebrew.specs.Steps.{year_date}
use Rattle.hebrew.proofs.Placed.{month_is}
use Rattle.rest.specs.Table.{is_rest, rest_day}
use Rattle.rest.specs.Steps.{rest_at}
use Rattle.rest.specs.Check.{rows_rise, four, passes_in, passes}

-- A day is a Saturday by its own number, or by that of a New Year before it.
saturdays : ℕ → Bool
saturdays r = beq (eqb (r + 1) 7) (eqb ((r + 1) % 7) 0)

saturdays_all : every 0 7 saturdays ≡ true
unfolding every saturdays
saturdays_all = refl

saturday : (j x : ℕ) → eqb (weekday (j + x)) 7 ≡ eqb ((weekday j + x) % 7) 0
unfolding saturdays
saturday j x =
    let r = (j + x + 1) % 7 in
    let e : (weekday j + x) % 7 ≡ (r + 1) % 7 = omega arith in
    rw e (beq_true _ _ (at 0 7 saturdays saturdays_all r (omega arith) (omega arith)))

-- A day of a year lies in that year.
pub day_of_year : (h : ℕ) → 1 ≤ h → h ≤ last_year → (x : ℕ) → x < year_length h → InYear (new_year h + x) h
unfolding year_length
day_of_year h l u x d = let r = rises h l (omega arith) in record { low = l; high = u; from = omega arith; before = omega arith }

module _ (table : List ℕ) where
  -- Rest days by day number are rest days by their date in the year.
  pub rest_placed : (h : ℕ) → 1 ≤ h → h ≤ last_year → (x : ℕ) → x < year_length h → rest_day table (new_year h + x) ≡ rest_at table (weekday (new_year h)) (year_length h) x
  unfolding rest_day is_rest rest_at date_of year_date
  rest_placed h l u x d =
      let z : new_year h + x - new_year h ≡ x = omega arith in
      rw (
        let_pass (ranged first_day last_day (new_year h + x)) (year_in_range _ h (day_of_year h l u x d)),
        saturday (new_year h) x,
        year_is (new_year h + x) h (day_of_year h l u x d),
        z,
      )

  -- A rest day lies in the range.
  pub rest_in_range : (j : ℕ) → rest_day table j ≡ true → InRange j
  unfolding rest_day
  rest_in_range j e = within first_day last_day j (not-true _ (and_left _ _ e))

  -- In the first thirty days, which are Tishri's, the year's length does not count.
  tishri : (len x : ℕ) → x < 30 → month_of len x ≡ 1
  unfolding days_before month_length
  tishri len x u = month_is len x 1 (record { low = omega arith; high = omega arith; from = omega arith; before = omega arith })

  pub tishri_alike : (w v len other x : ℕ) → x < 30 → w % 7 ≡ v % 7 → rest_at table w len x ≡ rest_at table v other x
  unfolding rest_at year_date days_before month_length
  tishri_alike w v len other x u e =
      let s : (w + x) % 7 ≡ (v + x) % 7 = omega arith in
      rw (tishri len x u, tishri other x u, s)

module _ (table : List ℕ) (ok : passes table ≡ true) where
  pub rows_rise_lem : rows_rise table ≡ true
  unfolding passes
  rows_rise_lem = and_left _ _ ok

  -- What the check says of the kind of year h.
  module _ (h : ℕ) (l : 1 ≤ h) (u : h ≤ last_year) where
    abbrev w : ℕ
    w = weekday (new_year h)

    abbrev len : ℕ
    len = year_length h

    abbrev rest : ℕ → Bool
    rest = rest_at table w len

    passed : passes_in table len rest ≡ true
    unfolding passes
    passed = year_passes h l (omega arith) (λ w len. passes_in table len (rest_at table w len)) (and_right (rows_rise table) _ ok)

    pub rows_good : each_of table (row_good len) ≡ true
    unfolding passes_in
    rows_good = and_left _ _ (and_left _ _ (and_left _ _ passed))

    -- 1 Tishri is a rest day.
    pub new_year_rests : rest_day table (new_year h) ≡ true
    unfolding passes_in rest_at year_date days_before month_length
    new_year_rests =
        let k = length_in h l (omega arith) in
        let z : new_year h + 0 ≡ new_year h = omega arith in
        let t = and_right (each_of table (row_good len)) _ (and_left _ _ (and_left _ _ passed)) in
        let e : rest 0 ≡ true = rw (tishri table len 0 (omega arith), t, or-true) in rw z at (rest_placed table h l u 0 (omega arith) ∙ e)

    pub last_day_works : rest (len - 1) ≡ false
    unfolding passes_in
    last_day_works = not-true _ (and_right (each_of table (row_good len) && elem (row 1 1) table) _ (and_left _ _ passed))

    elul_works : rest_day table (new_year (h + 1) - 1) ≡ false
    unfolding year_length
    elul_works =
        let k = length_in h l (omega arith) in
        let e : new_year h + (len - 1) ≡ new_year (h + 1) - 1 = omega (arith, rises h l (omega arith)) in
        rw (← e) (rest_placed table h l u (len - 1) (omega arith) ∙ last_day_works)

    four_in_year : (x : ℕ) → x < len - 3 → four rest x ≡ false
    unfolding passes_in
    four_in_year x d =
        let t = and_right (each_of table (row_good len) && elem (row 1 1) table && not (rest (len - 1))) _ passed in
        not-true _ (at 0 (len - 3) (λ x. not (four rest x)) t x (omega arith) (omega arith))

    rests_at : (x j : ℕ) → new_year h + x ≡ j → x < len → rest_day table j ≡ true → rest x ≡ true
    rests_at x j e d r = sym (rest_placed table h l u x d) ∙ rw e r

  -- The day before a New Year is no rest day: before the first the range has not begun, before another it is 29 Elul.
  pub eve_works : (h : ℕ) → 1 ≤ h → h ≤ last_new_year → rest_day table (new_year h - 1) ≡ false
  unfolding rest_day
  eve_works h l u =
      by_cases (ℕ_discrete h 1)
      (λ q. let o : new_year h - 1 < first_day = rw (q, first) (omega arith) in rw (lt-ltb _ _ o))
      (λ q.
      let s : h - 1 + 1 ≡ h = omega arith in
      rw s at (elul_works (h - 1) (omega arith) (omega arith)))

  not_eve : (h j : ℕ) → 1 ≤ h → h ≤ last_new_year → new_year h ≡ j + 1 → rest_day table j ≡ true → ⊥
  not_eve h j l u e r =
      let s : new_year h - 1 ≡ j = omega arith in
      clash (rest_day table j) r (rw s at (eve_works h l u))

  -- No four neighbouring days are all rest days.
  pub no_four : (j : ℕ) → rest_day table j ≡ true → rest_day table (j + 1) ≡ true → rest_day table (j + 2) ≡ true → rest_day table (j + 3) ≡ true → ⊥
  unfolding year_length
  no_four j a b c d =
      let r = rest_in_range table j a in
      let i = held j r.0 r.1 in
      let h = year_of j in
      let l = i.low in
      let u = i.high in
      let x = j - new_year h in
      by_cases (dec_lt (x + 3) (year_length h))
      (λ p.
      let t = four_in_year h l u x (omega arith) in
      clash false
      (rw (rests_at h l u x j (omega arith) (omega arith) a, rests_at h l u (x + 1) (j + 1) (omega arith) (omega arith) b, rests_at h l u (x + 2) (j + 2) (omega arith) (omega arith) c, rests_at h l u (x + 3) (j + 3) (omega arith) p d) at (sym t))
      refl)
      (λ p.
      by_cases (ℕ_discrete (new_year (h + 1)) (j + 1))
      (λ q. not_eve (h + 1) j (omega arith) (omega arith) q a)
      (λ q.
      by_cases (ℕ_discrete (new_year (h + 1)) (j + 2))
      (λ s. not_eve (h + 1) (j + 1) (omega arith) (omega arith) (omega arith) b)
      (λ s. not_eve (h + 1) (j + 2) (omega arith) (omega arith) (omega arith) c)))
