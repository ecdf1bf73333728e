-- The runs of one year, for any table that passes the check: by day number, and by the days counted from New Year on.
use mathlib.Core.Path.{◌≡◌, refl, ◌∙◌}
use mathlib.Core.Bool.{Bool, true, false, not, cond}
use mathlib.Core.List.{List}
use mathlib.Core.Logic.{by_cases}
use Prim.Native.Nat.{ℕ, zero, suc, ◌+◌, ◌-◌, ◌≤◌, ◌<◌}
use native.Mathlib.Omega.{arith}
use native.Mathlib.Decide.{ℕ_discrete, dec_lt}
use borrow.Author.Tests.{not-true, not-false}
use Rattle.laws.specs.Search.{seek_not, run_start}
use Rattle.laws.proofs.Tests.{clash}
use Rattle.laws.proofs.Found.{Seek, seek_tells, seek_is, seek_none, seek_not_is}
use Rattle.days.specs.Range.{last_day}
use Rattle.days.specs.Weekday.{weekday}
use Rattle.molad.specs.Years.{last_year}
use Rattle.newyear.specs.NewYear.{new_year, year_length}
use Rattle.newyear.proofs.Lengths.{rises, length_in}
use Rattle.newyear.proofs.YearOf.{year_in_range, last}
use Rattle.rest.specs.Table.{rest_day}
use Rattle.rest.specs.Steps.{rest_at}
use Rattle.rest.specs.Check.{passes}
use Rattle.rest.proofs.RestOfYear.{day_of_year, rest_placed, rest_in_range, tishri_alike, new_year_rests, last_day_works, eve_works, no_four}
use Rattle.stretch.specs.Stretches.{days_from, next_rest}
use Rattle.stretch.specs.Steps.{next_at}

-- A choice, counted on from a.
shifted : (b : Bool) (a s k : ℕ) → cond b (a + s) (suc (a + k)) ≡ a + cond b s (suc k)
shifted true a s k = refl
shifted false a s k = omega arith

-- A year that is covered, and a table that passes the check.
pub record TableYear : Type 0 where
  pub table : List ℕ
  pub year : ℕ
  pub ok : passes table ≡ true
  pub low : 1 ≤ year
  pub high : year ≤ last_year

-- Its rest days, by day number and by how many days after New Year they come; and the next year's, as this one's weekday,
-- counted on, and length tell them.
abbrev pub rest : TableYear → ℕ → Bool
rest y = rest_day y.table

abbrev pub start : TableYear → ℕ
start y = new_year y.year

abbrev pub len : TableYear → ℕ
len y = year_length y.year

abbrev pub here : TableYear → ℕ → Bool
here y = rest_at y.table (weekday (start y)) (len y)

abbrev pub carried : TableYear → ℕ → Bool
carried y = rest_at y.table (weekday (start y) + len y) (len y)

module _ (y : TableYear) where
  pub next_year : start y + len y ≡ new_year (y.year + 1)
  unfolding year_length
  next_year = omega (arith, rises y.year y.low (omega arith))

  -- New Year lies in the range, and so does the year.
  bounds : (1 ≤ start y) × (start y + len y ≤ last_day + 1)
  bounds =
      let k = length_in y.year y.low (omega arith) in
      let first = year_in_range _ y.year (day_of_year y.year y.low y.high 0 (omega arith)) in
      let end = year_in_range _ y.year (day_of_year y.year y.low y.high (len y - 1) (omega arith)) in (omega arith, omega arith)

  pub placed : (k : ℕ) → k < len y → rest y (start y + k) ≡ here y k
  placed = rest_placed y.table y.year y.low y.high

  placed_at : (d : ℕ) → start y ≤ d → d < start y + len y → rest y d ≡ here y (d - start y)
  placed_at d a b = let e : start y + (d - start y) ≡ d = omega arith in rw e at (placed (d - start y) (omega arith))

  -- Where a run begins.
  pub start_same : (k : ℕ) → k ≤ len y → run_start (rest y) (start y + k) ≡ start y + run_start (here y) k
  unfolding run_start
  start_same zero p =
      let z : start y + 0 ≡ suc (start y - 1) = omega (arith, bounds) in
      rw (z, eve_works y.table y.ok y.year y.low (omega arith)) (omega (arith, bounds))
  start_same (suc k) p =
      let z : start y + suc k ≡ suc (start y + k) = omega arith in
      rw (z, placed k (omega arith), start_same k (omega arith)) (shifted (here y k) (start y) (run_start (here y) k) k)

  -- Where a run ends: before the year does, whose last day is no rest day.
  module _ (k : ℕ) (p : k < len y) where
    abbrev end : ℕ
    end = seek_not (here y) (len y - k) k

    told_end : Seek (λ d. not (here y d)) (len y - k) k end
    unfolding seek_not
    told_end = seek_tells (λ d. not (here y d)) (len y - k) k

    pub ends_early : end < len y
    ends_early =
        by_cases (dec_lt end (len y))
        (λ q. q)
        (λ q. absurd (clash (here y (len y - 1)) (not-false _ (told_end.none (len y - 1) (omega arith) (omega arith))) (last_day_works y.table y.ok y.year y.low y.high)))

    ends_there : here y end ≡ false
    ends_there = not-true _ (told_end.pass (omega (arith, ends_early)))

    pub end_same : seek_not (rest y) (days_from (start y + k)) (start y + k) ≡ start y + end
    end_same =
        let e = ends_early in
        seek_not_is (rest y) (days_from (start y + k)) (start y + k) (start y + end)
        (λ d a b. placed_at d (omega arith) (omega arith) ∙ not-false _ (told_end.none (d - start y) (omega arith) (omega arith)))
        (placed end e ∙ ends_there)
        (omega (arith, told_end.low))
        (omega (arith, bounds))

  -- The next rest day, or the next New Year.
  module _ (x : ℕ) (d : x < len y) where
    abbrev pub next : ℕ
    next = next_at (here y) (len y) x

    pub told : Seek (here y) (len y - x) x next
    unfolding next_at
    told = seek_tells (here y) (len y - x) x

    none_before : (k : ℕ) → start y + x ≤ k → k < start y + next → rest y k ≡ false
    none_before k a b = placed_at k (omega arith) (omega (arith, told.high)) ∙ told.none (k - start y) (omega arith) (omega arith)

    pub rests_there : next < len y → rest y (start y + next) ≡ true
    rests_there p = placed next p ∙ told.pass (omega arith)

    pub next_is : next_rest y.table (start y + x) ≡ start y + next
    unfolding next_rest
    next_is =
        let e = bounds in
        let t = told in
        by_cases (dec_lt next (len y))
        (λ p. seek_is (rest y) (days_from (start y + x)) (start y + x) (start y + next) none_before (rests_there p) (omega arith) (omega arith))
        (λ p.
        let q : start y + next ≡ new_year (y.year + 1) = omega (arith, next_year) in
        by_cases (ℕ_discrete y.year 9999)
        (λ r.
        let f : new_year (y.year + 1) ≡ last_day + 1 = rw r last in
        let z : start y + x + days_from (start y + x) ≡ start y + next = omega arith in
        seek_none (rest y) (days_from (start y + x)) (start y + x) (λ k a b. none_before k a (omega arith)) ∙ z)
        (λ r.
        let g = new_year_rests y.table y.ok (y.year + 1) (omega arith) (omega arith) in
        let i = rest_in_range y.table (new_year (y.year + 1)) g in
        seek_is (rest y) (days_from (start y + x)) (start y + x) (start y + next) none_before (rw q g) (omega arith) (omega arith)))

-- The run that the next New Year begins has at most three days, all of Tishri; so this year's length, and its weekday
-- counted on, tell it.
module _ (y : TableYear) (more : y.year ≤ 9998) where
  abbrev later : TableYear
  later = record { table = y.table; year = y.year + 1; ok = y.ok; low = omega arith; high = omega arith }

  begun : 0 < len later
  begun = let k = length_in later.year later.low (omega arith) in omega arith

  abbrev days : ℕ
  days = end later 0 begun

  rests : (d : ℕ) → d < days → here later d ≡ true
  rests d p = not-false _ ((told_end later 0 begun).none d (omega arith) p)

  three : days ≤ 3
  three =
      let early = ends_early later 0 begun in
      by_cases (dec_lt 3 days)
      (λ p.
      let on : (d : ℕ) → d ≤ 3 → rest y (start later + d) ≡ true = λ d q. placed later d (omega arith) ∙ rests d (omega arith) in
      let z : start later + 0 ≡ start later = omega arith in
      absurd (no_four y.table y.ok (start later) (rw z at (on 0 (omega arith))) (on 1 (omega arith)) (on 2 (omega arith)) (on 3 (omega arith))))
      (λ p. omega arith)

  same : (d : ℕ) → d < 30 → carried y d ≡ here later d
  same d p = tishri_alike y.table (weekday (start y) + len y) (weekday (start later)) (len y) (len later) d p (omega (arith, next_year y))

  end_next : seek_not (carried y) (len y) 0 ≡ days
  end_next =
      let k = length_in y.year y.low (omega arith) in
      seek_not_is (carried y) (len y) 0 days
      (λ d a b. same d (omega (arith, three)) ∙ rests d b)
      (same days (omega (arith, three)) ∙ ends_there later 0 begun)
      (omega arith)
      (omega (arith, three))

  -- So its first day is that New Year, and this is the day after its last.
  as_it_is : start later + 0 ≡ start later
  as_it_is = omega arith

  pub start_later : run_start (rest y) (new_year (y.year + 1)) ≡ new_year (y.year + 1)
  unfolding run_start
  start_later = rw as_it_is at (start_same later 0 (omega arith))

  pub end_later : seek_not (rest y) (days_from (new_year (y.year + 1))) (new_year (y.year + 1)) ≡ new_year (y.year + 1) + seek_not (carried y) (len y) 0
  end_later = rw end_next (rw as_it_is at (end_same later 0 begun))
