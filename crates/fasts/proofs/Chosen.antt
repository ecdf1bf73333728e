-- How the fast ahead is chosen: what was found in the day's year stands if it is a fast, or if no year follows; else it is the next
-- year's first.
use mathlib.Core.Path.{◌≡◌, refl, sym, ap}
use mathlib.Core.Bool.{Bool, true, false, ◌||◌, cond, false≢true}
use mathlib.Core.List.{List, [], ◌∷◌}
use Prim.Native.Nat.{ℕ, ◌+◌, ◌/◌, ◌≤◌, ◌<◌}
use native.Mathlib.Omega.{arith}
use borrow.Author.Tests.{leb-true, leb-false, lt-ltb, le-ltb}
use lib.Dec.{eqb, leb, ltb}
use Rattle.laws.proofs.Tests.{or_left, or_right}
use Rattle.days.specs.Range.{InRange}
use Rattle.molad.specs.Years.{last_year}
use Rattle.newyear.specs.NewYear.{new_year, year_of}
use Rattle.newyear.proofs.YearOf.{held}
use Rattle.hebrew.specs.Months.{month_length, days_before}
use Rattle.hebrew.specs.Dates.{day_number}
use Rattle.hebrew.specs.Rows.{row}
use Rattle.fasts.specs.Fasts.{fast_table, kept_on, fast_day}
use Rattle.fasts.specs.Ahead.{no_fast, ahead_of, ahead_in, fast_ahead}
use Rattle.fasts.specs.declared.Ahead.{Ahead}
use Rattle.fasts.proofs.Kept.{fast_in_year}

none_found : (day : ℕ → ℕ) (j : ℕ) (table : List ℕ) → eqb (ahead_in day j table).none 0 ≡ false → ahead_in day j table ≡ no_fast
unfolding ahead_in
none_found day j [] e = refl
none_found day j (r ∷ table) e = go (leb j (day r)) (none_found day j table) e
  where
    go :
        (b : Bool) → (eqb (ahead_in day j table).none 0 ≡ false → ahead_in day j table ≡ no_fast) →
        eqb (cond b (ahead_of j (r / 100) (day r)) (ahead_in day j table)).none 0 ≡ false → cond b (ahead_of j (r / 100) (day r)) (ahead_in day j table) ≡ no_fast
    go true rest e = absurd (false≢true (sym e))
    go false rest e = rest e

module _ (j : ℕ) where
  abbrev own : Ahead
  own = ahead_in (fast_day (year_of j)) j fast_table

  pub own_stands : eqb own.none 0 || leb last_year (year_of j) ≡ true → own ≡ fast_ahead j
  unfolding fast_ahead
  own_stands e = go (eqb own.none 0) refl e
    where
      go :
          (b : Bool) → eqb own.none 0 ≡ b → b || leb last_year (year_of j) ≡ true →
          own ≡ cond b own (cond (ltb (year_of j) last_year) (ahead_of j 1 (fast_day (year_of j + 1) (row 1 3))) no_fast)
      go true q e = refl
      go false q e = let l = leb-true last_year (year_of j) e in rw (le-ltb (year_of j) last_year l) (none_found (fast_day (year_of j)) j fast_table q)

  pub next_stands :
      InRange j → eqb own.none 0 || leb last_year (year_of j) ≡ false →
      (fast_ahead j ≡ ahead_of j 1 (fast_day (year_of j + 1) (row 1 3))) × (j ≤ fast_day (year_of j + 1) (row 1 3))
  unfolding fast_ahead
  next_stands i e =
      let y = held j i.0 i.1 in
      let l : year_of j < last_year = leb-false last_year (year_of j) (or_right (eqb own.none 0) (leb last_year (year_of j)) e) in (
        rw (or_left (eqb own.none 0) (leb last_year (year_of j)) e, lt-ltb (year_of j) last_year l),
        omega (arith, y.before, (fast_in_year (year_of j + 1) (omega arith, omega arith) (row 1 3) refl).from),
      )

-- Tishri's falls two days after New Year.
pub tishri_falls : (h : ℕ) → fast_day h (row 1 3) ≡ kept_on 1 (new_year h + 2)
unfolding fast_day day_number days_before month_length
tishri_falls h = let s : new_year h + 0 + 2 ≡ new_year h + 2 = omega arith in ap (kept_on 1) s
