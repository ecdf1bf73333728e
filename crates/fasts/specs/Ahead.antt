-- The fast that a day has ahead: the next one, on the day or later.
use Rattle.std.specs.Prelude.{◌≡◌, true, cond, List, [], ◌∷◌, ℕ, ◌+◌, ◌-◌, ◌/◌, eqb, leb, ltb}
use Rattle.laws.specs.Runs.{elem}
use Rattle.molad.specs.Years.{last_year, InYears}
use Rattle.newyear.specs.NewYear.{year_of}
use Rattle.hebrew.specs.Rows.{row}
use Rattle.fasts.specs.Fasts.{fast_table, fast_day}
use Rattle.fasts.specs.declared.Ahead.{Ahead}

-- Day n is a fast, the one of this month code, in one of the years covered.
pub record FastOn (code n : ℕ) : Type 0 where
  pub year : ℕ
  pub of_years : InYears year
  pub fast : ℕ
  pub in_table : elem fast fast_table ≡ true
  pub of_month : fast / 100 ≡ code
  pub kept : fast_day year fast ≡ n

-- No fast is left: zeros, and the flag.
abbrev pub no_fast : Ahead
no_fast = record { month = 0; left = 0; none = 1 }

-- Day n is the fast of this month code, as day j has it ahead.
abbrev pub ahead_of : ℕ → ℕ → ℕ → Ahead
ahead_of j code n = record { month = code; left = n - j; none = 0 }

-- The first of the table's fasts that is not before day j; `day` tells on which day the fast of a row is kept.
unfoldable pub ahead_in : (ℕ → ℕ) → ℕ → List ℕ → Ahead
ahead_in day j [] = no_fast
ahead_in day j (r ∷ table) = cond (leb j (day r)) (ahead_of j (r / 100) (day r)) (ahead_in day j table)

-- The fast ahead of day j is found by going through the fasts of the day's year, and then to the next year's first, which is
-- Tishri's; none is left after the last year's. That what is found is the next fast is proved.
unfoldable pub fast_ahead : ℕ → Ahead
fast_ahead j =
    let h = year_of j in
    let own = ahead_in (fast_day h) j fast_table in
    cond (eqb own.none 0) own (cond (ltb h last_year) (ahead_of j 1 (fast_day (h + 1) (row 1 3))) no_fast)
