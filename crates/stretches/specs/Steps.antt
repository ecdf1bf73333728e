-- How the code works: on the days of one year, counted from 0 at New Year, of which `rest` tells the rest days. What is
-- believed stands in Stretches; that these steps come to the same is proved.
use Rattle.std.specs.Prelude.{Bool, ◌&&◌, not, cond, List, [], ◌∷◌, ◌++◌, ℕ, zero, suc, ◌+◌, ◌-◌, ltb}
use Rattle.laws.specs.Search.{run_start}

-- How many rest days come just before day x.
unfoldable pub run_before : (ℕ → Bool) → ℕ → ℕ
run_before rest x = x - run_start rest x

-- Day number and length of each run that has ended by day n of the year that begins on day j: a run is listed on the
-- first day that is no rest day after it.
unfoldable pub rows_at : (ℕ → Bool) → ℕ → ℕ → List ℕ
rows_at rest j zero = []
rows_at rest j (suc n) = rows_at rest j n ++ cond (not (rest n) && ltb 0 (run_before rest n)) ((j + n - run_before rest n) ∷ run_before rest n ∷ []) []
