-- How the code works: on the days of one year, counted from 0 at New Year, of which `rest` tells the rest days. What is
-- believed stands in Stretches; that these steps come to the same is proved.
use Rattle.std.specs.Prelude.{Bool, cond, ℕ, ◌+◌, ◌-◌, ltb}
use Rattle.laws.specs.Search.{seek, seek_not, run_start}

-- The first rest day of the year from day x on; the year's length where there is none.
unfoldable pub next_at : (ℕ → Bool) → ℕ → ℕ → ℕ
next_at rest len x = seek rest (len - x) x

-- The run for day x, its first day and the day after its last: that of the next rest day in the year or, where there is
-- none, the run that the next New Year begins. Of that year's days `next` tells; they are counted on past the length.
unfoldable pub first_for : (ℕ → Bool) → ℕ → ℕ → ℕ
first_for rest len x = let n = next_at rest len x in cond (ltb n len) (run_start rest n) len

unfoldable pub past_for : (ℕ → Bool) → (ℕ → Bool) → ℕ → ℕ → ℕ
past_for rest next len x = let n = next_at rest len x in cond (ltb n len) (seek_not rest (len - n) n) (len + seek_not next len 0)
