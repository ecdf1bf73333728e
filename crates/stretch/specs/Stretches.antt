-- Stretches. A stretch is a longest run of rest days next to each other, within the range: `Run (rest_day table)`.
use Rattle.std.specs.Prelude.{List, ℕ, ◌+◌, ◌-◌, ◌≤◌, ◌<◌}
use Rattle.laws.specs.Search.{Run, seek, seek_not, run_start}
use Rattle.days.specs.Range.{last_day}
use Rattle.rest.specs.Table.{rest_day}

-- Asked for a day j, the library gives the earliest stretch whose last day is that day or later.
pub record StretchFor (table : List ℕ) (j first days : ℕ) : Type 0 where
  pub a_stretch : Run (rest_day table) first days
  pub not_over : j < first + days
  pub earliest : (f c : ℕ) → Run (rest_day table) f c → j < f + c → first ≤ f

-- It is found by a search; that what is found is the stretch for the day is proved.

-- The days of the range from day j on.
abbrev pub days_from : ℕ → ℕ
days_from j = last_day + 1 - j

-- The first rest day on or after day j; the day after the range where there is none.
unfoldable pub next_rest : List ℕ → ℕ → ℕ
next_rest table j = seek (rest_day table) (days_from j) j

-- The first day of the stretch that it lies in, and the day after that stretch's last.
unfoldable pub stretch_first : List ℕ → ℕ → ℕ
stretch_first table j = run_start (rest_day table) (next_rest table j)

unfoldable pub stretch_past : List ℕ → ℕ → ℕ
stretch_past table j = seek_not (rest_day table) (days_from (next_rest table j)) (next_rest table j)
