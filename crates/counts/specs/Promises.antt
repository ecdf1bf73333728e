-- The most stretches of a hundred years.
use Rattle.std.specs.Prelude.{◌≡◌, cond, ℕ, ◌+◌, ◌*◌, ◌≤◌, eqb, length}
use Rattle.laws.specs.Joined.{total}
use Rattle.molad.specs.Years.{InYears}
use Rattle.rest.specs.Wings.{table_of}
use Rattle.stretches.specs.Stretches.{stretch_rows}
use Rattle.counts.specs.Counts.{count_in}

-- The stretches of the n years from year h on.
abbrev pub count_from : ℕ → ℕ → ℕ → ℕ
count_from wing h n = total (λ k. count_in wing (h + k)) n

abbrev pub most_count : ℕ → ℕ
most_count wing = cond (eqb wing 1) 5639 5547

-- The hundred years from this one on have so many.
abbrev pub most_from : ℕ → ℕ
most_from wing = cond (eqb wing 1) 458 163

pub record Counted (wing : ℕ) : Type 0 where
  -- A stretch takes two entries of a year's list.
  pub listed : (h : ℕ) → InYears h → length (stretch_rows (table_of wing) h) ≡ 2 * count_in wing h
  pub most : (h n : ℕ) → 1 ≤ h → n ≤ 100 → h + n ≤ 10000 → count_from wing h n ≤ most_count wing
  pub reached : count_from wing (most_from wing) 100 ≡ most_count wing
