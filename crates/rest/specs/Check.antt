-- The check that a table of rest days must pass. Its rows rise; and in a year of each of the fourteen kinds each row is a
-- date of the year, 1 Tishri is a row, the last day is no rest day, and no four neighbouring days are all rest days. What
-- the rest days of such a table have in common is shown for any table that passes.
use Rattle.std.specs.Prelude.{Bool, true, ◌&&◌, not, List, [], ◌∷◌, ℕ, ◌+◌, ◌-◌, ltb}
use Rattle.laws.specs.Runs.{every, each_of, elem}
use Rattle.newyear.specs.Kinds.{every_kind}
use Rattle.hebrew.specs.Rows.{row, row_good}
use Rattle.rest.specs.Steps.{rest_at}

-- Each row comes after the one before it, by month code and day.
unfoldable pub rows_rise : List ℕ → Bool
rows_rise [] = true
rows_rise (r ∷ []) = true
rows_rise (r ∷ s ∷ table) = ltb r s && rows_rise (s ∷ table)

-- Four neighbouring days, from x on, are all rest days.
abbrev pub four : (ℕ → Bool) → ℕ → Bool
four rest x = rest x && rest (x + 1) && rest (x + 2) && rest (x + 3)

unfoldable pub passes_in : List ℕ → ℕ → (ℕ → Bool) → Bool
passes_in table len rest =
    each_of table (row_good len) && elem (row 1 1) table && not (rest (len - 1)) && every 0 (len - 3) (λ x. not (four rest x))

unfoldable pub passes : List ℕ → Bool
passes table = rows_rise table && every_kind (λ w len. passes_in table len (rest_at table w len))
