-- What the code asks of a date before it works out a fast: may one be kept on it, whatever the weekday is. What is believed stands in
-- Fasts; that no fast is kept on another date is proved.
use Rattle.std.specs.Prelude.{Bool, List, [], ◌∷◌, ℕ}
use Rattle.laws.specs.Runs.{elem}
use Rattle.hebrew.specs.Rows.{row}

-- The dates of the table, and those to which a fast may be moved.
abbrev pub fast_dates : List ℕ
fast_dates = row 1 3 ∷ row 1 4 ∷ row 4 10 ∷ row 7 11 ∷ row 7 13 ∷ row 11 17 ∷ row 11 18 ∷ row 12 9 ∷ row 12 10 ∷ []

unfoldable pub may_fast : ℕ → ℕ → Bool
may_fast code d = elem (row code d) fast_dates
