-- The clock on the molad notice. The molad's hours count from 18:00, when its Hebrew day begins, and the clock's from
-- midnight. A molad at the hours 0 to 5 falls on the civil evening before, so document 02 shows the hour + 18 and the
-- day number before for those, the hour − 6 and the same day for the others. Minutes, from document 01, are the parts
-- divided by 18, rounded down; beside them stand the parts left over.
use Rattle.std.specs.Prelude.{Bool, cond, ℕ, ◌+◌, ◌-◌, ◌/◌, ◌%◌, leb}

abbrev pub evening_before : ℕ → Bool
evening_before hour = leb hour 5

abbrev pub shown_day : ℕ → ℕ → ℕ
shown_day j hour = cond (evening_before hour) (j - 1) j

abbrev pub clock_hour : ℕ → ℕ
clock_hour hour = cond (evening_before hour) (hour + 18) (hour - 6)

abbrev pub minutes : ℕ → ℕ
minutes parts = parts / 18

abbrev pub parts_over : ℕ → ℕ
parts_over parts = parts % 18
