-- What the three calls answer, and the record as they leave it.
use Rattle.std.specs.Prelude.{◌||◌, cond, ℕ, ◌+◌, ◌-◌}
use Rattle.days.specs.Range.{out_of_range}
use Rattle.rest.specs.Wings.{out_of_wings}
use Rattle.record.specs.Record.{afresh}
use Rattle.record.specs.Steps.{record_on, record_back}
use Rattle.record.specs.declared.DayRecord.{DayRecord}
use Rattle.record.specs.declared.Moved.{Moved}

-- The refusal number, or 0, and the record afterwards. A refusal alters nothing.
abbrev pub leaves : ℕ → DayRecord → Moved
leaves n r = record { refusal = n; after = r }

-- Set. Refusal 15: the wing is neither 1 nor 2. 4: the day lies outside the range.
unfoldable pub set_to : DayRecord → ℕ → ℕ → Moved
set_to r wing j = cond (out_of_wings wing) (leaves 15 r) (cond (out_of_range j) (leaves 4 r) (leaves 0 (afresh wing j)))

-- Moved. Refusal 4: the record's day lies outside the range, or the day that it is to be moved to. A move names no wing; the
-- record's own is 1 or 2 if it was set, and any other is refused with 15.
abbrev pub moved_to : DayRecord → ℕ → DayRecord → Moved
moved_to r j moved = cond (out_of_range r.day || out_of_range j) (leaves 4 r) (cond (out_of_wings r.wing) (leaves 15 r) (leaves 0 moved))

unfoldable pub next_of : DayRecord → Moved
next_of r = moved_to r (r.day + 1) (record_on r)

unfoldable pub back_of : DayRecord → Moved
back_of r = moved_to r (r.day - 1) (record_back r)
