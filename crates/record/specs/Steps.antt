-- How a record is moved: from what it holds, as far as that goes. That a record worked out afresh comes to its neighbour's is
-- proved. Any record may be moved: a number that is counted with is looked at first, so that no sum leaves 64 bits; the others
-- are passed on.
use Rattle.std.specs.Prelude.{Bool, ◌&&◌, ◌||◌, not, cond, ℕ, ◌+◌, ◌-◌, eqb, leb, ltb}
use Rattle.std.proofs.Math.IntN.{sub_ℕ}
use Rattle.laws.specs.Runs.{elem}
use Rattle.days.specs.Range.{last_day}
use Rattle.days.specs.Weekday.{weekday}
use Rattle.hebrew.specs.Rows.{row}
use Rattle.fasts.specs.Ahead.{fast_ahead}
use Rattle.fasts.specs.Steps.{may_fast}
use Rattle.fasts.specs.declared.Ahead.{Ahead}
use Rattle.rest.specs.Wings.{table_of}
use Rattle.stretch.specs.Answers.{wing_stretch}
use Rattle.stretch.specs.declared.StretchAnswer.{StretchAnswer}
use Rattle.record.specs.Record.{dated_of, joined}
use Rattle.record.specs.declared.DayRecord.{DayRecord}
use Rattle.record.specs.declared.Dated.{Dated}

-- No month has fewer than 29 days: up to the 28th the next day is in the same month, and the year goes on.
abbrev pub same_month_on : DayRecord → Bool
same_month_on r = ltb r.date 29 && ltb 0 r.remaining

unfoldable pub date_on : DayRecord → Dated
date_on r =
    cond (same_month_on r)
    (record { year = r.year; month = r.month; date = r.date + 1; remaining = r.remaining - 1 })
    (dated_of (r.day + 1))

-- From the 2nd to the 30th the day before is in the same month. Codes go to 13, and a year has fewer than 400 days.
abbrev pub same_month_back : DayRecord → Bool
same_month_back r = ltb 1 r.date && (leb r.date 30 && (leb r.month 13 && ltb r.remaining 400))

unfoldable pub date_back : DayRecord → Dated
date_back r =
    cond (same_month_back r)
    (record { year = r.year; month = r.month; date = r.date - 1; remaining = r.remaining + 1 })
    (dated_of (r.day - 1))

-- The record has a stretch, with numbers no larger than those of one in range; and it is not over on day j.
abbrev pub has_stretch : DayRecord → Bool
has_stretch r = eqb r.none 0 && (leb r.first last_day && leb r.length 3)

unfoldable pub lasts : DayRecord → ℕ → Bool
lasts r j = has_stretch r && ltb j (r.first + r.length)

-- It is kept for day j: days left alone are others.
abbrev pub kept : DayRecord → ℕ → StretchAnswer
kept r j = record { refusal = 0; first = r.first; length = r.length; days_left = sub_ℕ r.first j }

-- A day on it is kept until it is over.
unfoldable pub stretch_onward : DayRecord → StretchAnswer
stretch_onward r = let j = r.day + 1 in cond (lasts r j) (kept r j) (wing_stretch r.wing j)

-- Day j, of this date, is a rest day of the wing: a Saturday, or a row of its table.
unfoldable pub rests : ℕ → ℕ → Dated → Bool
rests wing j x = eqb (weekday j) 7 || elem (row x.month x.date) (table_of wing)

-- A day back it is kept if it has begun by then, or if that day is no rest day.
abbrev pub kept_back : DayRecord → Dated → Bool
kept_back r x = let j = r.day - 1 in lasts r j && (leb r.first j || not (rests r.wing j x))

unfoldable pub stretch_backward : DayRecord → Dated → StretchAnswer
stretch_backward r x = let j = r.day - 1 in cond (kept_back r x) (kept r j) (wing_stretch r.wing j)

-- A record with a fast has its month code, which is not 0: zeros are worked out afresh. A day on the fast is kept until it is
-- past, with a day less left.
abbrev pub has_fast : DayRecord → Bool
has_fast r = ltb 0 r.fast_month

abbrev pub fast_kept_on : DayRecord → Bool
fast_kept_on r = has_fast r && ltb 0 r.fast_left

unfoldable pub fast_onward : DayRecord → Ahead
fast_onward r =
    cond (fast_kept_on r)
    (record { month = r.fast_month; left = r.fast_left - 1; none = 0 })
    (fast_ahead (r.day + 1))

-- A day back it is kept, with a day more left, if on that date no fast may be kept. No fast is as far ahead as 400 days.
abbrev pub fast_kept_back : DayRecord → Dated → Bool
fast_kept_back r x = has_fast r && (ltb r.fast_left 400 && not (may_fast x.month x.date))

unfoldable pub fast_backward : DayRecord → Dated → Ahead
fast_backward r x =
    cond (fast_kept_back r x)
    (record { month = r.fast_month; left = r.fast_left + 1; none = 0 })
    (fast_ahead (r.day - 1))

unfoldable pub record_on : DayRecord → DayRecord
record_on r = joined r.wing (r.day + 1) (date_on r) (stretch_onward r) (fast_onward r)

unfoldable pub record_back : DayRecord → DayRecord
record_back r = joined r.wing (r.day - 1) (date_back r) (stretch_backward r (date_back r)) (fast_backward r (date_back r))
