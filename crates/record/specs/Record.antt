-- The record of a day, by document 02 §4 and §12: new, and worked out afresh.
use Rattle.std.specs.Prelude.{cond, ℕ, ◌+◌, ◌-◌, eqb, pos}
use Rattle.newyear.specs.NewYear.{new_year}
use Rattle.hebrew.specs.Dates.{date_of}
use Rattle.fasts.specs.Ahead.{fast_ahead}
use Rattle.fasts.specs.declared.Ahead.{Ahead}
use Rattle.stretch.specs.Answers.{wing_stretch}
use Rattle.stretch.specs.declared.StretchAnswer.{StretchAnswer}
use Rattle.record.specs.declared.DayRecord.{DayRecord}
use Rattle.record.specs.declared.Dated.{Dated}

-- A new record is all zeros.
abbrev pub new_record : DayRecord
new_record =
    record {
      day = 0;
      wing = 0;
      year = 0;
      month = 0;
      date = 0;
      first = 0;
      length = 0;
      days_left = pos 0;
      none = 0;
      remaining = 0;
      fast_month = 0;
      fast_left = 0;
      no_fast = 0;
    }

-- The Hebrew date of day j, and the days that remain: those after the day and before the next New Year.
unfoldable pub dated_of : ℕ → Dated
dated_of j =
    let x = date_of j in
    record { year = x.year; month = x.month; date = x.day; remaining = new_year (x.year + 1) - 1 - j }

-- A date, a stretch and a fast in one record. An answer that is no stretch has zeros, and the flag is 1.
abbrev pub joined : ℕ → ℕ → Dated → StretchAnswer → Ahead → DayRecord
joined wing j x s f =
    record {
      day = j;
      wing = wing;
      year = x.year;
      month = x.month;
      date = x.date;
      first = s.first;
      length = s.length;
      days_left = s.days_left;
      none = cond (eqb s.refusal 0) 0 1;
      remaining = x.remaining;
      fast_month = f.month;
      fast_left = f.left;
      no_fast = f.none;
    }

-- What is worked out afresh for day j and a wing.
unfoldable pub afresh : ℕ → ℕ → DayRecord
afresh wing j = joined wing j (dated_of j) (wing_stretch wing j) (fast_ahead j)
