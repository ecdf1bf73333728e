-- What a caller is told by a record, by one call, and by any list of calls on a new record.
use Rattle.std.specs.Prelude.{◌≡◌, List, [], ◌∷◌, ◌⊎◌, ℕ, ◌+◌, ◌-◌, ◌≤◌, ◌<◌, pos, negsuc, ◌-ℤ◌, ◌≤ℤ◌}
use Rattle.laws.specs.Promise.{◌else◌, Promised}
use Rattle.days.specs.Range.{last_day, InRange}
use Rattle.newyear.specs.NewYear.{new_year}
use Rattle.hebrew.specs.Dates.{Date, GoodHebrewDate, day_number}
use Rattle.fasts.specs.Promises.{FastTold}
use Rattle.fasts.specs.declared.Ahead.{Ahead}
use Rattle.rest.specs.Wings.{IsWing, table_of}
use Rattle.stretch.specs.Stretches.{StretchFor}
use Rattle.record.specs.Record.{new_record, afresh}
use Rattle.record.specs.Answers.{set_to, next_of, back_of}
use Rattle.record.specs.declared.DayRecord.{DayRecord}
use Rattle.record.specs.declared.Moved.{Moved}

abbrev pub date_in : DayRecord → Date
date_in r = record { year = r.year; month = r.month; day = r.date }

abbrev pub fast_in : DayRecord → Ahead
fast_in r = record { month = r.fast_month; left = r.fast_left; none = r.no_fast }

-- The record tells of day j and the wing: its good date; as many days after it as there are before the next New Year; the
-- stretch for it, of one to three days, with days left, -2 to 6; on the last four days of the range zeros, and the flag; and
-- the fast ahead of it.
pub record RecordOf (wing j : ℕ) (r : DayRecord) : Type 0 where
  pub of_day : r.day ≡ j
  pub of_wing_is : r.wing ≡ wing
  pub good_date : GoodHebrewDate (date_in r)
  pub its_date : day_number (date_in r) ≡ j
  pub remains : j + r.remaining + 1 ≡ new_year (r.year + 1)
  pub stretch :
      j ≤ last_day - 4 →
      (r.none ≡ 0) × (StretchFor (table_of wing) j r.first r.length
      × (((1 ≤ r.length) × (r.length ≤ 3))
      × ((r.days_left ≡ pos r.first -ℤ pos j) × ((negsuc 1 ≤ℤ r.days_left) × (r.days_left ≤ℤ pos 6)))))
  pub last_four : last_day - 4 < j → (r.none ≡ 1) × ((r.first ≡ 0) × ((r.length ≡ 0) × (r.days_left ≡ pos 0)))
  pub fast : FastTold j (fast_in r)

-- The record as it would be worked out afresh for its day and wing.
pub record Afresh (r : DayRecord) : Type 0 where
  pub in_range : InRange r.day
  pub a_wing : IsWing r.wing
  pub as_afresh : r ≡ afresh r.wing r.day

-- What `set` promises, whatever record it is lent.
abbrev pub PromisedSet : DayRecord → ℕ → ℕ → Moved → Type 0
PromisedSet r wing j =
    Promised (λ (m : Moved). m.refusal) (IsWing wing else 15 ∷ InRange j else 4 ∷ [])
    (λ m. (m.after ≡ afresh wing j) × RecordOf wing j m.after)
    (λ n m. m.after ≡ r)

-- What a move to day j promises of a record worked out afresh, and of a new one, whose day is outside the range.
abbrev pub PromisedMove : DayRecord → ℕ → Moved → Type 0
PromisedMove r j =
    Promised (λ (m : Moved). m.refusal) ((InRange r.day × InRange j) else 4 ∷ [])
    (λ m. (m.after ≡ afresh r.wing j) × RecordOf r.wing j m.after)
    (λ n m. m.after ≡ r)

abbrev pub PromisedNext : DayRecord → Type 0
PromisedNext r = PromisedMove r (r.day + 1) (next_of r)

abbrev pub PromisedBack : DayRecord → Type 0
PromisedBack r = PromisedMove r (r.day - 1) (back_of r)

-- What holds of a move of any record, also of one that none of these calls made.
abbrev pub PromisedOfAny : DayRecord → ℕ → Moved → Type 0
PromisedOfAny r j =
    Promised (λ (m : Moved). m.refusal) ((InRange r.day × InRange j) else 4 ∷ IsWing r.wing else 15 ∷ [])
    (λ m. (m.after.day ≡ j) × (m.after.wing ≡ r.wing))
    (λ n m. m.after ≡ r)

abbrev pub PromisedNextOfAny : DayRecord → Type 0
PromisedNextOfAny r = PromisedOfAny r (r.day + 1) (next_of r)

abbrev pub PromisedBackOfAny : DayRecord → Type 0
PromisedBackOfAny r = PromisedOfAny r (r.day - 1) (back_of r)

-- The calls, and a record after one of them and after several.
pub data Call : Type 0 where
  set : (wing day : ℕ) → Call
  next : Call
  back : Call

abbrev pub called : DayRecord → Call → Moved
called r (set wing j) = set_to r wing j
called r next = next_of r
called r back = back_of r

abbrev pub after_all : DayRecord → List Call → DayRecord
after_all r [] = r
after_all r (call ∷ calls) = after_all (called r call).after calls

-- After any list of calls on a new record it is either still new or as worked out afresh; so each move promises as above.
abbrev pub NewOrAfresh : DayRecord → Type 0
NewOrAfresh r = (r ≡ new_record) ⊎ Afresh r

pub record AfterAnyCalls (calls : List Call) : Type 0 where
  pub new_or_afresh : NewOrAfresh (after_all new_record calls)
  pub then_next : PromisedNext (after_all new_record calls)
  pub then_back : PromisedBack (after_all new_record calls)
