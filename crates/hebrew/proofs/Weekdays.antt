-- A year's kind alone fixes the weekday of every date in it.
use mathlib.Core.Path.{◌≡◌, refl}
use Prim.Native.Nat.{ℕ}
use native.Mathlib.Omega.{arith}
use Rattle.laws.proofs.Promises.{ranged, let_pass}
use Rattle.days.specs.Range.{first_day, last_day}
use Rattle.days.specs.Weekday.{weekday, weekday_answer}
use Rattle.newyear.specs.NewYear.{new_year, year_length}
use Rattle.newyear.specs.Promises.{OneKind}
use Rattle.newyear.proofs.Lengths.{length_leap}
use Rattle.newyear.proofs.Fourteen.{Alike, alike}
use Rattle.hebrew.specs.Dates.{Date, GoodHebrewDate, day_number}
use Rattle.hebrew.specs.Weekdays.{weekday_in}
use Rattle.hebrew.specs.Answers.{hebrew_day}
use Rattle.hebrew.proofs.Dates.{day_in_range}
use Rattle.hebrew.proofs.RoundTrip.{good_answered, answered_good}

pub weekday_by_kind :
    (x : Date) → GoodHebrewDate x →
    weekday (day_number x) ≡ weekday_in (weekday (new_year x.year)) (year_length x.year) x.month x.day
unfolding weekday_in day_number
weekday_by_kind x g = omega (arith, g.of_month)

-- What is answered for the day of a good date.
told : (x : Date) → GoodHebrewDate x → weekday_answer (day_number x) ≡ record { refusal = 0; weekday = weekday_in (weekday (new_year x.year)) (year_length x.year) x.month x.day }
unfolding weekday_answer
told x g = rw (let_pass (ranged first_day last_day (day_number x)) (day_in_range x g), weekday_by_kind x g)

-- A date that is good in one of two years alike is good in the other.
also_good :
    (g h code d : ℕ) → Alike g h → GoodHebrewDate (record { year = g; month = code; day = d }) →
    GoodHebrewDate (record { year = h; month = code; day = d })
also_good g h code d a p =
    let leap-same = rw (a.same_length, length_leap h a.second.0 (omega (arith, a.second))) at (length_leap g a.first.0 (omega (arith, a.first))) in
    record { of_years = a.second; of_year = rw leap-same p.of_year; of_month = rw (← a.same_length) p.of_month }

-- For two years of one kind and any month and day, good in one: it is good in the other, and falls on the same weekday.
pub same_weekdays :
    (g h : ℕ) → OneKind g h → (code d : ℕ) → (hebrew_day g code d).refusal ≡ 0 →
    ((hebrew_day h code d).refusal ≡ 0)
    × (((weekday_answer (hebrew_day h code d).day).refusal ≡ 0)
    × ((weekday_answer (hebrew_day h code d).day).weekday ≡ (weekday_answer (hebrew_day g code d).day).weekday))
same_weekdays g h o code d e =
    let a = alike g h o in
    let x : Date = record { year = g; month = code; day = d } in
    let y : Date = record { year = h; month = code; day = d } in
    let p = answered_good g code d e in
    let q = also_good g h code d a p in
    rw (good_answered x p, good_answered y q, told x p, told y q) (refl, (refl, rw (a.same_weekday, a.same_length)))
