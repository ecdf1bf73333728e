-- A record of plain numbers that is as worked out afresh for its day, by the New Years about it.
use mathlib.Core.Path.{◌≡◌, sym, ap, ◌∙◌}
use mathlib.Core.Bool.{cond}
use Prim.Native.Nat.{ℕ, ◌+◌, ◌-◌, ◌≤◌, ◌<◌}
use native.Mathlib.Omega.{arith}
use lib.Dec.{ltb}
use Rattle.days.specs.Range.{last_day}
use Rattle.days.specs.Weekday.{weekday}
use Rattle.molad.specs.Years.{InYears}
use Rattle.newyear.specs.NewYear.{new_year, year_length}
use Rattle.newyear.proofs.YearOf.{year_in_range}
use Rattle.hebrew.specs.Dates.{Date, day_number, date_of}
use Rattle.hebrew.specs.Answers.{hebrew_day}
use Rattle.hebrew.specs.declared.HebrewDay.{HebrewDay}
use Rattle.hebrew.proofs.Dates.{date_back_lem}
use Rattle.hebrew.proofs.RoundTrip.{good_answered, answered_good}
use Rattle.fasts.specs.Ahead.{fast_ahead}
use Rattle.fasts.specs.declared.Ahead.{Ahead}
use Rattle.fasts.proofs.Fixed.{ahead_by, fast_from}
use Rattle.rest.specs.Wings.{IsWing, table_of}
use Rattle.rest.specs.Steps.{rest_at}
use Rattle.stretch.specs.Steps.{first_for, past_for}
use Rattle.stretch.specs.Answers.{no_stretch, stretch_on, wing_stretch}
use Rattle.stretch.specs.declared.StretchAnswer.{StretchAnswer}
use Rattle.stretch.proofs.Fixed.{stretch_from}
use Rattle.record.specs.Record.{dated_of, joined, afresh}
use Rattle.record.specs.Promises.{Afresh}
use Rattle.record.specs.declared.DayRecord.{DayRecord}

-- The length of a year, by its New Year and the next.
pub long : (h : ℕ) {n later : ℕ} → new_year h ≡ n → new_year (h + 1) ≡ later → year_length h ≡ later - n
unfolding year_length
long h e f = rw (e, f)

-- The date of a day, from the day that the date is answered with.
dated : (h code d j : ℕ) → hebrew_day h code d ≡ record { refusal = 0; day = j } → date_of j ≡ record { year = h; month = code; day = d }
dated h code d j q =
    let x : Date = record { year = h; month = code; day = d } in
    let g = answered_good h code d (ap (λ (r : HebrewDay). r.refusal) q) in
    let k : day_number x ≡ j = ap (λ (r : HebrewDay). r.day) (sym (good_answered x g) ∙ q) in rw k at (date_back_lem x g)

-- A record of these numbers is as worked out afresh, where its date is its day's, and its stretch and its fast are these; `later`
-- is the next New Year.
worked :
    (r : DayRecord) (later : ℕ) → new_year (r.year + 1) ≡ later → hebrew_day r.year r.month r.date ≡ record { refusal = 0; day = r.day } →
    (s : StretchAnswer) → wing_stretch r.wing r.day ≡ s → (f : Ahead) → fast_ahead r.day ≡ f →
    afresh r.wing r.day ≡ joined r.wing r.day (record { year = r.year; month = r.month; date = r.date; remaining = later - 1 - r.day }) s f
unfolding afresh dated_of
worked r later e q s t f u = rw (t, u, dated r.year r.month r.date r.day q, e)

-- Year h begins on day n, the next year on day `later`.
module _ (h n later : ℕ) (y : InYears h) (e : new_year h ≡ n) (f : new_year (h + 1) ≡ later) where
  pub of_year :
      (r : DayRecord) → r.year ≡ h → IsWing r.wing → n ≤ r.day → r.day < later →
      hebrew_day r.year r.month r.date ≡ record { refusal = 0; day = r.day } →
      let len = later - n in
      let x = r.day - n in
      let rest = rest_at (table_of r.wing) (weekday n) len in
      let next = rest_at (table_of r.wing) (weekday n + len) len in
      let first = n + first_for rest len x in
      r ≡ joined r.wing r.day (record { year = r.year; month = r.month; date = r.date; remaining = later - 1 - r.day })
      (cond (ltb last_day first) (no_stretch 9) (stretch_on r.day first (n + past_for rest next len x))) (ahead_by h n later r.day) →
      Afresh r
  of_year r z w l u q p =
      let ends : new_year (r.year + 1) ≡ later = rw z f in
      record {
        in_range = year_in_range r.day h (record { low = y.0; high = y.1; from = omega arith; before = omega arith });
        a_wing = w;
        as_afresh =
            p ∙ sym (worked r later ends q _ (stretch_from r.wing h n later w y e f r.day l u) _ (fast_from h n later y e f r.day l u));
      }
