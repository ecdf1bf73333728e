-- There and back by the public answers.
use mathlib.Core.Path.{◌≡◌, sym, ◌∙◌, ap}
use Prim.Native.Nat.{ℕ}
use Rattle.laws.proofs.Promises.{ranged, let_pass}
use Rattle.days.specs.Range.{first_day, last_day, InRange}
use Rattle.hebrew.specs.Dates.{Date, GoodHebrewDate, day_number, date_of}
use Rattle.hebrew.specs.Answers.{hebrew_day, hebrew_date, dated}
use Rattle.hebrew.specs.declared.HebrewDay.{HebrewDay}
use Rattle.hebrew.proofs.Dates.{date_good, date_day, date_back_lem, day_in_range}
use Rattle.hebrew.proofs.Answers.{hebrew_to_day_promised}

-- A good date is answered with its day.
pub good_answered : (x : Date) → GoodHebrewDate x → hebrew_day x.year x.month x.day ≡ record { refusal = 0; day = day_number x }
good_answered x g =
    let p = hebrew_to_day_promised x.year x.month x.day in
    λ i. record {
      refusal = p.done.1 (g.of_years, (g.of_year, (g.of_month, tt))) i;
      day = p.values (g.of_years, (g.of_year, (g.of_month, tt))) i;
    }

-- And only a good date is.
pub answered_good : (h code d : ℕ) → (hebrew_day h code d).refusal ≡ 0 → GoodHebrewDate (record { year = h; month = code; day = d })
answered_good h code d e =
    let met = (hebrew_to_day_promised h code d).done.0 e in
    record { of_years = met.0; of_year = met.1.0; of_month = met.1.1.0 }

-- The date that is answered for a day, asked for, gives the day.
pub there_and_back : (j : ℕ) → InRange j → let x = hebrew_date j in hebrew_day x.year x.month x.day ≡ record { refusal = 0; day = j }
unfolding hebrew_date
there_and_back j r =
    let g = good_answered (date_of j) (date_good j r.0 r.1) in
    rw (let_pass (ranged first_day last_day j) r) (rw (date_day j r.0 r.1) at g)

-- A date that is answered with a day is the date answered for it.
pub back_and_there : (h code d j : ℕ) → hebrew_day h code d ≡ record { refusal = 0; day = j } → hebrew_date j ≡ dated j (record { year = h; month = code; day = d })
unfolding hebrew_date
back_and_there h code d j e =
    let x : Date = record { year = h; month = code; day = d } in
    let g = answered_good h code d (ap (λ (r : HebrewDay). r.refusal) e) in
    let n : day_number x ≡ j = ap (λ (r : HebrewDay). r.day) (sym (good_answered x g) ∙ e) in
    let i = rw n at (day_in_range x g) in
    rw (let_pass (ranged first_day last_day j) i, rw n at (date_back_lem x g))
