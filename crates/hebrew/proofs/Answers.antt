-- What `month_length`, `hebrew_to_day` and `day_to_hebrew` promise; and that each contract leaves one answer, and each
-- step one result.
use mathlib.Core.Path.{◌≡◌, refl}
use mathlib.Core.Bool.{Bool}
use mathlib.Core.List.{[], ◌∷◌}
use Prim.Native.Nat.{ℕ, ◌+◌, ◌-◌, ◌≤◌}
use native.Mathlib.Omega.{arith}
use Rattle.laws.specs.Promise.{◌else◌, Promised, Smallest}
use Rattle.laws.proofs.One.{one_result}
use Rattle.laws.proofs.Promises.{ranged, asks, answered, smallest}
use Rattle.days.specs.Range.{first_day, last_day, InRange}
use Rattle.molad.specs.Years.{last_year, InYears, leap}
use Rattle.molad.specs.Molad.{IsMonth, no_month}
use Rattle.molad.proofs.Answers.{months_caught}
use Rattle.newyear.specs.NewYear.{new_year, year_length}
use Rattle.hebrew.specs.Months.{month_length, days_before}
use Rattle.hebrew.specs.Dates.{Date, GoodHebrewDate, day_number}
use Rattle.hebrew.specs.Steps.{year_date, tomorrow}
use Rattle.hebrew.specs.Answers.{no_day, no_date, month_answer, hebrew_day, hebrew_date}
use Rattle.hebrew.specs.declared.MonthAnswer.{MonthAnswer}
use Rattle.hebrew.specs.declared.HebrewDay.{HebrewDay}
use Rattle.hebrew.specs.declared.HebrewDate.{HebrewDate}
use Rattle.hebrew.specs.declared.YearDate.{YearDate}
use Rattle.hebrew.proofs.Dates.{date_good, date_day}

pub month_length_promised :
    (h code : ℕ) →
    Promised (λ (r : MonthAnswer). r.refusal) (InYears h else 1 ∷ IsMonth (leap h) code else 2 ∷ [])
    (λ r. r.days ≡ month_length (year_length h) code) (λ n r. r.days ≡ 0) (month_answer h code)
unfolding month_answer
month_length_promised h code =
    asks (record { refusal = 1; days = 0 }) (ranged 1 last_year h) (omega arith) refl refl (λ _.
    asks (record { refusal = 2; days = 0 }) (months_caught (leap h) code) (omega arith) refl refl (λ _. answered refl refl))

-- A date is answered with a day exactly if it is good, and with its own.
pub hebrew_to_day_promised :
    (h code d : ℕ) →
    Promised (λ (r : HebrewDay). r.refusal)
    (InYears h else 1 ∷ IsMonth (leap h) code else 2 ∷ ((1 ≤ d) × (d ≤ month_length (year_length h) code)) else 3 ∷ [])
    (λ r. r.day ≡ day_number (record { year = h; month = code; day = d })) (λ n r. r.day ≡ 0) (hebrew_day h code d)
unfolding hebrew_day
hebrew_to_day_promised h code d =
    asks (no_day 1) (ranged 1 last_year h) (omega arith) refl refl (λ _.
    asks (no_day 2) (months_caught (leap h) code) (omega arith) refl refl (λ _.
    asks (no_day 3) (ranged 1 (month_length (year_length h) code) d) (omega arith) refl refl (λ _. answered refl refl)))

-- Of the refusals of both, the smallest.
pub month_length_smallest : (h code : ℕ) → Smallest (month_length_promised h code)
month_length_smallest h code = smallest (month_length_promised h code) (omega arith, (omega arith, tt))

pub hebrew_to_day_smallest : (h code d : ℕ) → Smallest (hebrew_to_day_promised h code d)
hebrew_to_day_smallest h code d = smallest (hebrew_to_day_promised h code d) (omega arith, (omega arith, (omega arith, tt)))

-- A day is answered with its good date, and with its year's New Year and length and the day of the year, from 1.
pub day_to_hebrew_promised :
    (j : ℕ) →
    Promised (λ (r : HebrewDate). r.refusal) (InRange j else 4 ∷ [])
    (λ r.
    let x : Date = record { year = r.year; month = r.month; day = r.day } in
    (GoodHebrewDate x × (day_number x ≡ j))
    × ((r.new_year ≡ new_year r.year) × ((r.length ≡ year_length r.year) × (r.day_of_year ≡ j - new_year r.year + 1))))
    (λ n r.
    (r.year ≡ 0)
    × ((r.month ≡ 0) × ((r.day ≡ 0) × ((r.new_year ≡ 0) × ((r.length ≡ 0) × (r.day_of_year ≡ 0))))))
    (hebrew_date j)
unfolding hebrew_date
day_to_hebrew_promised j =
    asks (no_date 4) (ranged first_day last_day j) (omega arith) refl (refl, (refl, (refl, (refl, (refl, refl))))) (λ i.
    answered refl ((date_good j i.0 i.1, date_day j i.0 i.1), (refl, (refl, refl))))

pub month_length_one : (h code : ℕ) (r s : MonthAnswer) → r ≡ month_answer h code → s ≡ month_answer h code → r ≡ s
month_length_one h code = one_result (month_answer h code)

pub hebrew_to_day_one : (h code d : ℕ) (r s : HebrewDay) → r ≡ hebrew_day h code d → s ≡ hebrew_day h code d → r ≡ s
hebrew_to_day_one h code d = one_result (hebrew_day h code d)

pub day_to_hebrew_one : (j : ℕ) (r s : HebrewDate) → r ≡ hebrew_date j → s ≡ hebrew_date j → r ≡ s
day_to_hebrew_one j = one_result (hebrew_date j)

pub date_after_one : (len x : ℕ) (r s : YearDate) → r ≡ year_date len x → s ≡ year_date len x → r ≡ s
date_after_one len x = one_result (year_date len x)

pub next_date_one : (len : ℕ) (date r s : YearDate) → r ≡ tomorrow len date → s ≡ tomorrow len date → r ≡ s
next_date_one len date = one_result (tomorrow len date)

pub days_before_one : (len code r s : ℕ) → r ≡ days_before len code → s ≡ days_before len code → r ≡ s
days_before_one len code = one_result (days_before len code)

pub days_in_one : (len code r s : ℕ) → r ≡ month_length len code → s ≡ month_length len code → r ≡ s
days_in_one len code = one_result (month_length len code)

pub no_month_one : (isLeap : Bool) (code : ℕ) (r s : Bool) → r ≡ no_month isLeap code → s ≡ no_month isLeap code → r ≡ s
no_month_one isLeap code = one_result (no_month isLeap code)
