-- The rows of document 01 marked ●, proved as one table: each year's rows compute from the closed month count, each
-- stretch from its year's length and New Year.
use mathlib.Core.Path.{◌≡◌, refl}
use mathlib.Core.Logic.{inl}
use Prim.Native.Nat.{ℕ, ◌+◌, ◌-◌, ◌/◌, ◌%◌}
use native.Mathlib.Omega.{arith}
use lib.IntN.{ℤ, pos}
use Rattle.laws.specs.Begun.{begun}
use Rattle.laws.specs.Search.{seek, seek_not, run_start}
use Rattle.laws.proofs.Promises.{ranged, let_pass}
use Rattle.days.specs.Weekday.{weekday, weekday_answer}
use Rattle.civil.specs.Calendar.{julian, julian_leap, month_days, days_before}
use Rattle.civil.specs.Answers.{civil_day}
use Rattle.civil.proofs.JulianYears.{julian_day}
use Rattle.molad.specs.Units.{parts_in_hour, parts_in_day}
use Rattle.molad.specs.Years.{last_year, InYears, InNewYears}
use Rattle.molad.specs.Molad.{molad_after}
use Rattle.newyear.specs.NewYear.{new_year, year_length}
use Rattle.newyear.specs.Answers.{year_answer}
use Rattle.newyear.specs.declared.NewYearAnswer.{NewYearAnswer}
use Rattle.newyear.proofs.Quick.{quick_parts, quick, new_year_quick}
use Rattle.newyear.proofs.Fixed.{quick_answer, answer_quick}
use Rattle.rhodes.proofs.Same.{same_answer}
use Rattle.stretch.proofs.Fixed.{stretch_from}
use Rattle.hebrew.specs.Months.{month_length}
use Rattle.hebrew.specs.Months.{days_before as hebrew_days_before}
use Rattle.hebrew.specs.Dates.{month_of}
use Rattle.hebrew.specs.Steps.{year_date}
use Rattle.rest.specs.Wings.{table_of}
use Rattle.rest.specs.Steps.{rest_at}
use Rattle.stretch.specs.Steps.{next_at, first_for, past_for}
use Rattle.face.specs.Checked.{BothRoutes, Holds, new_year_day, new_year_weekday, new_year_julian, molad, year_days, AllHold, done, ◌and◌, days_to_check}

both : (h : ℕ) → InNewYears h → (Says : NewYearAnswer → Type 0) → Says (quick_answer h) → BothRoutes h Says
both h y Says p = rw (same_answer h, answer_quick h y) ((refl, p), (refl, p))

new_year_row : (h j : ℕ) → InNewYears h → quick h ≡ j → Holds (new_year_day h j)
new_year_row h j y e = both h y (λ r. r.day ≡ j) e

weekday_row : (h w : ℕ) → InNewYears h → weekday (quick h) ≡ w → Holds (new_year_weekday h w)
weekday_row h w y e = both h y (λ r. r.weekday ≡ w) e

molad_row :
    (h w hour part : ℕ) → InNewYears h → weekday_answer (quick_parts h / parts_in_day) ≡ record { refusal = 0; weekday = w } →
    quick_parts h % parts_in_day / parts_in_hour ≡ hour → quick_parts h % parts_in_day % parts_in_hour ≡ part → Holds (molad h w hour part)
molad_row h w hour part y e f g =
    both h y (λ r. (weekday_answer r.molad_day ≡ record { refusal = 0; weekday = w }) × ((r.molad_hour ≡ hour) × (r.molad_part ≡ part)))
    (e, (f, g))

julian_row : (h m d : ℕ) (y : ℤ) → InNewYears h → civil_day julian y m d ≡ record { refusal = 0; day = quick h } → Holds (new_year_julian h y m d)
julian_row h m d y l e = both h l (λ r. civil_day julian y m d ≡ record { refusal = 0; day = r.day }) e

length_row : (h n : ℕ) → InYears h → quick (h + 1) - quick h ≡ n → Holds (year_days h n)
unfolding year_answer year_length
length_row h n y e =
    rw (let_pass (ranged 1 last_year h) y, new_year_quick h y.0, new_year_quick (h + 1) (omega arith)) (refl, e)

begins_5775 : new_year 5775 ≡ 2456926
unfolding quick
begins_5775 = new_year_quick 5775 (omega arith)

begins_5776 : new_year 5776 ≡ 2457280
unfolding quick
begins_5776 = new_year_quick 5776 (omega arith)

pub days_checked : AllHold days_to_check
unfolding quick molad_after table_of weekday_answer civil_day julian_leap days_before month_days rest_at year_date month_of begun hebrew_days_before month_length next_at first_for past_for seek seek_not run_start
days_checked =
    new_year_row 1 347998 (omega arith) refl
    and molad_row 1 2 5 204 (omega arith) refl refl refl
    and new_year_row 2 348353 (omega arith) refl
    and molad_row 2 6 14 0 (omega arith) refl refl refl
    and length_row 1 355 (omega arith) refl
    and julian_row 4257 9 24 (pos 496) (omega arith) (rw (julian_day 4256 9 24))
    and molad_row 4257 2 16 644 (omega arith) refl refl refl
    and julian_row 5025 9 23 (pos 1264) (omega arith) (rw (julian_day 5024 9 23))
    and molad_row 5025 2 19 351 (omega arith) refl refl refl
    and new_year_row 5745 2445971 (omega arith) refl
    and weekday_row 5745 5 (omega arith) refl
    and molad_row 5745 3 17 976 (omega arith) refl refl refl
    and new_year_row 5762 2452171 (omega arith) refl
    and molad_row 5762 3 4 106 (omega arith) refl refl refl
    and new_year_row 5766 2453648 (omega arith) refl
    and weekday_row 5766 3 (omega arith) refl
    and molad_row 5766 2 16 876 (omega arith) refl refl refl
    and new_year_row 5775 2456926 (omega arith) refl
    and weekday_row 5775 5 (omega arith) refl
    and molad_row 5775 4 14 339 (omega arith) refl refl refl
    and new_year_row 9999 3999723 (omega arith) refl
    and new_year_row 10000 4000076 (omega arith) refl
    and stretch_from 1 5775 2456926 2457280 (inl refl) (omega arith) begins_5775 begins_5776 2456928 (omega arith) (omega arith)
    and stretch_from 1 5775 2456926 2457280 (inl refl) (omega arith) begins_5775 begins_5776 2456929 (omega arith) (omega arith)
    and done
