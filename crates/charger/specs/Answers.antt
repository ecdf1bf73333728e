-- What `charge_start` answers.
use Rattle.std.specs.Prelude.{cond, ℕ, ◌+◌, ◌-◌, ltb}
use Rattle.days.specs.Range.{out_of_range}
use Rattle.rest.specs.Wings.{out_of_wings}
use Rattle.stretch.specs.declared.StretchAnswer.{StretchAnswer}
use Rattle.charger.specs.Charging.{bad_figures, hour_of, need, hours_needed, earliest_day, chosen}
use Rattle.charger.specs.declared.Figures.{Figures}
use Rattle.charger.specs.declared.ChargeAnswer.{ChargeAnswer}

abbrev pub no_start : ℕ → ChargeAnswer
no_start n = record { refusal = n; start = 0; hours = 0; first = 0; length = 0 }

-- Charging ends with the stretch's start.
abbrev pub start_for : ℕ → ℕ → ℕ → ChargeAnswer
start_for hours first days = record { refusal = 0; start = hour_of first - hours; hours = hours; first = first; length = days }

-- For stretch s, where charging may begin with day `from`. Refusal 9: there is no such stretch. 13: need exceeds capacity.
-- 14: the hours do not fit between that day and the stretch.
unfoldable pub planned : ℕ → StretchAnswer → Figures → ChargeAnswer
planned from s x =
    let n = need x s.length in
    cond (ltb 0 s.refusal) (no_start 9)
    (cond (ltb x.capacity n) (no_start 13)
    (cond (ltb (hour_of s.first) (hour_of from + hours_needed x n)) (no_start 14)
    (start_for (hours_needed x n) s.first s.length)))

-- Refusal 15: the wing is neither 1 nor 2. 4: the day lies outside the range. 12: a figure lies outside its range.
abbrev pub charge_answer : ℕ → ℕ → Figures → ChargeAnswer
charge_answer wing j x =
    cond (out_of_wings wing) (no_start 15)
    (cond (out_of_range j) (no_start 4)
    (cond (bad_figures x) (no_start 12)
    (planned (earliest_day wing j) (chosen wing j) x)))
