-- From each date of a year to the next: the steps of a walk through it are its dates. And their results are fixed.
use mathlib.Core.Path.{◌≡◌, refl, sym, ◌∙◌}
use mathlib.Core.Bool.{Bool, true}
use mathlib.Core.List.{List, [], ◌∷◌}
use mathlib.Core.Logic.{by_cases}
use Prim.Native.Nat.{ℕ, ◌+◌, ◌-◌, ◌≤◌, ◌<◌}
use native.Mathlib.Omega.{arith}
use native.Mathlib.Decide.{dec_lt}
use borrow.Author.Tests.{eqb-true}
use lib.Dec.{eqb}
use Rattle.laws.specs.Runs.{every, each_of}
use Rattle.laws.proofs.Tests.{of, of_at, all, Each, facts}
use Rattle.laws.proofs.Counted.{begun_is, begun_few}
use Rattle.newyear.specs.Kinds.{lengths, IsLength}
use Rattle.hebrew.specs.Months.{month_length, days_before}
use Rattle.hebrew.specs.Dates.{month_of}
use Rattle.hebrew.specs.Steps.{year_date, tomorrow}
use Rattle.hebrew.specs.declared.YearDate.{YearDate}
use Rattle.hebrew.proofs.Placed.{month_from, month_from_lem, month_is, months_whole, sums_row, sums_rise}

-- No month comes after Elul.
elul_on : (len x : ℕ) → days_before len 13 ≤ x → month_of len x ≡ 13
unfolding month_of
elul_on len x l =
    begun_is (days_before len) 13 x 13 (sums_row len) (record { some = omega arith; within = omega arith; from = l; next = λ h. absurd (omega arith) })

elul : ℕ → Bool
elul len = eqb (month_from len len) 13

elul_all : each_of lengths elul ≡ true
unfolding each_of elul month_from
elul_all = refl

-- The month as the code works it out, for the day after the year too.
pub month_quick : (len x : ℕ) → IsLength len → x ≤ len → month_of len x ≡ month_from len x
unfolding elul
month_quick len x e u =
    by_cases (dec_lt x len)
    (λ p. month_is len x _ (month_from_lem len x e p))
    (λ p.
    let q : x ≡ len = omega arith in
    rw q (elul_on len len (omega (arith, months_whole len e, sums_rise len 13 14 (omega arith))) ∙ sym (eqb-true _ _ (of lengths elul elul_all len e.among))))

-- How large the numbers of a date are.
pub date_small : (len x : ℕ) → IsLength len → x ≤ len → let date = year_date len x in (date.after ≤ 400) × ((date.month ≤ 13) × (date.day ≤ 400))
unfolding year_date month_of
date_small len x e u = let m = begun_few (days_before len) 13 x in omega arith

quick_date : ℕ → ℕ → YearDate
quick_date len x = record { after = x; month = month_from len x; day = x - days_before len (month_from len x) + 1 }

-- Two dates that agree are the same.
alike : YearDate → YearDate → List Bool
alike a b = eqb a.after b.after ∷ eqb a.month b.month ∷ eqb a.day b.day ∷ []

same_date : (a b : YearDate) → Each (alike a b) → a ≡ b
unfolding alike
same_date a b t =
    λ i. record {
      after = eqb-true a.after b.after t.0 i;
      month = eqb-true a.month b.month t.1.0 i;
      day = eqb-true a.day b.day t.1.1.0 i;
    }

steps : ℕ → ℕ → List Bool
steps len x = alike (tomorrow len (quick_date len x)) (quick_date len (x + 1))

steps_all : each_of lengths (λ len. every 0 len (λ x. all (steps len x))) ≡ true
unfolding each_of every steps alike quick_date tomorrow month_from days_before month_length
steps_all = refl

pub tomorrow_is : (len x : ℕ) → IsLength len → x < len → tomorrow len (year_date len x) ≡ year_date len (x + 1)
unfolding year_date steps quick_date
tomorrow_is len x e u =
    let t = facts (steps len x) (of_at lengths 0 (λ len. len) (λ len x. all (steps len x)) steps_all len x e.among (omega arith) (omega arith)) in
    rw (month_quick len x e (omega arith), month_quick len (x + 1) e (omega arith)) (same_date _ _ t)
