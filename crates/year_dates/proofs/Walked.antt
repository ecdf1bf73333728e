-- A walk goes on to the next date, and what it has before it is the dates from there.
use mathlib.Core.Path.{◌≡◌, sym, ◌∙◌, ap}
use mathlib.Core.List.{[], ◌∷◌}
use Prim.Native.Nat.{ℕ, suc, ◌+◌, ◌-◌, ◌≤◌, ◌<◌}
use native.Mathlib.Omega.{arith}
use borrow.Author.Tests.{lt-ltb}
use Rattle.newyear.specs.Kinds.{IsLength}
use Rattle.hebrew.specs.Months.{month_length}
use Rattle.hebrew.specs.Steps.{year_date, tomorrow}
use Rattle.hebrew.specs.declared.YearDate.{YearDate}
use Rattle.hebrew.proofs.Walked.{date_small, tomorrow_is}
use Rattle.year_dates.specs.Walk.{IsWalk, dates}

-- At this many days after New Year.
pub walks : (len x : ℕ) (date : YearDate) → IsLength len → x ≤ len → date ≡ year_date len x → IsWalk len date
unfolding year_date
walks len x date k u e =
    let a = ap (λ (d : YearDate). d.after) e in
    record { measured = k; within = omega (arith, a); of_year = e ∙ ap (year_date len) (sym a) }

-- A date that is not its month's last has the next in the same month.
pub same_month :
    (len days : ℕ) (date : YearDate) → days ≡ month_length len date.month → date.day < days →
    ◌≡◌ {A = YearDate} (record { after = date.after + 1; month = date.month; day = date.day + 1 }) (tomorrow len date)
unfolding tomorrow
same_month len days date e p = rw (lt-ltb date.day (month_length len date.month) (omega (arith, e)))

module _ (len : ℕ) (date : YearDate) (w : IsWalk len date) where
  pub small : (date.after ≤ 400) × ((date.month ≤ 13) × (date.day ≤ 400))
  small = rw (← w.of_year) at (date_small len date.after w.measured w.within)

  pub none_left : len ≤ date.after → dates len date.after (len - date.after) ≡ []
  unfolding dates
  none_left h = let z : len - date.after ≡ 0 = omega arith in rw z

  module _ (after : YearDate) (h : date.after < len) (e : after ≡ tomorrow len date) where
    next : after ≡ year_date len (date.after + 1)
    next = e ∙ ap (tomorrow len) w.of_year ∙ tomorrow_is len date.after w.measured h

    pub goes_on : IsWalk len after
    goes_on = walks len (date.after + 1) after w.measured (omega arith) next

    pub one_less : dates len date.after (len - date.after) ≡ date ∷ dates len after.after (len - after.after)
    unfolding dates year_date
    one_less =
        let u : date.after + 1 ≡ suc date.after = omega arith in
        let a = ap (λ (d : YearDate). d.after) next ∙ u in
        let s : len - date.after ≡ suc (len - suc date.after) = omega arith in
        rw (a, s, ← w.of_year)
