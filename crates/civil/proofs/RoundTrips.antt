-- The two public questions answer each other, in any calendar: the date that a day is given has that day, and the date
-- that is given a day is that day's.
use mathlib.Core.Path.{◌≡◌, sym, ◌∙◌, ap}
use mathlib.Core.Bool.{true, false}
use mathlib.Core.Logic.{◌↔◌}
use Prim.Native.Nat.{ℕ}
use native.Mathlib.Omega.{arith}
use borrow.Author.Tests.{le-ltb}
use lib.IntN.{ℤ}
use Rattle.laws.proofs.Tests.{within}
use Rattle.days.specs.Range.{first_day, last_day, InRange, out_of_range}
use Rattle.civil.specs.Signed.{covered, raised}
use Rattle.civil.specs.Calendar.{Calendar, day_of}
use Rattle.civil.specs.Date.{Date}
use Rattle.civil.specs.Good.{day, GoodCivilDate}
use Rattle.civil.specs.Answers.{civil_day, civil_date}
use Rattle.civil.specs.declared.CivilDay.{CivilDay}
use Rattle.civil.proofs.Raising.{year_covered, raised_is, lowered_raised}
use Rattle.civil.proofs.Dates.{Covers, only_date}
use Rattle.civil.proofs.Answers.{month_told, day_promised, date_promised}

module _ (cal : Calendar) (c : Covers cal) where
  -- The calendar's own leap rule.
  abbrev Leap : ℤ → Type 0
  Leap y = cal.leap (raised y) ≡ true

  itself : (y : ℤ) → covered y ≡ true → Leap y ↔ Leap y
  itself y c = (λ e. e, λ e. e)

  pub there_and_back :
      (j : ℕ) → out_of_range j ≡ false → let r = civil_date cal j in
      civil_day cal r.year r.month r.day ≡ record { refusal = 0; day = j }
  there_and_back j o =
      let r = civil_date cal j in
      let in_range = within first_day last_day j o in
      let date = (date_promised cal Leap itself c j).values (in_range, tt) in
      let answer = day_promised cal Leap itself r.year r.month r.day in
      let good = date.1 in
      let day_in_range : InRange (day_of cal (raised r.year) r.month r.day) = rw date.0 in_range in
      λ i. record {
        refusal = answer.done.1 (good.0, (good.1.0, (good.1.1, (day_in_range, tt)))) i;
        day = (answer.values (good.0, (good.1.0, (good.1.1, (day_in_range, tt)))) ∙ date.0) i;
      }

  pub back_and_there :
      (y : ℤ) (m d j : ℕ) → civil_day cal y m d ≡ record { refusal = 0; day = j } →
      civil_date cal j ≡ record { refusal = 0; year = y; month = m; day = d }
  unfolding civil_date
  back_and_there y m d j e =
      let answer = day_promised cal Leap itself y m d in
      let met = answer.done.0 (ap (λ (r : CivilDay). r.refusal) e) in
      let is = year_covered y met.0 in
      let x : Date = record { year = raised y; month = m; day = d } in
      let month = (month_told (cal.leap (raised y)) m d (itself y is)).1 met.1.1.0 in
      let good : GoodCivilDate cal x = omega (arith, raised_is y is) in
      let counted : day cal x ≡ j = sym (answer.values met) ∙ ap (λ (r : CivilDay). r.day) e in
      let in_range = rw counted at met.1.1.1.0 in
      let same = only_date cal c j in_range.0 x good counted in
      rw (le-ltb j first_day in_range.0, le-ltb last_day j in_range.1, ← same, lowered_raised y is)
