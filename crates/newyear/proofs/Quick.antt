-- New Year from the closed month count and its remainder: it computes at once, so the tests over years compute with it.
use mathlib.Core.Path.{◌≡◌}
use Prim.Native.Nat.{ℕ, ◌+◌, ◌*◌, ◌-◌, ◌/◌, ◌%◌, ◌≤◌}
use native.Mathlib.Omega.{arith}
use lib.Dec.{leb, ltb}
use Rattle.days.specs.Weekday.{weekday}
use Rattle.molad.specs.Units.{parts_in_day}
use Rattle.molad.specs.Years.{months_before}
use Rattle.molad.specs.Molad.{molad_after, molad_parts, molad_day, molad_time, months_of_year_before, no_month}
use Rattle.molad.proofs.Closed.{months_closed, remainder, leap_remainder}
use Rattle.delays.specs.Delays.{delayed, tuesday_rule, monday_rule, from_noon, closed}
use Rattle.delays.specs.declared.Delayed.{Delayed}
use Rattle.newyear.specs.NewYear.{delay_in, new_year}

-- No month of a year comes before Tishri.
tishri_parts : (h : ℕ) → molad_parts h 1 ≡ molad_after (months_before h)
unfolding molad_parts months_of_year_before no_month
tishri_parts h = let e : months_before h + 0 ≡ months_before h = omega arith in rw e

pub tishri_day : (h : ℕ) → molad_day h 1 ≡ molad_after (months_before h) / parts_in_day
unfolding molad_day
tishri_day h = rw (tishri_parts h)

pub tishri_time : (h : ℕ) → molad_time h 1 ≡ molad_after (months_before h) % parts_in_day
unfolding molad_time
tishri_time h = rw (tishri_parts h)

-- The parts to the molad of year h, and the delay after a molad at so many parts, where the months before the year leave
-- the remainder r.
abbrev pub quick_parts : ℕ → ℕ
quick_parts h = molad_after ((235 * h - 234) / 19)

unfoldable pub delay_from : ℕ → ℕ → Delayed
delay_from r p = delayed (weekday (p / parts_in_day)) (p % parts_in_day) (leb 12 r) (ltb r 7)

unfoldable pub quick_delay : ℕ → Delayed
unfolding delay_from delayed tuesday_rule monday_rule from_noon closed molad_after
quick_delay h = delay_from (remainder h) (quick_parts h)

unfoldable pub new_year_from : ℕ → ℕ → ℕ
new_year_from r p = p / parts_in_day + (delay_from r p).delay

unfoldable pub quick : ℕ → ℕ
unfolding new_year_from delay_from delayed tuesday_rule monday_rule from_noon closed molad_after
quick h = new_year_from (remainder h) (quick_parts h)

pub delay_in_quick : (h : ℕ) → 1 ≤ h → delay_in h ≡ quick_delay h
unfolding delay_in quick_delay delay_from
delay_in_quick h l = let leaps = leap_remainder h l in rw (tishri_day h, tishri_time h, months_closed h l, ← leaps.0, ← leaps.1)

pub new_year_quick : (h : ℕ) → 1 ≤ h → new_year h ≡ quick h
unfolding new_year quick new_year_from quick_delay
new_year_quick h l = rw (delay_in_quick h l, tishri_day h, months_closed h l)
