-- Before any delay: Rhodes' molad is the counted one. In nineteenths of a part the parts to the counted molad are those to
-- day 0 of August and D; so D is a multiple of 19, and its quotient and remainder are the molad's day and time. This holds
-- for every year while D is above zero, which it is up to year 10,000.
use mathlib.Core.Path.{◌≡◌}
use Prim.Native.Nat.{ℕ, ◌+◌, ◌*◌, ◌-◌, ◌/◌, ◌%◌, ◌≤◌, ◌<◌}
use native.Mathlib.Omega.{arith}
use Rattle.civil.proofs.Theorems.{august}
use Rattle.molad.specs.Years.{last_new_year, months_before}
use Rattle.molad.specs.Molad.{molad_after, molad_day, molad_time}
use Rattle.molad.proofs.Closed.{months_closed}
use Rattle.newyear.proofs.Quick.{tishri_day, tishri_time}
use Rattle.rhodes.specs.Rhodes.{place, since_leap, distance, day_of_august, molad_august, molad_part, rhodes_molad_day, rhodes_molad_time}
use Rattle.rhodes.proofs.Place.{place_remainder}

-- D is above zero up to year 10,000.
pub above_zero : (h : ℕ) → h ≤ last_new_year → 0 < distance h
unfolding distance
above_zero h u = omega arith

-- Day d of August in closed form.
pub august_day : (h d : ℕ) → 1 ≤ h → day_of_august h d ≡ 347930 + 365 * (h - 1) + (h - 1) / 4 + d
unfolding day_of_august
august_day h d l = august h d l

module _ (h : ℕ) (l : 1 ≤ h) (z : 0 < distance h) where
  -- The months, 19 times: 235 for each year, less 252, and n.
  nineteen_months : 19 * months_before h + 252 ≡ 235 * h + place h
  nineteen_months = omega (arith, months_closed h l, place_remainder h l)

  -- Both routes count the same parts, in nineteenths.
  nineteen_parts : 19 * molad_after (months_before h) ≡ distance h + 492480 * day_of_august h 0
  unfolding molad_after distance since_leap
  nineteen_parts = omega (arith, nineteen_months, august_day h 0 l)

  -- D is a multiple of 19.
  pub multiple : distance h % 19 ≡ 0
  multiple = omega (arith, nineteen_parts)

  -- The same molad, day and part of the day.
  pub same_molad_day : rhodes_molad_day h ≡ molad_day h 1
  unfolding rhodes_molad_day molad_august
  same_molad_day =
      rw (tishri_day h)
      (omega (arith, nineteen_parts, august_day h 0 l, august_day h (distance h / 492480) l))

  pub same_molad_time : rhodes_molad_time h ≡ molad_time h 1
  unfolding rhodes_molad_time molad_part
  same_molad_time = rw (tishri_time h) (omega (arith, nineteen_parts))
