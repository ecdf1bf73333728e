-- The days that molads fall on.
use Prim.Native.Nat.{ℕ, ◌+◌, ◌≤◌}
use native.Mathlib.Omega.{arith}
use Rattle.days.specs.Range.{first_day}
use Rattle.molad.specs.Years.{InYears, leap, months_before}
use Rattle.molad.specs.Molad.{IsMonth, months_of_year_before, molad_parts, molad_day}
use Rattle.molad.proofs.Closed.{months_closed, months_of_year, molad_day_lem}

-- The first day or later.
pub from_first_day : (h code : ℕ) → first_day ≤ molad_day h code
unfolding molad_day molad_parts
from_first_day h code = omega (arith, molad_day_lem (months_before h + months_of_year_before (leap h) code))

-- In the years 1 to 9999 a day whose weekday can be asked.
pub day_near : (h code : ℕ) → InYears h → IsMonth (leap h) code → molad_day h code ≤ 4001400
unfolding molad_day molad_parts
day_near h code y m =
    omega (arith, months_closed h y.0, months_of_year (leap h) code m.0.0 m.0.1, molad_day_lem (months_before h + months_of_year_before (leap h) code))
