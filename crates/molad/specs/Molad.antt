-- The molad. The first is Monday 5 hours 204 parts, on J 347,998; each later one comes a month after the one before it.
use Rattle.std.specs.Prelude.{◌≡◌, Bool, true, ◌&&◌, ◌||◌, not, cond, ℕ, zero, suc, ◌+◌, ◌*◌, ◌/◌, ◌%◌, ◌≤◌, eqb}
use Rattle.laws.specs.Runs.{outside}
use Rattle.molad.specs.Units.{parts_in_day, parts_in_month, time}
use Rattle.molad.specs.Years.{leap, months_before}

-- Month codes: 1 Tishri, 2 Marheshvan, 3 Kislev, 4 Tevet, 5 Shevat, 6 Adar I, 7 Adar or Adar II, 8 Nisan, 9 Iyar,
-- 10 Sivan, 11 Tammuz, 12 Av, 13 Elul. Code 6 is a month of leap years only.
abbrev pub IsMonth : Bool → ℕ → Type 0
IsMonth isLeap code = ((1 ≤ code) × (code ≤ 13)) × (code ≡ 6 → isLeap ≡ true)

unfoldable pub no_month : Bool → ℕ → Bool
no_month isLeap code = outside 1 13 code || (eqb code 6 && not isLeap)

-- The months of a year whose codes are below this one, added up.
unfoldable pub months_of_year_before : Bool → ℕ → ℕ
months_of_year_before isLeap zero = 0
months_of_year_before isLeap (suc code) = months_of_year_before isLeap code + cond (no_month isLeap code) 0 1

-- The parts from the evening on which day number 0 begins to the molad that so many months come before.
unfoldable pub molad_after : ℕ → ℕ
molad_after months = 347998 * parts_in_day + time 5 204 + months * parts_in_month

unfoldable pub molad_parts : ℕ → ℕ → ℕ
molad_parts h code = molad_after (months_before h + months_of_year_before (leap h) code)

-- The molad's day, and its time in parts, 0 to 25,919.
unfoldable pub molad_day : ℕ → ℕ → ℕ
molad_day h code = molad_parts h code / parts_in_day

unfoldable pub molad_time : ℕ → ℕ → ℕ
molad_time h code = molad_parts h code % parts_in_day
