-- New Year, the year's length, and the year that holds a day.
use Rattle.std.specs.Prelude.{ℕ, ◌+◌, ◌-◌, ◌≤◌, ◌<◌}
use Rattle.laws.specs.Begun.{begun}
use Rattle.days.specs.Weekday.{weekday}
use Rattle.molad.specs.Years.{last_year, leap}
use Rattle.molad.specs.Molad.{molad_day, molad_time}
use Rattle.delays.specs.Delays.{delayed}
use Rattle.delays.specs.declared.Delayed.{Delayed}

-- How New Year is delayed after the molad of Tishri, code 1, and why.
unfoldable pub delay_in : ℕ → Delayed
delay_in h = delayed (weekday (molad_day h 1)) (molad_time h 1) (leap h) (leap (h - 1))

unfoldable pub new_year : ℕ → ℕ
new_year h = molad_day h 1 + (delay_in h).delay

-- A year's length is the distance to the next New Year.
unfoldable pub year_length : ℕ → ℕ
year_length h = new_year (h + 1) - new_year h

-- The year that holds day j: as many of the years covered have begun by then. New Years rise, so it is the last of them.
unfoldable pub year_of : ℕ → ℕ
year_of j = begun new_year last_year j

-- Day j lies in year h.
pub record InYear (j h : ℕ) : Type 0 where
  pub low : 1 ≤ h
  pub high : h ≤ last_year
  pub from : new_year h ≤ j
  pub before : j < new_year (h + 1)
