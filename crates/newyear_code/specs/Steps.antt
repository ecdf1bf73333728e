-- What the steps of the code promise each other, and the crates that use them. A year's span stands in Spans.
use Rattle.std.specs.Prelude.{◌≡◌, cond, ℕ, ◌+◌, ◌≤◌, ◌<◌}
use Rattle.days.specs.Weekday.{weekday}
use Rattle.molad.specs.Units.{parts_in_day}
use Rattle.molad.specs.Molad.{molad_day, molad_time}
use Rattle.newyear.specs.NewYear.{delay_in, new_year, year_of}
use Rattle.newyear_code.specs.declared.span.Found.{Found}
use Rattle.newyear_code.specs.declared.tishri.Tishri.{Tishri}

-- New Year of year h, and the molad that it comes from.
pub record Begins (h : ℕ) (t : Tishri) : Type 0 where
  pub day : t.new_year ≡ new_year h
  pub on : t.weekday ≡ weekday (new_year h)
  pub molad_day_lem : t.molad.day ≡ molad_day h 1
  pub molad_time_lem : t.molad.time ≡ molad_time h 1
  pub late : t.late ≡ delay_in h
  pub small : t.new_year ≤ 4002000
  pub in_day : t.molad.time < parts_in_day

-- The year that holds day j. The New Year that told it is the next one where the day comes before it, else its own; the
-- other is that of the other year.
pub record Finds (j : ℕ) (f : Found) : Type 0 where
  pub year : f.year ≡ year_of j
  pub told : f.new_year ≡ new_year (cond f.early (year_of j + 1) (year_of j))
  pub other : f.other ≡ cond f.early (year_of j) (year_of j + 1)
